use Rattle.std.proofs.Common.{◌≡◌, ◌<◌, [], ◌∷◌, ◌++◌, length, arith}
use Rattle.replay_script.specs.Conditions.{start}
use Rattle.replay_script.specs.Script.{Serves, behind_entry, lines_of}
use Rattle.replay_script.proofs.Steps.{so_far_more, begins_shorter}
use Rattle.replay_script.proofs.Serving.{lines_refused}
use Rattle.replay_script.proofs.script.read_lines.Goals as goal

pub returns-in-Err : goal.returns-in-Err
returns-in-Err c =
    lines_refused c.args.text.now c.reading.lines c.reading.rest.now c.reading.state c.reading.number c.in-Err.kind c.reading.invariant.so_far c.in-Err.ensures.refused

pub overflow_add-number : goal.overflow_add-number
overflow_add-number c =
    let step : Serves c.reading.state c.reading.rest.now c.in-Ok-Some.entry c.in-Ok-Some.count c.in-Ok-Some.behind.now × (c.served.new.state ≡ behind_entry c.reading.state c.in-Ok-Some.entry) =
    rw c.in-Ok-Some.field-0-is at (rw c.in-Ok-Some.is at c.served.ensures.steps) in
    let less = begins_shorter c.reading.rest.now c.in-Ok-Some.entry c.in-Ok-Some.count c.in-Ok-Some.behind.now step.0.begins in
    let a = less.0 in
    let room = c.reading.invariant.room in
    omega (arith, a, room)

pub reading-smaller : goal.reading-smaller
reading-smaller c =
    let step : Serves c.reading.state c.reading.rest.now c.in-Ok-Some.entry c.in-Ok-Some.count c.in-Ok-Some.behind.now × (c.served.new.state ≡ behind_entry c.reading.state c.in-Ok-Some.entry) =
    rw c.in-Ok-Some.field-0-is at (rw c.in-Ok-Some.is at c.served.ensures.steps) in
    let less = begins_shorter c.reading.rest.now c.in-Ok-Some.entry c.in-Ok-Some.count c.in-Ok-Some.behind.now step.0.begins in
    let a = less.0 in
    let b = less.1 in
    let d : length c.in-Ok-Some.behind.now < length c.reading.rest.now = omega (arith, a, b) in
    d

pub reading-preserved : goal.reading-preserved
reading-preserved c =
    let step : Serves c.reading.state c.reading.rest.now c.in-Ok-Some.entry c.in-Ok-Some.count c.in-Ok-Some.behind.now × (c.served.new.state ≡ behind_entry c.reading.state c.in-Ok-Some.entry) =
    rw c.in-Ok-Some.field-0-is at (rw c.in-Ok-Some.is at c.served.ensures.steps) in
    let added : c.add_entry.new.lines ≡ c.reading.lines ++ lines_of (c.in-Ok-Some.entry ∷ []) = c.in_ok-add_entry-in-Ok-Some.ensures in
    let less = begins_shorter c.reading.rest.now c.in-Ok-Some.entry c.in-Ok-Some.count c.in-Ok-Some.behind.now step.0.begins in
    let a = less.0 in
    let room = c.reading.invariant.room in
    record {
      so_far = so_far_more start c.args.text.now c.reading.lines c.reading.rest.now c.reading.state c.reading.number c.in-Ok-Some.entry c.in-Ok-Some.count c.in-Ok-Some.behind.now
          c.add_entry.new.lines c.served.new.state c.reading.invariant.so_far step.0 added step.1;
      room = omega (arith, a, room);
    }
