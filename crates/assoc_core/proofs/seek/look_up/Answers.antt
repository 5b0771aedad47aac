use Rattle.assoc_core.proofs.SeekTurns.{seeks-found, seeks-missed}
use Rattle.assoc_core.proofs.seek.look_up.Goals as goal

pub returns-in-Ok : goal.returns-in-Ok
returns-in-Ok g c = seeks-found (g.N.Net.told c.args.net.now) (g.N.Net.told c.find.new.net) c.args.name.now c.copy.result c.copy-in-Ok.result c.find.result c.in-Ok.addr
    c.args.state.now c.push.new.self c.set_last.new.self c.find.ensures.lookup c.in-Ok.is c.copy.ensures c.copy-in-Ok.ensures c.in_ok-push.ensures.ok c.set_last.ensures

pub returns-in-Err : goal.returns-in-Err
returns-in-Err g c = seeks-missed (g.N.Net.told c.args.net.now) (g.N.Net.told c.find.new.net) c.args.name.now c.copy.result c.find.result c.in-Err.cause c.first_cause-state.result
    c.args.state.now c.push.new.self c.find.ensures.lookup c.in-Err.is c.copy.ensures c.in_ok-push.ensures.ok c.first_cause-state.ensures
