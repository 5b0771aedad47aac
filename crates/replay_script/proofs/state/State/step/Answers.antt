use Rattle.replay_script.proofs.state.State.step.Goals as goal

pub returns-in-Lookup : goal.returns-in-Lookup
returns-in-Lookup c = rw c.in-Lookup.is (c.looked_up.ensures c.in-Lookup.field-1)

pub returns-in-Dial : goal.returns-in-Dial
returns-in-Dial c = rw c.in-Dial.is (c.dialled.ensures c.in-Dial.field-1)

pub returns-in-Room : goal.returns-in-Room
returns-in-Room c = rw c.in-Room.is (c.may_bound.ensures c.in-Room.field-1 c.in-Room.field-2)

pub returns-in-Fault : goal.returns-in-Fault
returns-in-Fault c = rw c.in-Fault.is (c.may_fail.ensures c.in-Fault.field-1 c.in-Fault.field-2)

pub returns-in-Turn : goal.returns-in-Turn
returns-in-Turn c = rw c.in-Turn.is (c.may_turn.ensures c.in-Turn.field-0)

pub returns-in-Target : goal.returns-in-Target
returns-in-Target c = rw c.in-Target.is (c.target.ensures c.in-Target.field-1)
