-- How far an association has come that has no cause, by its decisions.
use Rattle.std.specs.Prelude.{List, [], ◌∷◌}
use Rattle.socks_machine.specs.declared.record.Decision.{Decision}
use Rattle.assoc_core.specs.declared.one_turn.Course.{Course}

abbrev pub course_of : List Decision → Course
course_of [] = Course.Accept
course_of (d ∷ []) = Course.Talk
course_of (d ∷ Decision.Looked name found ∷ []) = Course.Judge
course_of (d ∷ Decision.Looked name found ∷ e ∷ []) = Course.Reach
course_of (d ∷ e ∷ []) = Course.Reach
course_of (d ∷ e ∷ f ∷ ds) = Course.Relay
