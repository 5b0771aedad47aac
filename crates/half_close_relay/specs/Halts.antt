-- What a relay answers where one direction of it halted.
use Rattle.half_close_relay.specs.declared.halt.Halt.{Halt}
use Rattle.half_close_relay.specs.declared.pumped.Pumped.{Pumped}
use Rattle.half_close_relay.specs.declared.pumped.Side.{Side}

abbrev pub answer_of : Side → Side → Halt → Pumped
answer_of source sink Halt.Source = Pumped.Fault source
answer_of source sink Halt.Sink = Pumped.Fault sink
answer_of source sink Halt.Memory = Pumped.Memory
