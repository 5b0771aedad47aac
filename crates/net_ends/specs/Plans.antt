-- How a dial of a net of memory, and a call of a caller of memory, is planned.
use Rattle.net_ends.specs.Callers.{CallOutcome}
use Rattle.net_ends.specs.Nets.{DialOutcome}
use Rattle.net_ends.specs.declared.memory_caller.CallPlan.{CallPlan}
use Rattle.net_ends.specs.declared.memory_net.DialPlan.{DialPlan}

abbrev pub planned : DialPlan → DialOutcome
planned (DialPlan.Up local) = DialOutcome.CameUp local
planned DialPlan.Refused = DialOutcome.WasRefused
planned DialPlan.HostUnreachable = DialOutcome.NoHost
planned DialPlan.NetUnreachable = DialOutcome.NoNet
planned DialPlan.Failed = DialOutcome.Fault

abbrev pub planned_call : CallPlan → CallOutcome
planned_call CallPlan.Up = CallOutcome.CameUp
planned_call CallPlan.Refused = CallOutcome.WasRefused
planned_call CallPlan.HostUnreachable = CallOutcome.NoHost
planned_call CallPlan.NetUnreachable = CallOutcome.NoNet
planned_call CallPlan.Failed = CallOutcome.Fault
