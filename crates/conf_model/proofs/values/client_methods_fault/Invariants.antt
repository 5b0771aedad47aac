use Rattle.std.proofs.Common.{◌≡◌, drop}
use Rattle.conf_model.specs.Values.{method_fault as method_fault_of, is_client_method as is_client_method_of}
use Rattle.conf_model.proofs.values.client_methods_fault.Given as goal

abbrev pub invariant-loop-value : goal.invariant-loop-value
invariant-loop-value l = method_fault_of is_client_method_of l.values ≡ method_fault_of is_client_method_of (drop l.value-index l.values)
