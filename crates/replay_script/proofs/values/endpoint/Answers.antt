use Rattle.std.proofs.Common.{◌≡◌, ◌∙◌, ℕ, List, Result, Ok, Err, MatchOption, sym}
use Rattle.std.specs.Result.{result_ok}
use Rattle.addr_pattern.specs.declared.endpoint.Endpoint.{Endpoint}
use Rattle.addr_pattern.specs.declared.fault.AddrFault.{AddrFault}
use Rattle.addr_pattern.specs.Reading.{endpoint_read}
use Rattle.replay_script.specs.Forms.{IsEndpoint}
use Rattle.replay_script.proofs.values.endpoint.Goals as goal

read_as : (text : List ℕ) (r : Result Endpoint AddrFault) → r ≡ endpoint_read text → MatchOption (result_ok r) ((e : Endpoint) → IsEndpoint text e → ⊥) (λ e. IsEndpoint text e)
unfolding IsEndpoint
read_as text (Ok e) h = sym h
read_as text (Err fault) h = λ e k. let q : ◌≡◌ {A = Result Endpoint AddrFault} (Err fault) (Ok e) = h ∙ k in cc

pub returns : goal.returns
returns c = let b = c.ok.ensures.value in rw b (read_as c.args.text.now c.read.result c.read.ensures)
