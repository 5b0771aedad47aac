use Rattle.std.proofs.Common.{◌≡◌, ◌∙◌, ℕ, List, Result, Ok, Err, MatchOption, sym}
use Rattle.std.specs.Result.{result_ok}
use Rattle.addr_pattern.specs.declared.addr.Addr.{Addr}
use Rattle.addr_pattern.specs.declared.fault.AddrFault.{AddrFault}
use Rattle.addr_pattern.specs.Reading.{addr_read}
use Rattle.replay_script.specs.Forms.{IsAddress}
use Rattle.replay_script.proofs.values.address.Goals as goal

read_as : (text : List ℕ) (r : Result Addr AddrFault) → r ≡ addr_read text → MatchOption (result_ok r) ((a : Addr) → IsAddress text a → ⊥) (λ a. IsAddress text a)
unfolding IsAddress
read_as text (Ok a) h = sym h
read_as text (Err fault) h = λ a k. let q : ◌≡◌ {A = Result Addr AddrFault} (Err fault) (Ok a) = h ∙ k in cc

pub returns : goal.returns
returns c = let b = c.ok.ensures.value in rw b (read_as c.args.text.now c.read.result c.read.ensures)
