use Rattle.std.proofs.Common.{rules, ◌≡◌, ◌<◌, ℕ, List, [], Option, length, take, subst}
use Rattle.std.specs.Io.KnownBytes.{Consumes, IsAtEnd}
use Rattle.sockd_main.proofs.standard.ReaderSource.read.Goals as goal

-- a read that gave nothing into a buffer with room stood at its end
ended : (old new : Option (List ℕ)) (n : ℕ) (buffer : List ℕ) → n ≡ 0 → 0 < length buffer
    → Consumes old new (take n buffer) × (n ≡ 0 → 0 < length buffer → IsAtEnd new) → Consumes old new [] × IsAtEnd new
ended old new n buffer is room h = (subst (λ (k : ℕ). Consumes old new (take k buffer)) is h.0, h.1 is room)

pub returns-in-Ok-clause-bytes : goal.returns-in-Ok-clause-bytes
returns-in-Ok-clause-bytes g c =
    let room : 0 < length c.read.new.buf = search rules in
    let none : c.in-Ok.n ≡ 0 = c.if-n-eq0.true in
    ended _ _ c.in-Ok.n c.read.new.buf none room c.in-Ok.ensures.bytes
