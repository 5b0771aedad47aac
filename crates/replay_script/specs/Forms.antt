-- The lines of a script, by their spelling.
use Rattle.std.specs.Prelude.{◌≡◌, ◌<◌, ◌≤◌, ◌^◌, ◌-◌, ◌==◌, ℕ, Bool, true, List, [], ◌∷◌, length, codes, Ok, Some, None}
use Rattle.addr_pattern.specs.declared.addr.Addr.{Addr}
use Rattle.addr_pattern.specs.declared.endpoint.Endpoint.{Endpoint}
use Rattle.addr_pattern.specs.Reading.{addr_read, endpoint_read}
use Rattle.hex.specs.Hex.{decode_of}
use Rattle.socks_machine.specs.declared.world.Object.{Object}
use Rattle.socks_machine.specs.declared.world.Outer.{Outer}
use Rattle.socks_machine.specs.declared.script.CallKind.{CallKind}
use Rattle.socks_machine.specs.declared.script.ScriptLine.{ScriptLine}
use Rattle.replay_script.specs.Cuts.{IsNumber, After, NumberThen, CutThen}

abbrev pub largest : ℕ
largest = 2 ^ 64 - 1

-- an endpoint by its text
unfoldable pub IsEndpoint : List ℕ → Endpoint → Type 0
IsEndpoint text e = endpoint_read text ≡ Ok e

-- an address by its text
unfoldable pub IsAddress : List ℕ → Addr → Type 0
IsAddress text a = addr_read text ≡ Ok a

-- an even, positive number of hexadecimal digits in either case
unfoldable pub IsHex : List ℕ → List ℕ → Type 0
IsHex text bytes = (0 < length bytes) × (decode_of text ≡ Ok bytes)

-- a word, and the number of an association, of bytes or of seconds
abbrev pub IsNumbered : List ℕ → List ℕ → ℕ → Type 0
IsNumbered front text n = After front text (λ rest. IsNumber largest rest n)

abbrev pub IsOpen : List ℕ → ℕ → Endpoint → Endpoint → Type 0
IsOpen text n peer at = After (codes "open 1 ") text (λ rest. NumberThen 32 largest rest (λ m ends.
    CutThen 32 ends (λ front back. (m ≡ n) × IsEndpoint front peer × IsEndpoint back at)))

-- a word, the number of an association and bytes
abbrev pub IsSent : List ℕ → List ℕ → ℕ → List ℕ → Type 0
IsSent front text n bytes = After front text (λ rest. NumberThen 32 largest rest (λ m hex. (m ≡ n) × IsHex hex bytes))

-- how many bytes one line can have
abbrev pub most_at_once : ℕ
most_at_once = 65536

abbrev pub IsArrival : List ℕ → List ℕ → ℕ → List ℕ → Type 0
IsArrival front text n bytes = IsSent front text n bytes × (length bytes ≤ most_at_once)

abbrev pub IsClient : List ℕ → ℕ → List ℕ → Type 0
IsClient text n bytes = IsArrival (codes "client ") text n bytes

abbrev pub IsTarget : List ℕ → ℕ → List ℕ → Type 0
IsTarget text n bytes = IsArrival (codes "target ") text n bytes

-- how a dial comes out
abbrev pub IsOutcome : List ℕ → Outer → Type 0
IsOutcome text (Outer.Up local) = After (codes "up ") text (λ back. IsEndpoint back local)
IsOutcome text Outer.Refused = text ≡ codes "refused"
IsOutcome text Outer.HostUnreachable = text ≡ codes "host"
IsOutcome text Outer.NetUnreachable = text ≡ codes "net"
IsOutcome text Outer.Failed = text ≡ codes "fail"
IsOutcome text _ = ⊥

abbrev pub IsDial : List ℕ → ℕ → Outer → Type 0
IsDial text n outer = After (codes "dial ") text (λ rest. NumberThen 32 largest rest (λ m outcome. (m ≡ n) × IsOutcome outcome outer))

-- how a lookup comes out
abbrev pub IsFound : List ℕ → Outer → Type 0
IsFound text (Outer.Looked (Some addr)) = IsAddress text addr
IsFound text (Outer.Looked None) = text ≡ codes "none"
IsFound text Outer.Failed = text ≡ codes "fail"
IsFound text _ = ⊥

abbrev pub IsLookup : List ℕ → ℕ → Outer → Type 0
IsLookup text n outer = After (codes "lookup ") text (λ rest. NumberThen 32 largest rest (λ m found. (m ≡ n) × IsFound found outer))

-- a side, and how many bytes each write to it takes at most
abbrev pub IsBound : List ℕ → Object → ℕ → Type 0
IsBound text Object.Client most = IsNumbered (codes "client ") text most
IsBound text Object.Target most = IsNumbered (codes "target ") text most
IsBound text _ most = ⊥

abbrev pub IsRoom : List ℕ → ℕ → Object → ℕ → Type 0
IsRoom text n object most = After (codes "room ") text (λ rest. NumberThen 32 largest rest (λ m bound. (m ≡ n) × IsBound bound object most))

-- a kind of call on a link
abbrev pub IsKind : List ℕ → CallKind → Type 0
IsKind text CallKind.Reading = text ≡ codes "read"
IsKind text CallKind.Writing = text ≡ codes "write"
IsKind text CallKind.Shutting = text ≡ codes "shut"

-- a side, and a kind of call on its link
abbrev pub IsCall : List ℕ → Object → CallKind → Type 0
IsCall text Object.Client kind = After (codes "client ") text (λ rest. IsKind rest kind)
IsCall text Object.Target kind = After (codes "target ") text (λ rest. IsKind rest kind)
IsCall text _ kind = ⊥

-- the next call of this kind on that link fails
abbrev pub IsFault : List ℕ → ℕ → Object → CallKind → Type 0
IsFault text n object kind = After (codes "fault ") text (λ rest. NumberThen 32 largest rest (λ m call. (m ≡ n) × IsCall call object kind))

-- the text is this line
abbrev pub Spells : List ℕ → ScriptLine → Type 0
Spells text (ScriptLine.See w) = (w ≡ 1) × (text ≡ codes "see 1")
Spells text (ScriptLine.Open w n peer at) = (w ≡ 1) × IsOpen text n peer at
Spells text (ScriptLine.Client n bytes) = IsClient text n bytes
Spells text (ScriptLine.Target n bytes) = IsTarget text n bytes
Spells text (ScriptLine.ClientEnd n) = IsNumbered (codes "clientend ") text n
Spells text (ScriptLine.TargetEnd n) = IsNumbered (codes "targetend ") text n
Spells text (ScriptLine.Lookup n outer) = IsLookup text n outer
Spells text (ScriptLine.Dial n outer) = IsDial text n outer
Spells text (ScriptLine.Room n object most) = IsRoom text n object most
Spells text (ScriptLine.Fault n object kind) = IsFault text n object kind
Spells text (ScriptLine.Now n) = IsNumbered (codes "now ") text n
Spells text (ScriptLine.Turn w n) = (w ≡ 1) × IsNumbered (codes "turn 1 ") text n
Spells text _ = ⊥

-- an empty line, or one that begins with `#`
abbrev pub is_skipped : List ℕ → Bool
is_skipped [] = true
is_skipped (b ∷ bs) = b == 35
