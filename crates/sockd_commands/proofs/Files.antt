-- What the front of a file says of the whole of it.
use Rattle.std.proofs.Common.{◌≡◌, ◌≢◌, ◌<◌, ◌≤◌, ◌+◌, ◌⊎◌, ℕ, List, take, length, Option, Some, None, Err, inl, inr, sym, ap, subst, ◌∙◌, refl, arith, option_map}
use Rattle.std.proofs.lemmas.Bool.{cases_lt}
use Rattle.std.proofs.lemmas.List.{length-take, take_all}
use Rattle.conf_text.specs.declared.fault.TextFault.{TextFault}
use Rattle.conf_text.specs.Statements.{Faulty, longest}
use Rattle.conf_types.specs.declared.entries.Entries.{Entries}
use Rattle.conf_model.specs.declared.fault.ConfFault.{ConfFault}
use Rattle.conf_model.specs.declared.fault.ConfKind.{ConfKind}
use Rattle.conf_model.specs.Reads.{HasFault, IsConfigText, IsTextFault, Says}
use Rattle.net_ends.specs.Stores.{Files}
use Rattle.sockd_commands.specs.ConfFile.{IsConfigFile, IsFaultyFile}

-- the front of a file, one byte longer than a configuration may be
abbrev front : List ℕ → List ℕ
front content = take (longest + 1) content

whole : (content text : List ℕ) → front content ≡ text → length text ≤ longest → content ≡ text
whole content text is small =
    let len = length-take (longest + 1) content in
    let same : length (take (longest + 1) content) ≡ length text = ap (λ (z : List ℕ). length z) is in
    let short : length content ≤ longest + 1 = omega (arith, len, same, small) in
    sym (take_all (longest + 1) content short) ∙ is

longer : (content text : List ℕ) → front content ≡ text → longest < length text → longest < length content
longer content text is long =
    let len = length-take (longest + 1) content in
    let same : length (take (longest + 1) content) ≡ length text = ap (λ (z : List ℕ). length z) is in
    omega (arith, len, same, long)

-- a text that is too long has that fault alone
too-long : (text content : List ℕ) (first : TextFault) → longest < length text → longest < length content → Faulty text first → first ≢ TextFault.Memory → Faulty content first
too-long text content TextFault.TooLong long longer faulty known = longer
too-long text content (TextFault.NotAscii n) long longer faulty known = let small = faulty.0 in absurd (omega (arith, small, long))
too-long text content (TextFault.NoColon n) long longer faulty known = let small = faulty.plain.small in absurd (omega (arith, small, long))
too-long text content (TextFault.UnclosedBlock n) long longer faulty known = let small = faulty.plain.small in absurd (omega (arith, small, long))
too-long text content (TextFault.StrayBrace n) long longer faulty known = let small = faulty.plain.small in absurd (omega (arith, small, long))
too-long text content TextFault.Memory long longer faulty known = absurd (known refl)

long-fault : (text content : List ℕ) (fault : ConfFault) → longest < length text → longest < length content → IsTextFault text fault ⊎ Says text (Err fault) → IsTextFault content fault ⊎ Says content (Err fault)
long-fault text content fault long longer (inl t) =
    inl (record { first = t.first; faulty = too-long text content t.first long longer t.faulty t.known; known = t.known; kind' = t.kind'; line' = t.line' })
long-fault text content fault long longer (inr s) = let small = s.are.plain.small in absurd (omega (arith, small, long))

fault-of-front : (content text : List ℕ) (fault : ConfFault) → front content ≡ text → (longest < length text) ⊎ (length text ≤ longest) → HasFault text fault → HasFault content fault
fault-of-front content text fault is (inr small) h = subst (λ (z : List ℕ). HasFault z fault) (sym (whole content text is small)) h
fault-of-front content text fault is (inl long) h = λ known. long-fault text content fault long (longer content text is long) (h known)

-- ---- by what the store tells

same_files : (files others : Files) (name content : List ℕ) → Some files ≡ Some others → files name ≡ Some content → others name ≡ Some content
same_files files others name content e h = let same : files ≡ others = cc in subst (λ (f : Files). f name ≡ Some content) same h

config-there : (files : Files) (name text : List ℕ) (config : Entries) (found : Option (List ℕ)) → files name ≡ found → option_map front found ≡ Some text → IsConfigText text config → IsConfigFile (Some files) name config
config-there files name text config None at is h = absurd (cc)
config-there files name text config (Some content) at is h =
    let front_is : front content ≡ text = cc in
    record { content = text; holds = λ others e. same_files files others name text e (at ∙ ap (λ (z : List ℕ). Some z) (whole content text front_is h.are.plain.small)); is_text = h }

pub config-file : (told : Option Files) (name text : List ℕ) (config : Entries) → ((files : Files) → told ≡ Some files → option_map front (files name) ≡ Some text) → IsConfigText text config → IsConfigFile told name config
config-file None name text config read h = record { content = text; holds = λ files e. absurd (cc); is_text = h }
config-file (Some files) name text config read h = config-there files name text config (files name) refl (read files refl) h

fault-there : (files : Files) (name text : List ℕ) (fault : ConfFault) (found : Option (List ℕ)) → files name ≡ found → option_map front found ≡ Some text → HasFault text fault → fault.kind ≢ ConfKind.Memory → IsFaultyFile (Some files) name fault
fault-there files name text fault None at is h known = absurd (cc)
fault-there files name text fault (Some content) at is h known =
    let front_is : front content ≡ text = cc in
    record { content = content; holds = λ others e. same_files files others name content e at; faulty = fault-of-front content text fault front_is (cases_lt longest (length text)) h; known = known }

pub faulty-file : (told : Option Files) (name text : List ℕ) (fault : ConfFault) → ((files : Files) → told ≡ Some files → option_map front (files name) ≡ Some text) → HasFault text fault → fault.kind ≢ ConfKind.Memory → IsFaultyFile told name fault
faulty-file None name text fault read h known = record { content = text; holds = λ files e. absurd (cc); faulty = h; known = known }
faulty-file (Some files) name text fault read h known = fault-there files name text fault (files name) refl (read files refl) h known
