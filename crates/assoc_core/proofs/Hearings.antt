-- How reads of a client add up, and what they come to.
use Rattle.std.proofs.Common.{◌≡◌, ◌<◌, ◌≤◌, ◌+◌, ◌-◌, ℕ, Bool, true, false, ◌||◌, Option, Some, None, option_map, List, [], ◌∷◌, ◌++◌, length, take, drop, refl, ap, sym, subst, ◌∙◌, append_assoc, length-append, arith}
use Rattle.std.proofs.lemmas.List.{append-nil, take_all}
use Rattle.std.proofs.Math.Seq.{drop-append_seam}
use mathlib.Core.List.{IsPrefix}
use Rattle.conf_types.specs.declared.entries.Entries.{Entries}
use Rattle.socks_grammar.specs.declared.user.User.{User}
use Rattle.socks_grammar.specs.Handshake.{split}
use Rattle.conf_types.specs.Plain.{IsPlain}
use Rattle.socks_grammar.specs.declared.protocol.Method.{Method}
use Rattle.handshake_core.specs.declared.taken.Taken.{Taken}
use Rattle.handshake_core.specs.Due.{Client, method_after}
use Rattle.handshake_core.specs.Taking.{Takes}
use Rattle.net_ends.specs.declared.link.Reading.{Reading}
use Rattle.net_ends.specs.Counts.{Counts, Later, Rose}
use Rattle.net_ends.specs.Faults.{Tried, ReadTried}
use Rattle.net_ends.specs.declared.kinds.Kind.{Kind}
use Rattle.net_ends.specs.Told.{Told, GivesArrived, more}
use Rattle.rule_list.specs.Rules.{numbered}
use Rattle.socks_machine.specs.declared.record.Chosen.{Chosen}
use Rattle.socks_machine.specs.declared.record.Decision.{Decision}
use Rattle.socks_machine.specs.Socks.{socks}
use Rattle.socks_machine.specs.Taking.{chosen_after}
use Rattle.socks_machine.specs.Turn.{quantum}
use Rattle.assoc_core.specs.declared.assoc.Assoc.{Assoc}
use Rattle.assoc_core.specs.declared.hear.Heard.{Heard}
use Rattle.assoc_core.specs.Hearing.{Hears, HeardAs, HasHeard, HearingEnds, chosen_as, failed_hearing, is_end, is_idle, methods_by}
use Rattle.assoc_core.specs.Reads.{Comes, ComesOf, Rests}
use Rattle.assoc_core.specs.Stands.{Stands, TellsServed, GivesFirst}
use Rattle.assoc_core.proofs.Choosing.{HasTaken, chosen-is, method-is, takes-behind}
use Rattle.assoc_core.proofs.Sendings.{more-nil, more-more, later-on, rose-before}
use Rattle.assoc_core.proofs.Tryings.{tried-on, tried-as}
use Rattle.assoc_core.proofs.Carryings.{prefix-same}

pub comes-on : (first told now : Told) (before mid after : List ℕ) (most n : ℕ) → Comes first told before mid → ComesOf told now mid after most n → Comes first now before after
comes-on first told now before mid after most n h k = record {
  bytes = h.bytes ++ k.bytes;
  after' = k.after' ∙ (ap (λ z. z ++ k.bytes) h.after' ∙ append_assoc before h.bytes k.bytes);
  told' = k.told'
      ∙ (ap (λ (t : Told). let u : Told = record t { given = more t.given k.bytes } in u) h.told'
      ∙ ap (λ (z : Option (List ℕ)). let u : Told = record first { given = z } in u) (more-more first.given h.bytes k.bytes));
}

-- ---- the client may send more

-- an input that is open is short
pub open-short : (methods : List Method) (users : List User) (text : List ℕ) (taken : Taken) (client : Client) → HasTaken methods users text taken client → taken ≡ Taken.Open → length client.bytes ≤ 1289 → length text ≤ 1289
open-short methods users text taken client h is short =
    let k = subst (λ (z : Taken). HasTaken methods users text z client) is h in
    subst (λ (z : List ℕ). length z ≤ 1289) k.is.0 short

-- a piece more is still less than a quantum
pub few-on : (told now : Told) (text after : List ℕ) (n start : ℕ) → length text ≤ 1289 → ComesOf told now text after 16384 n → length after < quantum + start
few-on told now text after n start short h =
    let e : length after ≡ length text + length h.bytes = ap (λ (z : List ℕ). length z) h.after' ∙ length-append text h.bytes in
    let k = h.count in
    let m = h.within in
    omega (arith, e, k, m, short)

-- the bytes of a read, as they are cut off the text
cut-is : (text x after : List ℕ) (at : ℕ) → at ≡ length text → after ≡ text ++ x → take (length after - at) (drop at after) ≡ x
cut-is text x after at at' after' =
    let e : drop at after ≡ x = (λ i. drop (at' i) (after' i)) ∙ drop-append_seam text x in
    let n : length after - at ≡ length x = omega (arith, ap (λ (z : List ℕ). length z) after', length-append text x, at') in
    (λ i. take (n i) (e i)) ∙ take_all (length x) x (omega arith)

pub takes-on : (methods : List Method) (users : List User) (old new : Client) (text after slice : List ℕ) (at most n : ℕ) (told now : Told) (was taken : Taken)
    → HasTaken methods users text was old → was ≡ Taken.Open → ComesOf told now text after most n → at ≡ length text → slice ≡ after
    → Takes methods users old (take (length slice - at) (drop at slice)) taken new → HasTaken methods users after taken new
takes-on methods users old new text after slice at most n told now was taken h is c at' slice' k =
    subst (λ (z : List ℕ). HasTaken methods users z taken new) (sym c.after')
    (takes-behind methods users old new text c.bytes taken (subst (λ (z : Taken). HasTaken methods users text z old) is h)
    (subst (λ (z : List ℕ). Takes methods users old z taken new) (cut-is text c.bytes slice at at' (slice' ∙ c.after')) k))

-- ---- no more comes

pub fewer-bytes : (before bytes mid : List ℕ) → mid ≡ before ++ bytes → length mid < quantum + length before → length bytes < quantum
fewer-bytes before bytes mid e h = let k = ap (λ (z : List ℕ). length z) e in omega (arith, h, k, length-append before bytes)

pub hears-end : (first told now : Told) (counts counts' counts'' : Counts) (before mid after : List ℕ) → Comes first told before mid → length mid < quantum + length before → Later counts counts'
    → Tried counts counts' (mid ≡ before) (Unit {0}) (Unit {0}) None → (after ≡ mid) × (now ≡ record told { ended = true }) → GivesArrived now Reading.End → Later counts' counts'' → ReadTried counts' counts'' Reading.End
    → Hears first now counts counts'' before after Heard.End
hears-end first told now counts counts' counts'' before mid after h few later tried read arrived later' tried' = record {
  bytes = h.bytes;
  after' = read.0 ∙ h.after';
  few = fewer-bytes before h.bytes mid h.after' few;
  told' = read.1 ∙ ap (λ (z : Told). let u : Told = record z { ended = true } in u) h.told';
  first = λ x arrival given a b. subst (λ (z : List ℕ). IsPrefix z arrival.bytes) (sym (arrived arrival given a b).0) (prefix-same arrival.bytes);
  later = later-on counts counts' counts'' later later';
  tried = tried-on tried tried' (λ x y. absurd y) (λ x y. tt) (λ x y. tt);
  ends = λ arrival given a b. arrived arrival given a b;
}

pub hears-nothing : (first told now : Told) (counts counts' counts'' : Counts) (before mid after : List ℕ) → Comes first told before mid → length mid < quantum + length before
    → (GivesFirst first → GivesFirst told) → Later counts counts' → Tried counts counts' (mid ≡ before) (Unit {0}) (Unit {0}) None → Rests told now mid after → GivesArrived now Reading.NotYet
    → Later counts' counts'' → ReadTried counts' counts'' Reading.NotYet → Rose counts'.idle_reads counts''.idle_reads → Hears first now counts counts'' before after Heard.NotYet
hears-nothing first told now counts counts' counts'' before mid after h few firsts later tried read arrived later' tried' rose = record {
  bytes = h.bytes;
  after' = read.after' ∙ h.after';
  few = fewer-bytes before h.bytes mid h.after' few;
  told' = read.told' ∙ h.told';
  first = λ x. subst GivesFirst (sym read.told') (firsts x);
  later = later-on counts counts' counts'' later later';
  tried = tried-on tried tried' (λ x y. absurd y) (λ x y. tt) (λ x y. tt);
  ends = (arrived, rose-before _ _ _ later.idle_reads rose);
}

pub hears-fault : (first told now : Told) (counts counts' counts'' : Counts) (before mid after : List ℕ) → Comes first told before mid → length mid < quantum + length before
    → (GivesFirst first → GivesFirst told) → Later counts counts' → Tried counts counts' (mid ≡ before) (Unit {0}) (Unit {0}) None → Rests told now mid after × (told.unfailing ≡ false)
    → Later counts' counts'' → ReadTried counts' counts'' Reading.Failed → Rose counts'.faults counts''.faults → Hears first now counts counts'' before after Heard.Failed
hears-fault first told now counts counts' counts'' before mid after h few firsts later tried read later' tried' rose = record {
  bytes = h.bytes;
  after' = (read.0).after' ∙ h.after';
  few = fewer-bytes before h.bytes mid h.after' few;
  told' = (read.0).told' ∙ h.told';
  first = λ x. subst GivesFirst (sym (read.0).told') (firsts x);
  later = later-on counts counts' counts'' later later';
  tried = tried-on tried tried' (λ x y. ((read.0).after' ∙ x, refl, refl)) (λ x y. tt) (λ x y. tt);
  ends = (ap (λ (z : Told). z.unfailing) (read.0).told' ∙ read.1, rose-before _ _ _ later.faults rose);
}

-- what came is enough: nothing more is read
pub hears-enough : (first now : Told) (counts counts' : Counts) (before after : List ℕ) (heard : Heard) → (is_end heard ≡ false) × (is_idle heard ≡ false) × (failed_hearing heard ≡ None)
    → Comes first now before after → length after < quantum + length before → (GivesFirst first → GivesFirst now) → Later counts counts' → Tried counts counts' (after ≡ before) (Unit {0}) (Unit {0}) None
    → HearingEnds now counts counts' heard → Hears first now counts counts' before after heard
hears-enough first now counts counts' before after heard goes h few firsts later tried ends = record {
  bytes = h.bytes;
  after' = h.after';
  few = fewer-bytes before h.bytes after h.after' few;
  told' = h.told' ∙ ap (λ (b : Bool). let u : Told = record first { given = more first.given h.bytes; ended = b || first.ended } in u) (sym goes.0);
  first = firsts;
  later = later;
  tried = subst (λ (kind : Option Kind). Tried counts counts' ((after ≡ before) × (is_end heard ≡ false) × (is_idle heard ≡ false)) (Unit {0}) (Unit {0}) kind) (sym goes.2)
      (tried-as tried (λ x. (x, goes.0, goes.1)) (λ x. tt) (λ x. tt));
  ends = ends;
}

-- what was heard, as the code has it
pub heard-of : {L : Type 0} (told : L → Told) (counts : L → Counts) (users : List User) (pubs : List Entries) (generation : ℕ) (config : Entries) (a : Assoc L) (client : L) (c : List ℕ)
    (method : Option ℕ) (chosen : Option Chosen) (heard : Heard) (generation' : ℕ) (rule : Option ℕ)
    → Stands told (socks users pubs) a → TellsServed users (told a.client) → numbered pubs generation ≡ Some config → IsPlain config
    → (a.state).cause ≡ None → (a.state).decisions ≡ Decision.Opened generation' rule None ∷ []
    → Hears (told a.client) (told client) (counts a.client) (counts client) (a.state).c c heard
    → method ≡ method_after (methods_by (a.state).chosen config.methods) None c → HeardAs (split users method c) heard → chosen ≡ chosen_as generation (a.state).chosen method
    → HasHeard told counts (socks users pubs) generation config a (record { state = (let r = a.state in record r { c = c; chosen = chosen }); client = client; target = a.target }) None heard
heard-of told counts users pubs generation config a client c method chosen heard generation' rule standing tells published plain uncaused opens hears method' heard' chosen' = record {
  stands = standing;
  served = tells;
  published = published;
  plain = plain;
  generation' = generation';
  rule = rule;
  opened' = opens;
  uncaused = uncaused;
  hears = hears;
  quiet = λ e. absurd (cc);
  state' = λ i. let r = a.state in record r { c = hears.after' i; chosen = chosen-now i };
  heard' = subst (λ (o : Option Chosen). HeardAs (split users (option_map (λ c. c.method) o) c) heard) (sym chosen-then) (subst (λ (m : Option ℕ). HeardAs (split users m c) heard) method-now heard');
  target' = refl;
}
  where
    was : Option Chosen
    was = (a.state).chosen

    x : List ℕ
    x = hears.bytes

    chosen-then : chosen ≡ chosen_after generation config.methods was c
    chosen-then = chosen' ∙ chosen-is generation config.methods was c method method'

    chosen-now : chosen ≡ chosen_after generation config.methods was ((a.state).c ++ x)
    chosen-now = chosen-then ∙ ap (chosen_after generation config.methods was) hears.after'

    method-now : method ≡ option_map (λ c. c.method) (chosen_after generation config.methods was c)
    method-now =
        method-is generation config.methods was (a.state).c x method (standing.plain).chosen' (method' ∙ ap (method_after (methods_by was config.methods) None) hears.after')
        ∙ ap (λ z. option_map (λ c. c.method) (chosen_after generation config.methods was z)) (sym hears.after')
