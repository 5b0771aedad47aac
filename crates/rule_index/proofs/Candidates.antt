-- The candidates of a destination, and the least of them that matches.
use Rattle.std.proofs.Common.{ℕ, ◌≡◌, ◌≤◌, ◌<◌, ◌+◌, ◌*◌, ◌/◌, ◌%◌, ◌-◌, ◌^◌, ◌&&◌, Bool, true, false, Option, Some, None, List, [], ◌∷◌, length, get_or, refl, sym, ap, ◌∙◌, subst, arith}
use Rattle.std.proofs.lemmas.Bool.{false≢true, eqb-true, and_parts}
use Rattle.std.proofs.lemmas.List.Sums.{position_or_len_is}
use Rattle.std.proofs.lemmas.Option.{none-some, slice_get-get_or, slice_get_past, slice_get_within}
use Rattle.std.specs.Prelude.{if◌then◌else◌}
use Rattle.std.specs.List.{slice_get, list_any, position_or_len}
use mathlib.Core.Logic.{dite}
use native.Mathlib.Decide.{ℕ_discrete}
use Rattle.addr_pattern.specs.declared.addr.Addr.{Addr}
use Rattle.addr_pattern.specs.declared.endpoint.Endpoint.{Endpoint}
use Rattle.addr_pattern.specs.declared.pattern.HostPattern.{HostPattern}
use Rattle.addr_pattern.specs.declared.pattern.PortTest.{PortTest}
use Rattle.addr_pattern.specs.declared.pattern.Pattern.{Pattern}
use Rattle.addr_pattern.specs.Matches.{host_matches, port_matches}
use Rattle.conf_types.specs.declared.rule.SocksRule.{SocksRule}
use Rattle.rule_list.specs.declared.facts.Facts.{Facts}
use Rattle.rule_list.specs.Rules.{takes, allows_command, allows_protocol, allows_method, allows_version, allows_user, socks_rule_matches}
use Rattle.rule_index.specs.declared.class.Class.{Class}
use Rattle.rule_index.specs.Classes.{host_class, is_one_port, class_of, class_eq, network, slot_in, address_of, port_of, slot_of}
use Rattle.rule_index.specs.Index.{AreClassesOf}
use Rattle.rule_index.specs.Search.{MatchesAt, NoneBefore}
use Rattle.rule_index.proofs.Places.{one_at}
use Rattle.rule_index.proofs.Walking.{none_earlier}
use Rattle.rule_index.proofs.Classes.{listed_at}

same_network : (host : HostPattern) (name : Option (List ℕ)) (addr : Addr) → host_matches host name addr ≡ true
    → network (host_class host) addr ≡ network (host_class host) (address_of host)
same_network HostPattern.Any name addr h = refl
same_network (HostPattern.Name wanted) name addr h = refl
same_network (HostPattern.Domain domain) name addr h = refl
same_network (HostPattern.Net (Addr.V4 net) bits) name (Addr.V4 a) h = sym (eqb-true (net / 2 ^ (32 - bits)) (a / 2 ^ (32 - bits)) h)
same_network (HostPattern.Net (Addr.V6 net) bits) name (Addr.V6 a) h = sym (eqb-true (net / 2 ^ (128 - bits)) (a / 2 ^ (128 - bits)) h)
same_network (HostPattern.Net (Addr.V4 net) bits) name (Addr.V6 a) h = absurd (false≢true h)
same_network (HostPattern.Net (Addr.V6 net) bits) name (Addr.V4 a) h = absurd (false≢true h)

same_port : (test : PortTest) (port : ℕ) → port_matches test port ≡ true → (if is_one_port test then port else 0) ≡ (if is_one_port test then port_of test else 0)
same_port PortTest.Any port h = refl
same_port (PortTest.Eq n) port h = eqb-true port n h
same_port (PortTest.Ne n) port h = refl
same_port (PortTest.Ge n) port h = refl
same_port (PortTest.Le n) port h = refl
same_port (PortTest.Gt n) port h = refl
same_port (PortTest.Lt n) port h = refl
same_port (PortTest.Range low high) port h = refl

-- completeness: a pattern that takes a destination is kept in the slot where its class has that destination
pub complete : (slots : ℕ) (p : Pattern) (name : Option (List ℕ)) (e : Endpoint) → takes p name e ≡ true → slot_of slots p ≡ slot_in slots (class_of p) e.addr e.port
complete slots p name e h =
    let parts = and_parts (host_matches p.host name e.addr) (port_matches p.port e.port) h in
    let host = same_network p.host name e.addr parts.0 in
    let port = same_port p.port e.port parts.1 in
    sym (λ k. (host k % slots * 65537 + port k) % slots)

takes_destination : (facts : Facts) (r : SocksRule) → socks_rule_matches facts r ≡ true → takes r.to facts.name facts.to ≡ true
takes_destination facts r h =
    let from = takes r.from None facts.from in let to = takes r.to facts.name facts.to in let command = allows_command r facts.command in
    let protocol = allows_protocol r facts.command in let method = allows_method r facts.method in let version = allows_version r facts.version in
    let user = allows_user r.users facts.user in
    let five = and_parts (from && to && command && protocol && method && version) user h in
    let four = and_parts (from && to && command && protocol && method) version five.0 in
    let three = and_parts (from && to && command && protocol) method four.0 in
    let two = and_parts (from && to && command) protocol three.0 in
    let one = and_parts (from && to) command two.0 in
    (and_parts from to one.0).1

decided : (facts : Facts) (rule : SocksRule) (is : Bool) → socks_rule_matches facts rule ≡ is → (is ≡ true → socks_rule_matches facts rule ≡ false) → socks_rule_matches facts rule ≡ false
decided facts rule true is fails = fails refl
decided facts rule false is fails = is

-- no candidate before a place matches, so no rule does
pub none_matches : (rules : List SocksRule) (facts : Facts) (classes : List Class) (slots best : ℕ) → AreClassesOf rules classes
    → ((class : Class) → list_any (class_eq class) classes ≡ true → NoneBefore rules facts slots (slot_in slots class facts.to.addr facts.to.port) best)
    → (k : ℕ) (rule : SocksRule) → k < best → slice_get rules k ≡ Some rule → socks_rule_matches facts rule ≡ false
none_matches rules facts classes slots best listed none k rule lt h = decided facts rule (socks_rule_matches facts rule) refl
    (λ matches. none (class_of rule.to) (listed k rule h) k rule lt h (complete slots rule.to facts.name facts.to (takes_destination facts rule matches)))

-- leastness: the first rule that matches is the first candidate that does
pub least : (rules : List SocksRule) (facts : Facts) (classes : List Class) (slots best : ℕ) → best ≤ length rules → MatchesAt rules facts best → AreClassesOf rules classes
    → ((class : Class) → list_any (class_eq class) classes ≡ true → NoneBefore rules facts slots (slot_in slots class facts.to.addr facts.to.port) best)
    → best ≡ position_or_len (socks_rule_matches facts) rules
least [] facts classes slots best le sound listed none = omega arith
least (r ∷ rs) facts classes slots best le sound listed none = sym (position_or_len_is (socks_rule_matches facts) (r ∷ rs) best r le
    (λ k lt. none_matches (r ∷ rs) facts classes slots best listed none k (get_or (r ∷ rs) k r) lt (slice_get-get_or (r ∷ rs) k r (omega arith)))
    (λ lt. sound (get_or (r ∷ rs) best r) (slice_get-get_or (r ∷ rs) best r lt)))

-- ---- the search by one class after the other

-- the candidates by the first classes of the index were tried, and `best` is the first of them that matches, or the number of rules
pub record HasTried (rules : List SocksRule) (facts : Facts) (classes : List Class) (slots count best : ℕ) : Type 0 where
  pub within : best ≤ length rules
  pub sound : MatchesAt rules facts best
  pub none : (j : ℕ) (class : Class) → j < count → slice_get classes j ≡ Some class → NoneBefore rules facts slots (slot_in slots class facts.to.addr facts.to.port) best

pub tried_none : (rules : List SocksRule) (facts : Facts) (classes : List Class) (slots : ℕ) → HasTried rules facts classes slots 0 (length rules)
tried_none rules facts classes slots = record {
  within = omega arith;
  sound = λ rule h. absurd (none-some rule (sym (slice_get_past rules (length rules) (omega arith)) ∙ h));
  none = λ j class lt h. absurd (omega arith);
}

pub tried_more : (rules : List SocksRule) (facts : Facts) (classes : List Class) (slots at best next : ℕ) (class : Class) → slice_get classes at ≡ Some class
    → next ≤ best → MatchesAt rules facts next → NoneBefore rules facts slots (slot_in slots class facts.to.addr facts.to.port) next
    → HasTried rules facts classes slots at best → HasTried rules facts classes slots (at + 1) next
tried_more rules facts classes slots at best next class stands below sound none was = record {
  within = let le = was.within in omega arith;
  sound = sound;
  none = λ j other lt h. dite (ℕ_discrete j at)
      (λ e. subst (λ (c : Class). NoneBefore rules facts slots (slot_in slots c facts.to.addr facts.to.port) next)
      (one_at classes at class other stands (subst (λ (j : ℕ). slice_get classes j ≡ Some other) e h)) none)
      (λ ne. none_earlier rules facts slots (slot_in slots other facts.to.addr facts.to.port) best next below (was.none j other (omega arith) h));
}

pub tried_all : (rules : List SocksRule) (facts : Facts) (classes : List Class) (slots count best : ℕ) → length classes ≤ count → AreClassesOf rules classes
    → HasTried rules facts classes slots count best → best ≡ position_or_len (socks_rule_matches facts) rules
tried_all rules facts classes slots count best all listed was = least rules facts classes slots best was.within was.sound listed
    (λ class is. let there = listed_at class classes is in let lt = slice_get_within classes there.0 class there.1 in was.none there.0 class (omega arith) there.1)

-- the same, as a loop over the classes has it
pub tried_next : (rules : List SocksRule) (facts : Facts) (classes items : List Class) (slots len at best next slot : ℕ) (d : Class) → items ≡ classes → len ≡ slots → at < length items
    → slot ≡ slot_in len (get_or items at d) facts.to.addr facts.to.port → next ≤ best → MatchesAt rules facts next → NoneBefore rules facts slots slot next
    → HasTried rules facts classes slots at best → HasTried rules facts classes slots (at + 1) next
tried_next rules facts classes items slots len at best next slot d same counted lt is below sound none =
    tried_more rules facts classes slots at best next (get_or items at d)
    (subst (λ (xs : List Class). slice_get xs at ≡ Some (get_or items at d)) same (slice_get-get_or items at d lt)) below sound
    (subst (λ (s : ℕ). NoneBefore rules facts slots s next)
    (is ∙ ap (λ (n : ℕ). slot_in n (get_or items at d) facts.to.addr facts.to.port) counted) none)
