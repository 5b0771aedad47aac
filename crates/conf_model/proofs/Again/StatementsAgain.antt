-- The statements of a configuration's text are read again.
use Rattle.std.proofs.Common.{◌≡◌, ℕ, ◌+◌, ◌<◌, ◌≤◌, ◌==◌, Bool, true, false, cond, List, [], ◌∷◌, ◌++◌, length, map, codes, Option, Some, None, Result, Ok, Err, refl, sym, ap, ◌∙◌, subst, arith, append_assoc, append-nil, length-append}
use Rattle.std.specs.Prelude.{nat_lt}
use Rattle.std.specs.List.{AllByRecursion, join_with_byte}
use Rattle.std.proofs.lemmas.Bool.{lt-ltb}
use Rattle.std.proofs.lemmas.Bool.Decides.{nat_tests}
use Rattle.addr_pattern.specs.declared.addr.Addr.{Addr}
use Rattle.addr_pattern.specs.declared.endpoint.Endpoint.{Endpoint}
use Rattle.addr_pattern.specs.declared.pattern.Pattern.{Pattern}
use Rattle.addr_pattern.specs.AddressText.{addr_text, number_text}
use Rattle.addr_pattern.specs.ReadAgain.{IsAddr}
use Rattle.conf_types.specs.declared.entries.Entries.{Entries}
use Rattle.conf_model.specs.declared.fault.ConfFault.{ConfFault}
use Rattle.conf_model.specs.declared.fault.ConfKind.{ConfKind}
use Rattle.conf_model.specs.declared.given.Given.{Given}
use Rattle.conf_model.specs.declared.keys.BlockKind.{BlockKind}
use Rattle.socks_grammar.specs.declared.protocol.Method.{Method}
use Rattle.socks_grammar.specs.declared.protocol.Version.{Version}
use Rattle.conf_types.specs.declared.route.Route.{Route}
use Rattle.conf_types.specs.declared.route.Via.{Via}
use Rattle.conf_types.specs.declared.rule.ClientRule.{ClientRule}
use Rattle.conf_types.specs.declared.rule.SocksRule.{SocksRule}
use Rattle.conf_model.specs.declared.setting.Setting.{Setting}
use Rattle.conf_model.specs.Blocks.{at_line, nothing_given}
use Rattle.conf_types.specs.Kept.{AreMethods, IsClientRule, IsControl, IsListener, IsRoute, IsSocksRule}
use Rattle.conf_model.specs.Keys.{block_kind}
use Rattle.conf_model.specs.Settings.{block_of_kind, block_setting, given_setting, listening, methods, on_loopback, or_bad, or_too_many, set, with_setting}
use Rattle.conf_model.specs.Values.{address_of, endpoint_of}
use Rattle.conf_model.proofs.Again.BlocksAgain.{client_onto, given_client, given_route, given_socks, route_onto, socks_again, socks_onto, with_patterns, with_via}
use Rattle.conf_model.proofs.Again.Onto.{EntriesOnto, PartOnto, PartsOnto, entries-onto}
use Rattle.conf_text.proofs.Parts.{Item, Part, entries_at}
use Rattle.conf_model.proofs.Again.Sets.{methods-again}
use Rattle.conf_model.proofs.Again.Spelled.{client_items, client_part, control_parts, external_part, internal_part, listener_words, route_items, route_part, setting_parts, socks_items, socks_part, verdict_word}
use Rattle.conf_model.proofs.Again.ValuesAgain.{address-again, endpoint-again, no_interface, number-again}

-- ---- one statement

-- one more stays within the limit
added : {A : Type 0} (limit : ℕ) (xs : List A) (line : ℕ) (c : Entries) → length xs < limit → or_too_many line (cond (nat_lt (length xs) limit) (Some c) None) ≡ Ok c
added limit xs line c h = ap (λ v. or_too_many line (cond v (Some c) None)) (lt-ltb (length xs) limit h)

listened : (e : Endpoint) → 0 < e.port → listening (Some e) ≡ Some e
listened e h = let q : (e.port == 0) ≡ false = grind (arith, nat_tests) in ap (λ v. cond v None (Some e)) q

pub internal_onto : (c : Entries) (e : Endpoint) → IsListener e → length c.internals < 16 → PartOnto c (internal_part e) (record c { internals = c.internals ++ e ∷ [] })
internal_onto c e h k = λ n.
    ap (λ (v : Bool). with_setting c n (at_line n (cond v (Err ConfKind.InterfaceRefused) (or_bad Setting.Internal (listening (endpoint_of (Some 1080) (listener_words e)))))))
    (no_interface e.addr (codes "port" ∷ codes "=" ∷ number_text e.port ∷ []) h.endpoint.addr)
    ∙ (ap (λ (z : Option Endpoint). with_setting c n (at_line n (or_bad Setting.Internal z))) (ap listening (endpoint-again (Some 1080) e h.endpoint) ∙ listened e h.port)
    ∙ added 16 c.internals n (record c { internals = c.internals ++ e ∷ [] }) k)

pub external_onto : (c : Entries) (a : Addr) → IsAddr a → length c.externals < 16 → PartOnto c (external_part a) (record c { externals = c.externals ++ a ∷ [] })
external_onto c a h k = λ n.
    ap (λ (v : Bool). with_setting c n (at_line n (cond v (Err ConfKind.InterfaceRefused) (or_bad Setting.External (address_of (addr_text a ∷ []))))))
    (no_interface a [] h)
    ∙ (ap (λ (z : Option Addr). with_setting c n (at_line n (or_bad Setting.External z))) (address-again a h)
    ∙ added 16 c.externals n (record c { externals = c.externals ++ a ∷ [] }) k)

pub control_onto : (c : Entries) (control : Option Endpoint) → IsControl control → c.control ≡ None → PartsOnto c (control_parts control) (record c { control = control })
control_onto c None h e = ap (λ (z : Option Endpoint). let d : Entries = record c { control = z } in d) e
control_onto c (Some at) h e = (
  record c { control = Some at },
  (λ n.
      ap (λ (z : Option Endpoint). with_setting c n (at_line n (on_loopback z))) (ap listening (endpoint-again None at h.0.endpoint) ∙ listened at h.0.port)
      ∙ ap (λ (v : Bool). with_setting c n (at_line n (cond v (Ok (Setting.Control at)) (Err ConfKind.ControlNotLoopback)))) h.1),
  refl,
)

pub settings_onto : (c d : Entries) → AreMethods d.methods → d.negotiate ≤ 4000000 → d.io ≤ 4000000 →
    PartsOnto c (setting_parts d) (record c { methods = d.methods; negotiate = d.negotiate; io = d.io })
settings_onto c d h k l =
    let one : Entries = record c { methods = d.methods } in
    let two : Entries = record one { negotiate = d.negotiate } in
    let three : Entries = record two { io = d.io } in (
      one,
      (λ n. ap (λ (z : Result (List Method) ConfKind). with_setting c n (at_line n (methods z))) (methods-again d.methods h)),
      (
        two,
        (λ n. ap (λ (z : Option ℕ). with_setting one n (at_line n (or_bad Setting.Negotiate z))) (number-again 4000000 d.negotiate (omega arith) k)),
        (three, (λ n. ap (λ (z : Option ℕ). with_setting two n (at_line n (or_bad Setting.Io z))) (number-again 4000000 d.io (omega arith) l)), refl),
      ),
    )

client_kind : (pass : Bool) → block_kind (join_with_byte 32 (codes "client" ∷ verdict_word pass ∷ [])) ≡ Some (BlockKind.Client pass)
client_kind true = refl
client_kind false = refl

socks_kind : (pass : Bool) → block_kind (join_with_byte 32 (codes "socks" ∷ verdict_word pass ∷ [])) ≡ Some (BlockKind.Socks pass)
socks_kind true = refl
socks_kind false = refl

-- a block that says this setting
block_says : (c : Entries) (n : ℕ) (words : List (List ℕ)) (items : List Item) (kind : BlockKind) (g : Given) (s : Setting) (d : Entries) →
    block_kind (join_with_byte 32 words) ≡ Some kind → EntriesOnto kind nothing_given items g → block_setting kind g ≡ Ok s → or_too_many n (set c s) ≡ Ok d →
    with_setting c n (block_of_kind n (entries_at (n + 1) items) (block_kind (join_with_byte 32 words))) ≡ Ok d
block_says c n words items kind g s d h k l m =
    ap (λ (z : Option BlockKind). with_setting c n (block_of_kind n (entries_at (n + 1) items) z)) h
    ∙ (ap (λ (z : Result Given ConfFault). with_setting c n (given_setting n kind z)) (entries-onto kind nothing_given items g (n + 1) k)
    ∙ (ap (λ (z : Result Setting ConfKind). with_setting c n (at_line n z)) l ∙ m))

pub client_part_onto : (c : Entries) (r : ClientRule) → IsClientRule r → length c.client < 4096 → PartOnto c (client_part r) (record c { client = c.client ++ r ∷ [] })
client_part_onto c r h k = λ n.
    block_says c n (codes "client" ∷ verdict_word r.pass ∷ []) (client_items r) (BlockKind.Client r.pass) (given_client r) (Setting.Client r) (record c { client = c.client ++ r ∷ [] })
    (client_kind r.pass) (client_onto r h) refl (added 4096 c.client n (record c { client = c.client ++ r ∷ [] }) k)

pub socks_part_onto : (c : Entries) (r : SocksRule) → IsSocksRule r → length c.socks < 4096 → PartOnto c (socks_part r) (record c { socks = c.socks ++ r ∷ [] })
socks_part_onto c r h k = λ n.
    block_says c n (codes "socks" ∷ verdict_word r.pass ∷ []) (socks_items r) (BlockKind.Socks r.pass) (given_socks r) (Setting.Socks r) (record c { socks = c.socks ++ r ∷ [] })
    (socks_kind r.pass) (socks_onto r h) (ap (λ (z : SocksRule). Ok (Setting.Socks z)) (socks_again r)) (added 4096 c.socks n (record c { socks = c.socks ++ r ∷ [] }) k)

route_says : (from to : Pattern) (via : Via) → block_setting BlockKind.Route (with_via (with_patterns from to) via) ≡ Ok (Setting.Route (record { from = from; to = to; via = via }))
route_says from to Via.Direct = refl
route_says from to (Via.Proxy at Version.V4 login) = refl
route_says from to (Via.Proxy at Version.V5 login) = refl

pub route_part_onto : (c : Entries) (r : Route) → IsRoute r → length c.routes < 256 → PartOnto c (route_part r) (record c { routes = c.routes ++ r ∷ [] })
route_part_onto c r h k = λ n.
    block_says c n (codes "route" ∷ []) (route_items r) BlockKind.Route (given_route r) (Setting.Route r) (record c { routes = c.routes ++ r ∷ [] })
    refl (route_onto r h) (route_says r.from r.to r.via) (added 256 c.routes n (record c { routes = c.routes ++ r ∷ [] }) k)

-- ---- statements of one kind

-- a list of the configuration grows by each
pub grown : {A : Type 0} (P : A → Type 0) (part : A → Part) (limit : ℕ) (list : Entries → List A) (with_list : Entries → List A → Entries) →
    ((c : Entries) → with_list c (list c) ≡ c) → ((c : Entries) (xs : List A) → list (with_list c xs) ≡ xs) → ((c : Entries) (xs ys : List A) → with_list (with_list c xs) ys ≡ with_list c ys) →
    ((c : Entries) (a : A) → P a → length (list c) < limit → PartOnto c (part a) (with_list c (list c ++ a ∷ []))) →
    (c : Entries) (xs : List A) → AllByRecursion P xs → length (list c) + length xs ≤ limit → PartsOnto c (map part xs) (with_list c (list c ++ xs))
grown P part limit list with_list same here over one c [] h k = sym (ap (with_list c) (append-nil (list c)) ∙ same c)
grown {A = A} P part limit list with_list same here over one c (x ∷ xs) h k =
    let d = with_list c (list c ++ x ∷ []) in
    let now : list d ≡ list c ++ x ∷ [] = here c (list c ++ x ∷ []) in
    let more : length (list d) + length xs ≤ limit = omega (arith, k, ap length now, length-append (list c) (x ∷ [])) in
    let rest : PartsOnto d (map part xs) (with_list d (list d ++ xs)) = grown P part limit list with_list same here over one d xs h.1 more in
    let end : with_list d (list d ++ xs) ≡ with_list c (list c ++ x ∷ xs) = over c (list c ++ x ∷ []) (list d ++ xs) ∙ ap (with_list c) (ap (λ (z : List A). z ++ xs) now ∙ append_assoc (list c) (x ∷ []) xs) in
    (d, one c x h.0 (omega arith), subst (PartsOnto d (map part xs)) end rest)
