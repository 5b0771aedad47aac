-- Username and password: what is answered, and how a wrong one ends.
use Rattle.std.specs.Prelude.{◌≡◌, refl, true, None, List, [], ◌∷◌, ◌++◌, codes}
use Rattle.sha2.specs.Sha256.{sha256, first_words, schedule, rounds, compress, hash_after, digest_bytes}
use Rattle.socks_grammar.specs.declared.protocol.Method.{Method}
use Rattle.conf_types.specs.declared.entries.Entries.{Entries}
use Rattle.socks_machine.specs.declared.world.Object.{Object}
use Rattle.socks_machine.specs.declared.world.Outer.{Outer}
use Rattle.socks_machine.specs.declared.world.NextMark.{NextMark}
use Rattle.socks_machine.specs.declared.world.Event.{Event}
use Rattle.socks_machine.proofs.Rows.Shared.{config, client_rule, socks_rule, any, quiet, told, client_at, local_at, abc_user}

abbrev pub login_or_none : Entries
login_or_none = config (Method.Username ∷ Method.NoAuth ∷ []) (client_rule true any any ∷ []) (socks_rule true any any None ∷ []) []

abbrev pub login_only : Entries
login_only = config (Method.Username ∷ []) (client_rule true any any ∷ []) (socks_rule true any any None ∷ []) []

abbrev pub login_passed : List Event
login_passed =
    Event.Publish (login_or_none)
    ∷ Event.See 1 1
    ∷ Event.Open 1 1 client_at local_at 0
    ∷ Event.Turn (record (quiet 1 1 0) { outer = Outer.Desk true; next = NextMark.Again })
    ∷ Event.Turn (record (quiet 1 1 0) { c = (0x05 ∷ 0x01 ∷ 0x02 ∷ []); sent_c = 2; idle = (Object.Client ∷ []); next = NextMark.Wait })
    ∷ Event.Turn (record (quiet 1 1 0) { c = (0x01 ∷ 0x03 ∷ 0x61 ∷ 0x62 ∷ 0x63 ∷ 0x03 ∷ 0x61 ∷ 0x62 ∷ 0x63 ∷ []); sent_c = 2; idle = (Object.Client ∷ []); next = NextMark.Wait })
    ∷ []

pub login_passed_text : told abc_user 1 6 login_passed ≡ (codes "client 1 05020100" ++ 10 ∷ []) ++ (codes "target 1 -" ++ 10 ∷ []) ++ (codes "end 1 open" ++ 10 ∷ [])
unfolding sha256 first_words schedule rounds compress hash_after digest_bytes
login_passed_text = refl

abbrev pub login_failed : List Event
login_failed =
    Event.Publish (login_or_none)
    ∷ Event.See 1 1
    ∷ Event.Open 1 1 client_at local_at 0
    ∷ Event.Turn (record (quiet 1 1 0) { outer = Outer.Desk true; next = NextMark.Again })
    ∷ Event.Turn (record (quiet 1 1 0) { c = (0x05 ∷ 0x01 ∷ 0x02 ∷ []); sent_c = 2; idle = (Object.Client ∷ []); next = NextMark.Wait })
    ∷ Event.Turn (record (quiet 1 1 0) { c = (0x01 ∷ 0x03 ∷ 0x61 ∷ 0x62 ∷ 0x63 ∷ 0x03 ∷ 0x61 ∷ 0x62 ∷ 0x64 ∷ []); sent_c = 2; outer = Outer.Desk true; next = NextMark.Done })
    ∷ []

pub login_failed_text : told abc_user 1 6 login_failed ≡ (codes "client 1 05020101" ++ 10 ∷ []) ++ (codes "target 1 -" ++ 10 ∷ []) ++ (codes "end 1 loginfailed" ++ 10 ∷ [])
unfolding sha256 first_words schedule rounds compress hash_after digest_bytes
login_failed_text = refl

abbrev pub login_bad : List Event
login_bad =
    Event.Publish (login_or_none)
    ∷ Event.See 1 1
    ∷ Event.Open 1 1 client_at local_at 0
    ∷ Event.Turn (record (quiet 1 1 0) { outer = Outer.Desk true; next = NextMark.Again })
    ∷ Event.Turn (record (quiet 1 1 0) { c = (0x05 ∷ 0x01 ∷ 0x02 ∷ []); sent_c = 2; idle = (Object.Client ∷ []); next = NextMark.Wait })
    ∷ Event.Turn (record (quiet 1 1 0) { c = (0x02 ∷ 0x00 ∷ []); sent_c = 2; outer = Outer.Desk true; next = NextMark.Done })
    ∷ []

pub login_bad_text : told abc_user 1 6 login_bad ≡ (codes "client 1 05020101" ++ 10 ∷ []) ++ (codes "target 1 -" ++ 10 ∷ []) ++ (codes "end 1 badversion at 3 byte 02" ++ 10 ∷ [])
login_bad_text = refl

abbrev pub login_missing4 : List Event
login_missing4 =
    Event.Publish (login_only)
    ∷ Event.See 1 1
    ∷ Event.Open 1 1 client_at local_at 0
    ∷ Event.Turn (record (quiet 1 1 0) { outer = Outer.Desk true; next = NextMark.Again })
    ∷ Event.Turn (record (quiet 1 1 0) { c = (0x04 ∷ 0x01 ∷ 0x00 ∷ 0x50 ∷ 0xC6 ∷ 0x33 ∷ 0x64 ∷ 0x0A ∷ 0x00 ∷ []); outer = Outer.Desk true; sent_c = 8; next = NextMark.Again })
    ∷ Event.Turn (record (quiet 1 1 0) { outer = Outer.Desk true; next = NextMark.Done })
    ∷ []

pub login_missing4_text : told abc_user 1 6 login_missing4 ≡ (codes "client 1 005b000000000000" ++ 10 ∷ []) ++ (codes "target 1 -" ++ 10 ∷ []) ++ (codes "end 1 denied gen 1 client 1 socks none" ++ 10 ∷ [])
login_missing4_text = refl
