-- The definitions at worked logins and users files.
use Rattle.std.proofs.Common.{◌≡◌, ◌++◌, [], ◌∷◌, Some, Ok, Err, codes, refl}
use Rattle.hex.proofs.OnLiterals.{hex_on_literals}
use Rattle.socks_grammar.specs.Grammar.{Read, login, login_status, spelled_login}
use Rattle.addr_pattern.specs.declared.front.BadKind.{BadKind}
use Rattle.user_login.specs.declared.fault.UsersKind.{UsersKind}
use Rattle.user_login.specs.UsersFile.{users_of, user_of, line_onto}

-- FIPS 180-4's digest of `abc`
abc-user : user_of (codes "abc:ba7816bf8f01cfea414140de5dae2223b00361a396177a9cb410ff61f20015AD") ≡ Some (record {
  name = codes "abc";
  digest =
      186 ∷ 120 ∷ 22 ∷ 191 ∷ 143 ∷ 1 ∷ 207 ∷ 234 ∷ 65 ∷ 65 ∷ 64 ∷ 222 ∷ 93 ∷ 174 ∷ 34 ∷ 35 ∷ 176 ∷ 3 ∷ 97 ∷ 163 ∷ 150 ∷ 23 ∷ 122 ∷ 156 ∷ 180 ∷ 16 ∷ 255 ∷ 97 ∷ 242 ∷ 0 ∷ 21 ∷ 173 ∷ [];
})
unfolding hex_on_literals
abc-user = refl

nobody : users_of (10 ∷ 13 ∷ 10 ∷ codes "# abc") ≡ Ok []
nobody = refl

unnamed : users_of (10 ∷ codes "abc") ≡ Err (record { line = 2; kind = UsersKind.BadLine })
unnamed = refl

two-returns : line_onto [] (13 ∷ 13 ∷ []) ≡ Err UsersKind.BadLine
two-returns = refl

short-digest : line_onto [] (codes "abc:12") ≡ Err UsersKind.BadLine
short-digest = refl

repeated : users_of (codes "a:0000000000000000000000000000000000000000000000000000000000000000" ++ 10 ∷ 10 ∷ codes "a:1111111111111111111111111111111111111111111111111111111111111111" ++ 13 ∷ [])
    ≡ Err (record { line = 3; kind = UsersKind.Repeated })
unfolding hex_on_literals
repeated = refl

-- RFC 1929, section 2
a-login : login 0 (1 ∷ 3 ∷ codes "abc" ++ 2 ∷ codes "xyz") ≡ Read.Got (record { name = codes "abc"; password = codes "xy" }) 8 (codes "z")
a-login = refl

no-password : login 0 (1 ∷ 3 ∷ codes "abc" ++ 2 ∷ codes "x") ≡ Read.Short
no-password = refl

empty-login : login 0 (spelled_login [] []) ≡ Read.Got (record { name = []; password = [] }) 3 []
empty-login = refl

other-version : login 0 (5 ∷ []) ≡ Read.Wrong 0 5 BadKind.Version
other-version = refl

a-status : login_status 0 (1 ∷ 255 ∷ 0 ∷ []) ≡ Read.Got 255 2 (0 ∷ [])
a-status = refl
