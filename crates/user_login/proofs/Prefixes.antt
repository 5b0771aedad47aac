-- The readers of the login and of its status want more exactly of proper prefixes.
use Rattle.std.proofs.Common.{◌==◌, refl}
use Rattle.addr_pattern.specs.declared.front.BadKind.{BadKind}
use Rattle.socks_grammar.specs.Grammar.{byte_that, any_byte, any_bytes, login, login_status}
use Rattle.socks_grammar.specs.Prefixes.{StopsExactly}
use Rattle.socks_grammar.proofs.Exact.{IsExact, done-exact, bind-exact, byte-exact, any_byte-exact, any_bytes-exact, stops-exactly}

version-exact : IsExact (byte_that (λ b. b == 1) BadKind.Version)
version-exact = byte-exact (λ b. b == 1) BadKind.Version 1 refl refl

pub login-exact : IsExact login
login-exact = bind-exact _ _ version-exact (λ version. bind-exact any_byte _ any_byte-exact (λ n. bind-exact (any_bytes n) _ (any_bytes-exact n) (λ name.
    bind-exact any_byte _ any_byte-exact (λ m. bind-exact (any_bytes m) _ (any_bytes-exact m) (λ password. done-exact _)))))

pub status-exact : IsExact login_status
status-exact = bind-exact _ _ version-exact (λ version. any_byte-exact)

pub logins-stop : StopsExactly login
logins-stop = stops-exactly login login-exact

pub statuses-stop : StopsExactly login_status
statuses-stop = stops-exactly login_status status-exact
