-- Whether two configurations say the same, as a test.
use Rattle.std.specs.Prelude.{Bool, true, false, ◌&&◌, ◌==◌, not, Option, Some, None, List, bytes_eq}
use Rattle.std.specs.Cmp.Lexicographic.{pointwise}
use Rattle.addr_pattern.specs.declared.pattern.HostPattern.{HostPattern}
use Rattle.addr_pattern.specs.declared.pattern.Pattern.{Pattern}
use Rattle.addr_pattern.specs.declared.pattern.PortTest.{PortTest}
use Rattle.addr_pattern.specs.Equal.{addr_eq, endpoint_eq}
use Rattle.conf_types.specs.declared.entries.Entries.{Entries}
use Rattle.conf_types.specs.declared.route.Route.{Route}
use Rattle.conf_types.specs.declared.route.Via.{Via}
use Rattle.conf_types.specs.declared.rule.ClientRule.{ClientRule}
use Rattle.conf_types.specs.declared.rule.SocksRule.{SocksRule}
use Rattle.socks_grammar.specs.declared.login.Login.{Login}
use Rattle.socks_grammar.specs.Equal.{method_eq, version_eq}

abbrev pub bool_eq : Bool → Bool → Bool
bool_eq true b = b
bool_eq false b = not b

abbrev pub option_eq : {A : Type 0} → (A → A → Bool) → Option A → Option A → Bool
option_eq eq None None = true
option_eq eq (Some a) (Some b) = eq a b
option_eq eq _ _ = false

abbrev pub host_pattern_eq : HostPattern → HostPattern → Bool
host_pattern_eq HostPattern.Any HostPattern.Any = true
host_pattern_eq (HostPattern.Net a m) (HostPattern.Net b n) = addr_eq a b && (m == n)
host_pattern_eq (HostPattern.Name x) (HostPattern.Name y) = bytes_eq x y
host_pattern_eq (HostPattern.Domain x) (HostPattern.Domain y) = bytes_eq x y
host_pattern_eq _ _ = false

abbrev pub port_test_eq : PortTest → PortTest → Bool
port_test_eq PortTest.Any PortTest.Any = true
port_test_eq (PortTest.Eq m) (PortTest.Eq n) = m == n
port_test_eq (PortTest.Ne m) (PortTest.Ne n) = m == n
port_test_eq (PortTest.Ge m) (PortTest.Ge n) = m == n
port_test_eq (PortTest.Le m) (PortTest.Le n) = m == n
port_test_eq (PortTest.Gt m) (PortTest.Gt n) = m == n
port_test_eq (PortTest.Lt m) (PortTest.Lt n) = m == n
port_test_eq (PortTest.Range k l) (PortTest.Range m n) = (k == m) && (l == n)
port_test_eq _ _ = false

abbrev pub pattern_eq : Pattern → Pattern → Bool
pattern_eq x y = host_pattern_eq x.host y.host && port_test_eq x.port y.port

abbrev pub client_rule_eq : ClientRule → ClientRule → Bool
client_rule_eq x y = bool_eq x.pass y.pass && (pattern_eq x.from y.from && (pattern_eq x.to y.to && option_eq (λ m n. m == n) x.max y.max))

abbrev pub socks_rule_eq : SocksRule → SocksRule → Bool
socks_rule_eq x y =
    bool_eq x.pass y.pass && (pattern_eq x.from y.from && (pattern_eq x.to y.to
    && (bool_eq x.connect y.connect && (bool_eq x.bind y.bind && (bool_eq x.udpassociate y.udpassociate
    && (bool_eq x.bindreply y.bindreply && (bool_eq x.udpreply y.udpreply && (bool_eq x.tcp y.tcp && (bool_eq x.udp y.udp
    && (bool_eq x.noauth y.noauth && (bool_eq x.username y.username && (bool_eq x.v4 y.v4 && (bool_eq x.v5 y.v5
    && (pointwise bytes_eq x.users y.users && option_eq (λ m n. m == n) x.max y.max))))))))))))))

abbrev pub login_eq : Login → Login → Bool
login_eq x y = bytes_eq x.name y.name && bytes_eq x.password y.password

abbrev pub via_eq : Via → Via → Bool
via_eq Via.Direct Via.Direct = true
via_eq (Via.Proxy a v l) (Via.Proxy b w m) = endpoint_eq a b && (version_eq v w && option_eq login_eq l m)
via_eq _ _ = false

abbrev pub route_eq : Route → Route → Bool
route_eq x y = pattern_eq x.from y.from && (pattern_eq x.to y.to && via_eq x.via y.via)

abbrev pub entries_eq : Entries → Entries → Bool
entries_eq x y =
    pointwise endpoint_eq x.internals y.internals && (pointwise addr_eq x.externals y.externals && (option_eq endpoint_eq x.control y.control
    && (pointwise method_eq x.methods y.methods && ((x.negotiate == y.negotiate) && ((x.io == y.io)
    && (pointwise client_rule_eq x.client y.client && (pointwise socks_rule_eq x.socks y.socks && pointwise route_eq x.routes y.routes)))))))
