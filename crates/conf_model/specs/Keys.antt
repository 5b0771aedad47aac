-- The keys of a configuration, and which entries stand in which block.
use Rattle.std.specs.Prelude.{ℕ, Bool, true, false, ◌||◌, if◌then◌else◌, Option, Some, None, List, codes, bytes_eq}
use Rattle.conf_model.specs.declared.keys.TopKey.{TopKey}
use Rattle.conf_model.specs.declared.keys.BlockKind.{BlockKind}
use Rattle.conf_model.specs.declared.keys.EntryKey.{EntryKey}

-- entries that are read and have no effect
abbrev pub is_ignored : List ℕ → Bool
is_ignored text =
    bytes_eq text (codes "logoutput") || bytes_eq text (codes "errorlog")
    || bytes_eq text (codes "user.privileged") || bytes_eq text (codes "user.unprivileged")
    || bytes_eq text (codes "user.notprivileged") || bytes_eq text (codes "user.libwrap")

-- `method` is another word for `socksmethod`
abbrev pub is_methods : List ℕ → Bool
is_methods text = bytes_eq text (codes "socksmethod") || bytes_eq text (codes "method")

abbrev pub top_key : List ℕ → Option TopKey
top_key text =
    if bytes_eq text (codes "internal") then Some TopKey.Internal
    else (if bytes_eq text (codes "external") then Some TopKey.External
    else (if bytes_eq text (codes "control") then Some TopKey.Control
    else (if is_methods text then Some TopKey.Methods
    else (if bytes_eq text (codes "clientmethod") then Some TopKey.ClientMethods
    else (if bytes_eq text (codes "timeout.negotiate") then Some TopKey.Negotiate
    else (if bytes_eq text (codes "timeout.io") then Some TopKey.Io
    else (if is_ignored text then Some TopKey.Ignored else None)))))))

-- bare `pass` and `block` are socks rules
abbrev pub block_kind : List ℕ → Option BlockKind
block_kind text =
    if bytes_eq text (codes "client pass") then Some (BlockKind.Client true)
    else (if bytes_eq text (codes "client block") then Some (BlockKind.Client false)
    else (if bytes_eq text (codes "socks pass") || bytes_eq text (codes "pass") then Some (BlockKind.Socks true)
    else (if bytes_eq text (codes "socks block") || bytes_eq text (codes "block") then Some (BlockKind.Socks false)
    else (if bytes_eq text (codes "route") then Some BlockKind.Route else None))))

abbrev pub entry_key : List ℕ → Option EntryKey
entry_key text =
    if bytes_eq text (codes "from") then Some EntryKey.From
    else (if bytes_eq text (codes "to") then Some EntryKey.To
    else (if bytes_eq text (codes "log") then Some EntryKey.Log
    else (if bytes_eq text (codes "clientmethod") then Some EntryKey.ClientMethods
    else (if bytes_eq text (codes "session.max") then Some EntryKey.Max
    else (if bytes_eq text (codes "command") then Some EntryKey.Commands
    else (if bytes_eq text (codes "protocol") then Some EntryKey.Protocols
    else (if is_methods text then Some EntryKey.Methods
    else (if bytes_eq text (codes "user") then Some EntryKey.Users
    else (if bytes_eq text (codes "proxyprotocol") then Some EntryKey.Versions
    else (if bytes_eq text (codes "via") then Some EntryKey.Via
    else (if bytes_eq text (codes "login") then Some EntryKey.Login else None)))))))))))

abbrev pub client_allows : EntryKey → Bool
client_allows EntryKey.From = true
client_allows EntryKey.To = true
client_allows EntryKey.Log = true
client_allows EntryKey.ClientMethods = true
client_allows EntryKey.Max = true
client_allows _ = false

abbrev pub socks_allows : EntryKey → Bool
socks_allows EntryKey.ClientMethods = false
socks_allows EntryKey.Via = false
socks_allows EntryKey.Login = false
socks_allows _ = true

abbrev pub route_allows : EntryKey → Bool
route_allows EntryKey.ClientMethods = false
route_allows EntryKey.Max = false
route_allows EntryKey.Users = false
route_allows _ = true

-- the entry may stand in such a block
abbrev pub allows : BlockKind → EntryKey → Bool
allows (BlockKind.Client pass) key = client_allows key
allows (BlockKind.Socks pass) key = socks_allows key
allows BlockKind.Route key = route_allows key
