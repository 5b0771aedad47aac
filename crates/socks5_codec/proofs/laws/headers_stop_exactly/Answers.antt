use Rattle.socks5_codec.proofs.Prefixes.{spelled_headers-stop, headers-stop}
use Rattle.socks5_codec.proofs.laws.headers_stop_exactly.Goals as goal

pub returns : goal.returns
returns c = record { spelled = spelled_headers-stop; meant = headers-stop }
