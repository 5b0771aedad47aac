use Rattle.socks5_codec.proofs.Prefixes.{spelled_requests-stop, requests-stop}
use Rattle.socks5_codec.proofs.laws.requests_stop_exactly.Goals as goal

pub returns : goal.returns
returns c = record { spelled = spelled_requests-stop; asked = requests-stop }
