use Rattle.socks4_codec.proofs.Prefixes.{parts-stop, requests-stop}
use Rattle.socks4_codec.proofs.laws.requests_stop_exactly.Goals as goal

pub returns : goal.returns
returns c = record { parts = parts-stop; asked = requests-stop }
