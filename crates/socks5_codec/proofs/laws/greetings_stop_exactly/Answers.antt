use Rattle.socks5_codec.proofs.Prefixes.{greetings-stop, methods-stop}
use Rattle.socks5_codec.proofs.laws.greetings_stop_exactly.Goals as goal

pub returns : goal.returns
returns c = record { offered = greetings-stop; answered = methods-stop }
