use Rattle.socks4_codec.proofs.Prefixes.{replies-stop}
use Rattle.socks4_codec.proofs.laws.replies_stop_exactly.Goals as goal

pub returns : goal.returns
returns c = replies-stop
