use Rattle.socks5_codec.proofs.Prefixes.{replies-stop}
use Rattle.socks5_codec.proofs.laws.replies_stop_exactly.Goals as goal

pub returns : goal.returns
returns c = replies-stop
