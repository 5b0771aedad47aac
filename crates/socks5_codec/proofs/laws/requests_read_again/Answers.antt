use Rattle.socks5_codec.proofs.Spelled.{requests-again}
use Rattle.socks5_codec.proofs.laws.requests_read_again.Goals as goal

pub returns : goal.returns
returns c = requests-again
