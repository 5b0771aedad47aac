use Rattle.socks5_codec.proofs.Moved.{spelled_requests-anywhere, requests-anywhere, replies-anywhere}
use Rattle.socks5_codec.proofs.laws.places_move.Goals as goal

pub returns : goal.returns
returns c = record { spelled = spelled_requests-anywhere; requests = requests-anywhere; replies = replies-anywhere }
