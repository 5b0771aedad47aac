use Rattle.std.proofs.Common.{ap, ◌∙◌}
use Rattle.socks5_codec.specs.Parts.{asked_by}
use Rattle.socks5_codec.proofs.Asked.{map-read, request-asked}
use Rattle.socks5_codec.proofs.request.read_request5.Goals as goal

pub returns-in-Ok : goal.returns-in-Ok
returns-in-Ok c = record {
  spelled = c.in-Ok.ensures.spelled;
  asked = request-asked c.args.bytes.now ∙ ap (map-read asked_by) c.in-Ok.ensures.spelled;
  name_at = c.in-Ok.ensures.name_at;
  inside = c.in-Ok.ensures.inside;
}
