use Rattle.std.proofs.Common.{ap, ◌∙◌}
use Rattle.socks5_codec.specs.Parts.{header_by}
use Rattle.socks5_codec.proofs.Asked.{map-read, header-meant}
use Rattle.socks5_codec.proofs.udp.read_udp_head.Goals as goal

pub returns-in-Ok : goal.returns-in-Ok
returns-in-Ok c = record {
  spelled = c.in-Ok.ensures.spelled;
  meant = header-meant c.args.bytes.now ∙ ap (map-read header_by) c.in-Ok.ensures.spelled;
  name_at = c.in-Ok.ensures.name_at;
  inside = c.in-Ok.ensures.inside;
}
