use Rattle.std.proofs.Common.{ℕ, List, subst}
use Rattle.conf_model.specs.Reads.{HasFault, IsConfigText}
use Rattle.sockd_commands.proofs.Files.{config-file, faulty-file}
use Rattle.sockd_commands.proofs.conf_file.read_conf.Goals as goal

pub returns-in-Ok-clause-found : goal.returns-in-Ok-clause-found
returns-in-Ok-clause-found g c =
    config-file (g.F.Store.files c.args.files.now) c.args.name.now c.in-Read.text c.in-Ok.config c.in-Read.ensures.answer
    (subst (λ (text : List ℕ). IsConfigText text c.in-Ok.config) c.as_slice.ensures c.in-Ok.ensures)

pub returns : goal.returns
returns g c = record {
  found = faulty-file (g.F.Store.files c.args.files.now) c.args.name.now c.in-Read.text c.in-Err.fault c.in-Read.ensures.answer
      (subst (λ (text : List ℕ). HasFault text c.in-Err.fault) c.as_slice.ensures c.in-Err.ensures) c.in_default.not-Memory;
  kept = c.read_file.ensures.kept;
  later = c.read_file.ensures.later;
}
