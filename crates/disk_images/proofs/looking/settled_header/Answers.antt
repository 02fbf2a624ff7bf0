use Rattle.std.proofs.Common.{◌∙◌, arith, rules}
use Rattle.std.proofs.lemmas.Grind.{common_steps}
use Rattle.std.proofs.lemmas.Result.{IfOk-weaker}
use Rattle.disk_images.proofs.Settling.{settled}
use Rattle.disk_images.proofs.looking.settled_header.Goals as goal

pub returns-in-Ok : goal.returns-in-Ok
returns-in-Ok g c = record {
  attached = first_of (search rules, grind (arith, common_steps));
  runs = first_of (search rules, grind (arith, common_steps));
  calls = first_of (search rules, grind (arith, common_steps));
  written = first_of (search rules, grind (arith, common_steps));
  header = IfOk-weaker c.read_header.result _ _
      (λ header read. settled c.args.slot c.args.size header (g.met.B.Bay.sound c.sync.new.self) (g.met.B.Bay.sound c.read_header.new.bay)
      (c.sync.ensures.attached.same c.args.slot ∙ c.requires.attached) c.in-Ok.ensures.done c.read_header.ensures.runs read)
      c.read_header.ensures.header;
  allowed = c.read_header.ensures.allowed;
  cause = first_of (search rules, grind (arith, common_steps));
}
