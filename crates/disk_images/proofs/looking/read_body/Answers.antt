use Rattle.std.proofs.Common.{◌∙◌, sym, arith, rules}
use Rattle.std.proofs.lemmas.Grind.{common_steps}
use Rattle.asm_images.proofs.Codecs.{header_spelled}
use Rattle.disk_images.proofs.looking.read_body.Goals as goal

pub returns-in-Ok : goal.returns-in-Ok
returns-in-Ok g c = record {
  attached = first_of (search rules, grind (arith, common_steps));
  runs = first_of (search rules, grind (arith, common_steps));
  calls = first_of (search rules, grind (arith, common_steps));
  written = first_of (search rules, grind (arith, common_steps));
  header = first_of (search rules, grind (arith, common_steps));
  allowed = λ h is. (header_spelled _ h (sym c.in-Ok.ensures ∙ is)).allowed;
  cause = first_of (search rules, grind (arith, common_steps));
}
