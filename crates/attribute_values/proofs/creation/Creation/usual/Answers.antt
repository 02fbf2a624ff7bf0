use Rattle.std.proofs.Common.{ap}
use Rattle.template_directory.specs.asm_formats.Items.{Settings}
use Rattle.attribute_values.proofs.CreationLaws.{usual_allowed}
use Rattle.attribute_values.proofs.creation.Creation.usual.Goals as goal

pub returns-clause-new : goal.returns-clause-new
returns-clause-new c = record {
  allowed = usual_allowed c.usual.result c.usual.ensures;
  incarnation = ap (λ (s : Settings). s.incarnation) c.usual.ensures;
}
