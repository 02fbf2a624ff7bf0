use Rattle.std.proofs.Common.{◌≡◌, drop}
use Rattle.asm_world.specs.Settings.{created_with}
use Rattle.mounted_groups.specs.attribute_values.Creations.{IsNewCreation, creation_meant}
use Rattle.new_groups.proofs.attributes.with_attributes.Given as goal

abbrev pub invariant-loop-attribute : goal.invariant-loop-attribute
invariant-loop-attribute l = record {
  rest : created_with (creation_meant l.made) (drop l.attribute-index l.attributes) ≡ created_with (creation_meant l.fn.creation) l.attributes;
  new : IsNewCreation l.made;
}
