use Rattle.std.proofs.Common.{◌≡◌, true, List, subst, sym, ◌∙◌}
use Rattle.asm_group.specs.Group.{Template}
use Rattle.asm_formats.specs.Items.{is_item, templates_item}
use Rattle.mounted_groups.proofs.FirstBodies.{templates_ok}
use Rattle.mounted_groups.proofs.first_change.first_templates.Goals as goal

pub templates_value-requires : goal.templates_value-requires
templates_value-requires c = subst (λ (ts : List Template). is_item (templates_item ts) ≡ true) (sym (c.as_slice.ensures ∙ c.in_ok-templates.ensures)) templates_ok
