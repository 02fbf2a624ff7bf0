-- What a new disk is given is allowed, and each body is a block.
use Rattle.std.proofs.Common.{◌≡◌, ◌^◌, true, refl}
use Rattle.std.specs.Prelude.{nat_le, nat_lt, ◌&&◌}
use Rattle.std.specs.List.{list_all}
use Rattle.std.proofs.lemmas.Bool.{le-leb, lt-ltb}
use Rattle.asm_group.specs.Names.{is_name}
use Rattle.asm_group.specs.Shape.{is_shape}
use Rattle.asm_group.specs.NewGroup.{system_templates}
use Rattle.asm_formats.specs.Regions.{most_units}
use Rattle.asm_formats.specs.Sets.{elements, has_bit}
use Rattle.asm_formats.specs.Header.{is_header}
use Rattle.asm_formats.specs.Claim.{is_claim}
use Rattle.asm_formats.specs.Status.{entry_of, is_entry, is_status}
use Rattle.asm_formats.specs.Items.{is_item}
use Rattle.mounted_groups.specs.Planned.{Plan, IsGroupPlan, header_of_plan, claim_of_plan, record_of_plan, disk_of_plan}
use Rattle.asm_images.specs.Created.{first_templates, first_settings}

module _ (plan : Plan) (is : IsGroupPlan plan) where
  id_ok : nat_lt plan.id (2 ^ 64) ≡ true
  id_ok = lt-ltb plan.id (2 ^ 64) is.id

  units_ok : nat_le plan.units most_units ≡ true
  units_ok = le-leb plan.units most_units is.most

  pub disk_ok : is_item (disk_of_plan plan) ≡ true
  unfolding is_item
  disk_ok = λ i. is.disk i && is.disk i

  pub header_ok : is_header (header_of_plan plan) ≡ true
  unfolding is_header is_shape
  header_ok = λ i. is.name i && (id_ok i && (is.disk i && is.disk i))

  pub claim_ok : is_claim (claim_of_plan plan) ≡ true
  unfolding is_claim
  claim_ok = λ i. id_ok i && true

  pub entries_ok : list_all is_entry (record_of_plan plan).entries ≡ true
  unfolding is_entry
  entries_ok = λ i. (units_ok i && true) && true

  pub status_ok : is_status (record_of_plan plan) ≡ true
  unfolding is_status is_entry entry_of elements has_bit
  status_ok = λ i. id_ok i && (((units_ok i && true) && true) && true)

pub templates_ok : is_item first_templates ≡ true
unfolding is_item is_name system_templates
templates_ok = refl

pub settings_ok : is_item first_settings ≡ true
unfolding is_item
settings_ok = refl
