-- What a creation writes on its one disk.
use Rattle.std.specs.Prelude.{◌≡◌, ◌==◌, ℕ, ◌^◌, ◌<◌, ◌≤◌, true, false, List, [], ◌∷◌, Some}
use Rattle.asm_group.specs.declared.Mode.TheVariants.{Online}
use Rattle.asm_group.specs.Names.{Bytes, is_name}
use Rattle.asm_base.specs.Records.{DirectoryRecord as Keyed}
use Rattle.asm_formats.specs.Header.{Header, header_spelling}
use Rattle.asm_formats.specs.Claim.{Claim, claim_spelling}
use Rattle.asm_formats.specs.Status.{Status, Entry, status_spelling}
use Rattle.asm_formats.specs.Items.{Item, item_key, disk_item}
use Rattle.asm_formats.specs.Values.{value}
use Rattle.asm_formats.specs.Content.{Content}
use Rattle.asm_formats.specs.Metadata.{Metadata}
use Rattle.asm_formats.specs.Regions.{most_units}
use Rattle.asm_images.specs.Kept.{Kept}
use Rattle.mounted_groups.specs.Creating.{units_needed, usual_shape}
use Rattle.asm_images.specs.Created.{first_templates, first_settings}

-- the group's id and name, and the name and the units of its one disk
pub record Plan : Type 0 where
  pub id : ℕ
  pub name : Bytes
  pub disk : Bytes
  pub units : ℕ

pub record IsGroupPlan (plan : Plan) : Type 0 where
  pub name : is_name plan.name ≡ true
  pub disk : is_name plan.disk ≡ true
  pub id : plan.id < 2 ^ 64
  pub least : units_needed ≤ plan.units
  pub most : plan.units ≤ most_units

-- the disk is number 0, with birth 1, in a failure group of its own
abbrev pub header_of_plan : Plan → Header
header_of_plan plan = record {
  group = plan.name;
  id = plan.id;
  number = 0;
  birth = 1;
  disk = plan.disk;
  failgroup = plan.disk;
  quorum = false;
  shape = usual_shape;
}

-- the first epoch is claimed
abbrev pub claim_of_plan : Plan → Claim
claim_of_plan plan = record { id = plan.id; epoch = 1 }

abbrev pub entry_of_plan : Plan → Entry
entry_of_plan plan = record { number = 0; birth = 1; mode = Online; failgroup = 0; quorum = false; units = plan.units; since = 0; repair = 0; partners = 0 }

-- the set of disk 0 alone holds the status record and the directory
abbrev pub record_of_plan : Plan → Status
record_of_plan plan = record {
  id = plan.id;
  epoch = 1;
  turn = 1;
  gone = false;
  births = 1;
  holders = 1;
  next_holders = 0;
  directories = 1;
  entries = entry_of_plan plan ∷ [];
}

-- the directory has the disk, the system templates and the settings
abbrev pub disk_of_plan : Plan → Item
disk_of_plan plan = disk_item 0 (record { birth = 1; name = plan.disk; failgroup = plan.disk })

abbrev pub items_of_plan : Plan → List Item
items_of_plan plan = disk_of_plan plan ∷ first_templates ∷ first_settings ∷ []

-- the content of its copy, under the first commit number
abbrev pub content_of_plan : Plan → Content
content_of_plan plan = record { commit = 1; items = Some (items_of_plan plan) }

-- they are put into nothing, each as its key and its value
abbrev pub first_entries : Plan → List Keyed
first_entries plan =
    (item_key (disk_of_plan plan), value (disk_of_plan plan)) ∷ (item_key first_templates, value first_templates) ∷ (item_key first_settings, value first_settings) ∷ []

-- ---- the bodies behind the disk's gates

abbrev pub header_body : Plan → Bytes
header_body plan = header_spelling (header_of_plan plan)

abbrev pub claim_body : Plan → Bytes
claim_body plan = claim_spelling (claim_of_plan plan)

abbrev pub status_body : Plan → Bytes
status_body plan = status_spelling (record_of_plan plan)

-- what a disk of so many bytes says that has all its parts
abbrev pub metadata_of_plan : Plan → ℕ → Metadata
metadata_of_plan plan size = record {
  size = size;
  header = Some (header_of_plan plan);
  claims = Some (claim_of_plan plan) ∷ [];
  statuses = Some (record_of_plan plan) ∷ [];
  content = Some (content_of_plan plan);
  decodes = true;
}

-- What is kept of the new group: its record is complete, none was begun after it, and its one disk is in this slot.
abbrev pub kept_of_plan : ℕ → Plan → Kept
kept_of_plan slot plan = record { completed = record_of_plan plan; begun = []; slots = λ s. s == slot }
