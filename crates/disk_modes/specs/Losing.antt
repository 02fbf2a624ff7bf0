-- Which extents would be lost with some disks.
use Rattle.std.specs.Prelude.{◌≡◌, ℕ, Bool, false, ◌&&◌, ◌||◌, not, find, get_or, List, Option, Some, None}
use Rattle.asm_base.specs.declared.kinds.ExtentId.{ExtentId}
use Rattle.refusal_lines.specs.declared.refusal.Refusal.{Refusal}
use Rattle.refusal_lines.specs.declared.refusal.Refusal.TheVariants as cause
use Rattle.asm_formats.specs.Items.{Home}
use Rattle.asm_formats.specs.Sets.{has_bit}
use Rattle.asm_formats.specs.Status.{Entry}
use Rattle.group_reports.specs.catalog_tables.Tables.{Catalogued}
use Rattle.group_reports.specs.extent_copies.declared.extent.Extent.{Extent}
use Rattle.group_reports.specs.extent_copies.Usable.{is_current_at, is_usable_at}
use Rattle.group_reports.specs.Extents.{all_extents}
use Rattle.disk_modes.specs.declared.losing.Counted.{Counted}
use Rattle.disk_modes.specs.declared.losing.Counted.TheVariants as counted

-- copy k counts
abbrev pub counts : Counted → List Entry → Extent → ℕ → Bool
counts (counted.Usable attached) es x k = is_usable_at attached es x k
counts counted.Current es x k = is_current_at es x k

-- the home is there, and on none of the disks
abbrev pub is_elsewhere : ℕ → Option Home → Bool
is_elsewhere disks None = false
is_elsewhere disks (Some h) = not (has_bit disks h.disk)

-- copy k counts, and is on none of the disks
abbrev pub is_surviving_copy : Counted → List Entry → ℕ → Extent → ℕ → Bool
is_surviving_copy of es disks x k = is_elsewhere disks (get_or x.homes k None) && counts of es x k

-- one of three copies passes
abbrev pub some_copy : (ℕ → Bool) → Bool
some_copy test = test 0 || (test 1 || test 2)

-- the extent has a copy that counts, and all of them are on the disks
abbrev pub is_losing : Counted → List Entry → ℕ → Extent → Bool
is_losing of es disks x = some_copy (counts of es x) && not (some_copy (is_surviving_copy of es disks x))

-- the first extent that is so
abbrev pub first_losing : Counted → List Entry → ℕ → Catalogued → Option Extent
first_losing of es disks c = find (is_losing of es disks) (all_extents c)

abbrev pub IsExtent : Option Extent → ExtentId → Type 0
IsExtent o id = (x : Extent) × (o ≡ Some x) × (id ≡ x.id)

-- refused by the first extent that would be lost
abbrev pub LosingCause : Counted → List Entry → ℕ → Catalogued → Refusal → Type 0
LosingCause of es disks c (cause.WouldLose id) = IsExtent (first_losing of es disks c) id
LosingCause of es disks c _ = ⊥
