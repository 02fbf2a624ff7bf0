-- What a look at an image shows.
use Rattle.std.specs.Prelude.{◌≡◌, ◌⊎◌, ◌<◌, ◌≤◌, ◌*◌, ◌/◌, ◌^◌, ⊤, ℕ, List, [], ◌∷◌, Option, Some, None}
use Rattle.std.specs.Option.{option_map}
use Rattle.bay.specs.Image.{Image}
use Rattle.bay.specs.Counts.{Rose}
use Rattle.asm_group.specs.Names.{Bytes}
use Rattle.asm_group.specs.Refusal as r
use Rattle.refusal_lines.specs.declared.refusal.Refusal.{Refusal}
use Rattle.refusal_lines.specs.Refusals.{meaning_of}
use Rattle.asm_formats.specs.Header.{Header}
use Rattle.asm_formats.specs.Regions.{most_units}
use Rattle.asm_images.specs.Kept.{header_in}
use Rattle.mounted_groups.specs.Found.{Counts, ToldByCounts}
use Rattle.mounted_groups.specs.declared.find.Probe.{Probe}
use Rattle.mounted_groups.specs.declared.find.Probe.TheVariants as probe
use Rattle.mounted_groups.specs.Creating.{units_needed}

-- the id in the open header of the disk in a slot
abbrev pub id_in : Image → ℕ → Option ℕ
id_in image slot = option_map (λ (h : Header). h.id) (header_in image slot)

-- what is known of a slot's image, from one moment to another, of which a look has shown this
abbrev pub IsShown : ℕ → Probe → Counts → Counts → Type 0
IsShown slot probe.Absent s t = Rose (s.faults slot) (t.faults slot)
IsShown slot (probe.Unread size) s t = (t.attached slot ≡ Some size) × Rose (s.faults slot) (t.faults slot)
IsShown slot (probe.Read size id) s t = (t.attached slot ≡ Some size) × ToldByCounts s t (λ image. id_in image slot ≡ id)

-- the id that a look has shown
abbrev pub ids_of : Probe → List ℕ
ids_of (probe.Read size (Some id)) = id ∷ []
ids_of other = []

-- the size that a look has shown
abbrev pub size_shown : Probe → ℕ
size_shown probe.Absent = 0
size_shown (probe.Unread size) = size
size_shown (probe.Read size id) = size

-- A disk with so many units of 1 MB can be given to a new group: its header names none.
pub record IsUsableProbe (p : Probe) (units : ℕ) : Type 0 where
  pub size : ℕ
  pub free : p ≡ probe.Read size None
  pub least : units_needed ≤ units
  pub most : units ≤ most_units
  pub inside : units * 1048576 ≤ size

-- why a disk of this path and name can't be given to a new group
abbrev pub IsUnusable : Bytes → Bytes → Probe → r.Refusal → Type 0
IsUnusable path disk p (r.NoDisk text) = (text ≡ path) × (p ≡ probe.Absent)
IsUnusable path disk p (r.WriteFault text) = (text ≡ disk) × (size : ℕ) × (p ≡ probe.Unread size)
IsUnusable path disk p (r.DiskTaken text) = (text ≡ path) × (size : ℕ) × (id : ℕ) × (p ≡ probe.Read size (Some id))
IsUnusable path disk p (r.TooSmall text need) = (text ≡ disk) × (need ≡ units_needed) × (size : ℕ) × (p ≡ probe.Read size None) × (size / 2 ^ 20 < units_needed)
IsUnusable path disk p r.NoMemory = ⊤
IsUnusable path disk p other = ⊥

-- It says this, or want of memory.
abbrev pub SaysRefusal : r.Refusal → Refusal → Type 0
SaysRefusal wanted given = (meaning_of (λ any. []) given ≡ wanted) ⊎ (meaning_of (λ any. []) given ≡ r.NoMemory)
