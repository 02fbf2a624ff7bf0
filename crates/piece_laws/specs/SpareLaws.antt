-- Bytes that no current copy has: those of free units, and of copies that are marked stale.
use Rattle.std.specs.Prelude.{◌≡◌, ◌⊎◌, ℕ, ◌+◌, ◌*◌, ◌<◌, ◌≤◌, true, List, [], ◌∷◌, Some}
use Rattle.bay.specs.Image as bay
use Rattle.bay.specs.Image.{Range, ChangesOnly}
use Rattle.asm_group.specs.Group.{Group}
use Rattle.asm_placement.specs.Layout.{units_of}
use Rattle.asm_placement.specs.Tables.{home_of, is_stale}
use Rattle.asm_formats.specs.Header.{Header}
use Rattle.asm_formats.specs.Regions.{reserved_units}
use Rattle.asm_formats.specs.Status.{Status}
use Rattle.asm_formats.specs.Items.{Item, Home}
use Rattle.asm_images.specs.Bridge.{disks_in}
use Rattle.asm_images.specs.Steps.{IsOpen}
use Rattle.asm_images.specs.WriteLaws.{AreApart}
use Rattle.asm_images.specs.Kept.{Kept, header_in, IsHeld}

-- n bytes from byte `at` on of the disk in a slot, which lie in a run of units of disk d
pub record IsInRun (slots id au : ℕ) (slot d unit len at n : ℕ) (image : bay.Image) : Type 0 where
  pub inside : slot < slots
  pub header : Header
  pub found : header_in image slot ≡ Some header
  pub id_is : header.id ≡ id
  pub number : header.number ≡ d
  pub low : unit * au ≤ at
  pub high : at + n ≤ (unit + len) * au

-- under each open content, every home on the disk lies apart from the run, or is that of a copy that is marked stale
abbrev pub IsSpareRun : (id step : ℕ) → Kept → (d unit len : ℕ) → bay.Image → Type 0
IsSpareRun id step kept d unit len image =
    (slots f i copy : ℕ) (r : Status) (items : List Item) (k : Home) → IsOpen id (disks_in slots image) (Some kept.completed) kept.begun r items
    → home_of items f i copy ≡ Some k → k.disk ≡ d → AreApart unit len k.unit (units_of step i) ⊎ (is_stale items f i copy ≡ true)

-- While bytes of such a run are written, however torn, the group is held.
abbrev pub SpareWriteKeeps : Type 0
SpareWriteKeeps =
    (n id : ℕ) (g : Group) (kept : Kept) (slot d unit len at count : ℕ) (old new : bay.Image) → IsHeld n id (g ∷ []) kept old
    → IsInRun n id g.shape.au slot d unit len at count old → reserved_units g.shape ≤ unit → IsSpareRun id g.shape.step kept d unit len old
    → ChangesOnly (Range slot at count) old new → IsHeld n id (g ∷ []) kept new
