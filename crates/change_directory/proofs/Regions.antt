-- The calls on a copy change nothing outside its directory region.
use Rattle.std.proofs.Common.{◌≡◌, ◌⊎◌, inl, inr, ℕ, ◌+◌, ◌<◌, ◌≤◌, List, length, arith}
use Rattle.std.specs.Prelude.{IsTrue}
use Rattle.std.proofs.lemmas.List.{length-map}
use Rattle.bay.specs.Image.{Image, ChangesOnly}
use Rattle.bay.proofs.Images.{changes-within, changes-same}
use Rattle.body_slot.specs.Slot.{GateOf, PlaceOf}
use Rattle.asm_base.specs.declared.block.Block.{Block}
use Rattle.asm_formats.specs.Regions.{region_start}
use Rattle.asm_formats.specs.Logs.{Log, PageImage, head_of_log}
use Rattle.asm_formats.proofs.LogReading.{log_head_len}
use Rattle.change_directory.specs.declared.copy.DirCopy.{DirCopy}
use Rattle.change_directory.specs.declared.copy.LogSlot.{LogSlot}
use Rattle.change_directory.specs.declared.copy.LogSlot.TheVariants.{First, Second}
use Rattle.change_directory.specs.Places.{gate_of, log_place, HomesAt}
use Rattle.change_directory.specs.Logs.{log_of, are_pages, spare_in}
use Rattle.asm_base.specs.Blocks.{image_of_page}
use Rattle.change_directory.specs.Changes.{MayLog, HasLogged}
use Rattle.change_directory.specs.Homes.{HomesOf}
use Rattle.change_directory.specs.Formatting.{LogGatesOf, FormatOf, spare_closing, other_closing, MayFormat}
use Rattle.change_directory.specs.Laws.{ArePut}
use Rattle.change_directory.specs.StoreLaws.{IsShaped, RegionOf, StepsStayInside}
use Rattle.change_directory.proofs.Keeping.{in_homes}
use Rattle.change_directory.proofs.Spares.{slot_inside}

low_gate : (copy : DirCopy) (log : LogSlot) → region_start ≤ gate_of copy log
low_gate copy First = omega arith
low_gate copy Second = omega arith

pub short_sector : (copy : DirCopy) → IsShaped copy → copy.sector ≤ 4096
short_sector copy shaped = go shaped.sector
  where
    go : (copy.sector ≡ 512) ⊎ (copy.sector ≡ 4096) → copy.sector ≤ 4096
    go (inl e) = omega (arith, e)
    go (inr e) = omega (arith, e)

pub some_sector : (copy : DirCopy) → IsShaped copy → 0 < copy.sector
some_sector copy shaped = go shaped.sector
  where
    go : (copy.sector ≡ 512) ⊎ (copy.sector ≡ 4096) → 0 < copy.sector
    go (inl e) = omega (arith, e)
    go (inr e) = omega (arith, e)

module _ (copy : DirCopy) (least : 128 ≤ copy.dir_blocks) (short : copy.sector ≤ 4096) where
  -- a log slot of so many pages lies in the region
  place_inside : (log : LogSlot) (n : ℕ) → n ≤ 64 → (s k : ℕ) → PlaceOf (log_place copy log (n + 1)) copy.slot s k → RegionOf copy s k
  place_inside log n few s k (inl gate) = (gate.0, omega (arith, low_gate copy log, gate.1), omega (arith, slot_inside copy log least, gate.2, short))
  place_inside log n few s k (inr body) = (body.0, omega (arith, low_gate copy log, body.1), omega (arith, slot_inside copy log least, body.2, few))

  gate_inside : (log : LogSlot) (s k : ℕ) → GateOf (log_place copy log 65) copy.slot s k → RegionOf copy s k
  gate_inside log s k gate = (gate.0, omega (arith, low_gate copy log, gate.1), omega (arith, slot_inside copy log least, gate.2, short))

  homes_inside : (s k : ℕ) → HomesAt copy s k → RegionOf copy s k
  homes_inside s k inside = (inside.0, omega (arith, inside.1), omega (arith, inside.2))

  gates_inside : (s k : ℕ) → LogGatesOf copy s k → RegionOf copy s k
  gates_inside s k inside = gate_inside inside.0 s k inside.1

  format_inside : (s k : ℕ) → FormatOf copy s k → RegionOf copy s k
  format_inside s k (inl gates) = gates_inside s k gates
  format_inside s k (inr homes) = homes_inside s k homes

  formatting : (x y : Image) → MayFormat copy x y → ChangesOnly (RegionOf copy) x y
  formatting x y (inl (spare_closing close)) = changes-within (RegionOf copy) (GateOf (log_place copy (spare_in copy x) 65) copy.slot) x y (gate_inside (spare_in copy x)) close.elsewhere
  formatting x y (inl (other_closing shut shows elsewhere)) = changes-within (RegionOf copy) (LogGatesOf copy) x y gates_inside elsewhere
  formatting x y (inr erasing) = changes-within (RegionOf copy) (FormatOf copy) x y format_inside erasing.elsewhere

few_pages : (copy : DirCopy) (number : ℕ) (pages : List (ℕ × Block)) → ArePut copy number pages → length pages ≤ 64
few_pages copy number pages put =
    let log : Log = log_of number pages in
    omega (arith, log_head_len copy.dir_blocks (head_of_log log) put.head, length-map log.images (λ (i : PageImage). i.0), length-map pages image_of_page)

pub steps_stay_inside : StepsStayInside
steps_stay_inside = record {
  logging = logging;
  logged = logged;
  homing = homing;
  homed = λ copy pages x y ok did. homing copy pages x y ok did.elsewhere;
  formatting = λ copy x y shaped step. formatting copy shaped.least (short_sector copy shaped) x y step;
  formatted = λ copy x y shaped did.
      changes-within (RegionOf copy) (FormatOf copy) x y (format_inside copy shaped.least (short_sector copy shaped)) did.elsewhere;
} where
  logged : (copy : DirCopy) (number : ℕ) (pages : List (ℕ × Block)) (x y : Image) → ArePut copy number pages → HasLogged copy number pages x y → ChangesOnly (RegionOf copy) x y
  logged copy number pages x y put did =
      changes-within (RegionOf copy) (PlaceOf (log_place copy (spare_in copy x) (length pages + 1)) copy.slot) x y
      (place_inside copy put.least put.sector (spare_in copy x) (length pages) (few_pages copy number pages put)) did.elsewhere

  logging : (copy : DirCopy) (number : ℕ) (pages : List (ℕ × Block)) (x y : Image) → ArePut copy number pages → MayLog copy number pages x y → ChangesOnly (RegionOf copy) x y
  logging copy number pages x y put (inl same) = changes-same (RegionOf copy) x y same
  logging copy number pages x y put (inr step) =
      changes-within (RegionOf copy) (PlaceOf (log_place copy (spare_in copy x) (length pages + 1)) copy.slot) x y
      (place_inside copy put.least put.sector (spare_in copy x) (length pages) (few_pages copy number pages put)) step.elsewhere

  homing : (copy : DirCopy) (pages : List (ℕ × Block)) (x y : Image) → IsTrue (are_pages copy.dir_blocks pages) → ChangesOnly (HomesOf copy pages) x y → ChangesOnly (RegionOf copy) x y
  homing copy pages x y ok step = changes-within (RegionOf copy) (HomesAt copy) x y
      (λ s k inside. (inside.0, omega (arith, inside.1), omega (arith, inside.2))) (in_homes copy pages ok x y step)
