-- The used units of each disk are those of the homes on it.
use Rattle.std.proofs.Common.{◌≡◌, ℕ, ◌+◌, Bool, true, false, List, Option, Some, sym, ap, subst, ◌∙◌, arith}
use Rattle.std.specs.Prelude.{◌&&◌, flat_map, IsSomeAnd}
use Rattle.std.specs.List.{list_all, slice_get}
use Rattle.std.proofs.lemmas.List.{length-replicate}
use Rattle.asm_group.specs.Shape.{Shape}
use Rattle.asm_formats.specs.Among.{IsAmong}
use Rattle.asm_formats.specs.Items.{Item}
use Rattle.asm_formats.specs.Regions.{reserved_units}
use Rattle.asm_formats.specs.Status.{Entry, ascends_from, is_entry}
use Rattle.asm_formats.proofs.Among.{all_among}
use Rattle.catalog.specs.asm_placement.DiskSets.{numbers}
use Rattle.catalog.specs.asm_placement.Placed.{placed}
use Rattle.catalog.specs.asm_placement.Space.{is_free_run, units_on, used_units}
use Rattle.catalog.specs.allocator.UnitMaps.{UnitMap, unused}
use Rattle.catalog.specs.partnership.UnitsOf.{AreUnits, AreUnitsOf}
use Rattle.catalog.specs.catalog_tables.Tables.{AreTables, Tables}
use Rattle.catalog.specs.catalog_tables.Placing.{HasUnits, after_homes, disk_units, homes_of, unused_maps}
use Rattle.catalog.specs.catalog_tables.Items.{AreItemsOf}
use Rattle.catalog_laws.proofs.ItemLists.{items_say}
use Rattle.catalog.proofs.catalog_tables.HomeUnits.{all_by, behind, chunks_are_homes, entry_number, units_of_entry, unused_at, unused_free, unused_none}

none_plus : (s : Shape) (items : List Item) (d : ℕ) → 0 + units_on d (placed s.step items) ≡ used_units s items d
unfolding used_units
none_plus s items d = omega arith

pub units_are : (s : Shape) (es : List Entry) (t : Tables) (ms : List UnitMap) (items : List Item) → AreTables t → AreItemsOf t items → list_all is_entry es ≡ true → ascends_from 0 (numbers es) ≡ true → HasUnits s es t ms → AreUnitsOf s items es ms
units_are s es t ms items a is ok up has = all_by (λ e. IsSomeAnd (slice_get ms e.number) (AreUnits s items e)) es one where
  homes : placed s.step items ≡ flat_map (homes_of s.step) t.extents
  homes = (items_say t items a is).placed s.step

  after : after_homes (unused_maps s es) (placed s.step items) ≡ Some ms
  after = ap (after_homes (unused_maps s es)) homes ∙ sym (chunks_are_homes s.step t.extents (unused_maps s es)) ∙ has

  one : (e : Entry) → IsAmong es e → IsSomeAnd (slice_get ms e.number) (AreUnits s items e)
  one e h =
      let small = entry_number e (all_among is_entry es e ok h) in
      let units = units_of_entry es 0 e up h in
      let m = unused (reserved_units s) (disk_units es e.number) in
      let b = behind (placed s.step items) (unused_maps s es) ms e.number (unused (reserved_units s) (disk_units es e.number)) (length-replicate (disk_units es e.number) false) (unused_at s es e.number small) after in
      subst (λ (o : Option UnitMap). IsSomeAnd o (AreUnits s items e)) (sym b.there) (record {
        first = b.is.first;
        units = b.is.units ∙ units;
        free = λ k low high. b.is.free k ∙ ap (λ (x : Bool). x && is_free_run (placed s.step items) e.number 1 k) (unused_free (reserved_units s) (disk_units es e.number) k low (omega (arith, units, high)));
        used = b.is.used ∙ ap (λ (n : ℕ). n + units_on e.number (placed s.step items)) (unused_none (reserved_units s) (disk_units es e.number)) ∙ none_plus s items e.number;
      })
