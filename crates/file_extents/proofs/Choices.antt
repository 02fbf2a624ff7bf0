-- Rows of homes, up to an extent for which there is no choice.
use Rattle.std.proofs.Common.{◌≡◌, ℕ, ◌+◌, ◌<◌, take, List, length, None, sym, subst, arith}
use Rattle.std.proofs.lemmas.List.{length-take}
use Rattle.asm_base.specs.declared.kinds.ExtentId.{ExtentId}
use Rattle.asm_formats.specs.Items.{Homes}
use Rattle.catalog_tables.specs.allocator.UnitMaps.{UnitMap}
use Rattle.catalog_tables.specs.partnership.Rows.{IsRow, homes_for_extent}
use Rattle.group_pieces.specs.group_engine.Mounts.{MountedGroup}
use Rattle.file_extents.specs.Rows.{HasNoSpace, choosing}
use Rattle.file_extents.specs.declared.rows.NewExtents.{NewExtents}

-- homes were chosen for n of the extents, and there is no choice for the next one
pub not_all : (m : MountedGroup) (new : NewExtents) (n : ℕ) (units last : List UnitMap) (row : List Homes) → IsRow (choosing m new) new.first units (take n row) last
    → n < length row → length row ≡ new.count → homes_for_extent (choosing m new) last (new.first + n) ≡ None
    → (x : ExtentId) → x.file ≡ new.file → x.index ≡ new.first + n → HasNoSpace m new units x
not_all m new n units last row is within all none x file index = record {
  row = take n row;
  last = last;
  homes = is;
  file = file;
  index = let long = length-take n row in omega (arith, index, long, within);
  wanted = omega (arith, index, within, all);
  none = subst (λ (j : ℕ). homes_for_extent (choosing m new) last j ≡ None) (sym index) none;
}
