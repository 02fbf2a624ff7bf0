-- The places of a piece lie behind the directory regions of their disks.
use Rattle.std.proofs.Common.{ℕ, ◌*◌, ◌≤◌, Some, refl, arith, mul-le-mul_right}
use Rattle.bay.specs.Image.{ChangesOnly}
use Rattle.bay.specs.State.{BayState, KeepsAttached}
use Rattle.bay.specs.Moments.{Runs}
use Rattle.bay.proofs.Calls.{started}
use Rattle.bay.proofs.Images.{changes-same, changes-within, same-refl}
use Rattle.asm_base.specs.declared.kinds.ExtentId.{ExtentId}
use Rattle.asm_formats.specs.Bytes.{block_size}
use Rattle.asm_formats.specs.Regions.{region_end, reserved_units}
use Rattle.asm_images.proofs.UserBytes.{reserved_cover, shape_au}
use Rattle.asm_formats.specs.Among.{IsAmong}
use Rattle.record_laws.proofs.catalog_laws.HavingItems.{have_items}
use Rattle.record_laws.proofs.catalog_laws.ItemLists.{items_say}
use Rattle.record_laws.specs.group_engine.Mounts.{IsReady, IsWhole, MountedGroup}
use Rattle.group_pieces.specs.declared.copies.Place.{Place}
use Rattle.group_pieces.specs.Bytes.{UserBytes, WritesBytes}
use Rattle.group_pieces.specs.Copies.{IsSlotOfPlace, PlacesOf}
use Rattle.group_pieces.specs.Usable.{FitsExtent, extent_of, places_at}
use Rattle.group_pieces.proofs.Agreeing.{item_home, raw_home}
use Rattle.group_pieces.proofs.Homes.{homes_behind}
use Rattle.group_pieces.proofs.Keeping.{writes_bytes}
use Rattle.group_pieces.proofs.Places.{place_own, some_place}

module _ (m : MountedGroup) (s : BayState) (x : ExtentId) (inner n : ℕ) (whole : IsWhole m) (ready : IsReady m s) (piece : FitsExtent m.catalog.shape x.index inner n) where
  place_behind : (p : Place) → IsAmong (places_at m x inner) (Some p) → region_end m.catalog.shape.dir_blocks * block_size ≤ p.at
  place_behind p among =
      let place = some_place m (extent_of m x) inner p among in
      let its = have_items m.catalog.tables whole.are_tables in
      let say = items_say m.catalog.tables its.0 whole.are_tables its.1 in
      let home = item_home m.catalog.tables its.0 x.file x.index place.copy place.at.home (λ c. say.homes x.file c) (raw_home m.catalog.tables x.file x.index place.copy place.at.home place.at.at) in
      let behind : reserved_units m.catalog.shape ≤ place.at.home.unit =
      homes_behind m.catalog.shape m.register.value.entries m.catalog.tables m.catalog.units its.0 x.file x.index place.copy place.at.home whole.are_tables its.1 whole.units home place.at.number in
      omega (arith, place.at.byte, reserved_cover m.catalog.shape (shape_au m.catalog.shape whole.shape), mul-le-mul_right m.catalog.shape.au behind)

  -- the bytes of the places are users' bytes
  pub place_user : (slot k : ℕ) → PlacesOf (places_at m x inner) n slot k → UserBytes m slot k
  place_user slot k inside = (place_own m s x inner n whole ready piece slot (inside.0, inside.1, inside.2.0), omega (arith, place_behind inside.0 inside.1, inside.2.1))

  -- a write at the places
  pub piece_writes : (t : BayState) → KeepsAttached s t → Runs (IsSlotOfPlace (places_at m x inner)) (ChangesOnly (PlacesOf (places_at m x inner) n)) s t → WritesBytes m (PlacesOf (places_at m x inner) n) s t
  piece_writes t attached runs = writes_bytes m s t (IsSlotOfPlace (places_at m x inner)) (PlacesOf (places_at m x inner) n) whole ready (place_own m s x inner n whole ready piece) place_user
      (λ y z change. changes-within (UserBytes m) (PlacesOf (places_at m x inner) n) y z place_user change) attached runs

  -- none
  pub piece_unwritten : WritesBytes m (PlacesOf (places_at m x inner) n) s s
  piece_unwritten = piece_writes s (record { same = λ slot. refl }) (started (λ y. changes-same (PlacesOf (places_at m x inner) n) y y (same-refl y)))
