-- A write of bytes of an attached disk behind its directory region.
use Rattle.std.proofs.Common.{◌≡◌, ℕ, ◌+◌, ◌*◌, ◌%◌, ◌≤◌, sym, subst, Option, Some, refl, arith, mul-le-mul_right, add-mul}
use Rattle.std.specs.Prelude.{IsSome, unwrap_or}
use Rattle.bay.specs.Image.{ChangesOnly, Range}
use Rattle.bay.specs.State.{BayState, IsSlot, KeepsAttached, size_of}
use Rattle.bay.specs.Moments.{Runs}
use Rattle.bay.proofs.Images.{changes-within}
use Rattle.asm_formats.specs.Items.{Home}
use Rattle.asm_images.proofs.UserBytes.{reserved_cover, shape_au}
use Rattle.record_laws.specs.group_engine.Mounts.{IsOwn, IsReady, IsWhole, MountedGroup, slot_at}
use Rattle.group_pieces.specs.declared.copies.Place.{Place}
use Rattle.group_pieces.specs.Bytes.{UserBytes, WritesBytes}
use Rattle.group_pieces.specs.Spare.{IsRunAt, IsRunOf}
use Rattle.group_pieces.proofs.Keeping.{writes_bytes}
use Rattle.group_pieces.proofs.Places.{on_sectors, own_slot, size_is, unit_sectors}

-- the place of a run of bytes of some units
pub run_place : (m : MountedGroup) → IsWhole m → (h : Home) (units inner n slot at : ℕ) → IsRunOf m h units inner n → slot_at m.disks h.disk ≡ Some slot → at ≡ h.unit * m.catalog.shape.au + inner
    → IsRunAt m n (record { disk = h.disk; slot = slot; at = at })
run_place m whole h units inner n slot at run slot_is at_is = record {
  slot = slot_is;
  size = run.size;
  sized = run.sized;
  behind = omega (arith, at_is, reserved_cover m.catalog.shape (shape_au m.catalog.shape whole.shape), mul-le-mul_right m.catalog.shape.au run.reserved);
  inside = omega (arith, at_is, run.room, run.inside, add-mul h.unit units m.catalog.shape.au);
  sectors = (subst (λ (k : ℕ). k % 512 ≡ 0) (sym at_is) (on_sectors h.unit m.catalog.shape.au inner (unit_sectors m.catalog.shape whole.shape) run.sectors.0), run.sectors.1);
}

module _ (m : MountedGroup) (s : BayState) (p : Place) (n : ℕ) (whole : IsWhole m) (ready : IsReady m s) (run : IsRunAt m n p) where
  sized : s.attached p.slot ≡ Some run.size
  sized = size_is m s ready p.disk p.slot run.size run.slot run.sized

  pub run_attached : IsSome (s.attached p.slot)
  run_attached = subst (λ (o : Option ℕ). IsSome o) (sym sized) refl

  pub run_inside : p.at + n ≤ size_of s p.slot
  run_inside = subst (λ (o : Option ℕ). p.at + n ≤ unwrap_or o 0) (sym sized) run.inside

  own : IsOwn m p.slot
  own = own_slot m whole p.disk p.slot run.slot

  user : (j k : ℕ) → Range p.slot p.at n j k → UserBytes m j k
  user j k inside = (subst (IsOwn m) (sym inside.0) own, omega (arith, run.behind, inside.1))

  pub run_writes : (t : BayState) → KeepsAttached s t → Runs (IsSlot p.slot) (ChangesOnly (Range p.slot p.at n)) s t → WritesBytes m (Range p.slot p.at n) s t
  run_writes t attached runs = writes_bytes m s t (IsSlot p.slot) (Range p.slot p.at n) whole ready (λ j is. subst (IsOwn m) (sym is) own) user
      (λ x y change. changes-within (UserBytes m) (Range p.slot p.at n) x y user change) attached runs
