-- A disk that has left loses its header.
use Rattle.std.proofs.Common.{◌≡◌, ◌∙◌, ◌⊎◌, inl, inr, ⊎_elim, ℕ, zero, suc, ◌≤◌, Bool, true, false, List, [], ◌∷◌, get_or, refl, sym, ap, subst, Option, Some, None, ◌==◌}
use Rattle.std.specs.Prelude.{IsSome, ◌*◌, ◌&&◌, ◌||◌, nat_le, unwrap_or}
use Rattle.std.specs.List.{list_any}
use Rattle.std.specs.Option.{option_map}
use Rattle.std.proofs.lemmas.Bool.{and_parts, eq-eqb, eqb-true, or_cases, true≢false}
use Rattle.std.proofs.lemmas.Option.{none-some, same_Some}
use Rattle.bay.specs.Image.{ChangesOnly}
use Rattle.bay.specs.Image as bay
use Rattle.bay.specs.Moments.{Runs}
use Rattle.bay.specs.State.{BayState, IsSlot, KeepsAttached, size_of}
use Rattle.bay.proofs.Calls.{attached-trans, started, widened}
use Rattle.bay.proofs.Images.{changes-within}
use Rattle.body_slot.specs.Slot.{GateOf, MayClose}
use Rattle.body_slot.specs.declared.place.Place.{Place}
use Rattle.asm_group.specs.Shape.{Shape, is_dir_blocks, is_sector, is_shape, is_step, is_unit_size}
use Rattle.resync.proofs.catalog_tables.TableItems.{from_map}
use Rattle.disk_images.specs.Headers.{HasHeaderSlot}
use Rattle.resync.specs.status_register.declared.member.Member.{Member}
use Rattle.resync.specs.group_engine.Members.{LetsGo}
use Rattle.resync.specs.group_engine.Mounts.{IsOwn, IsReady, IsWhole, MountedGroup, Takes, slot_at}
use Rattle.resync.specs.group_engine.declared.attached.Attached.{Attached}
use Rattle.resync.proofs.group_engine.Causes.{own_joins, run_less, run_on}
use Rattle.resync.proofs.group_engine.Elsewhere.{ready_with_own, stays_attached, stays_own}
use Rattle.relocation.specs.Endings.{ClosesOn, is_disk_in_slot}

-- ---- its header's slot

-- gates are written by one of two sectors
shape_sector : (s : Shape) → is_shape s ≡ true → (s.sector ≡ 512) ⊎ (s.sector ≡ 4096)
unfolding is_shape
shape_sector s is =
    let p = and_parts (is_unit_size s.au) (is_step s.step && (is_sector s.sector s.au && is_dir_blocks s.dir_blocks)) is in
    let q = and_parts (is_step s.step) (is_sector s.sector s.au && is_dir_blocks s.dir_blocks) p.1 in
    let r = and_parts (is_sector s.sector s.au) (is_dir_blocks s.dir_blocks) q.1 in
    let t = and_parts (s.sector == 512 || s.sector == 4096) (nat_le (8 * s.sector) s.au) r.0 in
    ⊎_elim (λ one. inl (eqb-true s.sector 512 one)) (λ two. inr (eqb-true s.sector 4096 two)) (or_cases (s.sector == 512) (s.sector == 4096) t.0)

pub header_slot : (m : MountedGroup) (s : BayState) → IsWhole m → IsReady m s → (d slot : ℕ) → slot_at m.disks d ≡ Some slot → HasHeaderSlot s slot m.catalog.shape.sector
header_slot m s whole ready d slot at =
    let k = from_map (λ (x : Member). x.slot) (get_or m.register.members d None) slot (sym (whole.disks d) ∙ at) in
    let has = ready.register.slots d k.0 k.1 in
    record {
      attached = subst (λ (j : ℕ). IsSome (s.attached j)) k.2 has.attached;
      sector_size = shape_sector m.catalog.shape whole.shape;
      long = subst (λ (j : ℕ). 40960 ≤ size_of s j) k.2 has.long;
    }

pub header_later : {a b : MountedGroup} {s t : BayState} → LetsGo a b s t → (slot : ℕ) → HasHeaderSlot s slot a.catalog.shape.sector → HasHeaderSlot t slot b.catalog.shape.sector
header_later {a} {b} {s} {t} lets slot has = subst (λ (h : Shape). HasHeaderSlot t slot h.sector) (sym lets.shape) (record {
  attached = subst IsSome (sym (lets.attached.same slot)) has.attached;
  sector_size = has.sector_size;
  long = subst (λ (o : Option ℕ). 40960 ≤ unwrap_or o 0) (sym (lets.attached.same slot)) has.long;
})

-- ---- no attached disk is in its slot

module _ (slot : ℕ) where
  none_behind : (b rest : Bool) → (b || rest) ≡ false → rest ≡ false
  none_behind true rest is = absurd (true≢false is)
  none_behind false rest is = is

  none_in : (xs : List (Option Attached)) (i : ℕ) → list_any (is_disk_in_slot slot) xs ≡ false → option_map (λ (a : Attached). a.slot) (get_or xs i None) ≡ Some slot → ⊥
  none_in [] i none is = none-some slot is
  none_in (None ∷ xs) zero none is = none-some slot is
  none_in (Some a ∷ xs) zero none is =
      true≢false (sym (ap (λ (b : Bool). b || list_any (is_disk_in_slot slot) xs) (eq-eqb a.slot slot (same_Some a.slot slot is))) ∙ none)
  none_in (x ∷ xs) (suc i) none is = none_in xs i (none_behind (is_disk_in_slot slot x) (list_any (is_disk_in_slot slot) xs) none) is

  pub none_own : (m : MountedGroup) → IsWhole m → list_any (is_disk_in_slot slot) m.disks ≡ false → IsOwn m slot → ⊥
  none_own m whole none own =
      none_in m.disks own.0 none (whole.disks own.0 ∙ ap (option_map (λ (x : Member). x.slot)) own.2 ∙ ap (λ (k : ℕ). Some k) (sym own.3))

  -- ---- the header is closed

  pub closes_nothing : (m : MountedGroup) (s : BayState) → Takes m s → ClosesOn m slot s s
  closes_nothing m s takes = record {
    attached = record { same = λ k. refl };
    runs = started (λ x. record { size = λ k. refl; byte = λ k j out. refl });
    takes = takes;
  }

  -- no disk changes but that one
  on_slot : (place : Place) {s t : BayState} → Runs (IsSlot slot) (MayClose place slot) s t → Runs (IsSlot slot) (ChangesOnly (λ k j. IsSlot slot k)) s t
  on_slot place run = widened (λ x y step. changes-within (λ k j. IsSlot slot k) (GateOf place slot) x y (λ k j inside. inside.0) step.elsewhere) run

  pub closes : (m : MountedGroup) (place : Place) {s t : BayState} → Takes m s → (IsWhole m → list_any (is_disk_in_slot slot) m.disks ≡ false) → KeepsAttached s t → Runs (IsSlot slot) (MayClose place slot) s t → ClosesOn m slot s t
  closes m place {s} {t} takes none attached run = record {
    attached = attached;
    runs = on_slot place run;
    takes = λ mounted.
        let whole = (takes mounted).0 in (
          whole,
          ready_with_own m {s = s} {t = t} {on = IsSlot slot} {step = ChangesOnly (λ k j. IsSlot slot k)} whole (takes mounted).1 (stays_own m (stays_attached attached)) (on_slot place run)
              (λ x y change k own. record {
                size = change.size k;
                byte = λ j. change.byte k j (λ same. none_own m whole (none whole) (subst (IsOwn m) same own));
              }),
        );
  }

  -- of a disk that was the group's
  pub left_closed : {a b : MountedGroup} {s t u : BayState} → LetsGo a b s t → IsOwn a slot → ClosesOn b slot t u → LetsGo a b s u
  left_closed {a} {b} {s} {t} {u} one own two =
      let of : (k : ℕ) → IsSlot slot k → IsOwn a k = λ k same. subst (IsOwn a) (sym same) own in
      record {
        name = one.name;
        id = one.id;
        shape = one.shape;
        own = one.own;
        attached = attached-trans one.attached two.attached;
        runs = run_on (own_joins a) one.runs (run_less of (λ x y change. record { size = change.size; byte = λ k j out. change.byte k j (λ same. out (of k same)) }) two.runs);
        whole = one.whole;
        ready = λ mounted. (two.takes mounted).1;
      }
