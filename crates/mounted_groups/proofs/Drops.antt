-- A group whose record is marked gone loses its headers.
use Rattle.std.proofs.Common.{◌≡◌, ◌⊎◌, inl, inr, ⊎_elim, ℕ, ◌+◌, ◌*◌, ◌<◌, ◌≤◌, Bool, true, List, get_or, refl, sym, ap, subst, ◌∙◌, Option, Some, None, Result, Ok, Err, arith, ◌==◌}
use Rattle.std.specs.Prelude.{IsSome, OnErr, OnOk, ◌&&◌, ◌||◌, nat_le, unwrap_or}
use Rattle.std.specs.Option.{option_map}
use Rattle.std.proofs.lemmas.Bool.{and_parts, cases_lt, eqb-true, or_cases}
use Rattle.std.proofs.lemmas.Option.{none-some, same_Some}
use Rattle.bay.specs.Counts.{Rose}
use Rattle.bay.specs.Moments.{NowOnly, Runs}
use Rattle.bay.specs.State.{BayState, IsSlot, KeepsAttached, size_of}
use Rattle.bay.proofs.Calls.{attached-trans, goes_on, on_more, started, stops, widened}
use Rattle.bay.proofs.Images.{changes-same, changes-trans, changes-within, same-refl}
use Rattle.body_slot.specs.Slot.{GateOf, MayClose}
use Rattle.body_slot.specs.declared.place.Place.{Place}
use Rattle.refusal_lines.specs.declared.refusal.Refusal.{Refusal}
use Rattle.refusal_lines.specs.declared.refusal.Refusal.TheVariants as refusal
use Rattle.asm_group.specs.Shape.{Shape, is_dir_blocks, is_sector, is_shape, is_step, is_unit_size}
use Rattle.asm_formats.specs.Metadata.{header_of}
use Rattle.asm_images.specs.Kept.{header_in}
use Rattle.asm_images.proofs.Bridges.{same_disk}
use Rattle.group_recovery.specs.disk_images.Headers.{HasHeaderSlot}
use Rattle.group_engine.specs.Gone.{GoneCause, IsGone}
use Rattle.group_engine.specs.Making.{IsShut}
use Rattle.group_engine.specs.Mounts.{IsMounted, IsOwn, IsReady, IsWhole, MountedGroup, Takes, slot_at}
use Rattle.group_engine.specs.Own.{IsSameGroup, KeepsGroup, OnOwnDisks}
use Rattle.group_engine.specs.declared.access.Access.{Access}
use Rattle.group_engine.specs.declared.access.Access.TheVariants as access
use Rattle.group_engine.specs.declared.attached.Attached.{Attached}
use Rattle.status_register.specs.Registered.{Registered}
use Rattle.status_register.specs.declared.member.Member.{Member}
use Rattle.mounted_groups.specs.Dropping.{AreOut, DropGroupCause, HaveHeaders, IsOut, ChangesOnlyOnDisk}
use Rattle.group_recovery.proofs.Told.{rose_before, rose_later}

-- ---- the slots of headers

-- gates are written by one of two sectors
pub shape_sector : (s : Shape) → is_shape s ≡ true → (s.sector ≡ 512) ⊎ (s.sector ≡ 4096)
unfolding is_shape
shape_sector s is =
    let p = and_parts (is_unit_size s.au) (is_step s.step && (is_sector s.sector s.au && is_dir_blocks s.dir_blocks)) is in
    let q = and_parts (is_step s.step) (is_sector s.sector s.au && is_dir_blocks s.dir_blocks) p.1 in
    let r = and_parts (is_sector s.sector s.au) (is_dir_blocks s.dir_blocks) q.1 in
    let t = and_parts (s.sector == 512 || s.sector == 4096) (nat_le (8 * s.sector) s.au) r.0 in
    ⊎_elim (λ one. inl (eqb-true s.sector 512 one)) (λ two. inr (eqb-true s.sector 4096 two)) (or_cases (s.sector == 512) (s.sector == 4096) t.0)

module _ (m : MountedGroup) (s : BayState) (whole : IsWhole m) (ready : IsReady m s) where
  member_at : (d slot : ℕ) → slot_at m.disks d ≡ Some slot → (k : Member) × (get_or m.register.members d None ≡ Some k) × (slot ≡ k.slot)
  member_at d slot at = go (get_or m.register.members d None) refl
    where
      go : (o : Option Member) → get_or m.register.members d None ≡ o → (k : Member) × (get_or m.register.members d None ≡ Some k) × (slot ≡ k.slot)
      go None is = absurd (none-some slot (sym (whole.disks d ∙ ap (option_map (λ (x : Member). x.slot)) is) ∙ at))
      go (Some k) is = (k, is, same_Some slot k.slot (sym at ∙ (whole.disks d ∙ ap (option_map (λ (x : Member). x.slot)) is)))

  pub have_headers : HaveHeaders m s
  have_headers = record {
    own = λ d slot at. let k = member_at d slot at in (d, k.0, k.1, k.2);
    slots = λ d slot at.
        let k = member_at d slot at in
        let has = ready.register.slots d k.0 k.1 in
        record {
          attached = subst (λ (j : ℕ). IsSome (s.attached j)) (sym k.2) has.attached;
          sector_size = shape_sector m.catalog.shape whole.shape;
          long = subst (λ (j : ℕ). 40960 ≤ size_of s j) (sym k.2) has.long;
        };
    apart = λ d e slot at too.
        let k = member_at d slot at in
        let l = member_at e slot too in
        ready.register.apart d e k.0 l.0 k.1 l.1 (sym k.2 ∙ l.2);
  }

pub headers_keep : (m : MountedGroup) {s t : BayState} → KeepsAttached s t → HaveHeaders m s → HaveHeaders m t
headers_keep m {s} {t} keeps have = record {
  own = have.own;
  slots = λ d slot at.
      let has = have.slots d slot at in
      record {
        attached = subst IsSome (sym (keeps.same slot)) has.attached;
        sector_size = has.sector_size;
        long = subst (λ (o : Option ℕ). 40960 ≤ unwrap_or o 0) (sym (keeps.same slot)) has.long;
      };
  apart = have.apart;
}

module _ (old new : MountedGroup) (same : IsSameGroup old new) where
  at_old : (d slot : ℕ) → slot_at new.disks d ≡ Some slot → slot_at old.disks d ≡ Some slot
  at_old d slot at = sym (ap (λ (l : List (Option Attached)). slot_at l d) same.disks) ∙ at

  at_new : (d slot : ℕ) → slot_at old.disks d ≡ Some slot → slot_at new.disks d ≡ Some slot
  at_new d slot at = ap (λ (l : List (Option Attached)). slot_at l d) same.disks ∙ at

  own_new : (slot : ℕ) → IsOwn old slot → IsOwn new slot
  own_new slot own = (own.0, own.1, ap (λ (l : List (Option Member)). get_or l own.0 None) same.members ∙ own.2, own.3)

  own_old : (slot : ℕ) → IsOwn new slot → IsOwn old slot
  own_old slot own = (own.0, own.1, sym (ap (λ (l : List (Option Member)). get_or l own.0 None) same.members) ∙ own.2, own.3)

  pub headers_same : (s : BayState) → HaveHeaders old s → HaveHeaders new s
  headers_same s have = record {
    own = λ d slot at. own_new slot (have.own d slot (at_old d slot at));
    slots = λ d slot at. subst (λ (h : Shape). HasHeaderSlot s slot h.sector) (sym same.shape) (have.slots d slot (at_old d slot at));
    apart = λ d e slot at too. have.apart d e slot (at_old d slot at) (at_old e slot too);
  }

  -- calls on disks of the one are calls on disks of the other
  own_runs : {s t : BayState} → Runs (IsOwn new) (OnOwnDisks new) s t → Runs (IsOwn old) (OnOwnDisks old) s t
  own_runs {s} {t} run = on_more own_old (widened (λ x y change. changes-within (λ slot k. IsOwn old slot) (λ slot k. IsOwn new slot) x y (λ slot k own. own_old slot own) change) run)

  -- what such calls keep, once the group takes no calls
  pub dropped : {s m t : BayState} → KeepsGroup old new s m → (IsMounted new → ⊥) → KeepsAttached m t → Runs (IsOwn new) (OnOwnDisks new) m t → KeepsGroup old new s t
  dropped {s} {m} {t} keeps gone attached run = record {
    same = keeps.same;
    attached = attached-trans keeps.attached attached;
    runs = goes_on (changes-trans (λ slot k. IsOwn old slot)) keeps.runs (stops keeps.runs) (own_runs run);
    whole = λ mounted. absurd (gone mounted);
    ready = λ mounted. absurd (gone mounted);
  }

  pub out_of_old : (s m t : BayState) → ((slot : ℕ) → s.faults slot ≤ m.faults slot) → AreOut new 64 m t → AreOut old 64 s t
  out_of_old s m t later out d slot below at = ⊎_elim (λ rose. inl (rose_before (s.faults slot) (m.faults slot) (t.faults slot) (later slot) rose)) (λ none. inr none) (out d slot below (at_new d slot at))

-- ---- one header after another

module _ (m : MountedGroup) where
  pub one_runs : (d slot : ℕ) (place : Place) {s t : BayState} → slot_at m.disks d ≡ Some slot → Runs (IsSlot slot) (MayClose place slot) s t
      → Runs (λ k. slot_at m.disks d ≡ Some k) (ChangesOnlyOnDisk m d) s t
  one_runs d slot place {s} {t} at run = on_more (λ k is. at ∙ ap (λ (j : ℕ). Some j) (sym is))
      (widened (λ x y step. changes-within (λ k j. slot_at m.disks d ≡ Some k) (GateOf place slot) x y (λ k j inside. at ∙ ap (λ (n : ℕ). Some n) (sym inside.0)) step.elsewhere) run)

  pub no_runs : (d : ℕ) (s : BayState) → Runs (λ k. slot_at m.disks d ≡ Some k) (ChangesOnlyOnDisk m d) s s
  no_runs d s = started (λ x. changes-same (λ k j. slot_at m.disks d ≡ Some k) x x (same-refl x))

  -- the one that was closed
  pub one_out : {T E : Type 0} (d slot : ℕ) (r : Result T E) (s t : BayState) → slot_at m.disks d ≡ Some slot → OnOk r (NowOnly t (λ image. header_in image slot ≡ None))
      → OnErr r (Rose (s.faults slot) (t.faults slot)) → (k : ℕ) → slot_at m.disks d ≡ Some k → IsOut k s t
  one_out {T} {E} d slot r s t at gone cause k too = subst (λ (j : ℕ). IsOut j s t) (same_Some slot k (sym at ∙ too)) (go r gone cause)
    where
      go : (r : Result T E) → OnOk r (NowOnly t (λ image. header_in image slot ≡ None)) → OnErr r (Rose (s.faults slot) (t.faults slot)) → IsOut slot s t
      go (Ok v) gone cause = inr gone
      go (Err e) gone cause = inl cause

  -- others stay out
  still_out : (d e slot : ℕ) (s u t : BayState) → (slot_at m.disks e ≡ Some slot → ⊥) → Runs (λ k. slot_at m.disks e ≡ Some k) (ChangesOnlyOnDisk m e) u t → IsOut slot s u → IsOut slot s t
  still_out d e slot s u t other run out = ⊎_elim
      (λ rose. inl (rose_later (s.faults slot) (u.faults slot) (t.faults slot) (run.faults slot) rose))
      (λ (none : NowOnly u (λ image. header_in image slot ≡ None)). inr (record {
        now = λ y left.
            let from = (stops run).now y left in
            ap header_of (same_disk from.0 y slot (from.2.size slot) (λ k. from.2.byte slot k other)) ∙ none.now from.0 from.1;
      })) out

  pub one_more_out : (n : ℕ) (s u t : BayState) → ((d e slot : ℕ) → slot_at m.disks d ≡ Some slot → slot_at m.disks e ≡ Some slot → d ≡ e) → ((slot : ℕ) → s.faults slot ≤ u.faults slot)
      → AreOut m n s u → Runs (λ k. slot_at m.disks n ≡ Some k) (ChangesOnlyOnDisk m n) u t → ((slot : ℕ) → slot_at m.disks n ≡ Some slot → IsOut slot u t) → AreOut m (n + 1) s t
  one_more_out n s u t apart later before run now d slot below at = ⊎_elim
      (λ (lower : d < n). still_out d n slot s u t (λ too. let same = apart d n slot at too in omega (arith, same, lower)) run (before d slot lower at))
      (λ (last : n ≤ d). let same : d ≡ n = omega (arith, last, below) in
      ⊎_elim (λ rose. inl (rose_before (s.faults slot) (u.faults slot) (t.faults slot) (later slot) rose)) (λ none. inr none)
      (now slot (subst (λ (k : ℕ). slot_at m.disks k ≡ Some slot) same at)))
      (cases_lt d n)

  -- calls on one of the group's disks more
  pub one_more_run : (n : ℕ) (s u t : BayState) → ((d slot : ℕ) → slot_at m.disks d ≡ Some slot → IsOwn m slot) → Runs (IsOwn m) (OnOwnDisks m) s u
      → Runs (λ k. slot_at m.disks n ≡ Some k) (ChangesOnlyOnDisk m n) u t → Runs (IsOwn m) (OnOwnDisks m) s t
  one_more_run n s u t own before run = goes_on (changes-trans (λ slot k. IsOwn m slot)) before (stops before)
      (on_more (λ k at. own n k at) (widened (λ x y change. changes-within (λ slot k. IsOwn m slot) (λ slot k. slot_at m.disks n ≡ Some slot) x y (λ slot k at. own n slot at) change) run))

  pub no_run : (s : BayState) → Runs (IsOwn m) (OnOwnDisks m) s s
  no_run s = started (λ x. changes-same (λ slot k. IsOwn m slot) x x (same-refl x))

-- ---- refusals

-- nothing was done
pub nothing_done : (m : MountedGroup) (s : BayState) → Takes m s → KeepsGroup m m s s
nothing_done m s takes = record {
  same = record { name = refl; id = refl; shape = refl; members = refl; disks = refl; flight = inl refl };
  attached = record { same = λ slot. refl };
  runs = no_run m s;
  whole = λ mounted. (takes mounted).0;
  ready = λ mounted. (takes mounted).1;
}

-- the record wasn't written
pub end_drops : (old : MountedGroup) (contents : Bool) (new : MountedGroup) (s t : BayState) (given : Refusal) → GoneCause old new s t given → DropGroupCause old contents new s t given
end_drops old contents new s t (refusal.Dismounted by) cause = cause
end_drops old contents new s t refusal.NoMemory cause = cause
end_drops old contents new s t other cause = absurd cause

-- it took no calls
pub shut_drops : (m : MountedGroup) (contents : Bool) (s : BayState) (given : Refusal) → IsShut m.access given → DropGroupCause m contents m s s given
shut_drops m contents s given shut = go m.access refl shut
  where
    go : (a : Access) → m.access ≡ a → IsShut a given → DropGroupCause m contents m s s given
    go access.Mounted is shut = absurd shut
    go (access.Dismounted d) is shut = subst (λ (x : Refusal). DropGroupCause m contents m s s x) (sym shut) (inl is)
    go access.Closed is shut = subst (λ (x : Refusal). DropGroupCause m contents m s s x) (sym shut) is

-- the record that was written is marked gone
pub is_marked : (old new : MountedGroup) (s t : BayState) → IsGone old new s t → new.register.value.gone ≡ true
is_marked old new s t gone = ap (λ (r : Registered). r.value.gone) gone.written.register
