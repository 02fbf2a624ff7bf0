-- A mounted group with other disks attached: it is mounted, where they are members and its parts agree.
use Rattle.std.proofs.Common.{◌≡◌, ⊎_elim, ℕ, zero, suc, Bool, true, false, ◌||◌, ◌==◌, List, [], ◌∷◌, get_or, refl, sym, ap, subst, ◌∙◌, Option, Some, None, IsTrue, ◌≢◌, inl, inr, get_or-set_other}
use Rattle.std.specs.List.{list_any}
use Rattle.std.proofs.lemmas.Bool.{eq-eqb, eqb-true, false≢true, or_cases}
use Rattle.std.proofs.lemmas.Option.{none-some, same_Some}
use Rattle.bay.specs.Image as bay
use Rattle.bay.specs.State.{BayState}
use Rattle.bay.specs.Moments.{NowOnly}
use Rattle.asm_group.specs.Group.{Group}
use Rattle.asm_formats.specs.Among.{IsAmong}
use Rattle.asm_formats.specs.Sets.{elements}
use Rattle.asm_formats.specs.Status.{Entry, Status, entry_of}
use Rattle.asm_images.specs.Bridge.{disks_in}
use Rattle.asm_images.specs.Directories.{IsNamed}
use Rattle.asm_images.specs.Kept.{IsHeld, IsMemberIn, Kept}
use Rattle.asm_images.specs.Members.{Member, all_members, within}
use Rattle.asm_images.specs.Register.{is_enough}
use Rattle.asm_images.specs.Stands.{Standing}
use Rattle.asm_images.proofs.Enough.{more_enough}
use Rattle.asm_images.proofs.Held.{complete_stands}
use Rattle.group_engine.proofs.catalog_tables.TableItems.{from_map}
use Rattle.status_register.specs.Holders.{attached_to}
use Rattle.status_register.specs.SurveyLaws.{IsMemberOn, slots_of}
use Rattle.status_register.specs.Surveys.{disk_in}
use Rattle.status_register.specs.declared.member.Member.{Member as Disk}
use Rattle.status_register.proofs.Holding.{among_below, entry_birth}
use Rattle.status_register.proofs.Meeting.{enough_there, found}
use Rattle.group_engine.specs.Members.{with_attached_disk, without_attached_disk}
use Rattle.group_engine.specs.Mounts.{AreOwn, IsReady, IsWhole, MountedGroup, Mounts}
use Rattle.group_engine.specs.declared.attached.Attached.{Attached}
use Rattle.group_engine.proofs.Causes.{ready_in_flight, whole_in_flight}
use Rattle.group_engine.proofs.Members.{set_or_was}
use Rattle.group_engine.proofs.Renewing.{among_some}
use Rattle.group_engine.proofs.Slots.{member_there}
use Rattle.record_laws.specs.Attaching.{AttachedAddsSlot, AttachedMounts, DetachedAddsNone, DetachedMounts, MountedIsKept, OtherFlightsMount, has_member_in_slot, is_at, kept_of}
use Rattle.record_laws.proofs.Getting.{is_held, some_copy}
use Rattle.record_laws.proofs.Images.{content, have}

-- ---- the slots of the attached disks

any_own : (xs : List (Option Disk)) (slot : ℕ) → list_any (is_at slot) xs ≡ true → (i : ℕ) × (k : Disk) × (get_or xs i None ≡ Some k) × (slot ≡ k.slot)
any_own [] slot is = absurd (false≢true is)
any_own (o ∷ xs) slot is = ⊎_elim (here o) (λ later. let f = any_own xs slot later in (suc f.0, f.1, f.2, f.3)) (or_cases (is_at slot o) (list_any (is_at slot) xs) is)
  where
    here : (p : Option Disk) → is_at slot p ≡ true → (i : ℕ) × (k : Disk) × (get_or (p ∷ xs) i None ≡ Some k) × (slot ≡ k.slot)
    here None at = absurd (false≢true at)
    here (Some k) at = (0, k, refl, eqb-true slot k.slot at)

or_true : (b c : Bool) → c ≡ true → (b || c) ≡ true
or_true true c is = refl
or_true false c is = is

own_any : (xs : List (Option Disk)) (slot i : ℕ) (k : Disk) → get_or xs i None ≡ Some k → slot ≡ k.slot → list_any (is_at slot) xs ≡ true
own_any [] slot i k is at = absurd (none-some k is)
own_any (o ∷ xs) slot zero k is at = λ j. (ap (is_at slot) is ∙ eq-eqb slot k.slot at) j || list_any (is_at slot) xs
own_any (o ∷ xs) slot (suc i) k is at = or_true (is_at slot o) (list_any (is_at slot) xs) (own_any xs slot i k is at)

pub slots_are_own : (m : MountedGroup) → AreOwn m (has_member_in_slot m)
slots_are_own m slot = (λ is. any_own m.register.members slot is, λ own. own_any m.register.members slot own.0 own.1 own.2 own.3)

same_bool : (b c : Bool) → (b ≡ true → c ≡ true) → (c ≡ true → b ≡ true) → b ≡ c
same_bool true c on back = sym (on refl)
same_bool false true on back = absurd (false≢true (back refl))
same_bool false false on back = refl

pub mounted_is_kept : (s : BayState) → MountedIsKept s
mounted_is_kept s n m g kept mounts = λ i. record {
  completed = mounts.completed i;
  begun = mounts.begun i;
  slots = λ slot. same_bool (kept.slots slot) (has_member_in_slot m slot)
      (λ is. (slots_are_own m slot).1 ((mounts.own slot).0 is)) (λ is. (mounts.own slot).1 ((slots_are_own m slot).0 is)) i;
}

-- ---- other disks

module _ (n : ℕ) (m : MountedGroup) (s : BayState) (g : Group) (kept : Kept) (mounts : Mounts n m s g kept) (places : List (Option Disk)) (disks : List (Option Attached)) where
  abbrev new : MountedGroup
  new = record m { register = record m.register { members = places }; disks = disks }

  abbrev r : Status
  r = m.register.value

  abbrev id : ℕ
  id = m.register.id

  module _ (whole : IsWhole new) (ready : IsReady new s) (on : NowOnly s (λ image. (i : ℕ) (k : Disk) → get_or places i None ≡ Some k → IsMemberOn n id image k)) where
    module _ (x : bay.Image) (left : s.leaves s.calls x) where
      abbrev all : List Member
      all = all_members id (disks_in n x)

      abbrev attached : List Disk
      attached = attached_to places r

      own_slots : (slot : ℕ) → slots_of attached slot ≡ true → has_member_in_slot new slot ≡ true
      own_slots slot is =
          let k = found (λ (j : Disk). j.slot == slot) attached is in
          let f = among_below places r 64 k.0 k.1 in
          own_any places slot f.0 k.0 f.2.there (sym (eqb-true k.0.slot slot k.2))

      enough : IsTrue (is_enough r (within (has_member_in_slot new) all))
      unfolding is_enough
      enough = more_enough r (slots_of attached) (has_member_in_slot new) all own_slots
          (enough_there n id x attached (λ k h. let f = among_below places r 64 k h in on.now x left f.0 k f.2.there) r whole.reached)

      -- one of its copies is on a disk that is attached
      standing : Standing id (disks_in n x) (has_member_in_slot new)
      standing =
          let d = some_copy n m s g kept mounts x left in
          let c = whole.copies.all d.0 d.1 in
          let k = whole.copies.each c.0 c.1 in
          let there = on.now x left c.0.number k.member k.attached in
          let a : Member = record { slot = k.member.slot; header = there.header; disk = disk_in x k.member.slot } in
          let seen : IsAmong all a = member_there id n k.member.slot x there.header there.inside there.header_is there.group in
          let number : there.header.number ≡ d.0 = there.number ∙ whole.numbers c.0.number k.member k.attached ∙ c.2 in
          let entry = from_map (λ (e : Entry). e.birth) (entry_of r.entries k.member.number) k.member.birth (entry_birth r.entries k.member k.entry) in
          let named : IsNamed r there.header = record {
            named = subst (λ (j : ℕ). IsAmong (elements r.directories) j) (sym number) d.1;
            entry = entry.0;
            entry_is = ap (entry_of r.entries) there.number ∙ entry.1;
            birth = entry.2 ∙ sym there.birth;
          } in
          complete_stands id (disks_in n x) (g ∷ []) r (has_member_in_slot new) a (content n m s g kept mounts x left) ((is_held n m s g kept mounts x left).sound n) mounts.whole.alive enough
          (among_some (has_member_in_slot new) all a seen (own_any places k.member.slot c.0.number k.member k.attached refl)) named (have n m s g kept mounts x left n a seen named)

      member_in : (slot : ℕ) → has_member_in_slot new slot ≡ true → IsMemberIn id x slot
      member_in slot is =
          let f = any_own places slot is in
          let there = on.now x left f.0 f.1 f.2 in
          subst (λ (j : ℕ). IsMemberIn id x j) (sym f.3) (there.header, there.header_is, there.group)

      held : IsHeld n id (g ∷ []) (kept_of new) x
      held = record { sound = (is_held n m s g kept mounts x left).sound; standing = standing; there = member_in }

    pub other_disks_mount : Mounts n new s g (kept_of new)
    other_disks_mount = record {
      whole = whole;
      ready = ready;
      represents = record { name = mounts.represents.name; shape = mounts.represents.shape; describes = mounts.represents.describes };
      own = slots_are_own new;
      completed = refl;
      begun = refl;
      register = record {
        continues = let c = mounts.register.continues in record { group = c.group; counts = c.counts; holds = c.holds; below = c.below };
        now = record { now = λ x left. let has = mounts.register.now.now x left in record { fits = has.fits; members = on.now x left; claimed = has.claimed } };
      };
      now = record { now = λ x left. held x left };
    }

-- ---- one more, and one less

pub attached_mounts : (s : BayState) → AttachedMounts s
attached_mounts s n m g kept x size mounts mounted on takes =
    let new : MountedGroup = with_attached_disk m x size in
    let t = takes mounted in
    other_disks_mount n m s g kept mounts new.register.members new.disks t.0 t.1 (record {
      now = λ image left i k is. ⊎_elim
          (λ was. (mounts.register.now.now image left).members i k was)
          (λ put. subst (λ (j : Disk). IsMemberOn n m.register.id image j) (same_Some x k put.0) (on.now image left))
          (set_or_was m.register.members x.number i (Some x) k is);
    })

pub detached_mounts : (s : BayState) → DetachedMounts s
detached_mounts s n m g kept d mounts mounted takes =
    let new : MountedGroup = without_attached_disk m d in
    let t = takes mounted in
    other_disks_mount n m s g kept mounts new.register.members new.disks t.0 t.1 (record {
      now = λ image left i k is. ⊎_elim
          (λ was. (mounts.register.now.now image left).members i k was)
          (λ put. absurd (none-some k put.0))
          (set_or_was m.register.members d i None k is);
    })

-- ---- their slots

pub attached_adds_slot : AttachedAddsSlot
attached_adds_slot m x size = record {
  still = λ absent slot has.
      let f = any_own m.register.members slot has in
      let other : f.0 ≢ x.number = λ same. none-some f.1 (sym absent ∙ ap (λ (i : ℕ). get_or m.register.members i None) (sym same) ∙ f.2) in
      own_any (with_attached_disk m x size).register.members slot f.0 f.1 (get_or-set_other m.register.members x.number f.0 (Some x) None other ∙ f.2) f.3;
  alone = λ slot has.
      let f = any_own (with_attached_disk m x size).register.members slot has in
      ⊎_elim
      (λ was. inr (own_any m.register.members slot f.0 f.1 was f.3))
      (λ put. inl (f.3 ∙ ap (λ (k : Disk). k.slot) (sym (same_Some x f.1 put.0))))
      (set_or_was m.register.members x.number f.0 (Some x) f.1 f.2);
}

pub detached_adds_none : DetachedAddsNone
detached_adds_none m d slot has =
    let f = any_own (without_attached_disk m d).register.members slot has in
    ⊎_elim (λ was. own_any m.register.members slot f.0 f.1 was f.3) (λ put. absurd (none-some f.1 put.0)) (set_or_was m.register.members d f.0 None f.1 f.2)

-- ---- the move that is on its way

pub other_flights_mount : (s : BayState) → OtherFlightsMount s
other_flights_mount s n m g kept f mounts = record {
  whole = whole_in_flight m f mounts.whole;
  ready = ready_in_flight m f s mounts.ready;
  represents = let r = mounts.represents in record { name = r.name; shape = r.shape; describes = r.describes };
  own = mounts.own;
  completed = mounts.completed;
  begun = mounts.begun;
  register = mounts.register;
  now = mounts.now;
}
