-- Disks of a mounted group come or go.
use Rattle.std.proofs.Common.{◌≡◌, ◌≢◌, ◌⊎◌, inl, inr, ⊎_elim, ℕ, zero, suc, Bool, true, false, not, cond, List, [], ◌∷◌, length, get_or, set, refl, sym, ap, subst, ◌∙◌, Option, Some, None, arith, get_or-set_other, filter, ◌==◌}
use Rattle.std.specs.Prelude.{find}
use Rattle.std.specs.Option.{option_map}
use Rattle.std.proofs.lemmas.Bool.{cases_eq, cond-false, false≢true}
use Rattle.std.proofs.lemmas.List.{get_or-set_same}
use Rattle.std.proofs.lemmas.Option.{same_Some, none-some}
use Rattle.bay.specs.State.{BayState}
use Rattle.bay.proofs.Calls.{attached-trans}
use Rattle.refusal_lines.specs.declared.refusal.DiskRef.{DiskRef}
use Rattle.refusal_lines.specs.declared.refusal.DiskRef.TheVariants.{Number, Spelt}
use Rattle.refusal_lines.specs.declared.refusal.Refusal.{Refusal}
use Rattle.refusal_lines.specs.declared.refusal.Refusal.TheVariants as cause
use Rattle.asm_formats.specs.Status.{Entry, Status, entry_of}
use Rattle.rebalance.proofs.catalog_tables.TableItems.{from_map}
use Rattle.status_register.specs.Holders.{attached_to, is_of}
use Rattle.status_register.specs.Reaching.{Reaches}
use Rattle.status_register.specs.Registered.{is_same_birth}
use Rattle.status_register.specs.declared.member.Member.{Member}
use Rattle.status_register.proofs.Elsewhere.{attached_ready}
use Rattle.status_register.proofs.Holding.{among_below, held_below}
use Rattle.status_register.proofs.Reaching.{more_reach}
use Rattle.group_engine.specs.Commits.{DismountCause, StatusCause}
use Rattle.group_engine.specs.Members.{HasImage, HasPlace, IsLetDown, LetsGo, LettingCause, with_attached_disk, without_attached_disk}
use Rattle.group_engine.specs.Mounts.{IsMounted, IsOwn, IsReady, IsWhole, MountedGroup, Takes, slot_at}
use Rattle.group_engine.specs.Own.{KeepsGroup}
use Rattle.group_engine.specs.declared.attached.Attached.{Attached}
use Rattle.group_engine.proofs.Causes.{not_mounted, nothing_own, own_joins, run_less, run_on}

-- ---- lists of places

-- what is found where one place was set
pub set_or_was : {A : Type 0} (xs : List (Option A)) (i j : ℕ) (o : Option A) (y : A) → get_or (set xs i o) j None ≡ Some y → (get_or xs j None ≡ Some y) ⊎ ((o ≡ Some y) × (j ≡ i))
set_or_was [] i j o y is = absurd (none-some y is)
set_or_was (x ∷ xs) zero zero o y is = inr (is, refl)
set_or_was (x ∷ xs) zero (suc j) o y is = inl is
set_or_was (x ∷ xs) (suc i) zero o y is = inl is
set_or_was (x ∷ xs) (suc i) (suc j) o y is = ⊎_elim (λ was. inl was) (λ new. inr (new.0, ap suc new.1)) (set_or_was xs i j o y is)

set_none : {A : Type 0} (xs : List (Option A)) (i : ℕ) → get_or (set xs i None) i None ≡ None
set_none [] i = refl
set_none (x ∷ xs) zero = refl
set_none (x ∷ xs) (suc i) = set_none xs i

-- ---- the disks of a record are reached still

kept_reach : (places more : List (Option Member)) (r : Status) → ((i : ℕ) (m : Member) → get_or places i None ≡ Some m → m.number ≡ i → is_of r.entries m ≡ true → get_or more i None ≡ Some m)
    → Reaches places r → Reaches more r
kept_reach places more r stay reached = more_reach (attached_to places r) (attached_to more r) r
    (λ m among.
    let f = among_below places r 64 m among in
    let held = f.2 in
    held_below more r 64 f.0 m f.1 (record { there = stay f.0 m held.there held.number held.entry; number = held.number; entry = held.entry; bit = held.bit }))
    reached

-- ---- one disk more

module _ (m : MountedGroup) (x : Member) (size : ℕ) (s : BayState) (place : HasPlace m x) (image : HasImage x size s) (all : length m.register.members ≡ 64) (disks_all : length m.disks ≡ 64) where
  abbrev n : ℕ
  n = x.number

  abbrev more : List (Option Member)
  more = set m.register.members n (Some x)

  there_stays : (d : ℕ) (y : Member) → get_or m.register.members d None ≡ Some y → get_or more d None ≡ Some y
  there_stays d y is = ⊎_elim
      (λ (same : d ≡ n). absurd (none-some y (sym place.absent ∙ ap (λ (k : ℕ). get_or m.register.members k None) (sym same) ∙ is)))
      (λ other. get_or-set_other m.register.members n d (Some x) None other ∙ is)
      (cases_eq d n)

  abbrev new : MountedGroup
  new = with_attached_disk m x size

  abbrev one : Attached
  one = record { slot = x.slot; size = size }

  slots_are : (d : ℕ) → slot_at m.disks d ≡ option_map (λ (y : Member). y.slot) (get_or m.register.members d None) → slot_at new.disks d ≡ option_map (λ (y : Member). y.slot) (get_or more d None)
  slots_are d was = ⊎_elim
      (λ (same : d ≡ n). subst (λ (k : ℕ). slot_at new.disks k ≡ option_map (λ (y : Member). y.slot) (get_or more k None)) (sym same)
      (ap (option_map (λ (a : Attached). a.slot)) (get_or-set_same m.disks n (Some one) None (omega (arith, place.small, disks_all)))
      ∙ sym (ap (option_map (λ (y : Member). y.slot)) (get_or-set_same m.register.members n (Some x) None (omega (arith, place.small, all))))))
      (λ other. ap (option_map (λ (a : Attached). a.slot)) (get_or-set_other m.disks n d (Some one) None other) ∙ was
      ∙ sym (ap (option_map (λ (y : Member). y.slot)) (get_or-set_other m.register.members n d (Some x) None other)))
      (cases_eq d n)

  attached_whole : IsWhole m → IsWhole new
  attached_whole w = record {
    are_tables = w.are_tables;
    tables = w.tables;
    shape = w.shape;
    units = w.units;
    status = w.status;
    alive = w.alive;
    written = w.written;
    group = w.group;
    reached = kept_reach m.register.members more m.register.value (λ i y is number entry. there_stays i y is) w.reached;
    numbers = λ i y is. ⊎_elim (λ was. w.numbers i y was) (λ put. ap (λ (k : Member). k.number) (sym (same_Some x y put.0)) ∙ sym put.1) (set_or_was m.register.members n i (Some x) y is);
    births = λ d y e is entry. ⊎_elim
        (λ was. w.births d y e was entry)
        (λ put. ap (λ (k : Member). k.birth) (sym (same_Some x y put.0)) ∙ place.birth e (ap (λ (k : ℕ). entry_of m.register.value.entries k) (sym put.1) ∙ entry))
        (set_or_was m.register.members n d (Some x) y is);
    copies = record {
      each = λ c among. let is = w.copies.each c among in record {
        named = is.named;
        member = is.member;
        attached = there_stays c.number is.member is.attached;
        slot = is.slot;
        entry = is.entry;
        pages = is.pages;
        sector = is.sector;
      };
      all = w.copies.all;
    };
    disks = λ d. slots_are d (w.disks d);
  }

  attached_is_ready : IsReady m s → IsReady new s
  attached_is_ready r = record {
    store = r.store;
    register = attached_ready m.register x image.slots (λ i y is same. absurd (place.apart (i, y, is, sym same))) r.register;
    sizes = λ d a is. ⊎_elim
        (λ was. r.sizes d a was)
        (λ put. let same = same_Some one a put.0 in ap (λ (k : Attached). s.attached k.slot) (sym same) ∙ image.attached ∙ ap (λ (k : Attached). Some k.size) same)
        (set_or_was m.disks n d (Some one) a is);
  }

  pub attached_takes : Takes m s → Takes new s
  attached_takes takes mounted = let t = takes mounted in (attached_whole t.0, attached_is_ready t.1)

-- ---- one disk less

none_of : (entries : List Entry) (y : Member) → entry_of entries y.number ≡ None → is_of entries y ≡ true → ⊥
none_of entries y none is = false≢true (sym (ap (λ (o : Option Entry). is_same_birth (option_map (λ (e : Entry). e.birth) o) y.birth) none) ∙ is)

module _ (m : MountedGroup) (d : ℕ) (s : BayState) where
  abbrev less : List (Option Member)
  less = set m.register.members d None

  abbrev left : MountedGroup
  left = without_attached_disk m d

  was_there : {A : Type 0} (xs : List (Option A)) (i : ℕ) (y : A) → get_or (set xs d None) i None ≡ Some y → get_or xs i None ≡ Some y
  was_there xs i y is = ⊎_elim (λ was. was) (λ put. absurd (none-some y put.0)) (set_or_was xs d i None y is)

  pub left_own : (slot : ℕ) → IsOwn left slot → IsOwn m slot
  left_own slot of = (of.0, of.1, was_there m.register.members of.0 of.1 of.2, of.3)

  module _ (gone : entry_of m.register.value.entries d ≡ None) where
    other_place : (i : ℕ) (y : Member) → y.number ≡ i → is_of m.register.value.entries y ≡ true → i ≢ d
    other_place i y number entry same = none_of m.register.value.entries y (ap (entry_of m.register.value.entries) (number ∙ same) ∙ gone) entry

    stays_there : (i : ℕ) (y : Member) → get_or m.register.members i None ≡ Some y → y.number ≡ i → is_of m.register.value.entries y ≡ true → get_or less i None ≡ Some y
    stays_there i y is number entry = get_or-set_other m.register.members d i None None (other_place i y number entry) ∙ is

    left_slots : (k : ℕ) → slot_at m.disks k ≡ option_map (λ (y : Member). y.slot) (get_or m.register.members k None) → slot_at left.disks k ≡ option_map (λ (y : Member). y.slot) (get_or less k None)
    left_slots k was = ⊎_elim
        (λ (same : k ≡ d). subst (λ (j : ℕ). slot_at left.disks j ≡ option_map (λ (y : Member). y.slot) (get_or less j None)) (sym same)
        (ap (option_map (λ (a : Attached). a.slot)) (set_none m.disks d) ∙ sym (ap (option_map (λ (y : Member). y.slot)) (set_none m.register.members d))))
        (λ other. ap (option_map (λ (a : Attached). a.slot)) (get_or-set_other m.disks d k None None other) ∙ was
        ∙ sym (ap (option_map (λ (y : Member). y.slot)) (get_or-set_other m.register.members d k None None other)))
        (cases_eq k d)

    detached_whole : IsWhole m → IsWhole left
    detached_whole w = record {
      are_tables = w.are_tables;
      tables = w.tables;
      shape = w.shape;
      units = w.units;
      status = w.status;
      alive = w.alive;
      written = w.written;
      group = w.group;
      reached = kept_reach m.register.members less m.register.value stays_there w.reached;
      numbers = λ i y is. w.numbers i y (was_there m.register.members i y is);
      births = λ k y e is entry. w.births k y e (was_there m.register.members k y is) entry;
      copies = record {
        each = λ c among. let is = w.copies.each c among in record {
          named = is.named;
          member = is.member;
          attached = stays_there c.number is.member is.attached (w.numbers c.number is.member is.attached) is.entry;
          slot = is.slot;
          entry = is.entry;
          pages = is.pages;
          sector = is.sector;
        };
        all = w.copies.all;
      };
      disks = λ k. left_slots k (w.disks k);
    }

    detached_ready : IsReady m s → IsReady left s
    detached_ready r = record {
      store = r.store;
      register = record {
        slots = λ i y is. r.register.slots i y (was_there m.register.members i y is);
        apart = λ i j y z is also same. r.register.apart i j y z (was_there m.register.members i y is) (was_there m.register.members j z also) same;
      };
      sizes = λ k a is. r.sizes k a (was_there m.disks k a is);
    }

    pub detached_takes : Takes m s → Takes left s
    detached_takes takes mounted = let t = takes mounted in (detached_whole t.0, detached_ready t.1)

    pub detached_lets : Takes m s → LetsGo m left s s
    detached_lets takes = record {
      name = refl;
      id = refl;
      shape = refl;
      own = left_own;
      attached = record { same = λ k. refl };
      runs = nothing_own m s;
      whole = λ mounted. (detached_takes takes mounted).0;
      ready = λ mounted. (detached_takes takes mounted).1;
    }

  pub none_left : slot_at left.disks d ≡ None
  none_left = ap (option_map (λ (a : Attached). a.slot)) (set_none m.disks d)

-- ---- calls that may let disks go

pub keeps_lets : {a b : MountedGroup} {s t : BayState} → KeepsGroup a b s t → LetsGo a b s t
keeps_lets {a} {b} {s} {t} keeps = record {
  name = keeps.same.name;
  id = keeps.same.id;
  shape = keeps.same.shape;
  own = λ slot of. (of.0, of.1, ap (λ (l : List (Option Member)). get_or l of.0 None) (sym keeps.same.members) ∙ of.2, of.3);
  attached = keeps.attached;
  runs = keeps.runs;
  whole = keeps.whole;
  ready = keeps.ready;
}

pub lets_join : {a b c : MountedGroup} {s t u : BayState} → LetsGo a b s t → LetsGo b c t u → LetsGo a c s u
lets_join {a} {b} {c} {s} {t} {u} one two = record {
  name = two.name ∙ one.name;
  id = two.id ∙ one.id;
  shape = two.shape ∙ one.shape;
  own = λ slot of. one.own slot (two.own slot of);
  attached = attached-trans one.attached two.attached;
  runs = run_on (own_joins a) one.runs
      (run_less one.own (λ x y change. record { size = change.size; byte = λ slot k out. change.byte slot k (λ of. out (one.own slot of)) }) two.runs);
  whole = two.whole;
  ready = two.ready;
}

-- ---- causes

own_slot : (m : MountedGroup) → IsWhole m → (d slot : ℕ) → slot_at m.disks d ≡ Some slot → IsOwn m slot
own_slot m w d slot at = let f = from_map (λ (y : Member). y.slot) (get_or m.register.members d None) slot (sym (w.disks d) ∙ at) in (d, f.0, f.1, sym f.2)

module _ (a b : MountedGroup) (s t : BayState) (whole : IsWhole a) (keeps : KeepsGroup a b s t) where
  lost_lets : (by : DiskRef) → DismountCause a b s t by → IsLetDown a b s t by
  lost_lets (Number d) why = ⊎_elim
      (λ before. inl before)
      (λ now. inr (
        now.0,
        record {
          slot = now.1.slot;
          at = ap (λ (l : List (Option Attached)). slot_at l d) keeps.same.disks ∙ now.1.at;
          own = own_slot a whole d now.1.slot now.1.at;
          rose = now.1.rose;
        },
      ))
      why
  lost_lets (Spelt text) why = absurd why

  pub cause_lets : (refusal : Refusal) → StatusCause a b s t refusal → LettingCause a b s t refusal
  cause_lets (cause.Dismounted by) why = lost_lets by why
  cause_lets cause.NoMemory why = tt
  cause_lets _ why = absurd why

module _ (a b c : MountedGroup) (s t u : BayState) (one : LetsGo a b s t) (mounted : IsMounted b) where
  down_on : (by : DiskRef) → IsLetDown b c t u by → IsLetDown a c s u by
  down_on (Number d) why = ⊎_elim
      (λ before. absurd (not_mounted b d before mounted))
      (λ now. inr (
        now.0,
        record {
          slot = now.1.slot;
          at = now.1.at;
          own = one.own now.1.slot now.1.own;
          rose = omega (arith, one.runs.faults now.1.slot, now.1.rose);
        },
      ))
      why
  down_on (Spelt text) why = absurd why

  pub letting_on : (refusal : Refusal) → LettingCause b c t u refusal → LettingCause a c s u refusal
  letting_on (cause.Dismounted by) why = down_on by why
  letting_on cause.NoMemory why = tt
  letting_on _ why = absurd why

-- ---- a record without an entry

pub none_filtered : (es : List Entry) (d : ℕ) → entry_of (filter (λ (e : Entry). not (e.number == d)) es) d ≡ None
unfolding entry_of
none_filtered [] d = refl
none_filtered (e ∷ es) d = go (e.number == d) refl (none_filtered es d)
  where
    go : (b : Bool) → (e.number == d) ≡ b → find (λ (x : Entry). x.number == d) (filter (λ (x : Entry). not (x.number == d)) es) ≡ None
        → find (λ (x : Entry). x.number == d) (cond (not b) (e ∷ filter (λ (x : Entry). not (x.number == d)) es) (filter (λ (x : Entry). not (x.number == d)) es)) ≡ None
    go true is none = none
    go false is none = cond-false (e.number == d) (Some e) (find (λ (x : Entry). x.number == d) (filter (λ (x : Entry). not (x.number == d)) es)) is ∙ none
