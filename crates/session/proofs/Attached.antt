-- Images that are attached to one group of the session.
use Rattle.std.proofs.Common.{◌≡◌, ◌⊎◌, ⊎_elim, inl, inr, ℕ, zero, suc, Bool, true, false, List, [], ◌∷◌, map, Option, Some, None, Result, refl, sym, ◌∙◌, ap, subst, ◌||◌, ◌==◌}
use Rattle.std.specs.Prelude.{⊤, IfErr, OnOk, if◌then◌else◌}
use Rattle.std.specs.List.{list_any}
use Rattle.std.specs.Map.{lookup, set_value}
use Rattle.std.proofs.lemmas.Bool.{eqb-true, false≢true}
use Rattle.bay.specs.Image.{Image}
use Rattle.bay.specs.Moments.{Runs}
use Rattle.bay.specs.State.{BayState}
use Rattle.bay.proofs.Calls.{started}
use Rattle.refusal_lines.specs.declared.refusal.Refusal.{Refusal}
use Rattle.asm_group.specs.Names.{Bytes}
use Rattle.asm_formats.specs.Among.{IsAmong}
use Rattle.asm_world.specs.World.{SessionEntry}
use Rattle.group_contents.proofs.catalog_tables.TableItems.{from_map}
use Rattle.disk_joining.specs.Taking.{IsApart, TakesIn}
use Rattle.session_claims.specs.mounted_groups.Holding.{IsHeldSlot, SameHeld}
use Rattle.group_contents.specs.group_engine.Mounts.{IsMounted, IsOwn, IsWhole, MountedGroup, Takes, slot_at}
use Rattle.group_contents.specs.group_engine.declared.attached.Attached.{Attached}
use Rattle.session.specs.declared.entry.Entry.{Entry}
use Rattle.session.specs.Entries.{entry_view, group_view}
use Rattle.session.specs.Joining.{JoinsIn, others_of, without_own}
use Rattle.session.specs.Naming.{CarriesOn, IsMountedName, IsOutCause, group_among, with_group_named}
use Rattle.session.specs.Sessions.{AreReady, AreTwoApart, slots_in}
use Rattle.session.proofs.Carrying.{carries_none, if_err, mounted_or, on_ok, seen}
use Rattle.session.proofs.Entries.{sought}
use Rattle.session.proofs.Grouped.{Pairs, entry_on, group_found, groups_set, keys_set, paired, same_set}
use Rattle.session.proofs.Ready.{Covers, among_with, apart_with, found_among, or_left, or_right, own_listed, still, turned}

-- ---- slots past the disks of a group

or_either : (a b : Bool) → (a || b) ≡ true → (a ≡ true) ⊎ (b ≡ true)
or_either true b is = inl refl
or_either false b is = inr is

in_others_by : (t : Bool) (own : List ℕ) (first slot : ℕ) (rest : List ℕ) → list_any (λ s. s == first) own ≡ t → (IsHeldSlot own slot → ⊥)
    → (IsHeldSlot rest slot → IsHeldSlot (without_own own rest) slot) → IsHeldSlot (first ∷ rest) slot → IsHeldSlot (if t then without_own own rest else first ∷ without_own own rest) slot
in_others_by true own first slot rest is none more held = ⊎_elim
    (λ same. absurd (none (subst (λ (k : ℕ). IsHeldSlot own k) (eqb-true first slot same) is)))
    more
    (or_either (first == slot) (list_any (λ s. s == slot) rest) held)
in_others_by false own first slot rest is none more held = ⊎_elim
    (λ same. or_left (first == slot) (list_any (λ s. s == slot) (without_own own rest)) same)
    (λ later. or_right (first == slot) (list_any (λ s. s == slot) (without_own own rest)) (more later))
    (or_either (first == slot) (list_any (λ s. s == slot) rest) held)

-- a slot that is none of the group's stays among the others
in_others : (own slots : List ℕ) (slot : ℕ) → (IsHeldSlot own slot → ⊥) → IsHeldSlot slots slot → IsHeldSlot (without_own own slots) slot
in_others own [] slot none held = held
in_others own (first ∷ rest) slot none held =
    in_others_by (list_any (λ s. s == first) own) own first slot rest refl none (in_others own rest slot none) held

not_others_by : (t : Bool) (own : List ℕ) (first slot : ℕ) (rest : List ℕ) → list_any (λ s. s == first) own ≡ t
    → (IsHeldSlot (without_own own rest) slot → IsHeldSlot own slot → ⊥) → IsHeldSlot (if t then without_own own rest else first ∷ without_own own rest) slot → IsHeldSlot own slot → ⊥
not_others_by true own first slot rest is more held mine = more held mine
not_others_by false own first slot rest is more held mine = ⊎_elim
    (λ same. let here : list_any (λ s. s == first) own ≡ true = subst (λ (k : ℕ). IsHeldSlot own k) (sym (eqb-true first slot same)) mine in absurd (false≢true (sym is ∙ here)))
    (λ later. more later mine)
    (or_either (first == slot) (list_any (λ s. s == slot) (without_own own rest)) held)

-- and none of the group's does
not_others : (own slots : List ℕ) (slot : ℕ) → IsHeldSlot (without_own own slots) slot → IsHeldSlot own slot → ⊥
not_others own [] slot held mine = absurd (false≢true held)
not_others own (first ∷ rest) slot held mine =
    not_others_by (list_any (λ s. s == first) own) own first slot rest refl (not_others own rest slot) held mine

-- a slot among those of disks is that of one of them
slot_found : (disks : List (Option Attached)) (slot : ℕ) → IsHeldSlot (slots_in disks) slot → (d : ℕ) × (slot_at disks d ≡ Some slot)
slot_found [] slot held = absurd (false≢true held)
slot_found (None ∷ disks) slot held = let later = slot_found disks slot held in (suc later.0, later.1)
slot_found (Some a ∷ disks) slot held = ⊎_elim
    (λ same. (zero, ap (λ (k : ℕ). Some k) (eqb-true a.slot slot same)))
    (λ more. let later = slot_found disks slot more in (suc later.0, later.1))
    (or_either (a.slot == slot) (list_any (λ s. s == slot) (slots_in disks)) held)

listed_own : (m : MountedGroup) (slot : ℕ) → IsWhole m → IsHeldSlot (slots_in m.disks) slot → IsOwn m slot
listed_own m slot whole held =
    let d = slot_found m.disks slot held in
    let k = from_map _ _ slot (sym (whole.disks d.0) ∙ d.1) in
    (d.0, k.0, k.1, sym k.2)

-- no attached disk of the group is in the slots of the others
pub apart_from : (m : MountedGroup) (slots : List ℕ) → IsWhole m → IsApart (others_of m.disks slots) m
apart_from m slots whole slot own held = not_others (slots_in m.disks) slots slot held (own_listed m slot whole own)

pub apart_so : (m : MountedGroup) (disks : List (Option Attached)) (slots held : List ℕ) → disks ≡ m.disks → held ≡ others_of disks slots → IsWhole m → IsApart held m
apart_so m disks slots held same is whole =
    subst (λ (h : List ℕ). IsApart h m) (sym (is ∙ ap (λ (ds : List (Option Attached)). others_of ds slots) same)) (apart_from m slots whole)

same_held : (held : List ℕ) (x : Image) → SameHeld held x x
same_held held x slot is = record { size = refl; byte = λ k. refl }

no_calls : (held : List ℕ) (s : BayState) → Runs (λ slot. ⊤) (SameHeld held) s s
no_calls held s = started (same_held held)

-- nothing is attached
pub takes_none : (held : List ℕ) (m : MountedGroup) (s : BayState) → Takes m s → IsApart held m → TakesIn held m m s s
takes_none held m s takes apart = record {
  name = refl;
  id = refl;
  shape = refl;
  own = apart;
  attached = record { stays = λ slot size at. at };
  spares = no_calls held s;
  whole = λ mounted. (takes mounted).0;
  ready = λ mounted. (takes mounted).1;
}

-- ---- the groups of the session

-- Images were attached to the mounted group of a name, past the slots of the others: all groups take the next call.
pub joined_ready : (es : List SessionEntry) (groups : List MountedGroup) (name : Bytes) (a b : MountedGroup) (all : List ℕ) {s t : BayState} → Covers groups all → group_among es groups name ≡ Some a → IsMounted a
    → TakesIn (others_of a.disks all) a b s t → AreReady groups s → AreReady (with_group_named es groups name b) t
joined_ready es groups name a b all {s} {t} covers is mounted takes ready =
    let whole : IsWhole a = (ready.takes a (found_among es groups name a is) mounted).0 in
    let beside : (g : MountedGroup) → IsAmong groups g → AreTwoApart g a → IsMounted g → (slot : ℕ) → IsOwn g slot → IsHeldSlot (others_of a.disks all) slot =
    λ g among apart on slot own. in_others (slots_in a.disks) all slot (λ listed. apart on mounted slot own (listed_own a slot whole listed)) (covers g slot among on own) in
    record {
      takes = λ m among. ⊎_elim
          (λ new. subst (λ (x : MountedGroup). Takes x t) (sym new) (λ on. (takes.whole on, takes.ready on)))
          (λ old. still m (ready.takes m old.0)
          (λ slot size on own at. takes.attached.stays slot size at)
          takes.spares
          (λ on x y step slot own. step slot (beside m old.0 (turned a m old.1) on slot own)))
          (among_with name a b es groups ready.apart m is among);
      apart = apart_with name a b es groups (λ g among apart on_g on_b slot own_g own_b. takes.own slot own_b (beside g among apart on_g slot own_g)) ready.apart is;
    }

-- Images are attached to the group of one entry, or nothing is done where it takes no calls: `es` and `fs` are the map before and after.
module _ {B : Type 0} (state : B → BayState) (b b' : B) (name : Bytes) (v w : Entry) (es fs : Pairs) (place : List Bytes) (given time : ℕ) (is : fs ≡ set_value (sought name) es w) (found : lookup (sought name) es ≡ Some v)
    (id : w.id ≡ v.id) (all : List ℕ) (covers : Covers (map group_view es) all) (keeps : IsMounted v.group → TakesIn (others_of v.group.disks all) v.group w.group (state b) (state b'))
    (idle : (IsMounted v.group → ⊥) → (w.group ≡ v.group) × (b' ≡ b)) (ready : AreReady (map group_view es) (state b))
    {T : Type 0} (result : Result T Refusal) (ok : OnOk result (IsMounted v.group)) (err : IfErr result (λ refusal. IsMounted v.group ⊎ IsOutCause (map entry_view es) name refusal)) where
  there : IsMounted v.group → IsMountedName (seen es place given time) name
  there on = (v.group, record { named = group_found name es v found; mounted = on; on = entry_on name es v found on; paired = paired es })

  causes : IfErr result (λ refusal. IsMountedName (seen es place given time) name ⊎ IsOutCause (map entry_view es) name refusal)
  causes = if_err (λ refusal. IsMounted v.group ⊎ IsOutCause (map entry_view es) name refusal) (λ refusal. IsMountedName (seen es place given time) name ⊎ IsOutCause (map entry_view es) name refusal) result
      (λ refusal why. ⊎_elim (λ on. inl (there on)) (λ out. inr out) why) err

  groups_are : map group_view fs ≡ with_group_named (map entry_view es) (map group_view es) name w.group
  groups_are = ap (map group_view) is ∙ groups_set name w es

  carried : IsMounted v.group → CarriesOn (seen es place given time) (seen fs place given time) (state b) (state b')
  carried on =
      let takes = keeps on in
      record {
        keys = rw is (keys_set name v w es id found);
        place = refl;
        given = refl;
        time = refl;
        ready = rw groups_are (joined_ready (map entry_view es) (map group_view es) name v.group w.group all covers (group_found name es v found) on takes ready);
        calls = takes.spares.later;
        past = λ m image before left. (takes.spares.ended m image before).0 left;
      }

  same_entry : w.group ≡ v.group → w ≡ v
  same_entry group = λ i. record { id = id i; group = group i }

  pub joins : JoinsIn name result (seen es place given time) (seen fs place given time) (state b) (state b')
  joins = ⊎_elim
      (λ on. record { found = on_ok result there ok; out = causes; carries = carried on })
      (λ off.
      let nothing = idle off in
      let stays : fs ≡ es = is ∙ same_set name v w es (same_entry nothing.0) found in
      rw (stays, nothing.1) (record { found = on_ok result there ok; out = causes; carries = carries_none (seen es place given time) ready }))
      (mounted_or v.group.access)
