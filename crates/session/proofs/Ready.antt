-- Groups that take the next call, over what is done to one of them and to the disks.
use Rattle.std.proofs.Common.{◌≡◌, ◌⊎◌, ⊎_elim, inl, inr, ℕ, zero, suc, Bool, true, false, List, [], ◌∷◌, ◌++◌, Option, Some, None, refl, sym, ◌∙◌, ap, subst, ◌||◌, ◌==◌}
use Rattle.std.specs.Prelude.{IsTrue, get_or, if◌then◌else◌}
use Rattle.std.specs.List.{list_any}
use Rattle.std.specs.Option.{option_map}
use Rattle.std.proofs.lemmas.Bool.{eq-eqb}
use Rattle.std.proofs.lemmas.List.Folds.{list_any-append}
use Rattle.bay.specs.Image.{Image}
use Rattle.bay.specs.Moments.{Runs}
use Rattle.bay.specs.State.{BayState}
use Rattle.asm_group.specs.Names.{Bytes, is_same_name}
use Rattle.asm_formats.specs.Among.{IsAmong}
use Rattle.asm_world.specs.World.{SessionEntry}
use Rattle.session_claims.specs.mounted_groups.Holding.{IsHeldSlot, SparesHeld}
use Rattle.group_contents.specs.group_engine.Frames.{KeepsOwn, SparesDisks}
use Rattle.group_contents.specs.group_engine.Mounts.{IsMounted, IsOwn, IsReady, IsWhole, MountedGroup, Takes, slot_at}
use Rattle.group_contents.specs.group_engine.Members.{LetsGo}
use Rattle.group_contents.specs.group_engine.declared.attached.Attached.{Attached}
use Rattle.group_contents.proofs.group_engine.Elsewhere.{ready_with_own}
use Rattle.session.specs.Naming.{IsGroupOf, group_among, with_group_named}
use Rattle.session.specs.Sessions.{AreGroupsApart, AreReady, AreTwoApart, SessionView, held_by, held_of, slots_in, without_groups}

-- ---- groups among others

among_either : (xs ys : List MountedGroup) (m : MountedGroup) → IsAmong (xs ++ ys) m → IsAmong xs m ⊎ IsAmong ys m
among_either [] ys m is = inr is
among_either (x ∷ xs) ys m is = ⊎_elim (λ here. inl (inl here)) (λ later. ⊎_elim (λ front. inl (inr front)) (λ back. inr back) (among_either xs ys m later)) is

pub turned : (a b : MountedGroup) → AreTwoApart a b → AreTwoApart b a
turned a b apart mounted_b mounted_a slot own_b own_a = apart mounted_a mounted_b slot own_a own_b

apart_joined : (groups : List MountedGroup) (m : MountedGroup) → AreGroupsApart groups → ((other : MountedGroup) → IsAmong groups other → AreTwoApart other m) → AreGroupsApart (groups ++ m ∷ [])
apart_joined [] m all new = (λ other none. absurd none, tt)
apart_joined (g ∷ groups) m all new = (
  λ other is. ⊎_elim
      (λ old. all.0 other old)
      (λ last. ⊎_elim (λ same. subst (λ (x : MountedGroup). AreTwoApart g x) (sym same) (new g (inl refl))) (λ none. absurd none) last)
      (among_either groups (m ∷ []) other is),
  apart_joined groups m all.1 (λ other is. new other (inr is)),
)

-- ---- a group that stays

-- Over calls that leave the disks of a group it takes the next call.
pub still : (m : MountedGroup) {s t : BayState} {on : ℕ → Type 0} {step : Image → Image → Type 0} → Takes m s
    → ((slot size : ℕ) → IsMounted m → IsOwn m slot → s.attached slot ≡ Some size → t.attached slot ≡ Some size) → Runs on step s t
    → (IsMounted m → (x y : Image) → step x y → SparesDisks m x y) → Takes m t
still m takes stays run spares mounted =
    let was = takes mounted in
    (was.0, ready_with_own m was.0 was.1 (record { stays = λ slot size own is. stays slot size mounted own is }) run (spares mounted))

-- ---- slots that are held

pub or_left : (a b : Bool) → a ≡ true → (a || b) ≡ true
or_left true b is = refl
or_left false b is = absurd cc

pub or_right : (a b : Bool) → b ≡ true → (a || b) ≡ true
or_right true b is = refl
or_right false b is = is

in_slots : (disks : List (Option Attached)) (d slot : ℕ) → slot_at disks d ≡ Some slot → IsHeldSlot (slots_in disks) slot
in_slots [] d slot is = absurd cc
in_slots (None ∷ disks) zero slot is = absurd cc
in_slots (None ∷ disks) (suc d) slot is = in_slots disks d slot is
in_slots (Some a ∷ disks) zero slot is =
    let same : a.slot ≡ slot = cc in
    or_left (a.slot == slot) (list_any (λ s. s == slot) (slots_in disks)) (eq-eqb a.slot slot same)
in_slots (Some a ∷ disks) (suc d) slot is = or_right (a.slot == slot) (list_any (λ s. s == slot) (slots_in disks)) (in_slots disks d slot is)

-- the slots of a mounted group are held
of_mounted : (m : MountedGroup) (slot : ℕ) → IsMounted m → IsHeldSlot (slots_in m.disks) slot → IsHeldSlot (held_of m) slot
of_mounted m slot mounted is = rw mounted is

in_held : (groups : List MountedGroup) (m : MountedGroup) (slot : ℕ) → IsAmong groups m → IsMounted m → IsHeldSlot (slots_in m.disks) slot → IsHeldSlot (held_by groups) slot
in_held [] m slot among mounted is = absurd among
in_held (g ∷ groups) m slot among mounted is = list_any-append (λ s. s == slot) (held_of g) (held_by groups) ∙ ⊎_elim
    (λ same. or_left (list_any (λ s. s == slot) (held_of g)) (list_any (λ s. s == slot) (held_by groups))
    (subst (λ (x : MountedGroup). IsHeldSlot (held_of x) slot) same (of_mounted m slot mounted is)))
    (λ later. or_right (list_any (λ s. s == slot) (held_of g)) (list_any (λ s. s == slot) (held_by groups)) (in_held groups m slot later mounted is))
    among

-- the slot of an attached disk is among those of its group's disks
pub own_listed : (m : MountedGroup) (slot : ℕ) → IsWhole m → IsOwn m slot → IsHeldSlot (slots_in m.disks) slot
own_listed m slot whole own =
    let at : slot_at m.disks own.0 ≡ Some slot = whole.disks own.0 ∙ rw own.2 (ap (λ (k : ℕ). Some k) (sym own.3)) in
    in_slots m.disks own.0 slot at

-- each disk that is attached to a mounted group is in a slot that is held
covered : (groups : List MountedGroup) {s : BayState} → AreReady groups s → (m : MountedGroup) (slot : ℕ) → IsAmong groups m → IsMounted m → IsOwn m slot → IsHeldSlot (held_by groups) slot
covered groups ready m slot among mounted own = in_held groups m slot among mounted (own_listed m slot (ready.takes m among mounted).0 own)

-- what is held has the slots of the attached disks of each mounted group
abbrev pub Covers : List MountedGroup → List ℕ → Type 0
Covers groups held = (m : MountedGroup) (slot : ℕ) → IsAmong groups m → IsMounted m → IsOwn m slot → IsHeldSlot held slot

pub held_covers : (groups : List MountedGroup) {s : BayState} (held : List ℕ) → held ≡ held_by groups → AreReady groups s → Covers groups held
held_covers groups held is ready m slot among mounted own = subst (λ (l : List ℕ). IsHeldSlot l slot) (sym is) (covered groups ready m slot among mounted own)

-- ---- calls on disks that none of the groups holds

pub spared_ready : (groups : List MountedGroup) {s t : BayState} (held : List ℕ) (n : ℕ) → Covers groups held → AreReady groups s
    → ((slot size : ℕ) → IsHeldSlot held slot → s.attached slot ≡ Some size → t.attached slot ≡ Some size) → SparesHeld held n s t → AreReady groups t
spared_ready groups held n covers ready stays spares = record {
  takes = λ m among. still m (ready.takes m among)
      (λ slot size mounted own at. stays slot size (covers m slot among mounted own) at)
      spares
      (λ mounted x y step slot own. step slot (covers m slot among mounted own));
  apart = ready.apart;
}

-- with a group more, whose disks none of them holds
pub joined_ready : (groups : List MountedGroup) (m : MountedGroup) {t : BayState} (held : List ℕ) → Covers groups held → AreReady groups t → Takes m t
    → ((slot : ℕ) → IsOwn m slot → IsHeldSlot held slot → ⊥) → AreReady (groups ++ m ∷ []) t
joined_ready groups m {t} held covers ready takes free = record {
  takes = λ x among. ⊎_elim
      (λ old. ready.takes x old)
      (λ last. ⊎_elim (λ same. subst (λ (y : MountedGroup). Takes y t) (sym same) takes) (λ none. absurd none) last)
      (among_either groups (m ∷ []) x among);
  apart = apart_joined groups m ready.apart (λ other among mounted_other mounted slot own_other own. free slot own (covers other slot among mounted_other own_other));
}

-- ---- without a group

among_by : (t : Bool) (g m : MountedGroup) (others groups : List MountedGroup) → (IsAmong others m → IsAmong groups m) → IsAmong (if t then others else g ∷ others) m → IsAmong (g ∷ groups) m
among_by true g m others groups rest is = inr (rest is)
among_by false g m others groups rest is = ⊎_elim (λ here. inl here) (λ later. inr (rest later)) is

pub among_without : (es : List SessionEntry) (groups : List MountedGroup) (name : Bytes) (m : MountedGroup) → IsAmong (without_groups es groups name) m → IsAmong groups m
among_without [] groups name m is = absurd is
among_without (e ∷ es) [] name m is = absurd is
among_without (e ∷ es) (g ∷ groups) name m is = among_by (is_same_name e.name name) g m (without_groups es groups name) groups (among_without es groups name m) is

apart_by : (t : Bool) (g : MountedGroup) (others groups : List MountedGroup) → ((m : MountedGroup) → IsAmong others m → IsAmong groups m) → AreGroupsApart (g ∷ groups) → AreGroupsApart others
    → AreGroupsApart (if t then others else g ∷ others)
apart_by true g others groups rest all left = left
apart_by false g others groups rest all left = (λ m is. all.0 m (rest m is), left)

apart_without : (es : List SessionEntry) (groups : List MountedGroup) (name : Bytes) → AreGroupsApart groups → AreGroupsApart (without_groups es groups name)
apart_without [] groups name all = tt
apart_without (e ∷ es) [] name all = tt
apart_without (e ∷ es) (g ∷ groups) name all = apart_by (is_same_name e.name name) g (without_groups es groups name) groups (among_without es groups name) all (apart_without es groups name all.1)

pub left_ready : (es : List SessionEntry) (groups : List MountedGroup) (name : Bytes) {s : BayState} → AreReady groups s → AreReady (without_groups es groups name) s
left_ready es groups name ready = record {
  takes = λ m among. ready.takes m (among_without es groups name m among);
  apart = apart_without es groups name ready.apart;
}

-- ---- a call on one group

found_by : (t : Bool) (g a : MountedGroup) (groups : List MountedGroup) (found : Option MountedGroup) → (found ≡ Some a → IsAmong groups a) → (if t then Some g else found) ≡ Some a → IsAmong (g ∷ groups) a
found_by true g a groups found rest is = let same : a ≡ g = cc in inl same
found_by false g a groups found rest is = inr (rest is)

pub found_among : (es : List SessionEntry) (groups : List MountedGroup) (name : Bytes) (a : MountedGroup) → group_among es groups name ≡ Some a → IsAmong groups a
found_among [] groups name a is = absurd cc
found_among (e ∷ es) [] name a is = absurd cc
found_among (e ∷ es) (g ∷ groups) name a is = found_by (is_same_name e.name name) g a groups (group_among es groups name) (found_among es groups name a) is

module _ (name : Bytes) (a b : MountedGroup) where
  among_with_by : (t : Bool) (g m : MountedGroup) (es : List SessionEntry) (groups : List MountedGroup) → AreGroupsApart (g ∷ groups)
      → (group_among es groups name ≡ Some a → IsAmong (with_group_named es groups name b) m → (m ≡ b) ⊎ (IsAmong groups m × AreTwoApart a m))
      → (if t then Some g else group_among es groups name) ≡ Some a → IsAmong (if t then b ∷ groups else g ∷ with_group_named es groups name b) m
      → (m ≡ b) ⊎ (IsAmong (g ∷ groups) m × AreTwoApart a m)
  among_with_by true g m es groups all rest is among =
      let same : g ≡ a = cc in
      ⊎_elim (λ new. inl new) (λ later. inr (inr later, subst (λ (x : MountedGroup). AreTwoApart x m) same (all.0 m later))) among
  among_with_by false g m es groups all rest is among = ⊎_elim
      (λ here. inr (inl here, subst (λ (x : MountedGroup). AreTwoApart a x) (sym here) (turned g a (all.0 a (found_among es groups name a is)))))
      (λ later. ⊎_elim (λ new. inl new) (λ old. inr (inr old.0, old.1)) (rest is later))
      among

  -- a group among those after the call is the new one, or one of the others, which is apart from the old one
  pub among_with : (es : List SessionEntry) (groups : List MountedGroup) → AreGroupsApart groups → (m : MountedGroup) → group_among es groups name ≡ Some a → IsAmong (with_group_named es groups name b) m
      → (m ≡ b) ⊎ (IsAmong groups m × AreTwoApart a m)
  among_with [] groups all m is among = absurd cc
  among_with (e ∷ es) [] all m is among = absurd cc
  among_with (e ∷ es) (g ∷ groups) all m is among = among_with_by (is_same_name e.name name) g m es groups all (among_with es groups all.1 m) is among

  -- what is apart from the old one, and is one of these groups, is so from the new one
  abbrev pub Renews : List MountedGroup → Type 0
  Renews groups = (g : MountedGroup) → IsAmong groups g → AreTwoApart g a → AreTwoApart g b

  apart_with_by : (t : Bool) (g : MountedGroup) (es : List SessionEntry) (groups : List MountedGroup) → Renews (g ∷ groups) → AreGroupsApart (g ∷ groups)
      → (group_among es groups name ≡ Some a → AreGroupsApart (with_group_named es groups name b)) → (if t then Some g else group_among es groups name) ≡ Some a
      → AreGroupsApart (if t then b ∷ groups else g ∷ with_group_named es groups name b)
  apart_with_by true g es groups renews all rest is =
      let same : g ≡ a = cc in
      (λ m among. turned m b (renews m (inr among) (turned a m (subst (λ (x : MountedGroup). AreTwoApart x m) same (all.0 m among)))), all.1)
  apart_with_by false g es groups renews all rest is = (
    λ m among. ⊎_elim
        (λ new. subst (λ (x : MountedGroup). AreTwoApart g x) (sym new) (renews g (inl refl) (all.0 a (found_among es groups name a is))))
        (λ old. all.0 m old.0)
        (among_with es groups all.1 m is among),
    rest is,
  )

  pub apart_with : (es : List SessionEntry) (groups : List MountedGroup) → Renews groups → AreGroupsApart groups → group_among es groups name ≡ Some a → AreGroupsApart (with_group_named es groups name b)
  apart_with [] groups renews all is = absurd cc
  apart_with (e ∷ es) [] renews all is = absurd cc
  apart_with (e ∷ es) (g ∷ groups) renews all is =
      apart_with_by (is_same_name e.name name) g es groups renews all (apart_with es groups (λ m among. renews m (inr among)) all.1) is

-- a call on the mounted group of a name, by which disks of it may leave, keeps all of them ready
pub worked_ready : (es : List SessionEntry) (groups : List MountedGroup) (name : Bytes) (a b : MountedGroup) {s t : BayState} → group_among es groups name ≡ Some a → IsMounted a → LetsGo a b s t
    → AreReady groups s → AreReady (with_group_named es groups name b) t
worked_ready es groups name a b {s} {t} is mounted goes ready = record {
  takes = λ m among. ⊎_elim
      (λ new. subst (λ (x : MountedGroup). Takes x t) (sym new) (λ on. (goes.whole on, goes.ready on)))
      (λ old. still m (ready.takes m old.0)
      (λ slot size on own at. goes.attached.same slot ∙ at)
      goes.runs
      (λ on x y step slot own. record { size = step.size slot; byte = λ k. step.byte slot k (λ other. old.1 mounted on slot other own) }))
      (among_with name a b es groups ready.apart m is among);
  apart = apart_with name a b es groups (λ g among apart on_g on_b slot own_g own_b. apart on_g mounted slot own_g (goes.own slot own_b)) ready.apart is;
}

-- ---- a group that is found

pub taken : (session : SessionView) (name : Bytes) (m : MountedGroup) {s : BayState} → AreReady session.groups s → IsGroupOf session name m → Takes m s
taken session name m ready is = ready.takes m (found_among session.entries session.groups name m is.named)

same_by : (t : Bool) (g a : MountedGroup) (groups others : List MountedGroup) (found : Option MountedGroup) → (found ≡ Some a → others ≡ groups) → (if t then Some g else found) ≡ Some a
    → (if t then a ∷ groups else g ∷ others) ≡ g ∷ groups
same_by true g a groups others found rest is = let same : a ≡ g = cc in ap (λ (x : MountedGroup). x ∷ groups) same
same_by false g a groups others found rest is = ap (λ (l : List MountedGroup). g ∷ l) (rest is)

with_same : (es : List SessionEntry) (groups : List MountedGroup) (name : Bytes) (a : MountedGroup) → group_among es groups name ≡ Some a → with_group_named es groups name a ≡ groups
with_same [] groups name a is = absurd cc
with_same (e ∷ es) [] name a is = absurd cc
with_same (e ∷ es) (g ∷ groups) name a is = same_by (is_same_name e.name name) g a groups (with_group_named es groups name a) (group_among es groups name) (with_same es groups name a) is

-- a call that leaves the group as it is, as one that reads
pub read_ready : (session : SessionView) (name : Bytes) (m : MountedGroup) {s t : BayState} → AreReady session.groups s → IsGroupOf session name m → LetsGo m m s t → AreReady session.groups t
read_ready session name m {t = t} ready is keeps =
    subst (λ (l : List MountedGroup). AreReady l t) (with_same session.entries session.groups name m is.named)
    (worked_ready session.entries session.groups name m m is.named is.mounted keeps ready)
