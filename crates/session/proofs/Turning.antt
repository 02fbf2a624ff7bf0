-- The session over a turn of the group at a place.
use Rattle.std.proofs.Common.{◌≡◌, ◌⊎◌, ⊎_elim, inl, inr, ℕ, zero, suc, List, [], ◌∷◌, map, slice_get, Option, Some, None, refl, sym, ◌∙◌, ap, subst}
use Rattle.std.specs.Map.{values_of}
use Rattle.indexmap.specs.IndexMap.{set_value_at}
use Rattle.bay.specs.State.{BayState}
use Rattle.refusal_lines.specs.declared.refusal.DiskRef.{DiskRef}
use Rattle.refusal_lines.specs.declared.refusal.Refusal.{Refusal}
use Rattle.refusal_lines.specs.declared.refusal.Refusal.TheVariants as cause
use Rattle.asm_group.specs.Names.{Bytes}
use Rattle.asm_formats.specs.Among.{IsAmong}
use Rattle.group_contents.specs.group_engine.Mounts.{IsMounted, IsOwn, MountedGroup, Takes}
use Rattle.group_contents.specs.group_engine.Members.{LetsGo}
use Rattle.session.specs.Entries.{entry_view, group_view}
use Rattle.session.specs.Naming.{CarriesOn, key_of}
use Rattle.session.specs.Sessions.{AreGroupsApart, AreReady, AreTwoApart, SessionView}
use Rattle.group_turns.specs.Slices.{failure_of}
use Rattle.group_turns.specs.Turns.{HasLine, IsLineOf, OnEvent, OnIdle, OnWork, TurnMoment}
use Rattle.session.specs.declared.entry.Entry.{Entry}
use Rattle.group_turns.specs.declared.failure.Failure.TheVariants as failure
use Rattle.group_turns.specs.declared.taking.Turned.{Turned}
use Rattle.group_turns.specs.declared.taking.Turned.TheVariants as turned
use Rattle.session.proofs.Carrying.{seen}
use Rattle.session.proofs.Grouped.{Pairs}
use Rattle.session.proofs.Ready.{still, turned}

-- ---- how a turn ended

pub idle_so : (P Q : Type 0) (result : Turned) → (P → Q) → OnIdle result P → OnIdle result Q
idle_so P Q turned.Idle f p = f p
idle_so P Q turned.Happened f p = tt
idle_so P Q turned.NoMemory f p = tt

pub work_so : (P Q : Type 0) (result : Turned) → (P → Q) → OnWork result P → OnWork result Q
work_so P Q turned.Idle f p = tt
work_so P Q turned.Happened f p = f p
work_so P Q turned.NoMemory f p = f p

pub line_among : (result : Turned) (when : TurnMoment) (groups : List MountedGroup) (m : MountedGroup) (line : Bytes) → IsAmong groups m → OnEvent result (IsLineOf m.name when line) → OnEvent result (HasLine groups when line)
line_among turned.Idle when groups m line among is = tt
line_among turned.Happened when groups m line among is = record { group = m; among = among; is_line = is }
line_among turned.NoMemory when groups m line among is = tt

-- ---- the group at a place

-- the groups with another at a place
abbrev pub put_at : List MountedGroup → ℕ → MountedGroup → List MountedGroup
put_at [] place new = []
put_at (m ∷ groups) zero new = new ∷ groups
put_at (m ∷ groups) (suc place) new = m ∷ put_at groups place new

pub groups_put : (es : Pairs) (place : ℕ) (w : Entry) → map group_view (set_value_at es place w) ≡ put_at (map group_view es) place w.group
groups_put [] place w = refl
groups_put (p ∷ es) zero w = refl
groups_put (p ∷ es) (suc place) w = ap (λ (l : List MountedGroup). group_view p ∷ l) (groups_put es place w)

pub group_at : (es : Pairs) (place : ℕ) (v : Entry) → slice_get (values_of es) place ≡ Some v → slice_get (map group_view es) place ≡ Some v.group
group_at [] place v at = absurd cc
group_at (p ∷ es) zero v at = let same : p.1 ≡ v = cc in ap (λ (e : Entry). Some e.group) same
group_at (p ∷ es) (suc place) v at = group_at es place v at

-- names and ids stay
pub keys_put : (es : Pairs) (place : ℕ) (v w : Entry) → w.id ≡ v.id → slice_get (values_of es) place ≡ Some v
    → map key_of (map entry_view (set_value_at es place w)) ≡ map key_of (map entry_view es)
keys_put [] place v w id at = refl
keys_put (p ∷ es) zero v w id at =
    let same : p.1 ≡ v = cc in
    ap (λ (i : ℕ). (p.0.name, i) ∷ map key_of (map entry_view es)) (id ∙ sym (ap (λ (e : Entry). e.id) same))
keys_put (p ∷ es) (suc place) v w id at = ap (λ (l : List (Bytes × ℕ)). key_of (entry_view p) ∷ l) (keys_put es place v w id at)

-- the value that was there
pub same_put : (es : Pairs) (place : ℕ) (v w : Entry) → w ≡ v → slice_get (values_of es) place ≡ Some v → set_value_at es place w ≡ es
same_put [] place v w equal at = refl
same_put (p ∷ es) zero v w equal at = let same : w ≡ p.1 = cc in ap (λ (e : Entry). (p.0, e) ∷ es) same
same_put (p ∷ es) (suc place) v w equal at = ap (λ (l : Pairs). p ∷ l) (same_put es place v w equal at)

pub among_at : (groups : List MountedGroup) (place : ℕ) (a : MountedGroup) → slice_get groups place ≡ Some a → IsAmong groups a
among_at [] place a at = absurd cc
among_at (g ∷ groups) zero a at = let same : a ≡ g = cc in inl same
among_at (g ∷ groups) (suc place) a at = inr (among_at groups place a at)

-- a group among those after the call is the new one, or one of the others, which is apart from the old one
among_put : (groups : List MountedGroup) (place : ℕ) (a b m : MountedGroup) → AreGroupsApart groups → slice_get groups place ≡ Some a → IsAmong (put_at groups place b) m
    → (m ≡ b) ⊎ (IsAmong groups m × AreTwoApart a m)
among_put [] place a b m all at among = absurd cc
among_put (g ∷ groups) zero a b m all at among =
    let same : g ≡ a = cc in
    ⊎_elim (λ new. inl new) (λ later. inr (inr later, subst (λ (x : MountedGroup). AreTwoApart x m) same (all.0 m later))) among
among_put (g ∷ groups) (suc place) a b m all at among = ⊎_elim
    (λ here. inr (inl here, subst (λ (x : MountedGroup). AreTwoApart a x) (sym here) (turned g a (all.0 a (among_at groups place a at)))))
    (λ later. ⊎_elim (λ new. inl new) (λ old. inr (inr old.0, old.1)) (among_put groups place a b m all.1 at later))
    among

module _ (a b : MountedGroup) (mounted : IsMounted a) (own : (slot : ℕ) → IsOwn b slot → IsOwn a slot) where
  -- what is apart from the old one is so from the new one
  renewed : (g : MountedGroup) → AreTwoApart g a → AreTwoApart g b
  renewed g apart mounted_g mounted_b slot own_g own_b = apart mounted_g mounted slot own_g (own slot own_b)

  apart_put : (groups : List MountedGroup) (place : ℕ) → AreGroupsApart groups → slice_get groups place ≡ Some a → AreGroupsApart (put_at groups place b)
  apart_put [] place all at = absurd cc
  apart_put (g ∷ groups) zero all at =
      let same : g ≡ a = cc in
      (λ m among. turned m b (renewed m (turned a m (subst (λ (x : MountedGroup). AreTwoApart x m) same (all.0 m among)))), all.1)
  apart_put (g ∷ groups) (suc place) all at = (
    λ m among. ⊎_elim
        (λ new. subst (λ (x : MountedGroup). AreTwoApart g x) (sym new) (renewed g (all.0 a (among_at groups place a at))))
        (λ old. all.0 m old.0)
        (among_put groups place a b m all.1 at among),
    apart_put groups place all.1 at,
  )

-- a call on the mounted group at a place, which may let disks of it go, keeps all of them ready
pub put_ready : (groups : List MountedGroup) (place : ℕ) (a b : MountedGroup) {s t : BayState} → slice_get groups place ≡ Some a → IsMounted a → LetsGo a b s t → AreReady groups s → AreReady (put_at groups place b) t
put_ready groups place a b {s} {t} at mounted lets ready = record {
  takes = λ m among. ⊎_elim
      (λ new. subst (λ (x : MountedGroup). Takes x t) (sym new) (λ on. (lets.whole on, lets.ready on)))
      (λ old. still m (ready.takes m old.0)
      (λ slot size on own is. lets.attached.same slot ∙ is)
      lets.runs
      (λ on x y step slot own. record { size = step.size slot; byte = λ k. step.byte slot k (λ other. old.1 mounted on slot other own) }))
      (among_put groups place a b m ready.apart at among);
  apart = apart_put a b mounted lets.own groups place ready.apart at;
}

-- ---- the session

groups_are : (place : ℕ) (w : Entry) (es fs : Pairs) → fs ≡ set_value_at es place w → map group_view fs ≡ put_at (map group_view es) place w.group
groups_are place w es fs is = ap (map group_view) is ∙ groups_put es place w

pub turn_carries : (place : ℕ) (v w : Entry) (es fs : Pairs) (path : List Bytes) (given time : ℕ) {s t : BayState} → fs ≡ set_value_at es place w → slice_get (values_of es) place ≡ Some v
    → w.id ≡ v.id → AreReady (map group_view es) s → IsMounted v.group × LetsGo v.group w.group s t → CarriesOn (seen es path given time) (seen fs path given time) s t
turn_carries place v w es fs path given time is at id ready went = record {
  keys = rw is (keys_put es place v w id at);
  place = refl;
  given = refl;
  time = refl;
  ready = rw (groups_are place w es fs is) (put_ready (map group_view es) place v.group w.group (group_at es place v at) went.0 went.1 ready);
  calls = went.1.runs.later;
  past = λ m image before left. (went.1.runs.ended m image before).0 left;
}

-- the same groups, where nothing was done
pub turn_idle : (place : ℕ) (v w : Entry) (es fs : Pairs) (path : List Bytes) (given time : ℕ) → fs ≡ set_value_at es place w → slice_get (values_of es) place ≡ Some v
    → w.id ≡ v.id → w.group ≡ v.group → seen fs path given time ≡ seen es path given time
turn_idle place v w es fs path given time is at id group =
    let equal : w ≡ v = λ i. record { id = id i; group = group i } in
    ap (λ (l : Pairs). seen l path given time) (is ∙ same_put es place v w equal at)
