-- A mounted group while a disk changes that isn't attached to it.
use Rattle.std.proofs.Common.{◌≡◌, ◌≢◌, ⊎_elim, inl, inr, ℕ, ◌+◌, ◌*◌, ◌/◌, ◌≤◌, true, false, not, ◌&&◌, ◌==◌, List, [], ◌∷◌, length, filter, nat_lt, refl, sym, ap, subst, ◌∙◌, Option, Some, None, arith}
use Rattle.std.specs.Option.{option_map}
use Rattle.std.proofs.lemmas.Bool.{and_parts, cases_Bool, cond_both, cond-true, eqb-true, eq-eqb, false≢true, lt-ltb, ltb-true, ne_eqb}
use Rattle.std.proofs.lemmas.Option.{none-some}
use Rattle.bay.specs.Image as bay
use Rattle.bay.specs.State.{BayState}
use Rattle.bay.specs.Moments.{Runs}
use Rattle.asm_group.specs.Group.{Group}
use Rattle.asm_formats.specs.Among.{IsAmong}
use Rattle.asm_formats.specs.Following.{Holder, disks_of, sets, sets_of}
use Rattle.asm_formats.specs.Metadata.{header_of, metadata}
use Rattle.asm_formats.specs.Status.{Entry, Status, entry_of}
use Rattle.asm_placement.proofs.Membership.{among_filter, among_filtered, filter_out}
use Rattle.asm_images.specs.Bridge.{ChangesSlot, disk_bytes}
use Rattle.asm_images.specs.Kept.{IsHeld, Kept}
use Rattle.asm_images.proofs.Bridges.{same_disk}
use Rattle.asm_images.proofs.Held.{bystanders_are_held}
use Rattle.group_engine.proofs.catalog_tables.TableItems.{from_map}
use Rattle.status_register.specs.Keeping.{EpochStands, HasHistory, ShowsEpoch}
use Rattle.status_register.specs.SurveyLaws.{IsMemberOn}
use Rattle.status_register.specs.Surveys.{disk_in, is_holder_there, seen_of, shortfall}
use Rattle.status_register.specs.declared.member.Member.{Member as Disk}
use Rattle.status_register.proofs.Holding.{disk_is}
use Rattle.status_register.proofs.Losing.{more_among}
use Rattle.status_register.proofs.Meeting.{any_among, found}
use Rattle.group_engine.specs.Frames.{KeepsOwn}
use Rattle.group_engine.specs.Mounts.{IsOwn, MountedGroup, Mounts}
use Rattle.group_engine.specs.Own.{KeepsGroup}
use Rattle.group_engine.proofs.Calls.{kept_is}
use Rattle.group_engine.proofs.Elsewhere.{ready_with_own}
use Rattle.group_engine.proofs.Standings.{stands_at_rest}
use Rattle.record_laws.specs.Beside.{ChangesBeside, HeaderStaysBeside, IsNoHolder, MemberStaysBeside, MountsBeside, NoEntryIsNoHolder, StaysBeside}
use Rattle.record_laws.proofs.Getting.{is_held}

-- ---- majorities

some_seen : (some more : List Disk) (set : List Holder) → ((h : Holder) → IsAmong set h → is_holder_there some h ≡ true → is_holder_there more h ≡ true) → seen_of some set ≤ seen_of more set
unfolding seen_of
some_seen some more set also = more_among (is_holder_there some) (is_holder_there more) set also

still_enough : (some more : List Disk) (all : List (List Holder)) → ((set : List Holder) (h : Holder) → IsAmong all set → IsAmong set h → is_holder_there some h ≡ true → is_holder_there more h ≡ true)
    → shortfall some all ≡ None → shortfall more all ≡ None
still_enough some more [] also none = refl
still_enough some more (one ∷ others) also none = cond_both (nat_lt (length one) (2 * seen_of some one)) (shortfall some others) (Some (seen_of some one, length one / 2 + 1))
    (λ (o : Option (ℕ × ℕ)). o ≡ None → shortfall more (one ∷ others) ≡ None)
    (λ enough rest. cond-true (nat_lt (length one) (2 * seen_of more one)) (shortfall more others) (Some (seen_of more one, length one / 2 + 1))
    (lt-ltb (length one) (2 * seen_of more one) (omega (arith, ltb-true (length one) (2 * seen_of some one) enough, some_seen some more one (λ h k. also one h (inl refl) k))))
    ∙ still_enough some more others (λ s h j k. also s h (inr j) k) rest)
    (λ short is. absurd (none-some _ (sym is))) none

-- ---- a disk of a set has an entry

has_entry : (r : Status) (set : List Holder) (h : Holder) → IsAmong (sets r) set → IsAmong set h → option_map (λ (e : Entry). e.birth) (entry_of r.entries h.0) ≡ Some h.1
unfolding sets_of
has_entry r set h (inl e) among = (disk_is r.entries r.holders h (subst (λ (l : List Holder). IsAmong l h) e among)).birth
has_entry r set h (inr later) among = cond_both (r.next_holders == 0) [] (disks_of r.entries r.next_holders ∷ [])
    (λ (l : List (List Holder)). IsAmong l set → option_map (λ (e : Entry). e.birth) (entry_of r.entries h.0) ≡ Some h.1)
    (λ none k. absurd k)
    (λ two k. ⊎_elim
    (λ (e : set ≡ disks_of r.entries r.next_holders). (disk_is r.entries r.next_holders h (subst (λ (l : List Holder). IsAmong l h) e among)).birth)
    (λ no. absurd no) k) later

pub no_entry_is_no_holder : NoEntryIsNoHolder
no_entry_is_no_holder id r slot image none h is group set listed among =
    let e = from_map (λ (e : Entry). e.birth) (entry_of r.entries h.number) h.birth (has_entry r set (h.number, h.birth) listed among) in
    none h is group e.0 e.1 e.2

-- ---- one step

module _ (slot : ℕ) (x y : bay.Image) (changes : ChangesSlot slot x y) where
  other_disk : (k : ℕ) → k ≢ slot → disk_bytes y k ≡ disk_bytes x k
  other_disk k differ = same_disk x y k (changes.size k differ) (λ j. changes.byte k j differ)

  member_stays : (n id : ℕ) (k : Disk) → k.slot ≢ slot → IsMemberOn n id x k → IsMemberOn n id y k
  member_stays n id k differ on = record {
    inside = on.inside;
    header = on.header;
    header_is = ap header_of (other_disk k.slot differ) ∙ on.header_is;
    group = on.group;
    number = on.number;
    birth = on.birth;
  }

  shown_stays : (id epoch : ℕ) (k : Disk) → k.slot ≢ slot → ShowsEpoch id epoch (disk_in x k.slot) → ShowsEpoch id epoch (disk_in y k.slot)
  shown_stays id epoch k differ shows = subst (λ (bytes : List ℕ). ShowsEpoch id epoch (metadata bytes)) (sym (other_disk k.slot differ)) shows

  module _ (n id epoch : ℕ) (r : Status) (none : IsNoHolder id r slot x) (stands : EpochStands n id epoch r x) where
    apart : (k : Disk) → IsAmong (filter (λ (j : Disk). not (j.slot == slot)) stands.on) k → k.slot ≢ slot
    apart k among same = false≢true (sym (ap not (eq-eqb k.slot slot same)) ∙ filter_out (λ (j : Disk). not (j.slot == slot)) stands.on k among)

    also_there : (set : List Holder) (h : Holder) → IsAmong (sets r) set → IsAmong set h → is_holder_there stands.on h ≡ true → is_holder_there (filter (λ (j : Disk). not (j.slot == slot)) stands.on) h ≡ true
    also_there set h listed among is =
        let k = found (λ (j : Disk). (j.number == h.0) && (j.birth == h.1)) stands.on is in
        let parts = and_parts (k.0.number == h.0) (k.0.birth == h.1) k.2 in
        let on = stands.members k.0 k.1 in
        let number : h.0 ≡ on.header.number = sym (on.number ∙ eqb-true k.0.number h.0 parts.0) in
        let birth : h.1 ≡ on.header.birth = sym (on.birth ∙ eqb-true k.0.birth h.1 parts.1) in
        let differ : k.0.slot ≢ slot = λ same. none on.header (ap (λ (j : ℕ). header_of (disk_bytes x j)) (sym same) ∙ on.header_is) on.group set listed
        (subst (λ (z : Holder). IsAmong set z) (λ i. (number i, birth i)) among) in
        any_among (λ (j : Disk). (j.number == h.0) && (j.birth == h.1)) (filter (λ (j : Disk). not (j.slot == slot)) stands.on) k.0
        (among_filtered (λ (j : Disk). not (j.slot == slot)) stands.on k.0 k.1 (ap not (ne_eqb k.0.slot slot differ))) k.2

    epoch_stays : EpochStands n id epoch r y
    epoch_stays = record {
      on = filter (λ (j : Disk). not (j.slot == slot)) stands.on;
      members = λ k h. member_stays n id k (apart k h) (stands.members k (among_filter (λ (j : Disk). not (j.slot == slot)) stands.on k h));
      shown = λ k h. shown_stays id epoch k (apart k h) (stands.shown k (among_filter (λ (j : Disk). not (j.slot == slot)) stands.on k h));
      enough = still_enough stands.on (filter (λ (j : Disk). not (j.slot == slot)) stands.on) (sets r) also_there stands.enough;
    }

-- ---- calls

module _ {on : ℕ → Type 0} {leads : bay.Image → bay.Image → Type 0} (s t : BayState) (n : ℕ) (m : MountedGroup) (g : Group) (kept : Kept) (slot : ℕ) (mounts : Mounts n m s g kept) (own : KeepsOwn m s t)
    (run : Runs on leads s t) (changes : ChangesBeside m g slot leads s) where
  abbrev r : Status
  r = m.register.value

  abbrev id : ℕ
  id = m.register.id

  own_differ : (k : ℕ) → IsOwn m k → k ≢ slot
  own_differ k of same = changes.other (subst (λ (j : ℕ). IsOwn m j) same of)

  out : kept.slots slot ≡ false
  out = ⊎_elim (λ (is : kept.slots slot ≡ true). absurd (changes.other ((mounts.own slot).0 is))) (λ is. is) (cases_Bool (kept.slots slot))

  module _ (x y : bay.Image) (left : s.leaves s.calls x) (from : leads x y) where
    held_after : IsHeld n id (g ∷ []) kept y
    held_after = subst (λ (k : Kept). IsHeld n id (g ∷ []) k y) (kept_is n m s g kept mounts)
        (bystanders_are_held n id slot (g ∷ []) (record { completed = r; begun = []; slots = kept.slots }) x y (changes.alone x y from) out (changes.sound x y left from) (is_held n m s g kept mounts x left))

    history_after : HasHistory n m.register (Some r) [] y
    history_after =
        let has = mounts.register.now.now x left in
        record {
          fits = (changes.sound x y left from n ((is_held n m s g kept mounts x left).sound n)).fits;
          members = λ i k is. member_stays slot x y (changes.alone x y from) n id k (own_differ k.slot (i, k, is, refl)) (has.members i k is);
          claimed = epoch_stays slot x y (changes.alone x y from) n id m.register.epoch r (changes.no_holder.now x left) has.claimed;
        }

  pub stays_beside : StaysBeside n m s t g kept
  stays_beside = record {
    moments = record {
      later = run.later;
      ended = run.ended;
      each = λ k y low high there. let from = run.moments k y low high there in stands_at_rest n id (g ∷ []) kept y mounts.begun (held_after from.0 y from.1 from.2);
    };
    mounts = record {
      whole = mounts.whole;
      ready = ready_with_own m {s = s} {t = t} {on = on} {step = leads} mounts.whole mounts.ready own run
          (λ x y from k of. let same = changes.alone x y from in record { size = same.size k (own_differ k of); byte = λ j. same.byte k j (own_differ k of) });
      represents = mounts.represents;
      own = mounts.own;
      completed = mounts.completed;
      begun = mounts.begun;
      register = record {
        continues = mounts.register.continues;
        now = record { now = λ y there. let from = run.moments t.calls y run.later (omega arith) there in history_after from.0 y from.1 from.2 };
      };
      now = record { now = λ y there. let from = run.moments t.calls y run.later (omega arith) there in held_after from.0 y from.1 from.2 };
    };
  }

pub mounts_beside : (on : ℕ → Type 0) (leads : bay.Image → bay.Image → Type 0) (s t : BayState) → MountsBeside on leads s t
mounts_beside on leads s t n m g kept slot mounts own run changes = stays_beside {on = on} {leads = leads} s t n m g kept slot mounts own run changes

-- ---- what such a disk shows

module _ (s t : BayState) (a b : MountedGroup) (slot : ℕ) (keeps : KeepsGroup a b s t) (other : IsOwn a slot → ⊥) where
  -- the image from which this one comes, with the same disk in the slot
  from_now : (y : bay.Image) → t.leaves t.calls y → (x : bay.Image) × s.leaves s.calls x × (disk_bytes y slot ≡ disk_bytes x slot)
  from_now y there =
      let from = keeps.runs.moments t.calls y keeps.runs.later (omega arith) there in
      (from.0, from.1, same_disk from.0 y slot (from.2.size slot) (λ j. from.2.byte slot j other))

pub header_stays_beside : (s t : BayState) → HeaderStaysBeside s t
header_stays_beside s t a b slot o keeps other shows = record { now = λ y there. let x = from_now s t a b slot keeps other y there in ap header_of x.2 ∙ shows.now x.0 x.1 }

pub member_stays_beside : (s t : BayState) → MemberStaysBeside s t
member_stays_beside s t n group a b k keeps other on = record {
  now = λ y there.
      let x = from_now s t a b k.slot keeps other y there in
      let was = on.now x.0 x.1 in
      record { inside = was.inside; header = was.header; header_is = ap header_of x.2 ∙ was.header_is; group = was.group; number = was.number; birth = was.birth };
}
