-- Members that are enough for a record are attached to it.
use Rattle.std.proofs.Common.{◌≡◌, inl, inr, ⊎_elim, ℕ, zero, suc, ◌+◌, ◌*◌, ◌/◌, ◌<◌, ◌≤◌, Bool, true, false, ◌&&◌, ◌||◌, List, [], ◌∷◌, length, get_or, set, replicate, nat_lt, refl, sym, ap, subst, ◌∙◌, Option, Some, None, Result, Ok, Err, arith, ◌==◌, get_or-set_other}
use Rattle.std.specs.Prelude.{IfOk}
use Rattle.std.specs.Option.{option_map}
use Rattle.std.proofs.lemmas.Bool.{cond_both, cond-true, and_parts, cases_eq, eqb-true, eq-eqb, ltb-true, lt-ltb}
use Rattle.std.proofs.lemmas.Option.{same_Some, none-some}
use Rattle.bay.specs.State.{BayState}
use Rattle.asm_formats.specs.Following.{Holder, disks_of, sets_of, sets}
use Rattle.asm_formats.specs.Sets.{has_bit}
use Rattle.asm_formats.specs.Status.{Status, Entry, entry_of}
use Rattle.asm_formats.specs.Among.{IsAmong}
use Rattle.status_register.specs.Elsewhere.{with_attached}
use Rattle.status_register.specs.Holders.{is_of, attached_to, with_next_number}
use Rattle.status_register.specs.Reaching.{Reaches}
use Rattle.status_register.specs.Registered.{AreNumbered, IsClaimAnswer, Registered, all_placed}
use Rattle.status_register.specs.Answers.{Surveyed}
use Rattle.status_register.specs.Surveys.{is_holder_there, seen_of, shortfall, missing}
use Rattle.status_register.specs.declared.member.Member.{Member}
use Rattle.status_register.specs.declared.error.SurveyError.{SurveyError}
use Rattle.status_register.proofs.Holding.{among_below, held_below, disk_is, entry_birth, has_birth, same_attached}
use Rattle.status_register.proofs.Losing.{more_among}
use Rattle.status_register.proofs.Meeting.{found, any_among}
use Rattle.status_register.proofs.Placing.{placed_good}
use Rattle.status_register.proofs.Taking.{kept_among}
use Rattle.status_register.proofs.Tallying.{RoseAt}

-- ---- majorities

more_seen : (some more : List Member) (all : List Holder) → ((h : Holder) → IsAmong all h → is_holder_there some h ≡ true → is_holder_there more h ≡ true) → seen_of some all ≤ seen_of more all
unfolding seen_of
more_seen some more all also = more_among (is_holder_there some) (is_holder_there more) all also

none_short : (some more : List Member) (all : List (List Holder)) → ((one : List Holder) (h : Holder) → IsAmong all one → IsAmong one h → is_holder_there some h ≡ true → is_holder_there more h ≡ true)
    → shortfall some all ≡ None → shortfall more all ≡ None
none_short some more [] also none = refl
none_short some more (one ∷ others) also none = cond_both (nat_lt (length one) (2 * seen_of some one)) (shortfall some others) (Some (seen_of some one, length one / 2 + 1))
    (λ (o : Option (ℕ × ℕ)). o ≡ None → shortfall more (one ∷ others) ≡ None)
    (λ enough rest. cond-true (nat_lt (length one) (2 * seen_of more one)) (shortfall more others) (Some (seen_of more one, length one / 2 + 1))
    (lt-ltb (length one) (2 * seen_of more one) (omega (arith, ltb-true (length one) (2 * seen_of some one) enough, more_seen some more one (λ h k. also one h (inl refl) k))))
    ∙ none_short some more others (λ s h j k. also s h (inr j) k) rest)
    (λ short is. absurd (none-some _ (sym is))) none

-- ---- the disks of a record's sets

-- a disk of a set has its number in one of them, and the birth of its entry
record IsInSets (r : Status) (h : Holder) : Type 0 where
  small : h.0 < 64
  birth : option_map (λ (e : Entry). e.birth) (entry_of r.entries h.0) ≡ Some h.1
  bit : (has_bit r.holders h.0 || has_bit r.next_holders h.0) ≡ true

or_true : (b : Bool) → (b || true) ≡ true
or_true true = refl
or_true false = refl

is_in_sets : (r : Status) (one : List Holder) (h : Holder) → IsAmong (sets r) one → IsAmong one h → IsInSets r h
unfolding sets_of
is_in_sets r one h (inl e) among =
    let d = disk_is r.entries r.holders h (subst (λ (l : List Holder). IsAmong l h) e among) in
    record { small = d.small; birth = d.birth; bit = ap (λ (b : Bool). b || has_bit r.next_holders h.0) d.bit }
is_in_sets r one h (inr later) among = cond_both (r.next_holders == 0) [] (disks_of r.entries r.next_holders ∷ [])
    (λ (l : List (List Holder)). IsAmong l one → IsInSets r h)
    (λ none k. absurd k)
    (λ two k. ⊎_elim
    (λ (e : one ≡ disks_of r.entries r.next_holders).
    let d = disk_is r.entries r.next_holders h (subst (λ (l : List Holder). IsAmong l h) e among) in
    record { small = d.small; birth = d.birth; bit = ap (λ (b : Bool). has_bit r.holders h.0 || b) d.bit ∙ or_true (has_bit r.holders h.0) })
    (λ no. absurd no) k) later

-- The member in the place of the disk's number is the disk of its entry: the disk is attached.
there_at : (places : List (Option Member)) (r : Status) (h : Holder) (m : Member) → IsInSets r h → get_or places h.0 None ≡ Some m → m.number ≡ h.0 → is_of r.entries m ≡ true
    → is_holder_there (attached_to places r) h ≡ true
there_at places r h m disk there number entry =
    let birth : m.birth ≡ h.1 = same_Some m.birth h.1 (sym (entry_birth r.entries m entry) ∙ ap (λ (d : ℕ). option_map (λ (e : Entry). e.birth) (entry_of r.entries d)) number ∙ disk.birth) in
    any_among (λ (n : Member). (n.number == h.0) && (n.birth == h.1)) (attached_to places r) m
    (held_below places r 64 h.0 m disk.small (record { there = there; number = number; entry = entry; bit = disk.bit }))
    (λ i. eq-eqb m.number h.0 number i && eq-eqb m.birth h.1 birth i)

-- the member that a disk is
record IsSeen (ms : List Member) (h : Holder) : Type 0 where
  member : Member
  among : IsAmong ms member
  number : member.number ≡ h.0
  birth : member.birth ≡ h.1

seen : (ms : List Member) (h : Holder) → is_holder_there ms h ≡ true → IsSeen ms h
seen ms h is =
    let f = found (λ (n : Member). (n.number == h.0) && (n.birth == h.1)) ms is in
    let parts = and_parts (f.0.number == h.0) (f.0.birth == h.1) f.2 in
    record { member = f.0; among = f.1; number = eqb-true f.0.number h.0 parts.0; birth = eqb-true f.0.birth h.1 parts.1 }

of_its_entry : (r : Status) (h : Holder) (m : Member) → IsInSets r h → m.number ≡ h.0 → m.birth ≡ h.1 → is_of r.entries m ≡ true
of_its_entry r h m disk number birth =
    has_birth r.entries m (ap (λ (d : ℕ). option_map (λ (e : Entry). e.birth) (entry_of r.entries d)) number ∙ disk.birth ∙ ap (λ (b : ℕ). Some b) (sym birth))

-- more members are enough where some are
pub more_reach : (some more : List Member) (r : Status) → ((m : Member) → IsAmong some m → IsAmong more m) → missing some (Some r) ≡ None → missing more (Some r) ≡ None
more_reach some more r among = none_short some more (sets r)
    (λ one h of_sets in_one is.
    let k = seen some h is in
    any_among (λ (n : Member). (n.number == h.0) && (n.birth == h.1)) more k.member (among k.member k.among)
    (λ i. eq-eqb k.member.number h.0 k.number i && eq-eqb k.member.birth h.1 k.birth i))

-- ---- a record with the same sets

pub same_sets_reach : (places : List (Option Member)) (r s : Status) → sets s ≡ sets r → Reaches places r → Reaches places s
same_sets_reach places r s same reached = none_short (attached_to places r) (attached_to places s) (sets s)
    (λ one h of_sets in_one is.
    let disk = is_in_sets s one h of_sets in_one in
    let k = seen (attached_to places r) h is in
    let f = among_below places r 64 k.member k.among in
    let at : f.0 ≡ h.0 = sym f.2.number ∙ k.number in
    there_at places s h k.member disk (ap (λ (d : ℕ). get_or places d None) (sym at) ∙ f.2.there) k.number (of_its_entry s h k.member disk k.number k.birth))
    (ap (λ (l : List (List Holder)). shortfall (attached_to places r) l) same ∙ reached)

-- ---- members in the places of their numbers

pub placed_reach : (r : Status) (ms took : List Member) → AreNumbered ms → ((m : Member) → IsAmong took m → IsAmong ms m) → missing took (Some r) ≡ None
    → Reaches (all_placed r.entries (replicate 64 None) ms) r
placed_reach r ms took small among enough = none_short took (attached_to (all_placed r.entries (replicate 64 None) ms) r) (sets r)
    (λ one h of_sets in_one is.
    let disk = is_in_sets r one h of_sets in_one in
    let k = seen took h is in
    let good = placed_good r.entries ms k.member small (among k.member k.among) (of_its_entry r h k.member disk k.number k.birth) in
    there_at (all_placed r.entries (replicate 64 None) ms) r h good.0 disk (ap (λ (d : ℕ). get_or (all_placed r.entries (replicate 64 None) ms) d None) (sym k.number) ∙ good.1) (good.2 ∙ k.number) good.3)
    enough

pub claim_reaches : (s t : BayState) (survey : Surveyed) → AreNumbered survey.members → (answer : Result Registered SurveyError) → IsClaimAnswer survey answer s t
    → IfOk answer (λ register. Reaches register.members register.value)
claim_reaches s t survey small (Err refusal) answered = tt
claim_reaches s t survey small (Ok register) answered = subst (λ (r : Registered). Reaches r.members r.value) (sym answered.3.1)
    (placed_reach survey.value survey.members answered.0 small (kept_among (RoseAt s t) survey.members answered.0 answered.1) answered.3.0)

-- a record as it is written
pub written_reaches : (old : Registered) (next : Status) → Reaches old.members next → Reaches old.members (with_next_number old next)
written_reaches old next reached = ap (λ (l : List Member). shortfall l (sets next)) (same_attached old.members next old.epoch (with_next_number old next).turn 64) ∙ reached

-- ---- a member more

at_place : {A : Type 0} (xs : List (Option A)) (i j : ℕ) (x y : A) → i ≡ j → get_or xs j None ≡ Some y → get_or (set xs i (Some x)) j None ≡ Some x
at_place [] i j x y same is = absurd (none-some y is)
at_place (o ∷ xs) zero zero x y same is = refl
at_place (o ∷ xs) zero (suc j) x y same is = absurd (omega (arith, same))
at_place (o ∷ xs) (suc i) zero x y same is = absurd (omega (arith, same))
at_place (o ∷ xs) (suc i) (suc j) x y same is = at_place xs i j x y (omega (arith, same)) is

pub attached_reaches : (register : Registered) (m : Member) → is_of register.value.entries m ≡ true → Reaches register.members register.value → Reaches (with_attached register m).members register.value
attached_reaches register m of_entry reached =
    let places = register.members in
    let more = set places m.number (Some m) in
    let r = register.value in
    none_short (attached_to places r) (attached_to more r) (sets r)
    (λ one h of_sets in_one is.
    let disk = is_in_sets r one h of_sets in_one in
    let k = seen (attached_to places r) h is in
    let f = among_below places r 64 k.member k.among in
    let at : f.0 ≡ h.0 = sym f.2.number ∙ k.number in
    let there : get_or places h.0 None ≡ Some k.member = ap (λ (d : ℕ). get_or places d None) (sym at) ∙ f.2.there in
    elim (cases_eq h.0 m.number) [
      | inl same ↦ there_at more r h m disk (at_place places m.number h.0 m k.member (sym same) there) (sym same) of_entry
      | inr other ↦ there_at more r h k.member disk (get_or-set_other places m.number h.0 (Some m) None other ∙ there) k.number (of_its_entry r h k.member disk k.number k.birth)
    ])
    reached
