-- One member more takes a body.
use Rattle.std.proofs.Common.{◌≡◌, ◌≢◌, ◌⊎◌, inl, inr, ⊎_elim, ℕ, zero, suc, ◌+◌, ◌*◌, ◌<◌, ◌≤◌, List, [], ◌∷◌, ◌++◌, length, take, get_or, Option, Some, None, refl, sym, ap, subst, ◌∙◌, arith}
use Rattle.std.specs.Prelude.{nat_le}
use Rattle.std.proofs.lemmas.Bool.{cond_both}
use Rattle.std.proofs.lemmas.List.{length-append}
use Rattle.bay.specs.Image.{Image, Range, ChangesOnly}
use Rattle.bay.specs.State.{BayState}
use Rattle.bay.specs.Moments.{Runs, Ends, Joins}
use Rattle.bay.proofs.Calls.{stops, both_done}
use Rattle.asm_formats.specs.Among.{IsAmong}
use Rattle.asm_images.specs.Bridge.{shown_block}
use Rattle.status_register.specs.Slots.{MayPutNext, PutsNext, first_gate, next_gate, number_in, other_gate, second_gate, status_gate}
use Rattle.status_register.specs.Rows.{HasBody, HaveBody, TakesMember, HaveOwnSlots}
use Rattle.status_register.specs.Surveys.{AreRead, none_yet, one_read, one_failed}
use Rattle.status_register.specs.declared.member.Member.{Member}
use Rattle.status_register.specs.declared.places.SlotPair.{SlotPair}
use Rattle.status_register.specs.declared.places.SlotPair.TheVariants.{Records}
use Rattle.status_register.proofs.Shown.{next_gate_by, same_shown}
use Rattle.status_register.proofs.Tallying.{RoseAt, still_read}

-- ---- members

among_append : (xs ys : List Member) (m : Member) → IsAmong (xs ++ ys) m → IsAmong xs m ⊎ IsAmong ys m
among_append [] ys m h = inr h
among_append (x ∷ xs) ys m (inl same) = inl (inl same)
among_append (x ∷ xs) ys m (inr h) = ⊎_elim (λ first. inl (inr first)) (λ second. inr second) (among_append xs ys m h)

pub append_left : (xs ys : List Member) (m : Member) → IsAmong xs m → IsAmong (xs ++ ys) m
append_left [] ys m h = absurd h
append_left (x ∷ xs) ys m (inl same) = inl same
append_left (x ∷ xs) ys m (inr h) = inr (append_left xs ys m h)

pub append_last : (xs : List Member) (m : Member) → IsAmong (xs ++ m ∷ []) m
append_last [] m = inl refl
append_last (x ∷ xs) m = inr (append_last xs m)

pub last_or_before : (xs : List Member) (m n : Member) → IsAmong (xs ++ m ∷ []) n → IsAmong xs n ⊎ (n ≡ m)
last_or_before xs m n h = ⊎_elim (λ before. inl before) (λ last. inr (⊎_elim (λ same. same) (λ none. absurd none) last)) (among_append xs (m ∷ []) n h)

pub kept_among : (failed : ℕ → Type 0) (ms kept : List Member) → AreRead failed ms kept → (n : Member) → IsAmong kept n → IsAmong ms n
kept_among failed ms kept none_yet n h = absurd h
kept_among failed ms kept (one_read before earlier m are) n h =
    ⊎_elim (λ old. append_left before (m ∷ []) n (kept_among failed before earlier are n old)) (λ same. subst (λ (k : Member). IsAmong (before ++ m ∷ []) k) (sym same) (append_last before m)) (last_or_before earlier m n h)
kept_among failed ms kept (one_failed before earlier m rose are) n h = append_left before (m ∷ []) n (kept_among failed before earlier are n h)

place_of : (ms : List Member) (i : ℕ) (n d : Member) → IsAmong (take i ms) n → (j : ℕ) × (j < i) × (j < length ms) × (n ≡ get_or ms j d)
place_of ms zero n d h = absurd h
place_of [] (suc i) n d h = absurd h
place_of (m ∷ ms) (suc i) n d (inl same) = (0, omega arith, omega arith, same)
place_of (m ∷ ms) (suc i) n d (inr h) = let p = place_of ms i n d h in (suc p.0, omega (arith, p.1), omega (arith, p.2), p.3)

pub earlier_slot : (ms : List Member) (i : ℕ) (d n : Member) → HaveOwnSlots ms → i < length ms → IsAmong (take i ms) n → n.slot ≢ (get_or ms i d).slot
earlier_slot ms i d n apart lt h same =
    let p = place_of ms i n d h in
    absurd (omega (arith, p.1, apart p.0 i d p.2 lt (sym (ap (λ (k : Member). k.slot) p.3) ∙ same)))

-- ---- gates

either_gate : (p q : ℕ) (a b : Option ℕ) → (other_gate p q a b ≡ p) ⊎ (other_gate p q a b ≡ q)
either_gate p q None b = inl refl
either_gate p q (Some n) None = inr refl
either_gate p q (Some n) (Some m) = cond_both (nat_le m n) q p (λ (g : ℕ). (g ≡ p) ⊎ (g ≡ q)) (λ le. inr refl) (λ above. inl refl)

pub next_gate_either : (pair : SlotPair) (id slot : ℕ) (image : Image) → (next_gate pair id slot image ≡ first_gate pair) ⊎ (next_gate pair id slot image ≡ second_gate pair)
next_gate_either pair id slot image = ⊎_elim
    (λ is. inl (next_gate_by pair id slot image ∙ is))
    (λ is. inr (next_gate_by pair id slot image ∙ is))
    (either_gate (first_gate pair) (second_gate pair) (number_in pair id (shown_block image slot (first_gate pair))) (number_in pair id (shown_block image slot (second_gate pair))))

pub status_gate_either : (id slot : ℕ) (image : Image) → (status_gate id slot image ≡ 6) ⊎ (status_gate id slot image ≡ 8)
status_gate_either id = next_gate_either Records id

-- ---- one more

module _ (gate_of : ℕ → Image → ℕ) (first second : ℕ) (either : (slot : ℕ) (image : Image) → (gate_of slot image ≡ first) ⊎ (gate_of slot image ≡ second)) (body : List ℕ) (m : Member) where
  other_shown : (slot gate k : ℕ) (y z : Image) → slot ≢ m.slot → ChangesOnly (Range m.slot (k * 4096) (2 * 4096)) y z → shown_block z slot gate ≡ shown_block y slot gate
  other_shown slot gate k y z differ step = same_shown slot gate y z (λ j. step.byte slot j (λ inside. differ inside.0))

  still_has : (slot k : ℕ) (y z : Image) → slot ≢ m.slot → ChangesOnly (Range m.slot (k * 4096) (2 * 4096)) y z → HasBody first second body slot y → HasBody first second body slot z
  still_has slot k y z differ step has =
      ⊎_elim (λ one. inl (other_shown slot first k y z differ step ∙ one)) (λ two. inr (other_shown slot second k y z differ step ∙ two)) has

  module _ (took : List Member) (apart : (n : Member) → IsAmong took n → n.slot ≢ m.slot) where
    kept_all : Joins (HaveBody first second body took) (MayPutNext gate_of m.slot body) (HaveBody first second body took)
    kept_all x y z have step n h = still_has n.slot (gate_of m.slot y) y z (apart n h) step.elsewhere (have n h)

    one_more : Joins (HaveBody first second body took) (PutsNext gate_of m.slot body) (HaveBody first second body (took ++ m ∷ []))
    one_more x y z have step n h = ⊎_elim
        (λ before. still_has n.slot (gate_of m.slot y) y z (apart n before) step.elsewhere (have n before))
        (λ same. subst (λ (k : Member). HasBody first second body k.slot z) (sym same)
        (⊎_elim (λ is. inl (subst (λ (g : ℕ). shown_block z m.slot g ≡ Some body) is step.shows)) (λ is. inr (subst (λ (g : ℕ). shown_block z m.slot g ≡ Some body) is step.shows)) (either m.slot y)))
        (last_or_before took m n h)

    pub takes_more : {s t u : BayState} {slots : ℕ → Type 0} (new : List Member) → TakesMember gate_of m body took new t u → Runs slots (MayPutNext gate_of m.slot body) t u
        → Ends (HaveBody first second body took) s t → Ends (HaveBody first second body new) s u
    takes_more {s} {t} {u} new takes run before = ⊎_elim
        (λ failed. subst (λ (l : List Member). Ends (HaveBody first second body l) s u) (sym failed.1) (both_done kept_all before (stops run)))
        (λ took_it. subst (λ (l : List Member). Ends (HaveBody first second body l) s u) (sym took_it.1) (both_done one_more before took_it.0))
        takes

module _ (s t u : BayState) {early later : ℕ → Type 0} {step more : Image → Image → Type 0} (first : Runs early step s t) (next : Runs later more t u) (gate_of : ℕ → Image → ℕ) (m : Member) (body : List ℕ) (took new : List Member)
    (takes : TakesMember gate_of m body took new t u) where
  rose_on : (slot : ℕ) → RoseAt s t slot → RoseAt s u slot
  rose_on slot rose = omega (arith, rose, next.faults slot)

  rose_over : (slot : ℕ) → RoseAt t u slot → RoseAt s u slot
  rose_over slot rose = omega (arith, rose, first.faults slot)

  pub takes_kept : (ms : List Member) → AreRead (RoseAt s t) ms took → AreRead (RoseAt s u) (ms ++ m ∷ []) new
  takes_kept ms are =
      let before = still_read (RoseAt s t) (RoseAt s u) rose_on ms took are in
      ⊎_elim
      (λ failed. subst (λ (l : List Member). AreRead (RoseAt s u) (ms ++ m ∷ []) l) (sym failed.1) (one_failed ms took m (rose_over m.slot failed.0) before))
      (λ took_it. subst (λ (l : List Member). AreRead (RoseAt s u) (ms ++ m ∷ []) l) (sym took_it.1) (one_read ms took m before))
      takes

-- without members there is nothing to show
pub none_have : (s : BayState) (first second : ℕ) (body : List ℕ) → Ends (HaveBody first second body []) s s
none_have s first second body = record { held = λ image holds. (image, holds, λ n h. absurd h); now = λ image left. (image, left, λ n h. absurd h) }

pub takes_few : (t u : BayState) (gate_of : ℕ → Image → ℕ) (m : Member) (body : List ℕ) (old new : List Member) → TakesMember gate_of m body old new t u → length new ≤ length old + 1
takes_few t u gate_of m body old new takes = ⊎_elim
    (λ failed. omega (arith, ap length failed.1))
    (λ took_it. omega (arith, ap length took_it.1, length-append old (m ∷ [])))
    takes

-- the members, left out or not, are no more than before
pub kept_few : (failed : ℕ → Type 0) (ms kept : List Member) → AreRead failed ms kept → length kept ≤ length ms
kept_few failed ms kept none_yet = omega arith
kept_few failed ms kept (one_read before earlier m are) = omega (arith, kept_few failed before earlier are, length-append before (m ∷ []), length-append earlier (m ∷ []))
kept_few failed ms kept (one_failed before earlier m rose are) = omega (arith, kept_few failed before earlier are, length-append before (m ∷ []))
