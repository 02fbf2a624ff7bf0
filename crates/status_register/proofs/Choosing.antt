-- The slot that is put doesn't hold more than the other one.
use Rattle.std.proofs.Common.{◌≡◌, ◌⊎◌, inl, inr, ⊎_elim, ℕ, ◌≤◌, Bool, List, [], ◌∷◌, Option, Some, None, refl, sym, ap, subst, arith, nat_le}
use Rattle.std.specs.Prelude.{◌==◌}
use Rattle.std.proofs.lemmas.Bool.{cond_both, cond-true, cond-false, leb-true, leb-false}
use Rattle.std.proofs.lemmas.Option.{same_Some, none-some}
use Rattle.bay.specs.Image.{Image}
use Rattle.asm_formats.specs.Among.{IsAmong}
use Rattle.asm_formats.specs.Claim.{Claim, decoded_claim}
use Rattle.asm_formats.specs.Status.{Status, decoded_status}
use Rattle.asm_formats.specs.Following.{rank}
use Rattle.asm_formats.specs.Metadata.{in_slot}
use Rattle.asm_formats.specs.Slots.{ArePair}
use Rattle.asm_images.specs.Bridge.{disk_bytes}
use Rattle.asm_images.specs.Members.{those}
use Rattle.asm_images.specs.PutLaws.{OtherClaims, OtherHolds}
use Rattle.status_register.specs.Slots.{body_says, passing_number, other_gate, claim_gate, status_gate}
use Rattle.status_register.specs.Sayings.{none_or_one}
use Rattle.status_register.proofs.Surveying.{slot_says}

module _ {A : Type 0} (test : A → Bool) (number : A → ℕ) (p q : ℕ) where
  -- each value that passes in one slot has one in the other that isn't smaller
  abbrev pub Holds : List (Option A) → List (Option A) → Type 0
  Holds here there = (x : A) → IsAmong (those test here) x → (y : A) × IsAmong (those test there) y × (number x ≤ number y)

  abbrev pub Fact : ℕ → Option (Option A) → Option (Option A) → Type 0
  Fact g a b = ((g ≡ p) × Holds (none_or_one a) (none_or_one b)) ⊎ ((g ≡ q) × Holds (none_or_one b) (none_or_one a))

  empty_holds : (here there : List (Option A)) → those test here ≡ [] → Holds here there
  empty_holds here there none x h = absurd (subst (λ (l : List A). IsAmong l x) none h)

  none_number : (o : Option (Option A)) → passing_number test number o ≡ None → those test (none_or_one o) ≡ []
  none_number None e = refl
  none_number (Some None) e = refl
  none_number (Some (Some x)) e = cond_both (test x) (Some (number x)) None (λ (r : Option ℕ). r ≡ None → those test (Some x ∷ []) ≡ [])
      (λ yes some. absurd (none-some (number x) (sym some)))
      (λ out none. cond-false (test x) (x ∷ []) [] out) e

  some_number : (o : Option (Option A)) (n : ℕ) → passing_number test number o ≡ Some n → (x : A) × (those test (none_or_one o) ≡ x ∷ []) × (number x ≡ n)
  some_number None n e = absurd (none-some n e)
  some_number (Some None) n e = absurd (none-some n e)
  some_number (Some (Some x)) n e = cond_both (test x) (Some (number x)) None (λ (r : Option ℕ). r ≡ Some n → (y : A) × (those test (Some x ∷ []) ≡ y ∷ []) × (number y ≡ n))
      (λ yes some. (x, cond-true (test x) (x ∷ []) [] yes, same_Some (number x) n some))
      (λ out none. absurd (none-some n none)) e

  one_holds : (here there : List (Option A)) (x y : A) → those test here ≡ x ∷ [] → those test there ≡ y ∷ [] → number x ≤ number y → Holds here there
  one_holds here there x y is_here is_there le z h =
      let only : z ≡ x = ⊎_elim (λ same. same) (λ none. absurd none) (subst (λ (l : List A). IsAmong l z) is_here h) in
      (y, subst (λ (l : List A). IsAmong l y) (sym is_there) (inl refl), omega (arith, ap number only, le))

  pub other_facts : (a b : Option (Option A)) → Fact (other_gate p q (passing_number test number a) (passing_number test number b)) a b
  other_facts a b = by (passing_number test number a) (passing_number test number b) refl refl
    where
      by : (m n : Option ℕ) → passing_number test number a ≡ m → passing_number test number b ≡ n → Fact (other_gate p q (passing_number test number a) (passing_number test number b)) a b
      by None n ea eb = inl (ap (λ (o : Option ℕ). other_gate p q o (passing_number test number b)) ea, empty_holds (none_or_one a) (none_or_one b) (none_number a ea))
      by (Some i) None ea eb = inr ((λ k. other_gate p q (ea k) (eb k)), empty_holds (none_or_one b) (none_or_one a) (none_number b eb))
      by (Some i) (Some j) ea eb =
          let x = some_number a i ea in
          let y = some_number b j eb in
          cond_both (nat_le j i) q p (λ (g : ℕ). other_gate p q (passing_number test number a) (passing_number test number b) ≡ g → Fact (other_gate p q (passing_number test number a) (passing_number test number b)) a b)
          (λ le is. inr (is, one_holds (none_or_one b) (none_or_one a) y.0 x.0 y.1 x.1 (omega (arith, x.2, y.2, leb-true j i le))))
          (λ above is. inl (is, one_holds (none_or_one a) (none_or_one b) x.0 y.0 x.1 y.1 (omega (arith, x.2, y.2, leb-false j i above))))
          (λ k. other_gate p q (ea k) (eb k))

-- ---- the gates of a disk

-- the gate and the other one of its pair
pub record IsNext (first second gate : ℕ) (Other : ℕ → ℕ → Type 0) : Type 0 where
  pub other : ℕ
  pub pair : ArePair first second gate other
  pub rule : Other gate other

-- what the slot that is put holds isn't greater than what the other slot of the pair holds
module _ {A : Type 0} (decoded : List ℕ → Option A) (test : A → Bool) (number : A → ℕ) (p q slot : ℕ) (image : Image) (long : 40960 ≤ image.size slot) (p_low : p ≤ 8) (q_low : q ≤ 8) where
  abbrev pub Less : ℕ → ℕ → Type 0
  Less here there = Holds test number p q (in_slot decoded (disk_bytes image slot) here) (in_slot decoded (disk_bytes image slot) there)

  says : (k : ℕ) → k ≤ 8 → none_or_one (body_says decoded image slot k) ≡ in_slot decoded (disk_bytes image slot) k
  says k le = sym (slot_says decoded image slot k (omega (arith, le, long)))

  -- a gate of the pair, and the other one
  chosen : (gate here there : ℕ) → here ≤ 8 → there ≤ 8 → ArePair p q here there → gate ≡ here → Holds test number p q (none_or_one (body_says decoded image slot here)) (none_or_one (body_says decoded image slot there))
      → IsNext p q gate Less
  chosen gate here there here_low there_low pair is holds = record {
    other = there;
    pair = subst (λ (g : ℕ). ArePair p q g there) (sym is) pair;
    rule = subst (λ (g : ℕ). Less g there) (sym is)
        (subst (λ (l : List (Option A)). Holds test number p q l (in_slot decoded (disk_bytes image slot) there)) (says here here_low)
        (subst (λ (l : List (Option A)). Holds test number p q (none_or_one (body_says decoded image slot here)) l) (says there there_low) holds));
  }

  pub next_of : IsNext p q (other_gate p q (passing_number test number (body_says decoded image slot p)) (passing_number test number (body_says decoded image slot q))) Less
  next_of = ⊎_elim
      (λ is. chosen _ p q p_low q_low (inl (refl, refl)) is.0 is.1)
      (λ is. chosen _ q p q_low p_low (inr (refl, refl)) is.0 is.1)
      (other_facts test number p q (body_says decoded image slot p) (body_says decoded image slot q))

module _ (id slot : ℕ) (image : Image) (long : 40960 ≤ image.size slot) where
  pub claim_gate_next : IsNext 2 4 (claim_gate id slot image) (OtherClaims id (disk_bytes image slot))
  unfolding claim_gate
  claim_gate_next = next_of decoded_claim (λ (c : Claim). c.id == id) (λ (c : Claim). c.epoch) 2 4 slot image long (omega arith) (omega arith)

  pub status_gate_next : IsNext 6 8 (status_gate id slot image) (OtherHolds id (disk_bytes image slot))
  unfolding status_gate
  status_gate_next = next_of decoded_status (λ (r : Status). r.id == id) rank 6 8 slot image long (omega arith) (omega arith)
