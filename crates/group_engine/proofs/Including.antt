-- A set with a disk more, disk by disk.
use Rattle.std.proofs.Common.{◌≡◌, ◌⊎◌, inl, inr, ⊎_elim, ℕ, zero, suc, ◌+◌, ◌<◌, ◌≤◌, Bool, true, false, List, [], ◌∷◌, refl, sym, ap, ◌∙◌, arith}
use Rattle.std.specs.Prelude.{◌&&◌, ◌||◌, ◌==◌}
use Rattle.std.specs.List.{list_all, range_with_len}
use Rattle.std.proofs.lemmas.Bool.{and_parts, cases_eq, eq-eqb, eqb-true, false≢true}
use Rattle.asm_formats.specs.Sets.{elements, has_bit, most_disks}
use Rattle.asm_formats.specs.Status.{Entry, has_entry, have_entries}
use Rattle.asm_formats.specs.Among.{IsAmong}
use Rattle.asm_placement.proofs.Membership.{among_filtered}
use Rattle.group_engine.specs.Copying.{IsWith}
use Rattle.group_engine.proofs.Sets.{element_bit, element_small}

range_among : (n from d : ℕ) → from ≤ d → d < from + n → IsAmong (range_with_len from n) d
range_among zero from d low high = absurd (omega (arith, low, high))
range_among (suc n) from d low high = ⊎_elim (λ e. inl e) (λ other. inr (range_among n (from + 1) d (omega (arith, low, other)) (omega (arith, high)))) (cases_eq d from)

pub element_of : (set d : ℕ) → d < 64 → has_bit set d ≡ true → IsAmong (elements set) d
unfolding elements
element_of set d lt bit = among_filtered (has_bit set) (range_with_len 0 most_disks) d (range_among 64 0 d (omega arith) lt) bit

or_either : (b c : Bool) → (b || c) ≡ true → (b ≡ true) ⊎ (c ≡ true)
or_either true c e = inl refl
or_either false c e = inr e

or_second : (b c : Bool) → c ≡ true → (b || c) ≡ true
or_second true c e = refl
or_second false c e = e

or_first : (b c : Bool) → b ≡ true → (b || c) ≡ true
or_first true c e = refl
or_first false c e = absurd (false≢true e)

module _ (more all d : ℕ) (with : IsWith more all d) where
  with_bit : (k : ℕ) → k < 64 → has_bit all k ≡ true → has_bit more k ≡ true
  with_bit k lt bit = with k lt ∙ or_second (k == d) (has_bit all k) bit

  pub own_bit : d < 64 → has_bit more d ≡ true
  own_bit lt = with d lt ∙ or_first (d == d) (has_bit all d) (eq-eqb d d refl)

  pub with_element : (k : ℕ) → IsAmong (elements all) k → IsAmong (elements more) k
  with_element k h = element_of more k (element_small all k h) (with_bit k (element_small all k h) (element_bit all k h))

  pub which : (k : ℕ) → IsAmong (elements more) k → (k ≡ d) ⊎ IsAmong (elements all) k
  which k h = ⊎_elim (λ same. inl (eqb-true k d same)) (λ bit. inr (element_of all k (element_small more k h) bit))
      (or_either (k == d) (has_bit all k) (sym (with k (element_small more k h)) ∙ element_bit more k h))

  -- each disk of the set with one more has an entry
  pub with_have : (entries : List Entry) → has_entry entries d ≡ true → have_entries entries all ≡ true → have_entries entries more ≡ true
  with_have entries has have = each (elements more) (λ k h. ⊎_elim (λ same. ap (has_entry entries) same ∙ has) (λ in_all. passes (elements all) k in_all have) (which k h))
    where
      passes : (xs : List ℕ) (k : ℕ) → IsAmong xs k → list_all (has_entry entries) xs ≡ true → has_entry entries k ≡ true
      passes [] k h pass = absurd h
      passes (x ∷ xs) k (inl e) pass = ap (has_entry entries) e ∙ (and_parts (has_entry entries x) (list_all (has_entry entries) xs) pass).0
      passes (x ∷ xs) k (inr h) pass = passes xs k h (and_parts (has_entry entries x) (list_all (has_entry entries) xs) pass).1

      each : (xs : List ℕ) → ((k : ℕ) → IsAmong xs k → has_entry entries k ≡ true) → list_all (has_entry entries) xs ≡ true
      each [] pass = refl
      each (x ∷ xs) pass = λ i. pass x (inl refl) i && each xs (λ k h. pass k (inr h)) i
