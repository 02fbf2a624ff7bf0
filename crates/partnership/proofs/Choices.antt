-- The homes of the first three copies.
use Rattle.std.proofs.Common.{◌≡◌, inl, inr, ℕ, suc, ◌-◌, List, [], ◌∷◌, refl, sym, ap, Option, Some, None, arith}
use Rattle.std.specs.Option.{option_and_then}
use Rattle.std.proofs.lemmas.Bool.{cases_lt, lt-leb, le-leb}
use Rattle.asm_formats.specs.Items.{Home, Homes}
use Rattle.partnership.specs.Candidates.{Candidate, candidate_tried_first, among, is_outside, is_disk_in_set, candidates_in_turn, homes, candidate_home, three, chosen_homes, may_be_first_candidate}
use Rattle.partnership.specs.Steps.{second_of, third_of, after_second}

none_more : (cs : List Candidate) (f : Candidate) (k : ℕ) → k ≡ 0 → three (homes (f ∷ candidates_in_turn cs (f.entry.failgroup ∷ []) k)) ≡ f.home ∷ None ∷ None ∷ []
none_more cs f k is = rw is refl

one_more : (cs : List Candidate) (f : Candidate) (k : ℕ) → k ≡ suc 0
    → three (homes (f ∷ candidates_in_turn cs (f.entry.failgroup ∷ []) k)) ≡ f.home ∷ option_and_then candidate_home (candidate_tried_first (among (is_outside (f.entry.failgroup ∷ [])) cs)) ∷ None ∷ []
one_more cs f k is = rw is (by (candidate_tried_first (among (is_outside (f.entry.failgroup ∷ [])) cs)) refl)
  where
    by : (o : Option Candidate) → candidate_tried_first (among (is_outside (f.entry.failgroup ∷ [])) cs) ≡ o → three (homes (f ∷ candidates_in_turn cs (f.entry.failgroup ∷ []) (suc 0))) ≡ f.home ∷ option_and_then candidate_home o ∷ None ∷ []
    by None e = rw e refl
    by (Some c) e = rw e refl

two_more : (cs : List Candidate) (f : Candidate) (k j : ℕ) → k ≡ suc (suc j)
    → three (homes (f ∷ candidates_in_turn cs (f.entry.failgroup ∷ []) k))
    ≡ f.home ∷ option_and_then candidate_home (candidate_tried_first (among (is_outside (f.entry.failgroup ∷ [])) cs))
    ∷ option_and_then candidate_home (option_and_then (after_second cs f.entry.failgroup) (candidate_tried_first (among (is_outside (f.entry.failgroup ∷ [])) cs))) ∷ []
two_more cs f k j is = rw is (by (candidate_tried_first (among (is_outside (f.entry.failgroup ∷ [])) cs)) refl)
  where
    by : (o : Option Candidate) → candidate_tried_first (among (is_outside (f.entry.failgroup ∷ [])) cs) ≡ o
        → three (homes (f ∷ candidates_in_turn cs (f.entry.failgroup ∷ []) (suc (suc j)))) ≡ f.home ∷ option_and_then candidate_home o ∷ option_and_then candidate_home (option_and_then (after_second cs f.entry.failgroup) o) ∷ []
    by None e = rw e refl
    by (Some c) e = rw e (last (after_second cs f.entry.failgroup c) refl)
      where
        last : (p : Option Candidate) → candidate_tried_first (among (is_outside (c.entry.failgroup ∷ f.entry.failgroup ∷ [])) cs) ≡ p
            → three (homes (f ∷ c ∷ candidates_in_turn cs (c.entry.failgroup ∷ f.entry.failgroup ∷ []) (suc j))) ≡ f.home ∷ c.home ∷ option_and_then candidate_home p ∷ []
        last None e = rw e refl
        last (Some d) e = rw e refl

pub others : (cs : List Candidate) (f : Candidate) (copies : ℕ)
    → three (homes (f ∷ candidates_in_turn cs (f.entry.failgroup ∷ []) (copies - 1)))
    ≡ f.home ∷ option_and_then candidate_home (second_of cs f.entry.failgroup copies) ∷ option_and_then candidate_home (third_of cs f.entry.failgroup copies (second_of cs f.entry.failgroup copies)) ∷ []
unfolding second_of third_of
others cs f copies = elim (cases_lt 1 copies) [
  | inr one ↦ rw (le-leb copies 1 one, le-leb copies 2 (omega arith)) (none_more cs f (copies - 1) (omega arith))
  | inl more ↦ elim (cases_lt 2 copies) [
    | inr two ↦ rw (lt-leb copies 1 more, le-leb copies 2 two) (one_more cs f (copies - 1) (omega arith))
    | inl three ↦ rw (lt-leb copies 1 more, lt-leb copies 2 three) (two_more cs f (copies - 1) (copies - 3) (omega arith))
  ]
]

-- the three homes, by the disks that were found
pub three_homes : (cs : List Candidate) (copies : ℕ) (f : Candidate) (second third : Option Candidate) (a b c : Option Home) → candidate_tried_first (among (may_be_first_candidate cs copies) cs) ≡ Some f
    → second ≡ second_of (among (is_disk_in_set f.entry.partners) cs) f.entry.failgroup copies
    → third ≡ third_of (among (is_disk_in_set f.entry.partners) cs) f.entry.failgroup copies second
    → a ≡ f.home → b ≡ option_and_then candidate_home second → c ≡ option_and_then candidate_home third → Some (a ∷ b ∷ c ∷ []) ≡ chosen_homes cs copies
three_homes cs copies f second third a b c first is_second is_third is_a is_b is_c =
    rw (first, is_a, is_b, is_c, is_third, is_second) (ap (λ (l : Homes). Some l) (sym (others (among (is_disk_in_set f.entry.partners) cs) f copies)))
