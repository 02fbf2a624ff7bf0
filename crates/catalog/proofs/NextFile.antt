-- The next file number.
use Rattle.std.proofs.Common.{◌≡◌, ◌<◌, ◌≤◌, ◌+◌, ◌^◌, ℕ, zero, suc, Bool, true, false, Option, Some, None, refl, sym, ap, subst, ◌∙◌, arith, inl, inr, ◌⊎◌}
use Rattle.std.proofs.lemmas.Bool.{eqb-true, ne_eqb, true≢false}
use Rattle.asm_formats.specs.Items.{Pending}
use Rattle.plan_records.specs.file_directory.Files.{IsFreeFrom, is_file_number}
use Rattle.catalog.specs.Numbers.{IsNextFile, IsUntaken, is_taken}
use Rattle.asm_placement.specs.Naming.{is_pending}
use Rattle.plan_records.specs.catalog_tables.Tables.{Tables}

three : (a b : ℕ) → (a < b) ⊎ ((a ≡ b) ⊎ (b < a))
three zero zero = inr (inl refl)
three zero (suc b) = inl (omega arith)
three (suc a) zero = inr (inr (omega arith))
three (suc a) (suc b) = elim (three a b) [
  | inl less ↦ inl (omega (arith, less))
  | inr other ↦ elim other [ inl same ↦ inr (inl (ap suc same)) | inr more ↦ inr (inr (omega (arith, more))) ]
]

file_taken : (t : Tables) (k : ℕ) → is_file_number t.files k ≡ true → is_taken t k ≡ true
file_taken t k e = rw e refl

pending_taken : (t : Tables) (k : ℕ) → is_pending k t.operations.pending ≡ true → is_taken t k ≡ true
pending_taken t k e = by (is_file_number t.files k) refl where
  by : (b : Bool) → is_file_number t.files k ≡ b → is_taken t k ≡ true
  by true q = rw q refl
  by false q = rw (q, e) refl

-- an operation is on one file
not_pending : (o : Option Pending) (f g : ℕ) → is_pending f o ≡ true → f < g → is_pending g o ≡ false
not_pending None f g e less = refl
not_pending (Some op) f g e less = let is : op.file ≡ f = eqb-true op.file f e in ne_eqb op.file g (λ same. omega (arith, less, is, same))

pub untaken_is_next : (t : Tables) (f : ℕ) → IsUntaken t f → IsNextFile t f
untaken_is_next t f u = record { at_least = u.at_least; others = u.others; free = λ e. absurd (true≢false (sym e ∙ u.free)) }

pub none_is_last : (t : Tables) → ((k : ℕ) → 256 ≤ k → k < 2 ^ 32 → is_taken t k ≡ true) → IsNextFile t 4294967295
none_is_last t all = record { at_least = omega arith; others = λ k le lt. all k le (omega (arith, lt)); free = λ e. refl }

module _ (t : Tables) (f : ℕ) (first : IsFreeFrom t.files 256 f) where
  pub first_is : is_pending f t.operations.pending ≡ false → IsUntaken t f
  first_is p = record { at_least = first.at_least; others = λ k le lt. file_taken t k (first.no_other k le lt); free = rw (first.free, p) refl }

  up_to : is_pending f t.operations.pending ≡ true → (k : ℕ) → 256 ≤ k → (f < k → is_taken t k ≡ true) → is_taken t k ≡ true
  up_to p k le above = elim (three k f) [
    | inl less ↦ file_taken t k (first.no_other k le less)
    | inr other ↦ elim other [ inl same ↦ pending_taken t k (subst (λ (n : ℕ). is_pending n t.operations.pending ≡ true) (sym same) p) | inr more ↦ above more ]
  ]

  pub second_is : (g n : ℕ) → n ≡ f + 1 → is_pending f t.operations.pending ≡ true → IsFreeFrom t.files n g → IsUntaken t g
  second_is g n next p second =
      let less : f < g = omega (arith, next, second.at_least) in
      record {
        at_least = omega (arith, less, first.at_least);
        others = λ k le lt. up_to p k le (λ above. file_taken t k (second.no_other k (omega (arith, above, next)) lt));
        free = rw (second.free, not_pending t.operations.pending f g p less) refl;
      }

  pub none_behind : (n : ℕ) → n ≡ f + 1 → is_pending f t.operations.pending ≡ true → ((k : ℕ) → n ≤ k → k < 2 ^ 32 → is_file_number t.files k ≡ true) → (k : ℕ) → 256 ≤ k → k < 2 ^ 32 → is_taken t k ≡ true
  none_behind n next p all k le lt = up_to p k le (λ above. file_taken t k (all k (omega (arith, above, next)) lt))

  pub at_end : 4294967295 ≤ f → is_pending f t.operations.pending ≡ true → (k : ℕ) → 256 ≤ k → k < 2 ^ 32 → is_taken t k ≡ true
  at_end end p k le lt = up_to p k le (λ above. absurd (omega (arith, above, end, lt)))

pub none_at_all : (t : Tables) → ((k : ℕ) → 256 ≤ k → k < 2 ^ 32 → is_file_number t.files k ≡ true) → (k : ℕ) → 256 ≤ k → k < 2 ^ 32 → is_taken t k ≡ true
none_at_all t all k le lt = file_taken t k (all k le lt)
