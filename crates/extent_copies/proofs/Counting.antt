-- Which copies count, by an extent's homes and marks and by the records.
use Rattle.std.proofs.Common.{◌≡◌, ℕ, zero, suc, ◌+◌, ◌-◌, ◌<◌, ◌≤◌, Bool, true, false, cond, not, ◌&&◌, List, [], ◌∷◌, refl, sym, ap, ◌∙◌, Option, Some, None, arith, add-one}
use Rattle.std.specs.Prelude.{find}
use Rattle.std.specs.Option.{is_some, option_map}
use Rattle.asm_group.specs.Shape.{Shape}
use Rattle.asm_formats.specs.Status.{Entry}
use Rattle.asm_formats.specs.Items.{Item}
use Rattle.asm_placement.specs.Modes.{serves}
use Rattle.asm_placement.specs.Copies.{Copy, home, copies_at, is_on}
use Rattle.extent_copies.specs.declared.extent.Extent.{Extent}
use Rattle.extent_copies.specs.Extents.{IsExtentOf, copy_of}
use Rattle.extent_copies.specs.Usable.{copies_after, first_passing, first_usable, is_current, is_current_at, is_fresh, is_fresh_at, is_kept_mode, is_usable, is_usable_at, is_home_in_disk_set}
use Rattle.extent_copies.proofs.Verdicts.{rest}

-- ---- by the records

pub fresh_is : (b : Bool) (s : Shape) (items : List Item) (all : List Copy) (x : Extent) (k : ℕ) → b ≡ is_fresh_at x k → IsExtentOf s items all x → k < x.copies → b ≡ is_fresh items (copy_of x k)
fresh_is b s items all x k is are less = is ∙ ap (λ (m : Bool). is_some (home (copy_of x k)) && not m) (are.marks k less)

pub current_is : (b : Bool) (es : List Entry) (s : Shape) (items : List Item) (all : List Copy) (x : Extent) (k : ℕ) → b ≡ is_current_at es x k → IsExtentOf s items all x → k < x.copies → b ≡ is_current es items (copy_of x k)
current_is b es s items all x k is are less = is ∙ ap (λ (m : Bool). is_on is_kept_mode es (copy_of x k) && not m) (are.marks k less)

same_usable : (attached : ℕ) (es : List Entry) (s : Shape) (items : List Item) (all : List Copy) (x : Extent) → IsExtentOf s items all x → (k : ℕ) → k < x.copies → is_usable_at attached es x k ≡ is_usable attached es items (copy_of x k)
same_usable attached es s items all x are k less = ap (λ (m : Bool). (is_on serves es (copy_of x k) && not m) && is_home_in_disk_set attached (home (copy_of x k))) (are.marks k less)

pub usable_is : (b : Bool) (attached : ℕ) (es : List Entry) (s : Shape) (items : List Item) (all : List Copy) (x : Extent) (k : ℕ) → b ≡ is_usable_at attached es x k → IsExtentOf s items all x → k < x.copies → b ≡ is_usable attached es items (copy_of x k)
usable_is b attached es s items all x k is are less = is ∙ same_usable attached es s items all x are k less

found_first : (test : Copy → Bool) (p : ℕ → Bool) (x : Extent) (k n : ℕ) → ((j : ℕ) → j < k + n → p j ≡ test (copy_of x j))
    → first_passing p k n ≡ option_map (λ (y : Copy). y.copy) (find test (copies_at x.id.file x.id.index x.homes k n))
found_first test p x k zero same = refl
found_first test p x k (suc n) same =
    ap (λ (b : Bool). cond b (Some k) (first_passing p (suc k) n)) (same k (omega arith))
    ∙ by (test (copy_of x k)) (found_first test p x (suc k) n (λ j less. same j (omega arith)))
  where
    by : (b : Bool) → first_passing p (suc k) n ≡ option_map (λ (y : Copy). y.copy) (find test (copies_at x.id.file x.id.index x.homes (suc k) n))
        → cond b (Some k) (first_passing p (suc k) n) ≡ option_map (λ (y : Copy). y.copy) (cond b (Some (copy_of x k)) (find test (copies_at x.id.file x.id.index x.homes (suc k) n)))
    by true later = refl
    by false later = later

pub first_usable_is : (o : Option ℕ) (attached : ℕ) (es : List Entry) (s : Shape) (items : List Item) (all : List Copy) (x : Extent) (from : ℕ) → o ≡ first_passing (is_usable_at attached es x) from (x.copies - from)
    → IsExtentOf s items all x → o ≡ first_usable attached es items (copies_after x from)
first_usable_is o attached es s items all x from is are = is ∙ by (x.copies - from) (omega arith)
  where
    by : (n : ℕ) → (0 < n → from + n ≤ x.copies) → first_passing (is_usable_at attached es x) from n ≡ first_usable attached es items (copies_at x.id.file x.id.index x.homes from n)
    by zero within = refl
    by (suc n) within =
        found_first (is_usable attached es items) (is_usable_at attached es x) x from (suc n) (λ j less. same_usable attached es s items all x are j (omega (arith, within (omega arith), less)))

-- ---- the first, one by one

abbrev pub IsFirst : (ℕ → Bool) → ℕ → ℕ → ℕ → Type 0
IsFirst test n from k = first_passing test k (n - k) ≡ first_passing test from (n - from)

first_here : (test : ℕ → Bool) (n k : ℕ) (b : Bool) → k < n → test k ≡ b → first_passing test k (n - k) ≡ cond b (Some k) (first_passing test (k + 1) (n - (k + 1)))
first_here test n k b less is =
    ap (first_passing test k) (rest n k less) ∙ ap (λ (c : Bool). cond c (Some k) (first_passing test (suc k) (n - suc k))) is
    ∙ ap (λ (j : ℕ). cond b (Some k) (first_passing test j (n - j))) (sym (add-one k))

pub first_more : (test : ℕ → Bool) (n from k : ℕ) → k < n → test k ≡ false → IsFirst test n from k → IsFirst test n from (k + 1)
first_more test n from k less fails so_far = sym (first_here test n k false less fails) ∙ so_far

pub first_found : (test : ℕ → Bool) (n from k : ℕ) → k < n → test k ≡ true → IsFirst test n from k → Some k ≡ first_passing test from (n - from)
first_found test n from k less passes so_far = sym (first_here test n k true less passes) ∙ so_far

pub first_end : (test : ℕ → Bool) (n from k : ℕ) → n ≤ k → IsFirst test n from k → None ≡ first_passing test from (n - from)
first_end test n from k past so_far = let none : n - k ≡ 0 = omega arith in sym (ap (first_passing test k) none) ∙ so_far
