-- Tables by number: what is kept at a number, and the order of the numbers.
use Rattle.std.specs.Prelude.{◌≡◌, ◌≤◌, ◌<◌, ℕ, Bool, false, List, Option, IsTrue}
use Rattle.std.specs.Ordering.{nat_cmp}
use Rattle.item_table.specs.Tables.{at_key, has_key, is_key_before, with_key, without_key}

abbrev pub at_number : {T : Type 0} → List (ℕ × T) → ℕ → Option T
at_number table number = at_key nat_cmp table number

abbrev pub has_number : {T : Type 0} → List (ℕ × T) → ℕ → Bool
has_number table number = has_key nat_cmp table number

-- the table that keeps this at a number, and the one without the number
abbrev pub with_number : {T : Type 0} → List (ℕ × T) → ℕ → T → List (ℕ × T)
with_number table number kept = with_key nat_cmp table number kept

abbrev pub without_number : {T : Type 0} → List (ℕ × T) → ℕ → List (ℕ × T)
without_number table number = without_key nat_cmp table number

-- ---- the order of numbers

abbrev pub is_lower_number : ℕ → ℕ → Bool
is_lower_number m n = is_key_before nat_cmp m n

-- the least number that is there and isn't below another
pub record IsLeastNumberFrom {T : Type 0} (table : List (ℕ × T)) (least number : ℕ) : Type 0 where
  pub there : IsTrue (has_number table number)
  pub at_least : least ≤ number
  pub no_other : (k : ℕ) → least ≤ k → k < number → has_number table k ≡ false

-- the least number that is free and isn't below another
pub record IsFreeNumberFrom {T : Type 0} (table : List (ℕ × T)) (least number : ℕ) : Type 0 where
  pub free : has_number table number ≡ false
  pub at_least : least ≤ number
  pub no_other : (k : ℕ) → least ≤ k → k < number → IsTrue (has_number table k)
