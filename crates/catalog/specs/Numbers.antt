-- Numbers of files.
use Rattle.std.specs.Prelude.{◌≡◌, ◌≤◌, ◌<◌, ℕ, Bool, true, false, ◌||◌}
use Rattle.plan_records.specs.file_directory.Files.{is_file_number}
use Rattle.asm_placement.specs.Naming.{is_pending}
use Rattle.plan_records.specs.catalog_tables.Tables.{Tables}

-- the number is that of a file or of the pending operation
abbrev pub is_taken : Tables → ℕ → Bool
is_taken t f = is_file_number t.files f || is_pending f t.operations.pending

-- the least number from 256 that isn't taken
pub record IsUntaken (t : Tables) (f : ℕ) : Type 0 where
  pub at_least : 256 ≤ f
  pub others : (k : ℕ) → 256 ≤ k → k < f → is_taken t k ≡ true
  pub free : is_taken t f ≡ false

-- the same, or the greatest number where all are taken
pub record IsNextFile (t : Tables) (f : ℕ) : Type 0 where
  pub at_least : 256 ≤ f
  pub others : (k : ℕ) → 256 ≤ k → k < f → is_taken t k ≡ true
  pub free : is_taken t f ≡ true → f ≡ 4294967295
