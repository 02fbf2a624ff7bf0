-- The owner of a chunk where the pending operation is on a file that has a head.
use Rattle.std.proofs.Common.{◌≡◌, ℕ, Bool, true, false, eqb, List, Option, Some, None, refl, sym, subst, ◌∙◌}
use Rattle.std.specs.Prelude.{◌||◌}
use Rattle.std.proofs.lemmas.Bool.{eqb-true}
use Rattle.asm_formats.specs.Items.{Pending}
use Rattle.plan_records.specs.file_directory.Files.{NumberedFile, is_file_number}
use Rattle.catalog.specs.FilePlans.{is_on_file}
use Rattle.asm_placement.specs.Naming.{is_pending}

pub of_file : (files : List NumberedFile) (pending : Option Pending) (g : ℕ) → is_on_file files pending ≡ true → (is_file_number files g || is_pending g pending) ≡ true → is_file_number files g ≡ true
of_file files None g on e = alone (is_file_number files g) e where
  alone : (b : Bool) → (b || false) ≡ true → b ≡ true
  alone true e = refl
  alone false e = e
of_file files (Some op) g on e = by (is_file_number files g) refl e where
  by : (b : Bool) → is_file_number files g ≡ b → (b || eqb op.file g) ≡ true → b ≡ true
  by true q e = refl
  by false q e = sym q ∙ subst (λ (n : ℕ). is_file_number files n ≡ true) (eqb-true op.file g e) on
