-- Checks of bytes from the front: each gives the bytes behind what it takes, or None.
use Rattle.std.specs.Prelude.{◌≡◌, ℕ, zero, suc, ◌==◌, Bool, false, List, length, Option, Some, None}
use Rattle.std.specs.Option.{option_and_then, option_map}
use Rattle.asm_base.specs.Readings.{Reading}

abbrev pub Check : Type 0
Check = List ℕ → Option (List ℕ)

-- a reading whose value isn't kept
abbrev pub check_of : {A : Type 0} → Reading A → Check
check_of reading bytes = option_map (λ x. x.1) (reading bytes)

-- the first, and then the second of what is left
abbrev pub checks_in_turn : Check → Check → Check
checks_in_turn first second bytes = option_and_then second (first bytes)

-- one check n times
unfoldable pub times : ℕ → Check → Check
times zero check bytes = Some bytes
times (suc n) check bytes = option_and_then (times n check) (check bytes)

-- it passes, and nothing is left
abbrev pub is_all : Option (List ℕ) → Bool
is_all None = false
is_all (Some rest) = length rest == 0

-- The check of the bytes that were left passed, and the bytes that are left now are those behind it. Where it didn't, some may be gone.
abbrev pub Passes : List ℕ → Option (Unit {0}) → Option (List ℕ) → Type 0
Passes new None checked = checked ≡ None
Passes new (Some done) checked = checked ≡ Some new
