-- Sizes by their digits and what stands behind these.
use Rattle.std.specs.Prelude.{ℕ, ◌*◌, ◌^◌, ◌==◌, ◌&&◌, not, nat_lt, List, [], ◌∷◌, Option, Some, None, if◌then◌else◌}
use Rattle.asm_grammar.specs.Argument.{factor}

-- the size below 2 ^ 64 that a number makes with a letter behind it, or with nothing
abbrev pub size_behind : ℕ → List ℕ → Option ℕ
size_behind n [] = Some n
size_behind n (b ∷ []) = if not (factor b == 0) && nat_lt (n * factor b) (2 ^ 64) then Some (n * factor b) else None
size_behind n (b ∷ c ∷ bytes) = None
