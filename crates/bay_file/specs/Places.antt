-- Where a file stands.
use Rattle.std.specs.Prelude.{◌≡◌, ℕ, Option, Some, IfSome}

-- a file that knew where it stood stands at a place
abbrev pub IsPlacedAt : {F : Type 0} → (F → Option ℕ) → ℕ → F → F → Type 0
IsPlacedAt position at old new = IfSome (position old) (λ _. position new ≡ Some at)
