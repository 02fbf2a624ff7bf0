-- Texts on one line.
use Rattle.std.specs.Prelude.{◌≡◌, ◌≢◌, ◌≤◌, ◌++◌, ◌∷◌, [], ℕ, List, All}

-- a byte that a terminal shows, or that is part of a letter beyond ASCII
abbrev pub IsShown : ℕ → Type 0
IsShown byte = (32 ≤ byte) × (byte ≢ 127)

-- a line feed behind shown bytes
abbrev pub IsOneLine : List ℕ → Type 0
IsOneLine line = (shown : List ℕ) × (line ≡ shown ++ 10 ∷ []) × All IsShown shown
