-- What is asked of the number and of the paths.
use Rattle.std.specs.Prelude.{◌≡◌, ℕ, ◌<◌, ◌≤◌, ◌^◌, ◌==◌, ◌||◌, Bool, false, Option, Some, None, IsSome, List, [], ◌∷◌, map, length, nat_lt, if◌then◌else◌, ⊤}
use Rattle.std.specs.Borrow.{Bor}
use Rattle.std.specs.List.{list_any}
use Rattle.std.specs.Str.{bytes_eq}
use Rattle.std.specs.Str.Parse.{IsNumeral, digits_value}

-- the bytes of a word of the command line
abbrev pub WordBytes : Type 0
WordBytes = List ℕ

abbrev pub texts : List (Bor WordBytes) → List WordBytes
texts = map (λ s. s.now)

-- the text is the number n in decimal digits, without a sign, and n has at most 64 bits
abbrev pub IsNumber : WordBytes → ℕ → Type 0
IsNumber text n = IsNumeral 10 text × (n ≡ digits_value 10 text) × (n < 2 ^ 64)

-- the path has a byte below 32
abbrev pub is_control : WordBytes → Bool
is_control path = list_any (λ byte. nat_lt byte 32) path

-- a path has a byte below 32
abbrev pub has_control : List WordBytes → Bool
has_control paths = list_any is_control paths

-- a path is given twice
abbrev pub has_twice : List WordBytes → Bool
has_twice [] = false
has_twice (path ∷ rest) = list_any (λ other. bytes_eq other path) rest || has_twice rest

-- the first path that stands once more behind it
abbrev pub first_twice : List WordBytes → Option WordBytes
first_twice [] = None
first_twice (path ∷ rest) = if list_any (λ other. bytes_eq other path) rest then Some path else first_twice rest

-- the path has a single quote (39)
abbrev pub is_quoted : WordBytes → Bool
is_quoted path = list_any (λ byte. byte == 39) path

-- a path has a single quote
abbrev pub has_quote : List WordBytes → Bool
has_quote paths = list_any is_quoted paths

-- the value of `--generate`, where it is given, is the number
abbrev pub IsNumberOf : Option WordBytes → Option ℕ → Type 0
IsNumberOf None None = ⊤
IsNumberOf (Some text) (Some n) = IsNumber text n
IsNumberOf _ _ = ⊥

-- these paths are taken as the images, with this number: at most 512 of them, none twice and none with a byte below 32,
-- and with a number four without a single quote
pub record IsTaken (text : Option WordBytes) (paths : List WordBytes) (generate : Option ℕ) (images : List WordBytes) : Type 0 where
  pub same : images ≡ paths
  pub number : IsNumberOf text generate
  pub few : length paths ≤ 512
  -- so no line that shows a path has one of the path's making behind it
  pub plain : has_control paths ≡ false
  pub distinct : has_twice paths ≡ false
  pub four : IsSome generate → length paths ≡ 4
  pub unquoted : IsSome generate → has_quote paths ≡ false
