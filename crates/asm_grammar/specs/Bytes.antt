-- What a byte of a text is, and how words are cut.
use Rattle.std.specs.Prelude.{ℕ, ◌+◌, ◌-◌, Bool, ◌&&◌, ◌||◌, ◌==◌, not, nat_le, List, [], ◌∷◌, if◌then◌else◌}

-- space, tab, carriage return and line feed
abbrev pub is_blank : ℕ → Bool
is_blank b = (b == 32) || (b == 9) || (b == 13) || (b == 10)

-- space and tab, which part the words of a verb
abbrev pub is_space : ℕ → Bool
is_space b = (b == 32) || (b == 9)

abbrev pub is_filled : ℕ → Bool
is_filled b = not (is_space b)

abbrev pub is_digit_byte : ℕ → Bool
is_digit_byte b = nat_le 48 b && nat_le b 57

abbrev pub is_lower : ℕ → Bool
is_lower b = nat_le 97 b && nat_le b 122

abbrev pub is_letter_byte : ℕ → Bool
is_letter_byte b = (nat_le 65 b && nat_le b 90) || is_lower b

-- a letter, a digit, _, $ or #
abbrev pub is_word : ℕ → Bool
is_word b = is_letter_byte b || is_digit_byte b || (b == 95) || (b == 36) || (b == 35)

-- what stands inside quotes: no byte that could make a line of its own
abbrev pub is_text_byte : ℕ → Bool
is_text_byte b = not (b == 39) && nat_le 32 b

-- the byte in upper case
abbrev pub upper : ℕ → ℕ
upper b = if is_lower b then b - 32 else b

-- the longest front of the text whose bytes all pass the test
abbrev pub run_of : (ℕ → Bool) → List ℕ → List ℕ
run_of test [] = []
run_of test (b ∷ text) = if test b then b ∷ run_of test text else []

-- what follows that front
abbrev pub after_run : (ℕ → Bool) → List ℕ → List ℕ
after_run test [] = []
after_run test (b ∷ text) = if test b then after_run test text else b ∷ text

-- how many bytes two texts have in common at their beginnings
abbrev pub common : List ℕ → List ℕ → ℕ
common [] other = 0
common (b ∷ text) [] = 0
common (b ∷ text) (c ∷ other) = if b == c then common text other + 1 else 0
