-- The keywords, names, numbers, marks and quoted texts of which commands are made.
use Rattle.std.specs.Prelude.{ℕ, ◌+◌, ◌-◌, ◌*◌, ◌^◌, min, Bool, true, false, ◌&&◌, ◌==◌, not, nat_le, nat_lt, List, [], ◌∷◌, length, map, if◌then◌else◌, Option, Some, None, is_some}
use Rattle.asm_grammar.specs.Argument.{Kind, ArgumentMeaning, first_stage, factor, near_from, argument_of}
use Rattle.asm_grammar.specs.Bytes.{is_blank, is_space, is_filled, is_digit_byte, is_letter_byte, is_text_byte, is_word, upper, run_of, after_run, common}

-- One of these stands at each place of a command.
pub data Word : Type 0 where
  -- a keyword, given in upper case and read in any case
  Keyword : List ℕ → Word
  -- one of , ( ) = ;
  Mark : ℕ → Word
  -- a letter and letters, digits, _, $ or #, at most 30 bytes
  Name : Word
  -- a decimal number below 2 ^ 64
  Number : Word
  -- a decimal number and K, M, G, T (in upper case) or nothing, below 2 ^ 64 in all
  Size : Word
  -- a decimal number and M or H, for minutes or hours, below 2 ^ 64 seconds in all
  Minutes : Word
  -- bytes between single quotes, none of them below 32
  Quoted : Word
  -- a word of a verb
  Argument : Kind → Word
  -- no more bytes, behind the words of a verb
  End : Word

-- what a word says
abbrev pub Meaning : Word → Type 0
Meaning (Keyword k) = Unit {0}
Meaning (Mark m) = Unit {0}
Meaning Name = List ℕ
Meaning Number = ℕ
Meaning Size = ℕ
Meaning Minutes = ℕ
Meaning Quoted = List ℕ
Meaning (Argument k) = ArgumentMeaning k
Meaning End = Unit {0}

abbrev pub same_bytes : List ℕ → List ℕ → Bool
same_bytes [] [] = true
same_bytes [] (c ∷ ys) = false
same_bytes (b ∷ xs) [] = false
same_bytes (b ∷ xs) (c ∷ ys) = (b == c) && same_bytes xs ys

abbrev pub starts_with_letter : List ℕ → Bool
starts_with_letter [] = false
starts_with_letter (b ∷ bytes) = is_letter_byte b

abbrev pub starts_with_digit : List ℕ → Bool
starts_with_digit [] = false
starts_with_digit (b ∷ bytes) = is_digit_byte b

abbrev pub is_name_word : List ℕ → Bool
is_name_word bytes = starts_with_letter bytes && nat_le (length bytes) 30

-- The number that digits spell after those that spell n. None where another byte stands among them.
abbrev pub digits_after : ℕ → List ℕ → Option ℕ
digits_after n [] = Some n
digits_after n (b ∷ bytes) = if is_digit_byte b then digits_after (n * 10 + (b - 48)) bytes else None

abbrev pub below : ℕ → Option ℕ → Option ℕ
below limit None = None
below limit (Some n) = if nat_lt n limit then Some n else None

abbrev pub number_of_text : List ℕ → Option ℕ
number_of_text [] = None
number_of_text (b ∷ bytes) = below (2 ^ 64) (digits_after 0 (b ∷ bytes))

-- A letter behind digits that spell n, at the end.
abbrev pub unit_after : ℕ → ℕ → List ℕ → Option ℕ
unit_after n b [] = if factor b == 0 then None else Some (n * factor b)
unit_after n b (c ∷ bytes) = None

-- The size that bytes spell after digits that spell n.
abbrev pub size_after : ℕ → List ℕ → Option ℕ
size_after n [] = Some n
size_after n (b ∷ bytes) = if is_digit_byte b then size_after (n * 10 + (b - 48)) bytes else unit_after n b bytes

abbrev pub size_of_text : List ℕ → Option ℕ
size_of_text [] = None
size_of_text (b ∷ bytes) = if is_digit_byte b then below (2 ^ 64) (size_after 0 (b ∷ bytes)) else None

abbrev pub with_byte_before : ℕ → Option (List ℕ × List ℕ) → Option (List ℕ × List ℕ)
with_byte_before b None = None
with_byte_before b (Some cut) = Some (b ∷ cut.0, cut.1)

-- What stands before the next single quote, and what behind it. None where there is no other, or a byte below 32 before it.
abbrev pub to_quote : List ℕ → Option (List ℕ × List ℕ)
to_quote [] = None
to_quote (b ∷ text) = if is_text_byte b then with_byte_before b (to_quote text) else if b == 39 then Some ([], text) else None

abbrev pub with_rest : {A : Type 0} → List ℕ → Option A → Option (A × List ℕ)
with_rest rest None = None
with_rest rest (Some value) = Some (value, rest)

abbrev pub when : {A : Type 0} → Bool → A → Option A
when true value = Some value
when false value = None

abbrev pub mark_of : ℕ → List ℕ → Option (Meaning (Mark 0) × List ℕ)
mark_of m [] = None
mark_of m (b ∷ text) = if b == m then Some (tt, text) else None

abbrev pub quoted_of : List ℕ → Option (List ℕ × List ℕ)
quoted_of [] = None
quoted_of (b ∷ text) = if b == 39 then to_quote text else None

abbrev pub end_of_text : List ℕ → Option (Unit {0} × List ℕ)
end_of_text [] = Some (tt, [])
end_of_text (b ∷ text) = None

-- how many minutes a letter stands for, and 0 where it is none
abbrev pub minutes_in : ℕ → ℕ
minutes_in b = if upper b == 77 then 1 else if upper b == 72 then 60 else 0

abbrev pub begins_word : List ℕ → Bool
begins_word [] = false
begins_word (b ∷ text) = is_word b

abbrev pub begins_argument : List ℕ → Bool
begins_argument [] = false
begins_argument (b ∷ text) = is_filled b

abbrev pub in_minutes : Option ℕ → List ℕ → Option (ℕ × List ℕ)
in_minutes None text = None
in_minutes (Some n) [] = None
in_minutes (Some n) (b ∷ text) = when (not (minutes_in b == 0) && not (begins_word text) && nat_lt (n * minutes_in b * 60) (2 ^ 64)) (n * minutes_in b, text)

-- the number that one digit or more spell
abbrev pub digits_of : List ℕ → Option ℕ
digits_of [] = None
digits_of (b ∷ digits) = digits_after 0 (b ∷ digits)

-- Reading a word from a text that begins with no blank: what it says, and the text behind it.
abbrev pub fit_here : (w : Word) → List ℕ → Option (Meaning w × List ℕ)
fit_here (Keyword k) text = with_rest (after_run is_word text) (when (same_bytes (map upper (run_of is_word text)) k) tt)
fit_here (Mark m) text = mark_of m text
fit_here Name text = with_rest (after_run is_word text) (when (is_name_word (run_of is_word text)) (run_of is_word text))
fit_here Number text = with_rest (after_run is_word text) (number_of_text (run_of is_word text))
fit_here Size text = with_rest (after_run is_word text) (size_of_text (run_of is_word text))
fit_here Minutes text = in_minutes (digits_of (run_of is_digit_byte text)) (after_run is_blank (after_run is_digit_byte text))
fit_here Quoted text = quoted_of text
fit_here (Argument k) text = with_rest (after_run is_filled text) (argument_of k (run_of is_filled text))
fit_here End text = end_of_text text

-- what may stand before a word
abbrev pub gap : Word → ℕ → Bool
gap (Argument k) = is_space
gap End = is_space
gap other = is_blank

-- The text begins, behind what may stand before it, with this word.
abbrev pub fit : (w : Word) → List ℕ → Option (Meaning w × List ℕ)
fit w text = fit_here w (after_run (gap w) text)

abbrev pub fits : Word → List ℕ → Bool
fits w text = is_some (fit w text)

-- How many digits from the front spell, after those that spell n, a number below 2 ^ 64.
abbrev pub near_number : ℕ → List ℕ → ℕ
near_number n [] = 0
near_number n (b ∷ text) = if is_digit_byte b && nat_lt (n * 10 + (b - 48)) (2 ^ 64) then near_number (n * 10 + (b - 48)) text + 1 else 0

-- The number that they spell.
abbrev pub near_value : ℕ → List ℕ → ℕ
near_value n [] = n
near_value n (b ∷ text) = if is_digit_byte b && nat_lt (n * 10 + (b - 48)) (2 ^ 64) then near_value (n * 10 + (b - 48)) text else n

abbrev pub near_size : ℕ → List ℕ → ℕ
near_size n [] = 0
near_size n (b ∷ text) =
    if is_digit_byte b && nat_lt (n * 10 + (b - 48)) (2 ^ 64) then near_size (n * 10 + (b - 48)) text + 1
    else if not (factor b == 0) && nat_lt (n * factor b) (2 ^ 64) then 1 else 0

-- The size that those bytes spell.
abbrev pub near_size_value : ℕ → List ℕ → ℕ
near_size_value n [] = n
near_size_value n (b ∷ text) =
    if is_digit_byte b && nat_lt (n * 10 + (b - 48)) (2 ^ 64) then near_size_value (n * 10 + (b - 48)) text
    else if not (factor b == 0) && nat_lt (n * factor b) (2 ^ 64) then n * factor b else n

abbrev pub near_digits : (ℕ → List ℕ → ℕ) → List ℕ → ℕ
near_digits near [] = 0
near_digits near (b ∷ text) = if is_digit_byte b then near 0 (b ∷ text) else 0

-- How many of the bytes after digits that spell n are blanks and a letter for minutes or hours.
abbrev pub near_unit : ℕ → List ℕ → ℕ
near_unit n [] = 0
near_unit n (b ∷ text) =
    if is_blank b then near_unit n text + 1
    else if not (minutes_in b == 0) && nat_lt (n * minutes_in b * 60) (2 ^ 64) then 1 else 0

-- How many digits from the front spell, after those that spell n, a number of minutes below 2 ^ 64 seconds.
abbrev pub near_count : ℕ → List ℕ → ℕ
near_count n [] = 0
near_count n (b ∷ text) = if is_digit_byte b && nat_lt ((n * 10 + (b - 48)) * 60) (2 ^ 64) then near_count (n * 10 + (b - 48)) text + 1 else 0

-- The number that they spell.
abbrev pub near_count_value : ℕ → List ℕ → ℕ
near_count_value n [] = n
near_count_value n (b ∷ text) = if is_digit_byte b && nat_lt ((n * 10 + (b - 48)) * 60) (2 ^ 64) then near_count_value (n * 10 + (b - 48)) text else n

-- What a letter for minutes or hours adds to them, where it stands first.
abbrev pub near_letter : ℕ → List ℕ → ℕ
near_letter n [] = 0
near_letter n (b ∷ text) = if not (minutes_in b == 0) && nat_lt (n * minutes_in b * 60) (2 ^ 64) then 1 else 0

abbrev pub near_minutes : ℕ → List ℕ → ℕ
near_minutes n [] = 0
near_minutes n (b ∷ text) =
    if is_digit_byte b
    then if nat_lt ((n * 10 + (b - 48)) * 60) (2 ^ 64) then near_minutes (n * 10 + (b - 48)) text + 1 else 0
    else near_unit n (b ∷ text)

abbrev pub near_mark : ℕ → List ℕ → ℕ
near_mark m [] = 0
near_mark m (b ∷ text) = if b == m then 1 else 0

-- up to the next single quote, and that quote, or up to a byte below 32 before it
abbrev pub near_quote : List ℕ → ℕ
near_quote [] = 0
near_quote (b ∷ text) = if is_text_byte b then near_quote text + 1 else if b == 39 then 1 else 0

abbrev pub near_quoted : List ℕ → ℕ
near_quoted [] = 0
near_quoted (b ∷ text) = if b == 39 then near_quote text + 1 else 0

-- How many bytes of a text that begins with no blank begin some spelling of the word.
abbrev pub near_here : Word → List ℕ → ℕ
near_here (Keyword k) text = common k (map upper text)
near_here (Mark m) text = near_mark m text
near_here Name text = if starts_with_letter text then min 30 (length (run_of is_word text)) else 0
near_here Number text = near_digits near_number text
near_here Size text = near_digits near_size text
near_here Minutes text = near_digits near_minutes text
near_here Quoted text = near_quoted text
near_here (Argument k) text = near_from (first_stage k) (run_of is_filled text)
near_here End text = 0

-- The same, with the blanks before the word.
abbrev pub near : Word → List ℕ → ℕ
near w text = length (run_of (gap w) text) + near_here w (after_run (gap w) text)

abbrev pub starts_with_quote : List ℕ → Bool
starts_with_quote [] = false
starts_with_quote (b ∷ text) = b == 39
