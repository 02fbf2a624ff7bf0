-- The kinds of words of verbs in plain words, without stages.
use Rattle.std.specs.Prelude.{◌≡◌, ℕ, Bool, true, false, ◌&&◌, ◌||◌, ◌==◌, not, nat_le, List, [], ◌∷◌, length, if◌then◌else◌}
use Rattle.std.specs.List.{list_all}
use Rattle.asm_grammar.specs.Bytes.{is_word}
use Rattle.asm_grammar.specs.Argument.{TextKind, PlainName, GroupPath, PathPattern, NotLong, PartPattern, HostPath, Text, PlainNumber, Sized, Parts, Plain, Starred, Single, is_path_byte, is_visible, is_of, argument_of}
use Rattle.asm_grammar.specs.Word.{is_name_word, same_bytes, number_of_text, size_of_text}

-- the byte goes onto the front of the first part
abbrev pub onto_first_part : ℕ → List (List ℕ) → List (List ℕ)
onto_first_part b [] = (b ∷ []) ∷ []
onto_first_part b (part ∷ parts) = (b ∷ part) ∷ parts

-- the parts between slashes
abbrev pub split : List ℕ → List (List ℕ)
split [] = [] ∷ []
split (b ∷ bytes) = if b == 47 then [] ∷ split bytes else onto_first_part b (split bytes)

-- a part has 1 to 80 bytes that may stand in one, and is not a dot alone
abbrev pub is_path_part : Parts → List ℕ → Bool
is_path_part parts bytes = not (same_bytes bytes []) && nat_le (length bytes) 80 && list_all (λ b. is_path_byte parts b) bytes && not (same_bytes bytes (46 ∷ []))

abbrev pub is_group_name : List ℕ → Bool
is_group_name bytes = is_name_word bytes && list_all is_word bytes

-- a group's name, and parts behind it
abbrev pub is_in_group : Parts → List (List ℕ) → Bool
is_in_group parts [] = false
is_in_group parts (group ∷ others) = is_group_name group && list_all (λ part. is_path_part parts part) others

-- + alone, or a group's name and parts
abbrev pub is_behind_plus : Parts → List ℕ → Bool
is_behind_plus parts [] = true
is_behind_plus parts (b ∷ bytes) = is_in_group parts (split (b ∷ bytes))

abbrev pub is_path : Parts → List ℕ → Bool
is_path parts [] = false
is_path parts (b ∷ bytes) = if b == 43 then is_behind_plus parts bytes else list_all (λ part. is_path_part parts part) (split (b ∷ bytes))

-- / or ./ and what can be seen
abbrev pub is_outside : List ℕ → Bool
is_outside [] = false
is_outside (b ∷ []) = b == 47
is_outside (b ∷ c ∷ bytes) = ((b == 47) && list_all is_visible (c ∷ bytes)) || ((b == 46) && (c == 47) && list_all is_visible bytes)

abbrev pub is_text_of_kind : TextKind → List ℕ → Bool
is_text_of_kind PlainName bytes = is_group_name bytes
is_text_of_kind GroupPath bytes = is_path Plain bytes
is_text_of_kind PathPattern bytes = is_path Starred bytes
is_text_of_kind NotLong bytes = is_path Starred bytes && not (same_bytes bytes (45 ∷ 108 ∷ []))
is_text_of_kind PartPattern bytes = is_path_part Single bytes
is_text_of_kind HostPath bytes = is_outside bytes

-- Each kind of text has the words that it is to have.
abbrev pub TextsAreAsSaid : Type 0
TextsAreAsSaid = (t : TextKind) (bytes : List ℕ) → is_of (Text t) bytes ≡ is_text_of_kind t bytes

-- The numbers and sizes of verbs are those of statements.
abbrev pub NumbersAreAsSaid : Type 0
NumbersAreAsSaid = (bytes : List ℕ) → (argument_of PlainNumber bytes ≡ number_of_text bytes) × (argument_of Sized bytes ≡ size_of_text bytes)
