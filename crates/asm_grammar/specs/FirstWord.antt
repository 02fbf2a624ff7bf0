-- The first word of a command, which says whether it is a statement.
use Rattle.std.specs.Prelude.{◌==◌, ◌||◌, ℕ, Bool, not, List, map, take_while, codes}
use Rattle.std.specs.Char.{to_ascii_lowercase}
use Rattle.std.specs.Str.{bytes_eq}
use Rattle.asm_grammar.specs.Bytes.{is_blank}

-- the first word ends before a blank and before any of ' ( ) , ; and =
abbrev pub is_first_word_byte : ℕ → Bool
is_first_word_byte b = not (is_blank b || (b == 39) || (b == 40) || (b == 41) || (b == 44) || (b == 59) || (b == 61))

-- in any case
abbrev pub is_keyword : List ℕ → List ℕ → Bool
is_keyword word keyword = bytes_eq (map to_ascii_lowercase word) (map to_ascii_lowercase keyword)

-- the first word is CREATE, ALTER or DROP, in any case
unfoldable pub opens_statement : List ℕ → Bool
opens_statement bytes =
    let word = take_while is_first_word_byte bytes in
    is_keyword word (codes "CREATE") || is_keyword word (codes "ALTER") || is_keyword word (codes "DROP")
