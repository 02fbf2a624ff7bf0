-- The canonical text of what a grammar says.
use Rattle.std.specs.Prelude.{ℕ, ◌*◌, ◌^◌, ◌<◌, Bool, true, false, ◌&&◌, ◌||◌, ◌==◌, not, List, [], ◌∷◌, ◌++◌, length, IsTrue, Some, None}
use Rattle.std.specs.List.{list_all, flat_map}
use Rattle.std.specs.Fmt.{decimal}
use mathlib.Core.Logic.{inl, inr}
use Rattle.asm_grammar.specs.Argument.{Exact}
use Rattle.asm_grammar.specs.Bytes.{is_blank, is_filled, is_word, is_letter_byte, is_text_byte, upper}
use Rattle.asm_grammar.specs.Word.{Word, Keyword, Mark, Name, Number, Size, Minutes, Quoted, Argument, End, Meaning, is_name_word}
use Rattle.asm_grammar.specs.Syntax.{SyntaxRule, One, Then, Either, Maybe, Many, Value}

-- a word and what it says
pub record Piece : Type 0 where
  pub word : Word
  pub says : Meaning word

-- the words of a value, one after another
abbrev pub pieces : (g : SyntaxRule) → Value g → List Piece
pieces (One w) v = record { word = w; says = v } ∷ []
pieces (Then a b) (v, w) = pieces a v ++ pieces b w
pieces (Either a b) (inl v) = pieces a v
pieces (Either a b) (inr w) = pieces b w
pieces (Maybe a) None = []
pieces (Maybe a) (Some v) = pieces a v
pieces (Many a) vs = flat_map (λ v. pieces a v) vs

-- a size is written in bytes, and a time in minutes
abbrev pub spell : (w : Word) → Meaning w → List ℕ
spell (Keyword k) v = k
spell (Mark m) v = m ∷ []
spell Name v = v
spell Number v = decimal v
spell Size v = decimal v
spell Minutes v = decimal v ++ 77 ∷ []
spell Quoted v = 39 ∷ v ++ 39 ∷ []
spell (Argument k) v = []
spell End v = []

abbrev pub space_unless : Bool → List ℕ
space_unless true = []
space_unless false = 32 ∷ []

-- one space, but none before , ) = and ; and none behind ( and =
abbrev pub space : Word → Word → List ℕ
space (Mark m) (Mark n) = space_unless (m == 40 || m == 61 || n == 44 || n == 41 || n == 61 || n == 59)
space (Mark m) other = space_unless (m == 40 || m == 61)
space other (Mark n) = space_unless (n == 44 || n == 41 || n == 61 || n == 59)
space word other = 32 ∷ []

abbrev pub text_of_pieces : List Piece → List ℕ
text_of_pieces [] = []
text_of_pieces (p ∷ []) = spell p.word p.says
text_of_pieces (p ∷ q ∷ ps) = spell p.word p.says ++ space p.word q.word ++ text_of_pieces (q ∷ ps)

abbrev pub is_capital : ℕ → Bool
is_capital b = is_letter_byte b && (upper b == b)

-- what has a spelling; verbs are read alone, and never written
abbrev pub Spells : (w : Word) → Meaning w → Type 0
Spells (Keyword k) v = IsTrue (not (length k == 0) && list_all is_capital k)
Spells (Mark m) v = IsTrue (not (is_blank m) && not (is_word m))
Spells Name v = IsTrue (is_name_word v && list_all is_word v)
Spells Number v = v < 2 ^ 64
Spells Size v = v < 2 ^ 64
Spells Minutes v = v * 60 < 2 ^ 64
Spells Quoted v = IsTrue (list_all is_text_byte v)
Spells (Argument k) v = ⊥
Spells End v = ⊥

abbrev pub AllSpell : List Piece → Type 0
AllSpell [] = Unit {0}
AllSpell (p ∷ ps) = Spells p.word p.says × AllSpell ps

-- A keyword has capital letters alone, a mark is no blank, and an exact word has no space.
abbrev pub can_spell : Word → Bool
can_spell (Keyword k) = not (length k == 0) && list_all is_capital k
can_spell (Mark m) = not (is_blank m)
can_spell (Argument (Exact k)) = not (length k == 0) && list_all is_filled k
can_spell End = false
can_spell other = true

abbrev pub all_can_spell : SyntaxRule → Bool
all_can_spell (One w) = can_spell w
all_can_spell (Then a b) = all_can_spell a && all_can_spell b
all_can_spell (Either a b) = all_can_spell a && all_can_spell b
all_can_spell (Maybe a) = all_can_spell a
all_can_spell (Many a) = all_can_spell a
