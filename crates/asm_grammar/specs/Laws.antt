-- What holds of reading by any grammar.
use Rattle.std.specs.Prelude.{◌≡◌, ◌≢◌, ◌↔◌, ◌≤◌, ◌<◌, length, take, ℕ, ◌-◌, max, true, false, List, [], ◌∷◌, ◌++◌, Some, Result, Ok, Err}
use Rattle.asm_grammar.specs.Bytes.{common, is_blank, is_word}
use Rattle.asm_grammar.specs.Writing.{pieces, text_of_pieces, AllSpell, all_can_spell}
use Rattle.asm_grammar.specs.Word.{Word, Mark, End, fit}
use Rattle.asm_grammar.specs.Syntax.{SyntaxRule, Value, Has}
use Rattle.asm_grammar.specs.Reading.{Took, parse, decides, any_fits, finish, whole}

-- What reading gives, the grammar has.
abbrev pub ReadsOnlyTexts : Type 0
ReadsOnlyTexts = (g : SyntaxRule) (text : List ℕ) (left : ℕ) (v : Value g) (rest : List ℕ) (l : ℕ) → parse g text left ≡ Took v rest l → Has g v text rest

-- What the grammar has, reading gives, where each word decides and one of those that may follow does.
abbrev pub ReadsEachText : Type 0
ReadsEachText = (g : SyntaxRule) (follow : List Word) (v : Value g) (text rest : List ℕ) (left : ℕ)
    → decides g follow ≡ true → Has g v text rest → any_fits follow rest ≡ true → (l : ℕ) × (parse g text left ≡ Took v rest l)

-- No text says two things.
abbrev pub SaysOneThing : Type 0
SaysOneThing = (g : SyntaxRule) (follow : List Word) (v w : Value g) (text rest other : List ℕ)
    → decides g follow ≡ true → Has g v text rest → any_fits follow rest ≡ true → Has g w text other → any_fits follow other ≡ true → (v ≡ w) × (rest ≡ other)

-- A text of the grammar, which a mark ends.
pub record IsText (g : SyntaxRule) (mark : ℕ) (text : List ℕ) (v : Value g) : Type 0 where
  pub rest : List ℕ
  pub has : Has g v text rest
  pub end : fit (Mark mark) rest ≡ Some (tt, [])

-- A whole text is read exactly where it is one of the grammar, with what it says.
abbrev pub ReadsWholeTexts : Type 0
ReadsWholeTexts = (g : SyntaxRule) (mark : ℕ) (text : List ℕ) (v : Value g) → decides g (Mark mark ∷ []) ≡ true
    → (whole g (Mark mark) text ≡ Ok v) ↔ IsText g mark text v

-- Where a text is refused, no text of the grammar has more of it at its beginning than the answer says.
abbrev pub NoTextGoesFurther : Type 0
NoTextGoesFurther = (g : SyntaxRule) (mark : ℕ) (text : List ℕ) (at : ℕ) (other : List ℕ) (v : Value g) → decides g (Mark mark ∷ []) ≡ true
    → whole g (Mark mark) text ≡ Err at → IsText g mark other v → common text other ≤ at

-- The canonical text of a value, with the mark behind it, is read as this value.
abbrev pub ReadsWhatIsWritten : Type 0
ReadsWhatIsWritten = (g : SyntaxRule) (mark : ℕ) (v : Value g) → pieces g v ≢ [] → AllSpell (pieces g v) → is_blank mark ≡ false → is_word mark ≡ false
    → IsText g mark (text_of_pieces (pieces g v) ++ mark ∷ []) v

-- So many bytes of the text begin some text of the grammar, and no more of them do.
pub record IsLongestFront (g : SyntaxRule) (mark : ℕ) (text : List ℕ) (at : ℕ) : Type 0 where
  pub within : at ≤ length text
  pub begins : (more : List ℕ) × (v : Value g) × IsText g mark (take at text ++ more) v
  pub longest : (n : ℕ) → at < n → n ≤ length text → (more : List ℕ) (v : Value g) → IsText g mark (take n text ++ more) v → ⊥

-- A refusal says how long the longest front of the text is that begins a text of the grammar.
abbrev pub RefusesAtLongestFront : Type 0
RefusesAtLongestFront = (g : SyntaxRule) (mark : ℕ) (text : List ℕ) (at : ℕ) → decides g (Mark mark ∷ []) ≡ true → all_can_spell g ≡ true → is_blank mark ≡ false → is_word mark ≡ false
    → whole g (Mark mark) text ≡ Err at → IsLongestFront g mark text at

-- A text of the grammar, behind which only blanks stand.
pub record IsLine (g : SyntaxRule) (text : List ℕ) (v : Value g) : Type 0 where
  pub rest : List ℕ
  pub has : Has g v text rest
  pub end : fit End rest ≡ Some (tt, [])

-- A whole line is read exactly where it is one of the grammar, with what it says.
abbrev pub ReadsWholeLines : Type 0
ReadsWholeLines = (g : SyntaxRule) (text : List ℕ) (v : Value g) → decides g (End ∷ []) ≡ true → (whole g End text ≡ Ok v) ↔ IsLine g text v

-- So many bytes of the text begin some line of the grammar, and no more of them do.
pub record IsLongestLineFront (g : SyntaxRule) (text : List ℕ) (at : ℕ) : Type 0 where
  pub within : at ≤ length text
  pub begins : (more : List ℕ) × (v : Value g) × IsLine g (take at text ++ more) v
  pub longest : (n : ℕ) → at < n → n ≤ length text → (more : List ℕ) (v : Value g) → IsLine g (take n text ++ more) v → ⊥

abbrev pub RefusesLinesAtLongestFront : Type 0
RefusesLinesAtLongestFront = (g : SyntaxRule) (text : List ℕ) (at : ℕ) → decides g (End ∷ []) ≡ true → all_can_spell g ≡ true → whole g End text ≡ Err at → IsLongestLineFront g text at

-- Reading a whole text of which all but so many bytes are known to begin some text.
abbrev pub whole_from : (g : SyntaxRule) → Word → List ℕ → ℕ → Result (Value g) ℕ
whole_from g last text left = finish last (length text) (parse g text left)

abbrev pub at_least : {A : Type 0} → ℕ → Result A ℕ → Result A ℕ
at_least n (Ok v) = Ok v
at_least n (Err at) = Err (max n at)

-- So a text is read in the same way, and refused at the later of the two places.
abbrev pub RefusesAtTheLater : Type 0
RefusesAtTheLater = (g : SyntaxRule) (last : Word) (text : List ℕ) (left : ℕ) → left ≤ length text → whole_from g last text left ≡ at_least (length text - left) (whole g last text)
