-- Reading a text by a grammar, with one word of foresight, and the place up to which it fits.
use Rattle.std.specs.Prelude.{ℕ, zero, suc, ◌-◌, min, Bool, true, false, ◌&&◌, ◌==◌, not, List, [], ◌∷◌, ◌++◌, length, Option, Some, None, Result, Ok, Err, if◌then◌else◌}
use mathlib.Core.Logic.{inl, inr}
use Rattle.std.specs.List.{list_any, list_all}
use Rattle.asm_grammar.specs.Bytes.{is_word}
use Rattle.asm_grammar.specs.Word.{Word, Keyword, Mark, Quoted, Argument, End, Meaning, fit, fits, near, same_bytes}
use Rattle.asm_grammar.specs.Argument.{Kind, Exact, Text, GroupPath, HostPath, is_of}
use Rattle.asm_grammar.specs.Syntax.{SyntaxRule, One, Then, Either, Maybe, Many, Value}

-- Either the value, the text behind it and the fewest bytes that were left at a word that didn't fit, or the latter alone.
pub data Outcome (A : Type 0) : Type 0 where
  Took : A → List ℕ → ℕ → Outcome A
  Failed : ℕ → Outcome A

infixl 10 ◌>>=◌
abbrev pub ◌>>=◌ : {A B : Type 0} → Outcome A → (A → List ℕ → ℕ → Outcome B) → Outcome B
(Took v rest left) >>= f = f v rest left
(Failed left) >>= f = Failed left

abbrev pub nullable : SyntaxRule → Bool
nullable (One w) = false
nullable (Then a b) = nullable a && nullable b
nullable (Either a b) = false
nullable (Maybe a) = true
nullable (Many a) = true

-- the words with which it can begin
abbrev pub first : SyntaxRule → List Word
first (One w) = w ∷ []
first (Then a b) = if nullable a then first a ++ first b else first a
first (Either a b) = first a ++ first b
first (Maybe a) = first a
first (Many a) = first a

abbrev pub any_fits : List Word → List ℕ → Bool
any_fits words text = list_any (λ w. fits w text) words

abbrev pub leads : SyntaxRule → List ℕ → Bool
leads g text = any_fits (first g) text

-- the fewest bytes left, where none of these words fits the text
abbrev pub miss : List Word → List ℕ → ℕ → ℕ
miss [] text left = left
miss (w ∷ words) text left = miss words text (min left (length text - near w text))

abbrev pub mapped : {A B : Type 0} → (A → B) → Outcome A → Outcome B
mapped f (Took v rest left) = Took (f v) rest left
mapped f (Failed left) = Failed left

abbrev pub one : (w : Word) → List ℕ → ℕ → Option (Meaning w × List ℕ) → Outcome (Meaning w)
one w text left None = Failed (min left (length text - near w text))
one w text left (Some found) = Took found.0 found.1 left

-- Again and again while the test says so, and at most n times.
abbrev pub repeated_while : {A : Type 0} → ℕ → (List ℕ → Bool) → (List ℕ → ℕ → ℕ) → (List ℕ → ℕ → Outcome A) → List ℕ → ℕ → Outcome (List A)
repeated_while zero test missed read text left = Took [] text (missed text left)
repeated_while (suc n) test missed read text left =
    if test text
    then (read text left >>= λ v rest left. mapped (λ vs. v ∷ vs) (repeated_while n test missed read rest left))
    else Took [] text (missed text left)

abbrev pub parse : (g : SyntaxRule) → List ℕ → ℕ → Outcome (Value g)
parse (One w) text left = one w text left (fit w text)
parse (Then a b) text left = parse a text left >>= λ v rest left. mapped (λ w. (v, w)) (parse b rest left)
parse (Either a b) text left =
    if leads a text
    then mapped (λ v. inl v) (parse a text left)
    else mapped (λ w. inr w) (parse b text (miss (first a) text left))
parse (Maybe a) text left =
    if leads a text
    then mapped (λ v. Some v) (parse a text left)
    else Took None text (miss (first a) text left)
parse (Many a) text left = repeated_while (length text) (λ rest. leads a rest) (λ rest left. miss (first a) rest left) (λ rest left. parse a rest left) text left

-- A word takes a byte at least.
abbrev pub is_solid : Word → Bool
is_solid (Keyword k) = not (length k == 0)
is_solid (Argument (Exact k)) = not (length k == 0)
is_solid End = false
is_solid other = true

-- No word is of both kinds.
abbrev pub kinds_apart : Kind → Kind → Bool
kinds_apart (Exact bytes) other = not (is_of other bytes)
kinds_apart k (Exact bytes) = not (is_of k bytes)
kinds_apart (Text GroupPath) (Text HostPath) = true
kinds_apart (Text HostPath) (Text GroupPath) = true
kinds_apart k other = false

-- No text fits both words.
abbrev pub apart : Word → Word → Bool
apart (Keyword j) (Keyword k) = not (same_bytes j k)
apart (Keyword k) (Mark m) = not (length k == 0) && not (is_word m)
apart (Mark m) (Keyword k) = not (length k == 0) && not (is_word m)
apart (Mark m) (Mark n) = not (m == n)
apart (Keyword k) Quoted = not (length k == 0)
apart Quoted (Keyword k) = not (length k == 0)
apart (Mark m) Quoted = not (m == 39)
apart Quoted (Mark m) = not (m == 39)
apart (Argument k) (Argument other) = kinds_apart k other
apart (Argument k) End = is_solid (Argument k)
apart other word = false

abbrev pub all_words_apart : List Word → List Word → Bool
all_words_apart ws others = list_all (λ w. list_all (λ other. apart w other) others) ws

-- the words with which it, and behind it one of these, can begin
abbrev pub starts : SyntaxRule → List Word → List Word
starts g follow = if nullable g then first g ++ follow else first g

-- At each choice the next word decides, where one of these words follows.
abbrev pub decides : SyntaxRule → List Word → Bool
decides (One w) follow = is_solid w
decides (Then a b) follow = decides a (starts b follow) && decides b follow
decides (Either a b) follow = decides a follow && decides b follow && not (nullable a) && not (nullable b) && all_words_apart (first a) (first b)
decides (Maybe a) follow = decides a follow && not (nullable a) && all_words_apart (first a) follow
decides (Many a) follow = decides a (first a ++ follow) && not (nullable a) && all_words_apart (first a) follow

abbrev pub is_all : {A : Type 0} → Option (A × List ℕ) → Bool
is_all None = false
is_all (Some (v, [])) = true
is_all (Some (v, b ∷ rest)) = false

-- the word stands there, and nothing behind it
abbrev pub ends : Word → List ℕ → Bool
ends last rest = is_all (fit last rest)

abbrev pub finish : {A : Type 0} → Word → ℕ → Outcome A → Result A ℕ
finish last len (Failed left) = Err (len - left)
finish last len (Took v rest left) = if ends last rest then Ok v else Err (len - min left (length rest - near last rest))

-- Reading a whole text that this word ends: its value, or how many bytes of it begin some text of the grammar.
abbrev pub whole : (g : SyntaxRule) → Word → List ℕ → Result (Value g) ℕ
whole g last text = finish last (length text) (parse g text (length text))

-- the word stands there and nothing behind it
abbrev pub close : Word → List ℕ → ℕ → Outcome (Unit {0})
close last rest left = if ends last rest then Took tt [] left else Failed (min left (length rest - near last rest))

-- what was read, where that word ends the text
abbrev pub ended_by_word : {A : Type 0} → Word → Outcome A → Outcome A
ended_by_word last read = read >>= λ v rest left. mapped (λ u. v) (close last rest left)

abbrev pub result_of : {A B : Type 0} → (A → B) → Result A ℕ → Result B ℕ
result_of says (Ok v) = Ok (says v)
result_of says (Err at) = Err at
