-- What is put word by word is the canonical text.
use Rattle.std.proofs.Common.{◌≡◌, Bool, true, false, ◌||◌, List, [], ◌∷◌, ◌++◌, append_assoc, refl, sym, ap, subst, ◌∙◌, Option, Some, None}
use Rattle.std.specs.Prelude.{◌==◌}
use Rattle.std.specs.List.{fold, flat_map}
use Rattle.std.proofs.lemmas.List.Sums.{fold-append}
use mathlib.Core.Logic.{inl, inr}
use Rattle.asm_grammar.specs.Syntax.{SyntaxRule, One, Then, Either, Maybe, Many, Value}
use Rattle.asm_grammar.specs.Word.{Word, Mark}
use Rattle.asm_grammar.specs.Writing.{Piece, pieces, space, space_unless, spell, text_of_pieces}
use Rattle.asm_group.specs.Names.{Bytes}
use Rattle.asm_world.specs.Grammar as g
use Rattle.asm_world.specs.Meaning.{Says}
use Rattle.asm_world.specs.Statement as s
use Rattle.asm_world.specs.Writing.{statement_value, statement_text, value_text}
use Rattle.asm_world.proofs.Canon.{said_is_written}
use Rattle.written_sql.specs.Lines.{Line, empty_line, stands_close, is_opening_mark, add_word, with_value, put_maybe, statement_line}

-- PIECES, one behind another

abbrev step : Line → Piece → Line
step line p = add_word p.word p.says line

many : {A : Type 0} (f : A → Line → Line) (words : A → List Piece) → ((v : A) (line : Line) → f v line ≡ fold step line (words v))
    → (vs : List A) (line : Line) → fold (λ l v. f v l) line vs ≡ fold step line (flat_map words vs)
many f words same [] line = refl
many f words same (v ∷ vs) line = ap (λ l. fold (λ l v. f v l) l vs) (same v line) ∙ (many f words same vs (fold step line (words v)) ∙ sym (fold-append step line (words v) (flat_map words vs)))

put_pieces : (row : SyntaxRule) (v : Value row) (line : Line) → with_value row v line ≡ fold step line (pieces row v)
put_pieces (One w) v line = refl
put_pieces (Then a b) (v, w) line = ap (λ l. with_value b w l) (put_pieces a v line) ∙ (put_pieces b w (fold step line (pieces a v)) ∙ sym (fold-append step line (pieces a v) (pieces b w)))
put_pieces (Either a b) (inl v) line = put_pieces a v line
put_pieces (Either a b) (inr w) line = put_pieces b w line
put_pieces (Maybe a) None line = refl
put_pieces (Maybe a) (Some v) line = put_pieces a v line
put_pieces (Many a) vs line = many (λ v l. with_value a v l) (λ v. pieces a v) (λ v l. put_pieces a v l) vs line

-- SPACES

turned : (a b c d e f : Bool) → space_unless (a || b || c || d || e || f) ≡ space_unless ((c || d || e || f) || (a || b))
turned true b true d e f = refl
turned true b false true e f = refl
turned true b false false true f = refl
turned true b false false false true = refl
turned true b false false false false = refl
turned false true true d e f = refl
turned false true false true e f = refl
turned false true false false true f = refl
turned false true false false false true = refl
turned false true false false false false = refl
turned false false true d e f = refl
turned false false false true e f = refl
turned false false false false true f = refl
turned false false false false false true = refl
turned false false false false false false = refl

ends_false : (b : Bool) → space_unless b ≡ space_unless (b || false)
ends_false true = refl
ends_false false = refl

space_is : (p q : Word) → space p q ≡ space_unless (stands_close q || is_opening_mark p)
space_is (Mark m) (Mark n) = turned (m == 40) (m == 61) (n == 44) (n == 41) (n == 61) (n == 59)
space_is (Mark m) other = refl
space_is other (Mark n) = ends_false (n == 44 || n == 41 || n == 61 || n == 59)
space_is other word = refl

-- TEXTS

joined : (line gap spelt space rest : Bytes) → (line ++ (gap ++ spelt)) ++ (space ++ rest) ≡ line ++ (gap ++ ((spelt ++ space) ++ rest))
joined line gap spelt space rest = simp append_assoc

text_of : (p : Piece) (ps : List Piece) (line : Line) → (fold step line (p ∷ ps)).bytes ≡ line.bytes ++ (space_unless (stands_close p.word || line.close) ++ text_of_pieces (p ∷ ps))
text_of p [] line = refl
text_of p (q ∷ qs) line =
    text_of q qs (step line p)
    ∙ (ap (λ z. (step line p).bytes ++ (z ++ text_of_pieces (q ∷ qs))) (sym (space_is p.word q.word))
    ∙ joined line.bytes (space_unless (stands_close p.word || line.close)) (spell p.word p.says) (space p.word q.word) (text_of_pieces (q ∷ qs)))

or_true : (b : Bool) → (b || true) ≡ true
or_true true = refl
or_true false = refl

written_is : (ps : List Piece) → (fold step empty_line ps).bytes ≡ text_of_pieces ps
written_is [] = refl
written_is (p ∷ ps) = text_of p ps empty_line ∙ ap (λ b. space_unless b ++ text_of_pieces (p ∷ ps)) (or_true (stands_close p.word))

-- STATEMENTS

whole_by : (o : Option (Value g.statement)) (line : Line) → Some line ≡ put_maybe g.statement o empty_line → line.bytes ++ 59 ∷ [] ≡ value_text o
whole_by None line e = absurd cc
whole_by (Some v) line e =
    let q : line ≡ with_value g.statement v empty_line = cc in
    ap (λ (l : Line). l.bytes ++ 59 ∷ []) q ∙ ap (λ z. z ++ 59 ∷ []) (ap (λ (l : Line). l.bytes) (put_pieces g.statement v empty_line) ∙ written_is (pieces g.statement v))

pub whole_text : (x : s.Statement) (line : Line) → Some line ≡ statement_line x empty_line → (with_value (One (Mark 59)) tt line).bytes ≡ statement_text x
unfolding statement_line
whole_text x line e = whole_by (statement_value x) line e

none_by : (o : Option (Value g.statement)) → None ≡ put_maybe g.statement o empty_line → [] ≡ value_text o
none_by None e = refl
none_by (Some v) e = absurd cc

pub no_text : (x : s.Statement) → None ≡ statement_line x empty_line → [] ≡ statement_text x
unfolding statement_line
no_text x e = none_by (statement_value x) e

pub text_says : (x : s.Statement) (text : Bytes) → text ≡ statement_text x → (other : Bytes) → Says other x → Says text x
text_says x text e other says = subst (λ t. Says t x) (sym e) (said_is_written other x says)
