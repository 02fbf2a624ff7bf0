-- What reading a whole text gives, in terms of the language.
use Rattle.std.proofs.Common.{◌≡◌, ℕ, ◌-◌, List, length, refl, ap, subst, ◌∙◌}
use Rattle.std.specs.Prelude.{Result, Ok, Err, IfOk}
use Rattle.asm_grammar.specs.Laws.{IsLongestFront}
use Rattle.asm_grammar.specs.Reading.{Outcome, Took, Failed, ◌>>=◌, mapped, parse, close, ended_by_word, whole, result_of}
use Rattle.asm_grammar.specs.Syntax.{Value}
use Rattle.asm_grammar.proofs.Closing.{finish_ok, finish_err}
use Rattle.asm_grammar.proofs.Whole.{whole_texts}
use Rattle.asm_group.specs.Names.{Bytes}
use Rattle.asm_world.specs.Grammar as g
use Rattle.asm_world.specs.Meaning.{Says, statement_of}
use Rattle.asm_world.specs.Statement as s
use Rattle.group_sql.specs.Answers.{statement_or_front, IsStatementRead}
use Rattle.group_sql.specs.Said.{statement_said}
use Rattle.group_sql.specs.declared.reading.ReadError.{ReadError}
use Rattle.group_sql.specs.declared.statement.Statement.{Statement}
use Rattle.group_sql.specs.Choices.{ended_at}
use Rattle.group_sql.proofs.Ties.{statement_is}
use Rattle.asm_world.proofs.Commands.{statement_read}
use Rattle.asm_world.proofs.Statements as laws

says_by : (text : Bytes) (x : s.Statement) (r : Result (Value g.statement) ℕ) → whole g.statement g.semicolon text ≡ r → result_of statement_of r ≡ Ok x → Says text x
says_by text x (Ok v) e k = let q : statement_of v ≡ x = cc in subst (λ z. Says text z) q (statement_read text v e)
says_by text x (Err at) e k = cc

pub found : (text : Bytes) (x : s.Statement) → statement_or_front text ≡ Ok x → Says text x
unfolding statement_or_front
found text x e = says_by text x (whole g.statement g.semicolon text) refl e

pub only : (text : Bytes) (x t : s.Statement) → statement_or_front text ≡ Ok x → Says text t → t ≡ x
only text x t e says = laws.one_statement text t x says (found text x e)

refused_by : (text : Bytes) (at : ℕ) (r : Result (Value g.statement) ℕ) → whole g.statement g.semicolon text ≡ r → result_of statement_of r ≡ Err at → whole g.statement g.semicolon text ≡ Err at
refused_by text at (Ok v) e k = cc
refused_by text at (Err n) e k = let q : n ≡ at = cc in e ∙ ap (λ z. Err z) q

none_said : (text : Bytes) (at : ℕ) (x : s.Statement) → whole g.statement g.semicolon text ≡ Err at → Says text x → ⊥
none_said text at x e says =
    let f : whole g.statement g.semicolon text ≡ Ok says.value = (whole_texts g.statement 59 text says.value refl).1 (record { rest = says.rest; has = says.has; end = says.end }) in cc

pub refused : (text : Bytes) (at : ℕ) → statement_or_front text ≡ Err at → IsLongestFront g.statement 59 text at × ((x : s.Statement) → Says text x → ⊥)
unfolding statement_or_front
refused text at k =
    let e = refused_by text at (whole g.statement g.semicolon text) refl k in
    (laws.refused text at e, λ x says. none_said text at x e says)

-- ---- reading a statement and its end

closed_says : (o : Outcome (Value g.statement)) → mapped statement_of (ended_by_word g.semicolon o) ≡ (mapped statement_of o >>= λ statement rest l. mapped (λ u. statement) (close g.semicolon rest l))
closed_says (Failed l) = refl
closed_says (Took v rest l) = by (close g.semicolon rest l) where
  by : (c : Outcome (Unit {0})) → mapped statement_of (mapped (λ u. v) c) ≡ mapped (λ u. statement_of v) c
  by (Took u r m) = refl
  by (Failed m) = refl

ended_is : (text : List ℕ) (left : ℕ) → mapped statement_of (ended_by_word g.semicolon (parse g.statement text left)) ≡ ended_at text left
unfolding ended_at
ended_is text left = closed_says (parse g.statement text left) ∙ ap (λ o. o >>= λ statement rest l. mapped (λ u. statement) (close g.semicolon rest l)) (statement_is text left)

pub ended_ok : (text : List ℕ) (x : s.Statement) (rest : List ℕ) (left : ℕ) → ended_at text (length text) ≡ Took x rest left → statement_or_front text ≡ Ok x
unfolding statement_or_front
ended_ok text x rest left e = finish_ok statement_of g.semicolon (length text) (parse g.statement text (length text)) x rest left (ended_is text (length text) ∙ e)

pub ended_err : (text : List ℕ) (left : ℕ) → ended_at text (length text) ≡ Failed left → statement_or_front text ≡ Err (length text - left)
unfolding statement_or_front
ended_err text left e = finish_err statement_of g.semicolon (length text) (parse g.statement text (length text)) left (ended_is text (length text) ∙ e)

pub only_result : (r : Result Statement ReadError) (text : Bytes) → IsStatementRead r text → IfOk r (λ x. (t : s.Statement) → Says text t → t ≡ statement_said x)
only_result (Ok x) text e = λ t says. only text (statement_said x) t e says
only_result (Err e) text k = tt
