-- Reading a whole line.
use Rattle.std.proofs.Common.{◌≡◌, ℕ, ◌-◌, ◌<◌, ◌≤◌, min, Bool, true, false, inl, inr, List, [], ◌∷◌, length, map, refl, sym, ap, subst, ◌∙◌, Some, None, arith}
use Rattle.std.specs.Prelude.{◌==◌, max, Result, Ok, Err, codes}
use Rattle.std.proofs.lemmas.Bool.{cases_lt}
use Rattle.asm_grammar.specs.Bytes.{common, upper}
use Rattle.asm_grammar.specs.Laws.{at_least, whole_from}
use Rattle.asm_grammar.specs.Reading.{Outcome, Took, Failed, mapped, parse, whole, close, ended_by_word, finish, result_of}
use Rattle.asm_grammar.specs.Reads.{RefusesReading}
use Rattle.asm_grammar.specs.Syntax.{SyntaxRule, Value}
use Rattle.asm_grammar.specs.Word.{Word, End}
use Rattle.asm_grammar.specs.declared.words.ReadError.{ReadError as Unread}
use Rattle.asm_grammar.specs.declared.words.ReadError.TheVariants as unread
use Rattle.asm_grammar.proofs.Closing.{finish_ok, finish_err}
use Rattle.asm_grammar.proofs.Lines.{whole_lines, longest_line}
use Rattle.asm_grammar.proofs.Lowered.{from_fewer}
use Rattle.asm_grammar.proofs.Tests.{is_true_or_false}
use Rattle.asm_group.specs.Names.{Bytes}
use Rattle.asm_world.specs.Command as c
use Rattle.asm_grammar.specs.FirstWord.{opens_statement}
use Rattle.asm_world.specs.FirstWord.{begins_blank, keyword_front}
use Rattle.asm_world.specs.Language.{command_of, verb_or_none}
use Rattle.asm_world.specs.VerbMeaning.{SaysVerb, verb_of}
use Rattle.asm_world.specs.Verbs as g
use Rattle.asm_world.proofs.Commands.{verb_read, longest}
use Rattle.asm_world.proofs.FirstWords.{verbs_alone}
use Rattle.asmcmd.specs.Exact.{wanted_verb, read_error_of, IsVerbRead, IsNoVerb, IsExact, IsCommand}
use Rattle.asmcmd.specs.Verbs.{meant_verb}
use Rattle.asmcmd.specs.declared.verb.Verb.{Verb}
use Rattle.asmcmd.specs.declared.verb.ReadError.{ReadError}
use Rattle.asmcmd.specs.declared.verb.ReadError.TheVariants.{Syntax as Miss, NoMemory}

-- ---- fronts of keywords

pub front_within : (key text : List ℕ) → common key (map upper text) ≤ length text
front_within [] text = omega arith
front_within (b ∷ key) [] = omega arith
front_within (b ∷ key) (x ∷ text) = elim (is_true_or_false (b == upper x)) [ inl h ↦ rw h (omega (arith, front_within key text)) | inr h ↦ rw h (omega arith) ]

-- ---- the end of a line

module _ {A B : Type 0} (says : A → B) (last : Word) where
  pub closed_took : (o : Outcome A) (x : B) (rest : List ℕ) (left : ℕ) → mapped says o ≡ Took x rest left → mapped says (ended_by_word last o) ≡ mapped (λ u. x) (close last rest left)
  closed_took (Took v r l) x rest left e =
      let p : says v ≡ x = cc in let q : r ≡ rest = cc in let m : l ≡ left = cc in rw (← q, ← m, ← p) (under v (close last r l)) where
        under : (v : A) (o : Outcome (Unit {0})) → mapped says (mapped (λ u. v) o) ≡ mapped (λ u. says v) o
        under v (Took u r l) = refl
        under v (Failed l) = refl
  closed_took (Failed l) x rest left e = cc

  closed_failed : (o : Outcome A) (left : ℕ) → mapped says o ≡ Failed left → mapped says (ended_by_word last o) ≡ Failed left
  closed_failed (Took v r l) left e = cc
  closed_failed (Failed l) left e = cc

  pub closed_refused : (e : Unread) (o : Outcome A) → RefusesReading e (mapped says o) → RefusesReading e (mapped says (ended_by_word last o))
  closed_refused unread.NoMemory o r = tt
  closed_refused (unread.Syntax left) o r = closed_failed o left r

-- ---- what a whole line asks for

taken : (front : ℕ) (r : Result (Value g.verb) ℕ) (x : c.Verb) → result_of verb_of (at_least front r) ≡ Ok x → verb_or_none front r ≡ c.Asked x
taken front (Ok v) x e = let q : verb_of v ≡ x = cc in ap (λ z. c.Asked z) q
taken front (Err n) x e = cc

refused : (front : ℕ) (r : Result (Value g.verb) ℕ) (at : ℕ) → result_of verb_of (at_least front r) ≡ Err at → verb_or_none front r ≡ c.Unreadable at
refused front (Ok v) at e = cc
refused front (Err n) at e = let q : max front n ≡ at = cc in ap (λ z. c.Unreadable z) q

-- reading from a front is reading, refused at the later place
from_front : (text : Bytes) (front : ℕ) → front ≤ length text → whole_from g.verb End text (length text - front) ≡ at_least front (whole g.verb End text)
from_front text front within =
    let n : length text - (length text - front) ≡ front = omega arith in
    subst (λ k. whole_from g.verb End text (length text - front) ≡ at_least k (whole g.verb End text)) n (from_fewer g.verb End text (length text - front) (omega arith))

pub asked_ok : (text : Bytes) (front : ℕ) (x : c.Verb) (rest : List ℕ) (left : ℕ) → front ≡ keyword_front text → front ≤ length text
    → mapped verb_of (ended_by_word End (parse g.verb text (length text - front))) ≡ Took x rest left → wanted_verb text ≡ c.Asked x
unfolding wanted_verb
asked_ok text front x rest left f within e =
    let k = finish_ok verb_of End (length text) (parse g.verb text (length text - front)) x rest left e in
    let m : result_of verb_of (at_least front (whole g.verb End text)) ≡ Ok x = subst (λ r. result_of verb_of r ≡ Ok x) (from_front text front within) k in
    rw (← f) (taken front (whole g.verb End text) x m)

asked_none : (text : Bytes) (front left : ℕ) → front ≡ keyword_front text → front ≤ length text
    → mapped verb_of (ended_by_word End (parse g.verb text (length text - front))) ≡ Failed left → wanted_verb text ≡ c.Unreadable (length text - left)
unfolding wanted_verb
asked_none text front left f within e =
    let k = finish_err verb_of End (length text) (parse g.verb text (length text - front)) left e in
    let m : result_of verb_of (at_least front (whole g.verb End text)) ≡ Err (length text - left) = subst (λ r. result_of verb_of r ≡ Err (length text - left)) (from_front text front within) k in
    rw (← f) (refused front (whole g.verb End text) (length text - left) m)

pub asked_refused : (text : Bytes) (front : ℕ) (e : Unread) → front ≡ keyword_front text → front ≤ length text
    → RefusesReading e (mapped verb_of (ended_by_word End (parse g.verb text (length text - front)))) → IsVerbRead (Err (read_error_of (length text) e)) text
asked_refused text front unread.NoMemory f within r = tt
asked_refused text front (unread.Syntax left) f within r = asked_none text front left f within r

-- ---- the same in terms of the grammar

says_verb : (text : Bytes) (x : c.Verb) (r : Result (Value g.verb) ℕ) → whole g.verb End text ≡ r → verb_or_none (keyword_front text) r ≡ c.Asked x → SaysVerb text x
says_verb text x (Ok v) e k = let q : verb_of v ≡ x = cc in subst (λ z. SaysVerb text z) q (verb_read text v e)
says_verb text x (Err n) e k = cc

no_verb : (text : Bytes) (n : ℕ) → whole g.verb End text ≡ Err n → (verb : c.Verb) → SaysVerb text verb → ⊥
no_verb text n e verb s = let f = (whole_lines g.verb text s.value refl).1 (record { rest = s.rest; has = s.has; end = s.end }) in differ f where
  differ : {v : Value g.verb} → whole g.verb End text ≡ Ok v → ⊥
  differ f = let q = sym e ∙ f in cc

is_none : (text : Bytes) (at : ℕ) (r : Result (Value g.verb) ℕ) → whole g.verb End text ≡ r → verb_or_none (keyword_front text) r ≡ c.Unreadable at → IsNoVerb text at
is_none text at (Ok v) e k = cc
is_none text at (Err n) e k = record {
  no_verb = no_verb text n e;
  far = n;
  longest = longest_line g.verb text n refl refl e;
  place = let q : max (keyword_front text) n ≡ at = cc in sym q;
}

pub exact : (r : Result Verb ReadError) (text : Bytes) → IsVerbRead r text → IsExact r text
unfolding wanted_verb
exact (Ok x) text e = says_verb text (meant_verb x) (whole g.verb End text) refl e
exact (Err NoMemory) text e = tt
exact (Err (Miss at)) text e = is_none text at (whole g.verb End text) refl e

pub command : (r : Result Verb ReadError) (text : Bytes) → IsVerbRead r text → opens_statement text ≡ false → begins_blank text ≡ false → IsCommand r text
unfolding wanted_verb
command (Ok x) text e o b = verbs_alone text o b ∙ e
command (Err NoMemory) text e o b = tt
command (Err (Miss at)) text e o b = let k = verbs_alone text o b ∙ e in (k, longest text at k)
