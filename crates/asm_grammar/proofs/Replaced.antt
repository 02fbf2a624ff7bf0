-- What stands behind a word or a part can be replaced.
use Rattle.std.proofs.Common.{◌≡◌, ◌≢◌, ℕ, ◌*◌, ◌^◌, ◌<◌, Bool, true, false, ◌&&◌, not, nat_lt, ◌⊎◌, inl, inr, List, [], ◌∷◌, ◌++◌, length, map, refl, sym, ap, subst, ◌∙◌, Option, Some, None, arith, append_assoc}
use Rattle.std.specs.Prelude.{◌==◌}
use Rattle.std.specs.List.{list_all}
use Rattle.std.proofs.lemmas.Bool.{eqb-true, eq-eqb}
use Rattle.asm_grammar.specs.Argument.{Kind, ArgumentMeaning, argument_of}
use Rattle.asm_grammar.proofs.Stages.{of_run, of_some}
use Rattle.asm_grammar.specs.Bytes.{is_blank, is_space, is_filled, is_word, is_digit_byte, is_text_byte, upper, run_of, after_run, common}
use Rattle.asm_grammar.specs.Word.{Word, Keyword, Mark, Name, Number, Size, Minutes, Quoted, Argument, End, Meaning, same_bytes, when, gap, begins_argument, fit, fit_here, to_quote, with_byte_before, number_of_text, size_of_text, is_name_word, in_minutes, digits_of, minutes_in, begins_word}
use Rattle.asm_grammar.specs.Syntax.{SyntaxRule, One, Then, Either, Maybe, Many, Value, Has, HasAll}
use Rattle.asm_grammar.specs.Reading.{is_solid, nullable, decides, starts, all_words_apart}
use Rattle.asm_grammar.specs.Reading.{first as heads}
use Rattle.asm_grammar.proofs.Consumes.{either_parts, maybe_parts}
use Rattle.asm_grammar.proofs.Tests.{both, both_true, not_true, is_true_or_false}
use Rattle.asm_grammar.proofs.Outcomes.{chosen}
use Rattle.asm_grammar.proofs.Consumes.{some_pair, taken, when_true, key_run, name_run, number_run, size_run}
use Rattle.asm_grammar.proofs.Near.{after_quote, unit_is, unit_fits}
use Rattle.asm_grammar.proofs.Written.{run_all, rest_all, no_run, quote_spelled}
use Rattle.asm_grammar.proofs.Nearest.{run_words, no_word_begins, no_filled}

-- The other text may stand where the first does: it is empty or begins with a space, or as the first does.
abbrev pub Joins : List ℕ → List ℕ → Type 0
Joins text t = (begins_argument t ≡ false) ⊎ (0 < common text t)

pub run_then_rest : (test : ℕ → Bool) (text : List ℕ) → text ≡ run_of test text ++ after_run test text
run_then_rest test [] = refl
run_then_rest test (b ∷ text) = elim (is_true_or_false (test b)) [
  | inl h ↦ rw h (ap (λ x. b ∷ x) (run_then_rest test text))
  | inr h ↦ rw h refl
]

-- nothing of the kind stands at the front
abbrev NoFront : (ℕ → Bool) → List ℕ → Type 0
NoFront test x = (run_of test x ≡ []) × (after_run test x ≡ x)

rest_front : (test : ℕ → Bool) (text : List ℕ) → NoFront test (after_run test text)
rest_front test [] = (refl, refl)
rest_front test (b ∷ text) = elim (is_true_or_false (test b)) [
  | inl h ↦ rw h (rest_front test text)
  | inr h ↦ rw (h, h) (refl, refl)
]

front_head : (test : ℕ → Bool) (b : ℕ) (x y : List ℕ) → NoFront test (b ∷ x) → NoFront test (b ∷ y)
front_head test b x y n = elim (is_true_or_false (test b)) [
  | inl h ↦ absurd (let e = rw h at n.0 in cc)
  | inr h ↦ (rw h refl, rw h refl)
]

front_same : (test : ℕ → Bool) (front : List ℕ) (b : ℕ) (x y : List ℕ) → NoFront test (front ++ b ∷ x) → NoFront test (front ++ b ∷ y)
front_same test [] b x y n = front_head test b x y n
front_same test (c ∷ front) b x y n = front_head test c (front ++ b ∷ x) (front ++ b ∷ y) n

no_word_front : (x : List ℕ) → NoFront is_word x → begins_word x ≡ false
no_word_front [] n = refl
no_word_front (b ∷ x) n = elim (is_true_or_false (is_word b)) [
  | inl h ↦ absurd (let e = rw h at n.0 in cc)
  | inr h ↦ h
]

joined_begins : (x y : List ℕ) → begins_word x ≡ false → Joins x y → begins_word y ≡ false
joined_begins x y e (inl j) = no_word_begins y j
joined_begins [] y e (inr j) = absurd (omega arith)
joined_begins (b ∷ x) [] e (inr j) = refl
joined_begins (b ∷ x) (c ∷ y) e (inr j) = elim (is_true_or_false (b == c)) [
  | inl h ↦ subst (λ z. is_word z ≡ false) (eqb-true b c h) e
  | inr h ↦ absurd (let k = rw h at j in omega arith)
]

joined_argument : (x y : List ℕ) → begins_argument x ≡ false → Joins x y → begins_argument y ≡ false
joined_argument x y e (inl j) = j
joined_argument [] y e (inr j) = absurd (omega arith)
joined_argument (b ∷ x) [] e (inr j) = refl
joined_argument (b ∷ x) (c ∷ y) e (inr j) = elim (is_true_or_false (b == c)) [
  | inl h ↦ subst (λ z. is_filled z ≡ false) (eqb-true b c h) e
  | inr h ↦ absurd (let k = rw h at j in omega arith)
]

no_filled_front : (x : List ℕ) → NoFront is_filled x → begins_argument x ≡ false
no_filled_front [] n = refl
no_filled_front (b ∷ x) n = elim (is_true_or_false (is_filled b)) [
  | inl h ↦ absurd (let e = rw h at n.0 in cc)
  | inr h ↦ h
]

-- The word, and what stood behind it replaced.
record Swapped (w : Word) (text rest other : List ℕ) (v : Meaning w) : Type 0 where
  pub front : List ℕ
  pub shape : text ≡ front ++ rest
  pub fit_is : fit_here w (front ++ other) ≡ Some (v, other)
  pub start : after_run (gap w) (front ++ other) ≡ front ++ other
  pub some : front ≢ []

-- a run of a word's bytes keeps what it says
record RunCut (text rest other : List ℕ) : Type 0 where
  shape : text ≡ run_of is_word text ++ rest
  run : run_of is_word (run_of is_word text ++ other) ≡ run_of is_word text
  rest_is : after_run is_word (run_of is_word text ++ other) ≡ other

run_cut : (text rest other : List ℕ) → after_run is_word text ≡ rest → Joins rest other → RunCut text rest other
run_cut text rest other e j =
    let b : begins_word rest ≡ false = subst (λ x. begins_word x ≡ false) e (no_word_front (after_run is_word text) (rest_front is_word text)) in
    let n = no_run other (joined_begins rest other b j) in
    record {
      shape = subst (λ x. text ≡ run_of is_word text ++ x) e (run_then_rest is_word text);
      run = run_all is_word (run_of is_word text) other (run_words is_word text) n.0;
      rest_is = rest_all is_word (run_of is_word text) other (run_words is_word text) n.1;
    }

blank_start : (test : ℕ → Bool) (front x y : List ℕ) → front ≢ [] → NoFront test (front ++ x) → after_run test (front ++ y) ≡ front ++ y
blank_start test [] x y n e = absurd (n refl)
blank_start test (b ∷ front) x y n e = (front_head test b (front ++ x) (front ++ y) e).1

quote_shape : (x v rest : List ℕ) → to_quote x ≡ Some (v, rest) → (x ≡ v ++ 39 ∷ rest) × (list_all is_text_byte v ≡ true)
quote_shape [] v rest e = cc
quote_shape (b ∷ x) v rest e = elim (chosen (is_text_byte b) _ _ _ e) [
  | inl c ↦
      (let k : with_byte_before b (to_quote x) ≡ Some (v, rest) = c.1 in
      let p = after_quote b (to_quote x) v rest k in
      let q = some_pair (rw p.1 at k) in
      let r = quote_shape x p.0 rest p.1 in (
        ap (λ z. b ∷ z) r.0 ∙ ap (λ z. z ++ 39 ∷ rest) q.0,
        subst (λ z. list_all is_text_byte z ≡ true) q.0 (both_true (is_text_byte b) (list_all is_text_byte p.0) c.0 r.1),
      ))
  | inr c ↦ (elim (chosen (b == 39) _ _ _ c.1) [
    | inl f ↦
        (let p = some_pair f.1 in
        let s : b ≡ 39 = eqb-true b 39 f.0 in
        (ap (λ z. z ∷ x) s ∙ (ap (λ z. 39 ∷ z) p.1 ∙ ap (λ z. z ++ 39 ∷ rest) p.0), subst (λ z. list_all is_text_byte z ≡ true) p.0 refl))
    | inr f ↦ absurd (let q = f.1 in cc)
  ])
]

word_shape : (w : Word) (text rest other : List ℕ) (v : Meaning w) → NoFront (gap w) text → run_of is_word text ≢ [] → (c : RunCut text rest other)
    → fit_here w (run_of is_word text ++ other) ≡ Some (v, other) → Swapped w text rest other v
word_shape w text rest other v nb n c f = record {
  front = run_of is_word text;
  shape = c.shape;
  fit_is = f;
  start = blank_start (gap w) (run_of is_word text) rest other n (subst (λ x. NoFront (gap w) x) c.shape nb);
  some = n;
}

key_swap : (k text rest other : List ℕ) (v : Unit {0}) → not (length k == 0) ≡ true → NoFront is_blank text → fit_here (Keyword k) text ≡ Some (v, rest) → Joins rest other → Swapped (Keyword k) text rest other v
key_swap k text rest other v s nb e j =
    let t = taken (after_run is_word text) (when (same_bytes (map upper (run_of is_word text)) k) tt) v rest e in
    let w = when_true (same_bytes (map upper (run_of is_word text)) k) tt v t.0 in
    let c = run_cut text rest other t.1 j in
    word_shape (Keyword k) text rest other v nb (key_run (run_of is_word text) k s w.0) c (rw (c.run, c.rest_is, w.0) refl)

name_swap : (text rest other : List ℕ) (v : List ℕ) → NoFront is_blank text → fit_here Name text ≡ Some (v, rest) → Joins rest other → Swapped Name text rest other v
name_swap text rest other v nb e j =
    let t = taken (after_run is_word text) (when (is_name_word (run_of is_word text)) (run_of is_word text)) v rest e in
    let w = when_true (is_name_word (run_of is_word text)) (run_of is_word text) v t.0 in
    let c = run_cut text rest other t.1 j in
    word_shape Name text rest other v nb (name_run (run_of is_word text) w.0) c
    (rw (c.run, c.rest_is, w.0) (ap (λ z. Some (z, other)) w.1))

number_swap : (text rest other : List ℕ) (v : ℕ) → NoFront is_blank text → fit_here Number text ≡ Some (v, rest) → Joins rest other → Swapped Number text rest other v
number_swap text rest other v nb e j =
    let t = taken (after_run is_word text) (number_of_text (run_of is_word text)) v rest e in
    let c = run_cut text rest other t.1 j in
    word_shape Number text rest other v nb (number_run (run_of is_word text) v t.0) c (rw (c.run, c.rest_is, t.0) refl)

size_swap : (text rest other : List ℕ) (v : ℕ) → NoFront is_blank text → fit_here Size text ≡ Some (v, rest) → Joins rest other → Swapped Size text rest other v
size_swap text rest other v nb e j =
    let t = taken (after_run is_word text) (size_of_text (run_of is_word text)) v rest e in
    let c = run_cut text rest other t.1 j in
    word_shape Size text rest other v nb (size_run (run_of is_word text) v t.0) c (rw (c.run, c.rest_is, t.0) refl)

mark_swap : (m : ℕ) (text rest other : List ℕ) (v : Unit {0}) → NoFront is_blank text → fit_here (Mark m) text ≡ Some (v, rest) → Swapped (Mark m) text rest other v
mark_swap m [] rest other v nb e = cc
mark_swap m (b ∷ text) rest other v nb e = elim (chosen (b == m) _ _ _ e) [
  | inr p ↦ absurd (let q = p.1 in cc)
  | inl p ↦
      (let q = (some_pair p.1).1 in
      record {
        front = b ∷ [];
        shape = ap (λ z. b ∷ z) q;
        fit_is = rw p.0 refl;
        start = (front_head is_blank b text other nb).1;
        some = λ x. cc;
      })
]

quote_swap : (text rest other : List ℕ) (v : List ℕ) → fit_here Quoted text ≡ Some (v, rest) → Swapped Quoted text rest other v
quote_swap [] rest other v e = cc
quote_swap (b ∷ text) rest other v e = elim (chosen (b == 39) _ _ _ e) [
  | inr p ↦ absurd (let q = p.1 in cc)
  | inl p ↦
      (let q = quote_shape text v rest p.1 in
      let s : b ≡ 39 = eqb-true b 39 p.0 in
      record {
        front = 39 ∷ v ++ 39 ∷ [];
        shape = ap (λ z. z ∷ text) s ∙ (ap (λ z. 39 ∷ z) q.0 ∙ ap (λ z. 39 ∷ z) (sym (append_assoc v (39 ∷ []) rest)));
        fit_is = rw (append_assoc v (39 ∷ []) other) (quote_spelled v other q.1);
        start = refl;
        some = λ x. cc;
      })
]

unit_swap : (o : Option ℕ) (b : ℕ) (rest other : List ℕ) (v : ℕ) → in_minutes o (b ∷ rest) ≡ Some (v, rest) → Joins rest other → in_minutes o (b ∷ other) ≡ Some (v, other)
unit_swap None b rest other v e j = cc
unit_swap (Some n) b rest other v e j =
    let w = when_true (not (minutes_in b == 0) && not (begins_word rest) && nat_lt (n * minutes_in b * 60) (2 ^ 64)) (n * minutes_in b, rest) (v, rest) e in
    let u = unit_fits n b rest v rest e in
    let k : begins_word other ≡ false = joined_begins rest other (not_true (begins_word rest) u.alone) j in
    let q : n * minutes_in b ≡ v = ap (λ (p : ℕ × List ℕ). p.0) w.1 in
    rw (u.letter, k, u.bound) (ap (λ z. Some (z, other)) q)

some_end : (d bl : List ℕ) (b : ℕ) → d ++ (bl ++ b ∷ []) ≢ []
some_end [] [] b e = cc
some_end [] (c ∷ bl) b e = cc
some_end (c ∷ d) bl b e = cc

minutes_swap : (text rest other : List ℕ) (v : ℕ) → NoFront is_blank text → fit_here Minutes text ≡ Some (v, rest) → Joins rest other → Swapped Minutes text rest other v
minutes_swap text rest other v nb e j =
    let d : List ℕ = run_of is_digit_byte text in
    let r : List ℕ = after_run is_digit_byte text in
    let bl : List ℕ = run_of is_blank r in
    let u = unit_is (digits_of d) (after_run is_blank r) v rest e in
    let b : ℕ = u.0 in
    let r_is : r ≡ bl ++ b ∷ rest = subst (λ x. r ≡ bl ++ x) u.1 (run_then_rest is_blank r) in
    let front : List ℕ = d ++ (bl ++ b ∷ []) in
    let nd : NoFront is_digit_byte (bl ++ b ∷ other) = front_same is_digit_byte bl b rest other (subst (λ x. NoFront is_digit_byte x) r_is (rest_front is_digit_byte text)) in
    let nbl : NoFront is_blank (b ∷ other) = front_head is_blank b rest other (subst (λ x. NoFront is_blank x) u.1 (rest_front is_blank r)) in
    let text_is : text ≡ d ++ (bl ++ b ∷ rest) = subst (λ x. text ≡ d ++ x) r_is (run_then_rest is_digit_byte text) in
    let shape : (x : List ℕ) → front ++ x ≡ d ++ (bl ++ b ∷ x) = λ x. simp append_assoc in
    let run : run_of is_digit_byte (d ++ (bl ++ b ∷ other)) ≡ d = run_all is_digit_byte d (bl ++ b ∷ other) (run_words is_digit_byte text) nd.0 in
    let after : after_run is_digit_byte (d ++ (bl ++ b ∷ other)) ≡ bl ++ b ∷ other = rest_all is_digit_byte d (bl ++ b ∷ other) (run_words is_digit_byte text) nd.1 in
    let blank : after_run is_blank (bl ++ b ∷ other) ≡ b ∷ other = rest_all is_blank bl (b ∷ other) (run_words is_blank r) nbl.1 in
    let e' : in_minutes (digits_of d) (b ∷ rest) ≡ Some (v, rest) = subst (λ x. in_minutes (digits_of d) x ≡ Some (v, rest)) u.1 e in
    let fits : fit_here Minutes (d ++ (bl ++ b ∷ other)) ≡ Some (v, other) = rw (run, after, blank) (unit_swap (digits_of d) b rest other v e' j) in
    let some : front ≢ [] = λ x. (let y = some_end d bl b x in y) in
    record {
      front = front;
      shape = text_is ∙ sym (shape rest);
      fit_is = subst (λ x. fit_here Minutes x ≡ Some (v, other)) (sym (shape other)) fits;
      start = blank_start is_blank front rest other some (subst (λ x. NoFront is_blank x) (text_is ∙ sym (shape rest)) nb);
      some = some;
    }

argument_swap : (k : Kind) (text rest other : List ℕ) (v : ArgumentMeaning k) → is_solid (Argument k) ≡ true → NoFront is_space text → fit_here (Argument k) text ≡ Some (v, rest) → Joins rest other → Swapped (Argument k) text rest other v
argument_swap k text rest other v s nb e j =
    let run : List ℕ = run_of is_filled text in
    let t = taken (after_run is_filled text) (argument_of k run) v rest e in
    let b : begins_argument rest ≡ false = subst (λ x. begins_argument x ≡ false) t.1 (no_filled_front (after_run is_filled text) (rest_front is_filled text)) in
    let n = no_filled other (joined_argument rest other b j) in
    let shape : text ≡ run ++ rest = subst (λ x. text ≡ run ++ x) t.1 (run_then_rest is_filled text) in
    let some : run ≢ [] = of_run k run s (of_some k run v t.0) in
    let run_is : run_of is_filled (run ++ other) ≡ run = run_all is_filled run other (run_words is_filled text) n.0 in
    let rest_is : after_run is_filled (run ++ other) ≡ other = rest_all is_filled run other (run_words is_filled text) n.1 in
    record {
      front = run;
      shape = shape;
      fit_is = rw (run_is, rest_is, t.0) refl;
      start = blank_start is_space run rest other some (subst (λ x. NoFront is_space x) shape nb);
      some = some;
    }

word_swap : (w : Word) (text rest other : List ℕ) (v : Meaning w) → is_solid w ≡ true → NoFront (gap w) text → fit_here w text ≡ Some (v, rest) → Joins rest other → Swapped w text rest other v
word_swap (Keyword k) text rest other v s nb e j = key_swap k text rest other v s nb e j
word_swap (Mark m) text rest other v s nb e j = mark_swap m text rest other v nb e
word_swap Name text rest other v s nb e j = name_swap text rest other v nb e j
word_swap Number text rest other v s nb e j = number_swap text rest other v nb e j
word_swap Size text rest other v s nb e j = size_swap text rest other v nb e j
word_swap Minutes text rest other v s nb e j = minutes_swap text rest other v nb e j
word_swap Quoted text rest other v s nb e j = quote_swap text rest other v e
word_swap (Argument k) text rest other v s nb e j = argument_swap k text rest other v s nb e j
word_swap End text rest other v s nb e j = cc

-- PARTS

pub record Replaced (g : SyntaxRule) (v : Value g) (text rest other : List ℕ) : Type 0 where
  pub front : List ℕ
  pub shape : text ≡ front ++ rest
  pub has : Has g v (front ++ other) other

word_replaced : (w : Word) (text rest other : List ℕ) (v : Meaning w) → is_solid w ≡ true → fit w text ≡ Some (v, rest) → Joins rest other → Replaced (One w) v text rest other
word_replaced w text rest other v s e j =
    let bl : List ℕ = run_of (gap w) text in
    let u = word_swap w (after_run (gap w) text) rest other v s (rest_front (gap w) text) e j in
    let shape : text ≡ (bl ++ u.front) ++ rest = subst (λ x. text ≡ bl ++ x) u.shape (run_then_rest (gap w) text) ∙ sym (append_assoc bl u.front rest) in
    let k : after_run (gap w) (bl ++ (u.front ++ other)) ≡ u.front ++ other = rest_all (gap w) bl (u.front ++ other) (run_words (gap w) text) u.start in
    record { front = bl ++ u.front; shape = shape; has = rw (append_assoc bl u.front other, k) u.fit_is }

-- What is put before both joins them.
pub joins_behind : (front rest other : List ℕ) → Joins rest other → Joins (front ++ rest) (front ++ other)
joins_behind [] rest other j = j
joins_behind (b ∷ front) rest other j = inr (rw (eq-eqb b b refl) (omega arith))

all_replaced : (a : SyntaxRule) → ((v : Value a) (text rest other : List ℕ) → Has a v text rest → Joins rest other → Replaced a v text rest other)
    → (vs : List (Value a)) (text rest other : List ℕ) → HasAll (λ v. Has a v) vs text rest → Joins rest other
    → (front : List ℕ) × (text ≡ front ++ rest) × HasAll (λ v. Has a v) vs (front ++ other) other
all_replaced a each [] text rest other h j = ([], sym h, refl)
all_replaced a each (v ∷ vs) text rest other h j =
    let o = all_replaced a each vs h.0 rest other h.2 j in
    let m : Joins h.0 (o.0 ++ other) = subst (λ x. Joins x (o.0 ++ other)) (sym o.1) (joins_behind o.0 rest other j) in
    let f = each v text h.0 (o.0 ++ other) h.1 m in
    let shape : text ≡ (f.front ++ o.0) ++ rest = f.shape ∙ (ap (λ x. f.front ++ x) o.1 ∙ sym (append_assoc f.front o.0 rest)) in
    (f.front ++ o.0, shape, (o.0 ++ other, rw (append_assoc f.front o.0 other) f.has, o.2))

pub replaced : (g : SyntaxRule) (follow : List Word) (v : Value g) (text rest other : List ℕ) → decides g follow ≡ true → Has g v text rest → Joins rest other → Replaced g v text rest other
replaced (One w) follow v text rest other d h j = word_replaced w text rest other v d h j
replaced (Then a b) follow (v, w) text rest other d h j =
    let p = both (decides a (starts b follow)) (decides b follow) d in
    let o = replaced b follow w h.0 rest other p.1 h.2 j in
    let m : Joins h.0 (o.front ++ other) = subst (λ x. Joins x (o.front ++ other)) (sym o.shape) (joins_behind o.front rest other j) in
    let f = replaced a (starts b follow) v text h.0 (o.front ++ other) p.0 h.1 m in
    record {
      front = f.front ++ o.front;
      shape = f.shape ∙ (ap (λ x. f.front ++ x) o.shape ∙ sym (append_assoc f.front o.front rest));
      has = (o.front ++ other, rw (append_assoc f.front o.front other) f.has, o.has);
    }
replaced (Either a b) follow (inl v) text rest other d h j =
    let r = replaced a follow v text rest other (either_parts a b follow d).first h j in record { front = r.front; shape = r.shape; has = r.has }
replaced (Either a b) follow (inr v) text rest other d h j =
    let r = replaced b follow v text rest other (either_parts a b follow d).second h j in record { front = r.front; shape = r.shape; has = r.has }
replaced (Maybe a) follow None text rest other d h j = record { front = []; shape = sym h; has = refl }
replaced (Maybe a) follow (Some v) text rest other d h j =
    let r = replaced a follow v text rest other (maybe_parts (decides a follow) (nullable a) (all_words_apart (heads a) follow) d).inner h j in record { front = r.front; shape = r.shape; has = r.has }
replaced (Many a) follow vs text rest other d h j =
    let p = (maybe_parts (decides a (heads a ++ follow)) (nullable a) (all_words_apart (heads a) follow) d).inner in
    let r = all_replaced a (λ v t r o k q. replaced a (heads a ++ follow) v t r o p k q) vs text rest other h j in
    record { front = r.0; shape = r.1; has = r.2 }
