-- Each word takes a byte at least.
use Rattle.std.proofs.Common.{◌≡◌, ◌≢◌, ℕ, ◌+◌, ◌*◌, ◌^◌, nat_lt, ◌<◌, ◌≤◌, Bool, true, false, ◌&&◌, not, ◌⊎◌, inl, inr, List, [], ◌∷◌, ◌++◌, length, map, refl, ap, Option, Some, None, arith}
use Rattle.std.specs.Prelude.{◌==◌}
use Rattle.asm_grammar.specs.Argument.{argument_of}
use Rattle.asm_grammar.proofs.Stages.{of_some, of_run}
use Rattle.asm_grammar.specs.Bytes.{is_blank, is_filled, is_word, is_digit_byte, is_text_byte, upper, run_of, after_run}
use Rattle.asm_grammar.specs.Word.{Word, Keyword, Mark, Name, Number, Size, Minutes, Quoted, Argument, End, Meaning, minutes_in, begins_word, in_minutes, digits_of, same_bytes, when, with_rest, gap, fit, fit_here, to_quote, with_byte_before, number_of_text, size_of_text, is_name_word}
use Rattle.asm_grammar.specs.Syntax.{SyntaxRule, One, Then, Either, Maybe, Many, Value, Has, HasAll}
use Rattle.asm_grammar.specs.Reading.{is_solid, nullable, decides, starts, first, all_words_apart}
use Rattle.asm_grammar.specs.Reading.{first as heads}
use Rattle.asm_grammar.proofs.Tests.{both, not_true, is_true_or_false}
use Rattle.asm_grammar.proofs.Outcomes.{chosen}

pub run_and_rest : (test : ℕ → Bool) (text : List ℕ) → length (run_of test text) + length (after_run test text) ≡ length text
run_and_rest test [] = refl
run_and_rest test (b ∷ text) =
    elim (is_true_or_false (test b)) [
      | inl h ↦ rw h (omega (arith, run_and_rest test text))
      | inr h ↦ rw h (omega arith)
    ]

pub some_pair : {A B : Type 0} {a c : A} {b d : B} → ◌≡◌ {A = Option (A × B)} (Some (a, b)) (Some (c, d)) → (a ≡ c) × (b ≡ d)
some_pair {A} {B} {a} {c} {b} {d} e =
    let q : ◌≡◌ {A = A × B} (a, b) (c, d) = cc in (ap (λ (p : A × B). p.0) q, ap (λ (p : A × B). p.1) q)

pub taken : {A : Type 0} (r : List ℕ) (o : Option A) (v : A) (rest : List ℕ) → with_rest r o ≡ Some (v, rest) → (o ≡ Some v) × (r ≡ rest)
taken r None v rest e = cc
taken r (Some x) v rest e = let q = some_pair e in (ap (λ y. Some y) q.0, q.1)

pub when_true : {A : Type 0} (b : Bool) (x v : A) → when b x ≡ Some v → (b ≡ true) × (x ≡ v)
when_true true x v e = (refl, cc)
when_true false x v e = cc

some_run : (test : ℕ → Bool) (text rest : List ℕ) → run_of test text ≢ [] → after_run test text ≡ rest → length rest < length text
some_run test text rest n r = elim (run_of test text) as (λ run. run ≢ [] → length run + length (after_run test text) ≡ length text → length rest < length text) [
  | [] ↦ λ h e. absurd (h refl)
  | b ∷ run ↦ λ h e. let k : length (after_run test text) ≡ length rest = ap length r in omega arith
] n (run_and_rest test text)

quote_after : (b : ℕ) (text : List ℕ) (o : Option (List ℕ × List ℕ)) → ((u t : List ℕ) → o ≡ Some (u, t) → length t < length text)
    → (v rest : List ℕ) → with_byte_before b o ≡ Some (v, rest) → length rest < length (b ∷ text)
quote_after b text None ih v rest e = cc
quote_after b text (Some (u, t)) ih v rest e =
    let l = ih u t refl in let q = some_pair e in let k : length t ≡ length rest = ap length q.1 in omega arith

-- The text up to a quote and the quote.
pub quote_takes : (text : List ℕ) (v rest : List ℕ) → to_quote text ≡ Some (v, rest) → length rest < length text
quote_takes [] v rest e = cc
quote_takes (b ∷ text) v rest e =
    elim (chosen (is_text_byte b) _ _ _ e) [
      | inl p ↦ quote_after b text (to_quote text) (λ u t h. quote_takes text u t h) v rest p.1
      | inr p ↦ (elim (chosen (b == 39) _ _ _ p.1) [
        | inl f ↦ let q = some_pair f.1 in let k : length text ≡ length rest = ap length q.1 in omega arith
        | inr f ↦ let q = f.1 in cc
      ])
    ]

pub key_run : (u k : List ℕ) → not (length k == 0) ≡ true → same_bytes (map upper u) k ≡ true → u ≢ []
key_run [] [] s e h = cc
key_run [] (c ∷ k) s e h = cc
key_run (b ∷ u) k s e h = cc

pub name_run : (u : List ℕ) → is_name_word u ≡ true → u ≢ []
name_run [] e h = cc
name_run (b ∷ u) e h = cc

pub number_run : (u : List ℕ) (n : ℕ) → number_of_text u ≡ Some n → u ≢ []
number_run [] n e h = cc
number_run (b ∷ u) n e h = cc

pub size_run : (u : List ℕ) (n : ℕ) → size_of_text u ≡ Some n → u ≢ []
size_run [] n e h = cc
size_run (b ∷ u) n e h = cc

pub unit_takes : (o : Option ℕ) (text : List ℕ) (v : ℕ) (rest : List ℕ) → in_minutes o text ≡ Some (v, rest) → length rest < length text
unit_takes None text v rest e = cc
unit_takes (Some n) [] v rest e = cc
unit_takes (Some n) (b ∷ text) v rest e =
    let w = when_true (not (minutes_in b == 0) && not (begins_word text) && nat_lt (n * minutes_in b * 60) (2 ^ 64)) (n * minutes_in b, text) (v, rest) e in
    let k : length text ≡ length rest = ap (λ (p : ℕ × List ℕ). length p.1) w.1 in omega arith

pub takes_here : (w : Word) (text : List ℕ) (v : Meaning w) (rest : List ℕ) → is_solid w ≡ true → fit_here w text ≡ Some (v, rest) → length rest < length text
takes_here (Keyword k) text v rest s e =
    let t = taken (after_run is_word text) (when (same_bytes (map upper (run_of is_word text)) k) tt) v rest e in
    let w = when_true (same_bytes (map upper (run_of is_word text)) k) tt v t.0 in
    some_run is_word text rest (key_run (run_of is_word text) k s w.0) t.1
takes_here (Mark m) [] v rest s e = cc
takes_here (Mark m) (b ∷ text) v rest s e =
    elim (chosen (b == m) _ _ _ e) [
      | inl p ↦ let q = some_pair p.1 in let k : length text ≡ length rest = ap length q.1 in omega arith
      | inr p ↦ let f = p.1 in cc
    ]
takes_here Name text v rest s e =
    let t = taken (after_run is_word text) (when (is_name_word (run_of is_word text)) (run_of is_word text)) v rest e in
    let w = when_true (is_name_word (run_of is_word text)) (run_of is_word text) v t.0 in
    some_run is_word text rest (name_run (run_of is_word text) w.0) t.1
takes_here Number text v rest s e =
    let t = taken (after_run is_word text) (number_of_text (run_of is_word text)) v rest e in
    some_run is_word text rest (number_run (run_of is_word text) v t.0) t.1
takes_here Size text v rest s e =
    let t = taken (after_run is_word text) (size_of_text (run_of is_word text)) v rest e in
    some_run is_word text rest (size_run (run_of is_word text) v t.0) t.1
takes_here Minutes text v rest s e =
    let a = run_and_rest is_digit_byte text in
    let b = run_and_rest is_blank (after_run is_digit_byte text) in
    let c = unit_takes (digits_of (run_of is_digit_byte text)) (after_run is_blank (after_run is_digit_byte text)) v rest e in omega arith
takes_here (Argument k) text v rest s e =
    let t = taken (after_run is_filled text) (argument_of k (run_of is_filled text)) v rest e in
    some_run is_filled text rest (of_run k (run_of is_filled text) s (of_some k (run_of is_filled text) v t.0)) t.1
takes_here End text v rest s e = cc
takes_here Quoted [] v rest s e = cc
takes_here Quoted (b ∷ text) v rest s e =
    elim (chosen (b == 39) _ _ _ e) [
      | inl p ↦ let l = quote_takes text v rest p.1 in omega arith
      | inr p ↦ let f = p.1 in cc
    ]

pub takes : (w : Word) (text : List ℕ) (v : Meaning w) (rest : List ℕ) → is_solid w ≡ true → fit w text ≡ Some (v, rest) → length rest < length text
takes w text v rest s e = omega (arith, takes_here w (after_run (gap w) text) v rest s e, run_and_rest (gap w) text)

-- what is said of a choice, and of an optional part
pub record EitherParts (a b : SyntaxRule) (follow : List Word) : Type 0 where
  pub first : decides a follow ≡ true
  pub second : decides b follow ≡ true
  pub first_full : nullable a ≡ false
  pub second_full : nullable b ≡ false
  pub apart : all_words_apart (heads a) (heads b) ≡ true

pub either_parts : (a b : SyntaxRule) (follow : List Word) → decides (Either a b) follow ≡ true → EitherParts a b follow
either_parts a b follow d =
    let p4 = both (decides a follow && decides b follow && not (nullable a) && not (nullable b)) (all_words_apart (heads a) (heads b)) d in
    let p3 = both (decides a follow && decides b follow && not (nullable a)) (not (nullable b)) p4.0 in
    let p2 = both (decides a follow && decides b follow) (not (nullable a)) p3.0 in
    let p1 = both (decides a follow) (decides b follow) p2.0 in
    record { first = p1.0; second = p1.1; first_full = not_true (nullable a) p2.1; second_full = not_true (nullable b) p3.1; apart = p4.1 }

pub record MaybeParts (d n x : Bool) : Type 0 where
  pub inner : d ≡ true
  pub full : n ≡ false
  pub apart : x ≡ true

pub maybe_parts : (d n x : Bool) → (d && not n && x) ≡ true → MaybeParts d n x
maybe_parts d n x e =
    let p = both (d && not n) x e in let q = both d (not n) p.0 in
    record { inner = q.0; full = not_true n q.1; apart = p.1 }

-- A text of the grammar takes a byte at least, unless the grammar has the empty text too.
all_shrink : {A : Type 0} (has : A → List ℕ → List ℕ → Type 0) → ((v : A) (text rest : List ℕ) → has v text rest → length rest ≤ length text)
    → (vs : List A) (text rest : List ℕ) → HasAll has vs text rest → length rest ≤ length text
all_shrink has each [] text rest h = rw h (omega arith)
all_shrink has each (v ∷ vs) text rest h = omega (arith, each v text h.0 h.1, all_shrink has each vs h.0 rest h.2)

pub shrinks : (g : SyntaxRule) (follow : List Word) (v : Value g) (text rest : List ℕ) → decides g follow ≡ true → Has g v text rest → length rest ≤ length text
shrinks (One w) follow v text rest d h = omega (arith, takes w text v rest d h)
shrinks (Then a b) follow (v, w) text rest d h =
    let p = both (decides a (starts b follow)) (decides b follow) d in
    omega (arith, shrinks a (starts b follow) v text h.0 p.0 h.1, shrinks b follow w h.0 rest p.1 h.2)
shrinks (Either a b) follow (inl v) text rest d h = shrinks a follow v text rest (either_parts a b follow d).first h
shrinks (Either a b) follow (inr v) text rest d h = shrinks b follow v text rest (either_parts a b follow d).second h
shrinks (Maybe a) follow None text rest d h = rw h (omega arith)
shrinks (Maybe a) follow (Some v) text rest d h = shrinks a follow v text rest (maybe_parts (decides a follow) (nullable a) (all_words_apart (first a) follow) d).inner h
shrinks (Many a) follow vs text rest d h =
    all_shrink (λ x. Has a x) (λ x t r k. shrinks a (first a ++ follow) x t r (maybe_parts (decides a (first a ++ follow)) (nullable a) (all_words_apart (first a) follow) d).inner k) vs text rest h

not_both : (a b : Bool) → (a && b) ≡ false → (a ≡ false) ⊎ (b ≡ false)
not_both true b e = inr e
not_both false b e = inl refl

-- One that is not empty takes a byte at least.
pub shortens : (g : SyntaxRule) (follow : List Word) (v : Value g) (text rest : List ℕ) → nullable g ≡ false → decides g follow ≡ true → Has g v text rest → length rest < length text
shortens (One w) follow v text rest n d h = takes w text v rest d h
shortens (Then a b) follow (v, w) text rest n d h =
    let p = both (decides a (starts b follow)) (decides b follow) d in
    elim (not_both (nullable a) (nullable b) n) [
      | inl m ↦ omega (arith, shortens a (starts b follow) v text h.0 m p.0 h.1, shrinks b follow w h.0 rest p.1 h.2)
      | inr m ↦ omega (arith, shrinks a (starts b follow) v text h.0 p.0 h.1, shortens b follow w h.0 rest m p.1 h.2)
    ]
shortens (Either a b) follow (inl v) text rest n d h = let p = either_parts a b follow d in shortens a follow v text rest p.first_full p.first h
shortens (Either a b) follow (inr v) text rest n d h = let p = either_parts a b follow d in shortens b follow v text rest p.second_full p.second h
shortens (Maybe a) follow v text rest n d h = cc
shortens (Many a) follow vs text rest n d h = cc
