-- What a text says has a spelling.
use Rattle.std.proofs.Common.{◌≡◌, ℕ, ◌+◌, ◌-◌, ◌*◌, ◌^◌, ◌<◌, ◌&&◌, nat_lt, Bool, true, false, not, List, [], ◌∷◌, ◌++◌, length, refl, ap, subst, Option, Some, None, inl, inr}
use Rattle.std.specs.Prelude.{◌==◌}
use Rattle.std.proofs.lemmas.Bool.{ltb-true}
use Rattle.std.specs.List.{list_all, flat_map}
use Rattle.asm_grammar.specs.Bytes.{is_blank, is_word, is_digit_byte, is_text_byte, run_of, after_run}
use Rattle.asm_grammar.specs.Word.{Word, Keyword, Mark, Name, Number, Size, Minutes, Quoted, Argument, End, Meaning, when, below, gap, fit_here, number_of_text, digits_of, digits_after, size_of_text, size_after, minutes_in, begins_word, in_minutes, is_name_word, to_quote, with_byte_before}
use Rattle.asm_grammar.specs.Syntax.{SyntaxRule, One, Then, Either, Maybe, Many, Value, Has, HasAll}
use Rattle.asm_grammar.specs.Writing.{Piece, pieces, is_capital, Spells, AllSpell}
use Rattle.asm_grammar.proofs.Consumes.{taken, when_true, some_pair}
use Rattle.asm_grammar.proofs.Outcomes.{chosen}
use Rattle.asm_grammar.proofs.Tests.{both, both_true, is_true_or_false}

-- every word of a value has a spelling
abbrev pub SpellsAll : {A : Type 0} → (A → Type 0) → List A → Type 0
SpellsAll P [] = Unit {0}
SpellsAll P (v ∷ vs) = P v × SpellsAll P vs

abbrev pub SpellsIn : (g : SyntaxRule) → Value g → Type 0
SpellsIn (One w) v = Spells w v
SpellsIn (Then a b) (v, w) = SpellsIn a v × SpellsIn b w
SpellsIn (Either a b) (inl v) = SpellsIn a v
SpellsIn (Either a b) (inr w) = SpellsIn b w
SpellsIn (Maybe a) None = Unit {0}
SpellsIn (Maybe a) (Some v) = SpellsIn a v
SpellsIn (Many a) vs = SpellsAll (λ v. SpellsIn a v) vs

all_append : (ps qs : List Piece) → AllSpell ps → AllSpell qs → AllSpell (ps ++ qs)
all_append [] qs a b = b
all_append (p ∷ ps) qs a b = (a.0, all_append ps qs a.1 b)

all_flat : {A : Type 0} (f : A → List Piece) (P : A → Type 0) → ((v : A) → P v → AllSpell (f v)) → (vs : List A) → SpellsAll P vs → AllSpell (flat_map f vs)
all_flat f P h [] a = tt
all_flat f P h (v ∷ vs) a = all_append (f v) (flat_map f vs) (h v a.0) (all_flat f P h vs a.1)

pub spells_pieces : (g : SyntaxRule) (v : Value g) → SpellsIn g v → AllSpell (pieces g v)
spells_pieces (One w) v a = (a, tt)
spells_pieces (Then x y) (v, w) a = all_append (pieces x v) (pieces y w) (spells_pieces x v a.0) (spells_pieces y w a.1)
spells_pieces (Either x y) (inl v) a = spells_pieces x v a
spells_pieces (Either x y) (inr w) a = spells_pieces y w a
spells_pieces (Maybe x) None a = tt
spells_pieces (Maybe x) (Some v) a = spells_pieces x v a
spells_pieces (Many x) vs a = all_flat (λ v. pieces x v) (λ v. SpellsIn x v) (λ v h. spells_pieces x v h) vs a

-- WORDS THAT A TEXT HAS

-- words of statements, and marks that are no blanks and begin no word
abbrev pub word_ok : Word → Bool
word_ok (Keyword k) = not (length k == 0) && list_all is_capital k
word_ok (Mark m) = not (is_blank m) && not (is_word m)
word_ok (Argument k) = false
word_ok End = false
word_ok other = true

abbrev pub words_ok : SyntaxRule → Bool
words_ok (One w) = word_ok w
words_ok (Then a b) = words_ok a && words_ok b
words_ok (Either a b) = words_ok a && words_ok b
words_ok (Maybe a) = words_ok a
words_ok (Many a) = words_ok a

run_all : (test : ℕ → Bool) (text : List ℕ) → list_all test (run_of test text) ≡ true
run_all test [] = refl
run_all test (b ∷ text) = elim (is_true_or_false (test b)) [ inl x ↦ rw x (both_true (test b) _ x (run_all test text)) | inr x ↦ rw x refl ]

is_less : (a b : ℕ) → nat_lt a b ≡ true → a < b
is_less a b h = ltb-true a b h

below_less : (limit : ℕ) (o : Option ℕ) (v : ℕ) → below limit o ≡ Some v → v < limit
below_less limit None v e = cc
below_less limit (Some n) v e = elim (is_true_or_false (nat_lt n limit)) [
  | inl x ↦ let q : n ≡ v = (let f = rw x at e in cc) in subst (λ z. z < limit) q (is_less n limit x)
  | inr x ↦ absurd (let f = rw x at e in cc)
]

number_less : (run : List ℕ) (v : ℕ) → number_of_text run ≡ Some v → v < 2 ^ 64
number_less [] v e = cc
number_less (b ∷ run) v e = below_less (2 ^ 64) (digits_after 0 (b ∷ run)) v e

size_less : (run : List ℕ) (v : ℕ) → size_of_text run ≡ Some v → v < 2 ^ 64
size_less [] v e = cc
size_less (b ∷ run) v e = elim (is_true_or_false (is_digit_byte b)) [
  | inl x ↦ below_less (2 ^ 64) (size_after (0 * 10 + (b - 48)) run) v (rw x at e)
  | inr x ↦ absurd (let f = rw x at e in cc)
]

minutes_less : (o : Option ℕ) (text : List ℕ) (v : ℕ) (rest : List ℕ) → in_minutes o text ≡ Some (v, rest) → v * 60 < 2 ^ 64
minutes_less None text v rest e = cc
minutes_less (Some n) [] v rest e = cc
minutes_less (Some n) (b ∷ text) v rest e =
    let w = when_true (not (minutes_in b == 0) && not (begins_word text) && nat_lt (n * minutes_in b * 60) (2 ^ 64)) (n * minutes_in b, text) (v, rest) e in
    let p = both (not (minutes_in b == 0) && not (begins_word text)) (nat_lt (n * minutes_in b * 60) (2 ^ 64)) w.0 in
    subst (λ z. z * 60 < 2 ^ 64) (ap (λ (q : ℕ × List ℕ). q.0) w.1) (is_less (n * minutes_in b * 60) (2 ^ 64) p.1)

quote_fine : (text v rest : List ℕ) → to_quote text ≡ Some (v, rest) → list_all is_text_byte v ≡ true
quote_fine [] v rest e = cc
quote_fine (b ∷ text) v rest e = elim (chosen (is_text_byte b) _ _ _ e) [
  | inl p ↦ further b text (to_quote text) v rest p.0 (λ u t h. quote_fine text u t h) p.1
  | inr p ↦ (elim (chosen (b == 39) _ _ _ p.1) [
    | inl q ↦ nothing v rest text q.1
    | inr q ↦ absurd (let f = q.1 in cc)
  ])
] where
  nothing : (v rest text : List ℕ) → ◌≡◌ {A = Option (List ℕ × List ℕ)} (Some ([], text)) (Some (v, rest)) → list_all is_text_byte v ≡ true
  nothing v rest text e = let q = some_pair e in subst (λ z. list_all is_text_byte z ≡ true) q.0 refl

  further : (b : ℕ) (text : List ℕ) (o : Option (List ℕ × List ℕ)) (v rest : List ℕ) → is_text_byte b ≡ true → ((u t : List ℕ) → o ≡ Some (u, t) → list_all is_text_byte u ≡ true)
      → with_byte_before b o ≡ Some (v, rest) → list_all is_text_byte v ≡ true
  further b text None v rest x h e = cc
  further b text (Some (u, t)) v rest x h e =
      let q = some_pair e in subst (λ z. list_all is_text_byte z ≡ true) q.0 (both_true (is_text_byte b) (list_all is_text_byte u) x (h u t refl))

fit_spells : (w : Word) (text : List ℕ) (v : Meaning w) (rest : List ℕ) → word_ok w ≡ true → fit_here w text ≡ Some (v, rest) → Spells w v
fit_spells (Keyword k) text v rest ok e = ok
fit_spells (Mark m) text v rest ok e = ok
fit_spells Name text v rest ok e =
    let t = taken (after_run is_word text) (when (is_name_word (run_of is_word text)) (run_of is_word text)) v rest e in
    let w = when_true (is_name_word (run_of is_word text)) (run_of is_word text) v t.0 in
    subst (λ z. (is_name_word z && list_all is_word z) ≡ true) w.1 (both_true (is_name_word (run_of is_word text)) (list_all is_word (run_of is_word text)) w.0 (run_all is_word text))
fit_spells Number text v rest ok e = number_less (run_of is_word text) v (taken (after_run is_word text) (number_of_text (run_of is_word text)) v rest e).0
fit_spells Size text v rest ok e = size_less (run_of is_word text) v (taken (after_run is_word text) (size_of_text (run_of is_word text)) v rest e).0
fit_spells Minutes text v rest ok e = minutes_less (digits_of (run_of is_digit_byte text)) (after_run is_blank (after_run is_digit_byte text)) v rest e
fit_spells Quoted [] v rest ok e = cc
fit_spells Quoted (b ∷ text) v rest ok e = elim (is_true_or_false (b == 39)) [ inl x ↦ quote_fine text v rest (rw x at e) | inr x ↦ absurd (let f = rw x at e in cc) ]
fit_spells (Argument k) text v rest ok e = cc
fit_spells End text v rest ok e = cc

all_have : {A : Type 0} (has : A → List ℕ → List ℕ → Type 0) (P : A → Type 0) → ((v : A) (text rest : List ℕ) → has v text rest → P v)
    → (vs : List A) (text rest : List ℕ) → HasAll has vs text rest → SpellsAll P vs
all_have has P h [] text rest a = tt
all_have has P h (v ∷ vs) text rest a = (h v text a.0 a.1, all_have has P h vs a.0 rest a.2)

pub has_spells : (g : SyntaxRule) → words_ok g ≡ true → (v : Value g) (text rest : List ℕ) → Has g v text rest → SpellsIn g v
has_spells (One w) ok v text rest h = fit_spells w (after_run (gap w) text) v rest ok h
has_spells (Then a b) ok (v, w) text rest h = let p = both (words_ok a) (words_ok b) ok in (has_spells a p.0 v text h.0 h.1, has_spells b p.1 w h.0 rest h.2)
has_spells (Either a b) ok (inl v) text rest h = has_spells a (both (words_ok a) (words_ok b) ok).0 v text rest h
has_spells (Either a b) ok (inr w) text rest h = has_spells b (both (words_ok a) (words_ok b) ok).1 w text rest h
has_spells (Maybe a) ok None text rest h = tt
has_spells (Maybe a) ok (Some v) text rest h = has_spells a ok v text rest h
has_spells (Many a) ok vs text rest h = all_have (λ v. Has a v) (λ v. SpellsIn a v) (λ v t r k. has_spells a ok v t r k) vs text rest h
