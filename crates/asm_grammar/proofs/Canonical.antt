-- The canonical text of a value is one of the grammar, with that value.
use Rattle.std.proofs.Common.{◌≡◌, ◌≢◌, ℕ, Bool, true, false, ◌||◌, not, ◌⊎◌, inl, inr, List, [], ◌∷◌, ◌++◌, refl, sym, ap, subst, ◌∙◌, Some, None, append_assoc}
use Rattle.std.specs.Prelude.{◌==◌}
use Rattle.std.specs.List.{flat_map}
use Rattle.asm_grammar.specs.Bytes.{is_word, is_blank}
use Rattle.asm_grammar.specs.Word.{Word, Keyword, Mark, Name, Number, Size, Minutes, Quoted, Argument, End, Meaning, fit, fit_here, begins_word}
use Rattle.asm_grammar.specs.Syntax.{SyntaxRule, One, Then, Either, Maybe, Many, Value, Has, HasAll}
use Rattle.asm_grammar.specs.Writing.{Piece, pieces, spell, space, space_unless, text_of_pieces, Spells, AllSpell}
use Rattle.asm_grammar.proofs.Tests.{both, not_true}
use Rattle.asm_grammar.proofs.Written.{spelled, is_closed, mark_spelled, space_first}
use Rattle.asm_grammar.specs.Laws.{IsText}

-- the words stand one behind another
abbrev pub Follows : List Piece → List ℕ → List ℕ → Type 0
Follows [] text rest = rest ≡ text
Follows (p ∷ ps) text rest = (middle : List ℕ) × (fit p.word text ≡ Some (p.says, middle)) × Follows ps middle rest

split : (xs ys : List Piece) (text rest : List ℕ) → Follows (xs ++ ys) text rest → (middle : List ℕ) × Follows xs text middle × Follows ys middle rest
split [] ys text rest f = (text, refl, f)
split (x ∷ xs) ys text rest f = let s = split xs ys f.0 rest f.2 in (s.0, (f.0, f.1, s.1), s.2)

all_has : (a : SyntaxRule) → ((v : Value a) (text rest : List ℕ) → Follows (pieces a v) text rest → Has a v text rest)
    → (vs : List (Value a)) (text rest : List ℕ) → Follows (flat_map (λ v. pieces a v) vs) text rest → HasAll (λ v. Has a v) vs text rest
all_has a each [] text rest f = f
all_has a each (v ∷ vs) text rest f =
    let s = split (pieces a v) (flat_map (λ v. pieces a v) vs) text rest f in (s.0, each v text s.0 s.1, all_has a each vs s.0 rest s.2)

pub has : (g : SyntaxRule) (v : Value g) (text rest : List ℕ) → Follows (pieces g v) text rest → Has g v text rest
has (One w) v text rest f = f.1 ∙ ap (λ r. Some (v, r)) (sym f.2)
has (Then a b) (v, w) text rest f =
    let s = split (pieces a v) (pieces b w) text rest f in (s.0, has a v text s.0 s.1, has b w s.0 rest s.2)
has (Either a b) (inl v) text rest f = has a v text rest f
has (Either a b) (inr w) text rest f = has b w text rest f
has (Maybe a) None text rest f = f
has (Maybe a) (Some v) text rest f = has a v text rest f
has (Many a) vs text rest f = all_has a (λ v t r k. has a v t r k) vs text rest f

abbrev is_mark : Word → Bool
is_mark (Mark m) = true
is_mark other = false

-- Words stand apart by a space, but where one ends by itself or the next is a mark.
abbrev Spaced : Word → Word → Type 0
Spaced w next = (space w next ≡ 32 ∷ []) ⊎ ((space w next ≡ []) × ((is_closed w ≡ true) ⊎ (is_mark next ≡ true)))

by_test : (b : Bool) (P : Type 0) → P → (space_unless b ≡ 32 ∷ []) ⊎ ((space_unless b ≡ []) × P)
by_test true P p = inr (refl, p)
by_test false P p = inl refl

spacing : (w next : Word) → Spaced w next
spacing (Mark m) (Mark n) = by_test (m == 40 || m == 61 || n == 44 || n == 41 || n == 61 || n == 59) _ (inl refl)
spacing (Mark m) other = by_test (m == 40 || m == 61) _ (inl refl)
spacing other (Mark n) = by_test (n == 44 || n == 41 || n == 61 || n == 59) _ (inr refl)
spacing word other = inl refl

-- What is written of some words begins with a mark where the first is one.
mark_begins : (w : Word) (v : Meaning w) (ps : List Piece) (tail : List ℕ) → is_mark w ≡ true → Spells w v → begins_word (text_of_pieces (record { word = w; says = v } ∷ ps) ++ tail) ≡ false
mark_begins (Mark m) v [] tail e s = not_true (is_word m) (both (not (is_blank m)) (not (is_word m)) s).1
mark_begins (Mark m) v (q ∷ ps) tail e s = not_true (is_word m) (both (not (is_blank m)) (not (is_word m)) s).1
mark_begins (Keyword k) v ps tail e s = cc
mark_begins Name v ps tail e s = cc
mark_begins Number v ps tail e s = cc
mark_begins Size v ps tail e s = cc
mark_begins Minutes v ps tail e s = cc
mark_begins Quoted v ps tail e s = cc
mark_begins (Argument k) v ps tail e s = cc
mark_begins End v ps tail e s = cc

pub follows : (p : Piece) (ps : List Piece) (tail : List ℕ) → AllSpell (p ∷ ps) → begins_word tail ≡ false → Follows (p ∷ ps) (text_of_pieces (p ∷ ps) ++ tail) tail
follows p [] tail s e = (tail, spelled p.word p.says tail s.0 (inr e), refl)
follows p (q ∷ ps) tail s e =
    let others = follows q ps tail s.1 e in
    let text = text_of_pieces (q ∷ ps) ++ tail in
    elim (spacing p.word q.word) [
      | inl k ↦
          (let shape : text_of_pieces (p ∷ q ∷ ps) ++ tail ≡ spell p.word p.says ++ (32 ∷ text) = rw k (simp append_assoc) in
          subst (λ x. Follows (p ∷ q ∷ ps) x tail) (sym shape)
          (32 ∷ text, spelled p.word p.says (32 ∷ text) s.0 (inr refl), (others.0, ap (λ x. fit_here q.word x) (space_first q.word text) ∙ others.1, others.2)))
      | inr k ↦
          (let shape : text_of_pieces (p ∷ q ∷ ps) ++ tail ≡ spell p.word p.says ++ text = rw k.0 (simp append_assoc) in
          let ends : (is_closed p.word ≡ true) ⊎ (begins_word text ≡ false) = elim k.1 [ inl c ↦ inl c | inr m ↦ inr (mark_begins q.word q.says ps tail m s.1.0) ] in
          subst (λ x. Follows (p ∷ q ∷ ps) x tail) (sym shape) (text, spelled p.word p.says text s.0 ends, others))
    ]

-- The canonical text with the mark behind it is read as what was written.
pub written_read : (g : SyntaxRule) (m : ℕ) (v : Value g) (p : Piece) (ps : List Piece) → pieces g v ≡ p ∷ ps → AllSpell (pieces g v) → is_blank m ≡ false → is_word m ≡ false
    → IsText g m (text_of_pieces (pieces g v) ++ m ∷ []) v
written_read g m v p ps e s b w =
    let f : Follows (pieces g v) (text_of_pieces (pieces g v) ++ m ∷ []) (m ∷ []) =
    subst (λ x. AllSpell x → Follows x (text_of_pieces x ++ m ∷ []) (m ∷ [])) (sym e) (λ a. follows p ps (m ∷ []) a w) s in
    record { rest = m ∷ []; has = has g v (text_of_pieces (pieces g v) ++ m ∷ []) (m ∷ []) f; end = mark_spelled m [] b }

pub canonical : (g : SyntaxRule) (m : ℕ) (v : Value g) → pieces g v ≢ [] → AllSpell (pieces g v) → is_blank m ≡ false → is_word m ≡ false
    → IsText g m (text_of_pieces (pieces g v) ++ m ∷ []) v
canonical g m v n s b w = elim (pieces g v) as (λ x. pieces g v ≡ x → IsText g m (text_of_pieces (pieces g v) ++ m ∷ []) v) [
  | [] ↦ λ e. absurd (n e)
  | p ∷ ps ↦ λ e. written_read g m v p ps e s b w
] refl
