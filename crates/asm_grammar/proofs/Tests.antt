-- Tests and lists of words.
use Rattle.std.proofs.Common.{◌≡◌, ℕ, Bool, true, false, ◌&&◌, ◌||◌, not, ◌⊎◌, inl, inr, List, [], ◌∷◌, ◌++◌, refl, Option, Some, None}
use Rattle.std.specs.Prelude.{is_some, ◌==◌}
use Rattle.std.proofs.lemmas.Bool.{eqb-true}
use Rattle.asm_grammar.specs.Word.{Word, same_bytes, when, with_rest, fits}
use Rattle.asm_grammar.specs.Reading.{any_fits}

pub both : (a b : Bool) → (a && b) ≡ true → (a ≡ true) × (b ≡ true)
both true true e = (refl, refl)
both true false e = cc
both false b e = cc

pub not_true : (a : Bool) → not a ≡ true → a ≡ false
not_true true e = cc
not_true false e = refl

pub one_of : (a b : Bool) → (a || b) ≡ true → (a ≡ true) ⊎ (b ≡ true)
one_of true b e = inl refl
one_of false b e = inr e

pub or_right : (a b : Bool) → b ≡ true → (a || b) ≡ true
or_right true b e = refl
or_right false b e = e

pub or_left : (a b : Bool) → a ≡ true → (a || b) ≡ true
or_left true b e = refl
or_left false b e = cc

pub is_true_or_false : (b : Bool) → (b ≡ true) ⊎ (b ≡ false)
is_true_or_false true = inl refl
is_true_or_false false = inr refl

-- What is not true whenever something else were, is false.
pub false_unless : (b : Bool) → (b ≡ true → ⊥) → b ≡ false
false_unless true h = absurd (h refl)
false_unless false h = refl

pub same_is : (xs ys : List ℕ) → same_bytes xs ys ≡ true → xs ≡ ys
same_is [] [] e = refl
same_is [] (c ∷ ys) e = cc
same_is (b ∷ xs) [] e = cc
same_is (b ∷ xs) (c ∷ ys) e =
    let p : (b == c ≡ true) × (same_bytes xs ys ≡ true) = both (b == c) (same_bytes xs ys) e in
    let h = eqb-true b c p.0 in let t = same_is xs ys p.1 in cc

pub found_when : {A : Type 0} (r : List ℕ) (b : Bool) (x : A) → is_some (with_rest r (when b x)) ≡ b
found_when r true x = refl
found_when r false x = refl

pub any_left : (ws others : List Word) (text : List ℕ) → any_fits ws text ≡ true → any_fits (ws ++ others) text ≡ true
any_left [] others text e = cc
any_left (w ∷ ws) others text e =
    elim (one_of (fits w text) (any_fits ws text) e) [
      | inl h ↦ or_left (fits w text) (any_fits (ws ++ others) text) h
      | inr h ↦ or_right (fits w text) (any_fits (ws ++ others) text) (any_left ws others text h)
    ]

pub any_right : (ws others : List Word) (text : List ℕ) → any_fits others text ≡ true → any_fits (ws ++ others) text ≡ true
any_right [] others text e = e
any_right (w ∷ ws) others text e = or_right (fits w text) (any_fits (ws ++ others) text) (any_right ws others text e)

pub none_of : {A : Type 0} (o : Option A) → is_some o ≡ false → o ≡ None
none_of None e = refl
none_of (Some x) e = cc

pub both_true : (a b : Bool) → a ≡ true → b ≡ true → (a && b) ≡ true
both_true true b e f = f
both_true false b e f = cc
