-- What is read is in the grammar.
use Rattle.std.proofs.Common.{◌≡◌, ℕ, zero, suc, Bool, inl, inr, List, [], ◌∷◌, length, subst, Option, Some, None}
use Rattle.asm_grammar.specs.Word.{Word, Meaning, fit}
use Rattle.asm_grammar.specs.Syntax.{SyntaxRule, One, Then, Either, Maybe, Many, Value, Has, HasAll}
use Rattle.asm_grammar.specs.Reading.{Outcome, Took, mapped, one, repeated_while, parse, leads, first, miss}
use Rattle.asm_grammar.proofs.Outcomes.{chosen, bind_took, mapped_took, nothing_took}

one_took : (w : Word) (text : List ℕ) (left : ℕ) (o : Option (Meaning w × List ℕ)) (v : Meaning w) (rest : List ℕ) (l : ℕ) → one w text left o ≡ Took v rest l → o ≡ Some (v, rest)
one_took w text left None v rest l e = cc
one_took w text left (Some (x, r)) v rest l e = cc

repeated_sound : {A : Type 0} (has : A → List ℕ → List ℕ → Type 0) (test : List ℕ → Bool) (missed : List ℕ → ℕ → ℕ) (read : List ℕ → ℕ → Outcome A)
    → ((text : List ℕ) (left : ℕ) (v : A) (rest : List ℕ) (l : ℕ) → read text left ≡ Took v rest l → has v text rest)
    → (n : ℕ) (text : List ℕ) (left : ℕ) (vs : List A) (rest : List ℕ) (l : ℕ) → repeated_while n test missed read text left ≡ Took vs rest l → HasAll has vs text rest
repeated_sound has test missed read each zero text left vs rest l e =
    let n = nothing_took [] text (missed text left) vs rest l e in subst (λ us. HasAll has us text rest) n.0 n.1
repeated_sound has test missed read each (suc n) text left vs rest l e =
    elim (chosen (test text) _ _ _ e) [
      | inl p ↦
          let b = bind_took (read text left) (λ v rest left. mapped (λ vs. v ∷ vs) (repeated_while n test missed read rest left)) vs rest l p.1 in
          let u = mapped_took (λ us. b.value ∷ us) (repeated_while n test missed read b.rest b.left) vs rest l b.then in
          subst (λ us. HasAll has us text rest) u.gives
          (b.rest, each text left b.value b.rest b.left b.was, repeated_sound has test missed read each n b.rest b.left u.value rest l u.was)
      | inr p ↦
          let n = nothing_took [] text (missed text left) vs rest l p.1 in subst (λ us. HasAll has us text rest) n.0 n.1
    ]

pub sound : (g : SyntaxRule) (text : List ℕ) (left : ℕ) (v : Value g) (rest : List ℕ) (l : ℕ) → parse g text left ≡ Took v rest l → Has g v text rest
sound (One w) text left v rest l e = one_took w text left (fit w text) v rest l e
sound (Then a b) text left v rest l e =
    let p = bind_took (parse a text left) (λ x r m. mapped (λ w. (x, w)) (parse b r m)) v rest l e in
    let u = mapped_took (λ w. (p.value, w)) (parse b p.rest p.left) v rest l p.then in
    subst (λ x. Has (Then a b) x text rest) u.gives
    (p.rest, sound a text left p.value p.rest p.left p.was, sound b p.rest p.left u.value rest l u.was)
sound (Either a b) text left v rest l e =
    elim (chosen (leads a text) _ _ _ e) [
      | inl p ↦
          let u = mapped_took (λ x. inl x) (parse a text left) v rest l p.1 in
          subst (λ x. Has (Either a b) x text rest) u.gives (sound a text left u.value rest l u.was)
      | inr p ↦
          let u = mapped_took (λ x. inr x) (parse b text (miss (first a) text left)) v rest l p.1 in
          subst (λ x. Has (Either a b) x text rest) u.gives (sound b text (miss (first a) text left) u.value rest l u.was)
    ]
sound (Maybe a) text left v rest l e =
    elim (chosen (leads a text) _ _ _ e) [
      | inl p ↦
          let u = mapped_took (λ x. Some x) (parse a text left) v rest l p.1 in
          subst (λ x. Has (Maybe a) x text rest) u.gives (sound a text left u.value rest l u.was)
      | inr p ↦
          let n = nothing_took None text (miss (first a) text left) v rest l p.1 in subst (λ x. Has (Maybe a) x text rest) n.0 n.1
    ]
sound (Many a) text left v rest l e =
    repeated_sound (λ x. Has a x) (λ r. leads a r) (λ r m. miss (first a) r m) (λ r m. parse a r m)
    (λ t m x r k q. sound a t m x r k q) (length text) text left v rest l e
