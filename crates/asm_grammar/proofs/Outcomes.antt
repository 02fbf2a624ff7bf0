-- What the outcome of a step says of the steps that it is made of.
use Rattle.std.proofs.Common.{◌≡◌, ℕ, Bool, true, false, cond, ◌⊎◌, inl, inr, List, refl}
use Rattle.asm_grammar.specs.Reading.{Outcome, Took, Failed, ◌>>=◌, mapped}

pub chosen : {A : Type 0} (b : Bool) (x y z : A) → cond b x y ≡ z → ((b ≡ true) × (x ≡ z)) ⊎ ((b ≡ false) × (y ≡ z))
chosen true x y z e = inl (refl, e)
chosen false x y z e = inr (refl, e)

pub record Before {A B : Type 0} (o : Outcome A) (f : A → List ℕ → ℕ → Outcome B) (end : Outcome B) : Type 0 where
  pub value : A
  pub rest : List ℕ
  pub left : ℕ
  pub was : o ≡ Took value rest left
  pub then : f value rest left ≡ end

pub bind_took : {A B : Type 0} (o : Outcome A) (f : A → List ℕ → ℕ → Outcome B) (y : B) (rest : List ℕ) (left : ℕ) → (o >>= f) ≡ Took y rest left → Before o f (Took y rest left)
bind_took (Took v middle l) f y rest left e = record { value = v; rest = middle; left = l; was = refl; then = e }
bind_took (Failed l) f y rest left e = cc

pub record Under {A B : Type 0} (f : A → B) (o : Outcome A) (y : B) (rest : List ℕ) (left : ℕ) : Type 0 where
  pub value : A
  pub was : o ≡ Took value rest left
  pub gives : f value ≡ y

pub mapped_took : {A B : Type 0} (f : A → B) (o : Outcome A) (y : B) (rest : List ℕ) (left : ℕ) → mapped f o ≡ Took y rest left → Under f o y rest left
mapped_took f (Took v r l) y rest left e = record { value = v; was = cc; gives = cc }
mapped_took f (Failed l) y rest left e = cc

pub nothing_took : {A : Type 0} (v : A) (text : List ℕ) (l : ℕ) (y : A) (rest : List ℕ) (left : ℕ) → Took v text l ≡ Took y rest left → (v ≡ y) × (rest ≡ text)
nothing_took v text l y rest left e = (cc, cc)
