-- Which alternative of a row is read, by its first word.
use Rattle.std.proofs.Common.{◌≡◌, ℕ, ◌-◌, min, inl, inr, List, [], ◌∷◌, length, refl, sym, ap, ◌∙◌, Option, Some, None}
use Rattle.std.specs.Option.{option_map}
use Rattle.asm_grammar.specs.Argument.{Exact}
use Rattle.asm_grammar.specs.Word.{Word, Argument, Meaning, fit, near}
use Rattle.asm_grammar.specs.Syntax.{SyntaxRule, One, Then, Either, Maybe, Value}
use Rattle.asm_grammar.specs.Reading.{Outcome, Took, Failed, mapped, parse, first, leads, miss}
use Rattle.asm_grammar.specs.Reads.{RefusesReading}
use Rattle.asm_grammar.specs.declared.words.ReadError.{ReadError}
use Rattle.asm_grammar.specs.declared.words.ReadError.TheVariants.{Syntax as Miss, NoMemory}
use Rattle.asm_grammar.proofs.Tests.{is_true_or_false}

-- ---- an alternative that may be absent, and others

module _ {C : Type 0} (a b : SyntaxRule) (says : Value (Either a b) → C) (text : List ℕ) (left : ℕ) where
  some_here : (x : C) (rest : List ℕ) (l : ℕ) (o : Outcome (Value a)) → mapped (λ v. option_map (λ u. says (inl u)) v) (mapped {A = Value a} (λ v. Some v) o) ≡ Took (Some x) rest l
      → mapped says (mapped {A = Value a} {B = Value (Either a b)} (λ v. inl v) o) ≡ Took x rest l
  some_here x rest l (Took v r m) e = cc
  some_here x rest l (Failed m) e = cc

  pub either_some : (x : C) (rest : List ℕ) (l : ℕ) → mapped (λ v. option_map (λ u. says (inl u)) v) (parse (Maybe a) text left) ≡ Took (Some x) rest l
      → mapped says (parse (Either a b) text left) ≡ Took x rest l
  either_some x rest l e = elim (is_true_or_false (leads a text)) [
    | inl h ↦ rw h (some_here x rest l (parse a text left) (rw h at e))
    | inr h ↦ absurd (let f = rw h at e in cc)
  ]

  none_here : {D : Type 0} (rest : List ℕ) (l : ℕ) (o : Outcome (Value a)) → mapped (λ v. option_map (λ u. says (inl u)) v) (mapped {A = Value a} (λ v. Some v) o) ≡ Took None rest l → D
  none_here rest l (Took v r m) e = absurd cc
  none_here rest l (Failed m) e = absurd cc

  behind : (o : Outcome (Value b)) → mapped says (mapped {A = Value b} {B = Value (Either a b)} (λ w. inr w) o) ≡ mapped (λ w. says (inr w)) o
  behind (Took v r m) = refl
  behind (Failed m) = refl

  moved : (t rest : List ℕ) (m l : ℕ) → t ≡ rest → m ≡ l → mapped (λ w. says (inr w)) (parse b t m) ≡ mapped (λ w. says (inr w)) (parse b rest l)
  moved t rest m l p q = rw (p, q) refl

  pub either_none : (rest : List ℕ) (l : ℕ) → mapped (λ v. option_map (λ u. says (inl u)) v) (parse (Maybe a) text left) ≡ Took None rest l
      → mapped says (parse (Either a b) text left) ≡ mapped (λ w. says (inr w)) (parse b rest l)
  either_none rest l e = elim (is_true_or_false (leads a text)) [
    | inl h ↦ none_here rest l (parse a text left) (rw h at e)
    | inr h ↦ let f = rw h at e in let p : text ≡ rest = cc in let q : miss (first a) text left ≡ l = cc in rw h (behind (parse b text (miss (first a) text left)) ∙ moved text rest (miss (first a) text left) l p q)
  ]

  failed_here : (l : ℕ) (o : Outcome (Value a)) → mapped (λ v. option_map (λ u. says (inl u)) v) (mapped {A = Value a} (λ v. Some v) o) ≡ Failed l
      → mapped says (mapped {A = Value a} {B = Value (Either a b)} (λ v. inl v) o) ≡ Failed l
  failed_here l (Took v r m) e = cc
  failed_here l (Failed m) e = cc

  either_failed : (l : ℕ) → mapped (λ v. option_map (λ u. says (inl u)) v) (parse (Maybe a) text left) ≡ Failed l → mapped says (parse (Either a b) text left) ≡ Failed l
  either_failed l e = elim (is_true_or_false (leads a text)) [
    | inl h ↦ rw h (failed_here l (parse a text left) (rw h at e))
    | inr h ↦ absurd (let f = rw h at e in cc)
  ]

  pub either_refused : (e : ReadError) → RefusesReading e (mapped (λ v. option_map (λ u. says (inl u)) v) (parse (Maybe a) text left)) → RefusesReading e (mapped says (parse (Either a b) text left))
  either_refused NoMemory r = tt
  either_refused (Miss l) r = either_failed l r

-- ---- a row of alternatives that each begin with a word

abbrev word : List ℕ → SyntaxRule
word k = One (Argument (Exact k))

module _ {C : Type 0} (k : List ℕ) where
  pub taken : (r b : SyntaxRule) (says : Value (Either (Then (word k) r) b) → C) (text next : List ℕ) (left l : ℕ) → (fit (Argument (Exact k)) text ≡ Some (tt, next)) × (l ≡ left)
      → mapped (λ v. option_map says v) (parse (Maybe (Either (Then (word k) r) b)) text left) ≡ mapped (λ v. Some v) (mapped (λ v. says (inl (tt, v))) (parse r next l))
  taken r b says text next left l (e, q) = rw (q, e) (through (parse r next left)) where
    through : (o : Outcome (Value r)) → mapped (λ v. option_map says v) (mapped (λ v. Some v) (mapped {A = Value (Then (word k) r)} {B = Value (Either (Then (word k) r) b)} (λ v. inl v) (mapped {A = Value r} {B = Value (Then (word k) r)} (λ v. (tt, v)) o)))
        ≡ mapped (λ v. Some v) (mapped (λ v. says (inl (tt, v))) o)
    through (Took v rest m) = refl
    through (Failed m) = refl

  pub taken_last : (r : SyntaxRule) (says : Value (Then (word k) r) → C) (text next : List ℕ) (left l : ℕ) → (fit (Argument (Exact k)) text ≡ Some (tt, next)) × (l ≡ left)
      → mapped (λ v. option_map says v) (parse (Maybe (Then (word k) r)) text left) ≡ mapped (λ v. Some v) (mapped (λ v. says (tt, v)) (parse r next l))
  taken_last r says text next left l (e, q) = rw (q, e) (through (parse r next left)) where
    through : (o : Outcome (Value r)) → mapped (λ v. option_map says v) (mapped (λ v. Some v) (mapped {A = Value r} {B = Value (Then (word k) r)} (λ v. (tt, v)) o))
        ≡ mapped (λ v. Some v) (mapped (λ v. says (tt, v)) o)
    through (Took v rest m) = refl
    through (Failed m) = refl

  pub passed : (a b : SyntaxRule) (says : Value (Either a b) → C) (text rest : List ℕ) (left l : ℕ) → first a ≡ Argument (Exact k) ∷ []
      → (fit (Argument (Exact k)) text ≡ None) × (rest ≡ text) × (l ≡ min left (length text - near (Argument (Exact k)) text))
      → mapped (λ v. option_map says v) (parse (Maybe (Either a b)) text left) ≡ mapped (λ v. option_map (λ u. says (inr u)) v) (parse (Maybe b) rest l)
  passed a b says text rest left l f (e, p, q) = rw (p, q, f, e) (elim (is_true_or_false (leads b text)) [
    | inl h ↦ rw h (through (parse b text (min left (length text - near (Argument (Exact k)) text))))
    | inr h ↦ rw h refl
  ]) where
    through : (o : Outcome (Value b)) → mapped (λ v. option_map says v) (mapped (λ v. Some v) (mapped {A = Value b} {B = Value (Either a b)} (λ w. inr w) o))
        ≡ mapped (λ v. option_map (λ u. says (inr u)) v) (mapped (λ v. Some v) o)
    through (Took v r m) = refl
    through (Failed m) = refl

  pub passed_last : (r : SyntaxRule) (says : Value (Then (word k) r) → C) (text rest : List ℕ) (left l : ℕ)
      → (fit (Argument (Exact k)) text ≡ None) × (rest ≡ text) × (l ≡ min left (length text - near (Argument (Exact k)) text))
      → mapped (λ v. option_map says v) (parse (Maybe (Then (word k) r)) text left) ≡ Took None rest l
  passed_last r says text rest left l (e, p, q) = rw (p, q, e) refl
