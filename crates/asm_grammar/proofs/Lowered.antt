-- Reading from fewer bytes left.
use Rattle.std.proofs.Common.{◌≡◌, ℕ, zero, suc, ◌-◌, ◌≤◌, min, Bool, inl, inr, List, [], ◌∷◌, length, refl, ap, ◌∙◌, Option, Some, None, arith}
use Rattle.std.specs.Prelude.{Err}
use Rattle.asm_grammar.specs.Word.{Word, Meaning, fit, near}
use Rattle.asm_grammar.specs.Syntax.{SyntaxRule, One, Then, Either, Maybe, Many}
use Rattle.asm_grammar.specs.Reading.{Outcome, Took, Failed, ◌>>=◌, mapped, one, repeated_while, parse, leads, miss, ends, finish, whole}
use Rattle.asm_grammar.specs.Reading.{first as heads}
use Rattle.asm_grammar.specs.Laws.{at_least, whole_from}
use Rattle.asm_grammar.proofs.Tests.{is_true_or_false}

abbrev lower : {A : Type 0} → ℕ → Outcome A → Outcome A
lower l (Took v rest left) = Took v rest (min l left)
lower l (Failed left) = Failed (min l left)

mapped_lower : {A B : Type 0} (f : A → B) (l : ℕ) (o : Outcome A) → mapped f (lower l o) ≡ lower l (mapped f o)
mapped_lower f l (Took v rest left) = refl
mapped_lower f l (Failed left) = refl

three : (l k x : ℕ) → min (min l k) x ≡ min l (min k x)
three l k x = omega arith

one_lower : (w : Word) (text : List ℕ) (l k : ℕ) (o : Option (Meaning w × List ℕ)) → one w text (min l k) o ≡ lower l (one w text k o)
one_lower w text l k None = ap (λ x. Failed x) (three l k (length text - near w text))
one_lower w text l k (Some found) = refl

miss_lower : (ws : List Word) (text : List ℕ) (l k : ℕ) → miss ws text (min l k) ≡ min l (miss ws text k)
miss_lower [] text l k = refl
miss_lower (w ∷ ws) text l k = ap (miss ws text) (three l k (length text - near w text)) ∙ miss_lower ws text l (min k (length text - near w text))

bind_lower : {A B : Type 0} (f : A → List ℕ → ℕ → Outcome B) (l : ℕ) (o : Outcome A) → ((v : A) (rest : List ℕ) (left : ℕ) → f v rest (min l left) ≡ lower l (f v rest left))
    → (lower l o >>= f) ≡ lower l (o >>= f)
bind_lower f l (Took v rest left) each = each v rest left
bind_lower f l (Failed left) each = refl

repeated_lower : {A : Type 0} (n : ℕ) (test : List ℕ → Bool) (missed : List ℕ → ℕ → ℕ) (read : List ℕ → ℕ → Outcome A) (l : ℕ)
    → ((text : List ℕ) (k : ℕ) → missed text (min l k) ≡ min l (missed text k)) → ((text : List ℕ) (k : ℕ) → read text (min l k) ≡ lower l (read text k))
    → (text : List ℕ) (k : ℕ) → repeated_while n test missed read text (min l k) ≡ lower l (repeated_while n test missed read text k)
repeated_lower zero test missed read l m r text k = ap (λ x. Took [] text x) (m text k)
repeated_lower (suc n) test missed read l m r text k = elim (is_true_or_false (test text)) [
  | inr h ↦ rw h (ap (λ x. Took [] text x) (m text k))
  | inl h ↦ rw h (ap (λ o. o >>= λ v rest left. mapped (λ vs. v ∷ vs) (repeated_while n test missed read rest left)) (r text k)
      ∙ bind_lower (λ v rest left. mapped (λ vs. v ∷ vs) (repeated_while n test missed read rest left)) l (read text k)
      (λ v rest left. ap (mapped (λ vs. v ∷ vs)) (repeated_lower n test missed read l m r rest left) ∙ mapped_lower (λ vs. v ∷ vs) l (repeated_while n test missed read rest left)))
]

-- Where fewer bytes were left at the start, fewer are at the end, and nothing else is changed.
lowered : (g : SyntaxRule) (text : List ℕ) (l k : ℕ) → parse g text (min l k) ≡ lower l (parse g text k)
lowered (One w) text l k = one_lower w text l k (fit w text)
lowered (Then a b) text l k =
    ap (λ o. o >>= λ v rest left. mapped (λ w. (v, w)) (parse b rest left)) (lowered a text l k)
    ∙ bind_lower (λ v rest left. mapped (λ w. (v, w)) (parse b rest left)) l (parse a text k)
    (λ v rest left. ap (mapped (λ w. (v, w))) (lowered b rest l left) ∙ mapped_lower (λ w. (v, w)) l (parse b rest left))
lowered (Either a b) text l k = elim (is_true_or_false (leads a text)) [
  | inl h ↦ rw h (ap (mapped (λ v. inl v)) (lowered a text l k) ∙ mapped_lower (λ v. inl v) l (parse a text k))
  | inr h ↦ rw h (ap (λ x. mapped (λ w. inr w) (parse b text x)) (miss_lower (heads a) text l k)
      ∙ ap (mapped (λ w. inr w)) (lowered b text l (miss (heads a) text k)) ∙ mapped_lower (λ w. inr w) l (parse b text (miss (heads a) text k)))
]
lowered (Maybe a) text l k = elim (is_true_or_false (leads a text)) [
  | inl h ↦ rw h (ap (mapped (λ v. Some v)) (lowered a text l k) ∙ mapped_lower (λ v. Some v) l (parse a text k))
  | inr h ↦ rw h (ap (λ x. Took None text x) (miss_lower (heads a) text l k))
]
lowered (Many a) text l k = repeated_lower (length text) (λ rest. leads a rest) (λ rest left. miss (heads a) rest left) (λ rest left. parse a rest left) l
    (λ t m. miss_lower (heads a) t l m) (λ t m. lowered a t l m) text k

finish_lower : {A : Type 0} (last : Word) (len l : ℕ) (o : Outcome A) → finish last len (lower l o) ≡ at_least (len - l) (finish last len o)
finish_lower last len l (Failed left) = ap (λ x. Err x) (omega arith)
finish_lower last len l (Took v rest left) = elim (is_true_or_false (ends last rest)) [
  | inl h ↦ rw h refl
  | inr h ↦ rw h (ap (λ x. Err x) (omega arith))
]

pub from_fewer : (g : SyntaxRule) (last : Word) (text : List ℕ) (left : ℕ) → left ≤ length text → whole_from g last text left ≡ at_least (length text - left) (whole g last text)
from_fewer g last text left l =
    let m : left ≡ min left (length text) = omega arith in
    ap (λ x. finish last (length text) (parse g text x)) m ∙ ap (finish last (length text)) (lowered g text left (length text)) ∙ finish_lower last (length text) left (parse g text (length text))
