-- A table that is read from records is the one whose records they are.
use Rattle.std.proofs.Common.{◌≡◌, ℕ, zero, suc, Bool, true, false, cond, eqb, ltb, List, [], ◌∷◌, ◌++◌, length, Option, Some, None, refl, sym, ap, subst, ◌∙◌, append_assoc, arith, inl, inr, ◌⊎◌}
use Rattle.std.specs.Option.{option_and_then}
use Rattle.std.proofs.lemmas.Option.{none-some}
use Rattle.std.proofs.lemmas.Bool.{eqb-true, ltb-true, lt-ltb}
use Rattle.std.proofs.lemmas.List.{append-nil, nil_from_length}
use Rattle.asm_formats.specs.Items.{Key}
use Rattle.asm_base.specs.Records.{DirectoryRecord, of_kinds, all_of, are_bytes, read_from}
use Rattle.asm_base.specs.Readings.{Reading}
use Rattle.asm_base.proofs.FieldLaws.{and_both}
use Rattle.asm_base.proofs.Exact.{IsBytes, IsExact, bind_some, chosen, test_some, some_is}

-- ---- a value of a record

pub bytes_are : (bytes : List ℕ) → IsBytes bytes → are_bytes bytes ≡ true
bytes_are [] fits = refl
bytes_are (b ∷ bytes) fits = rw (lt-ltb b 256 (fits 0)) (bytes_are bytes (λ i. fits (suc i)))

pub are_bytes_is : (bytes : List ℕ) → are_bytes bytes ≡ true → IsBytes bytes
are_bytes_is [] e i = omega arith
are_bytes_is (b ∷ bytes) e zero = ltb-true b 256 (and_both (ltb b 256) (are_bytes bytes) e).0
are_bytes_is (b ∷ bytes) e (suc i) = are_bytes_is bytes (and_both (ltb b 256) (are_bytes bytes) e).1 i

pub all_takes : {A : Type 0} {s : A → List ℕ} {F : A → Type 0} {r : Reading A} → IsExact s F r → (bytes : List ℕ) (x : A) → all_of r bytes ≡ Some x → (bytes ≡ s x) × F x × (are_bytes bytes ≡ true)
unfolding all_of
all_takes {A} {s} {F} {r} law bytes x e =
    let c = chosen (are_bytes bytes) (option_and_then (λ (y : A × List ℕ). cond (eqb (length y.1) 0) (Some y.0) None) (r bytes)) None (Some x) e in
    elim c [
      | inl are ↦
          let a = bind_some (λ (y : A × List ℕ). cond (eqb (length y.1) 0) (Some y.0) None) (r bytes) x are.1 in
          let one = law.takes bytes a.0.0 a.0.1 (are_bytes_is bytes are.0) a.1 in
          let g = test_some (eqb (length a.0.1) 0) a.0.0 x a.2 in
          let end : a.0.1 ≡ [] = nil_from_length a.0.1 (eqb-true _ _ g.0) in
          let all : bytes ≡ s a.0.0 = one.parts ∙ ap (λ (w : List ℕ). s a.0.0 ++ w) end ∙ append-nil (s a.0.0) in
          subst (λ (y : A). (bytes ≡ s y) × F y × (are_bytes bytes ≡ true)) g.1 (all, one.fits, are.0)
      | inr not ↦ absurd cc
    ]

pub all_again : {A : Type 0} {s : A → List ℕ} {F : A → Type 0} {r : Reading A} → IsExact s F r → (x : A) → F x → all_of r (s x) ≡ Some x
unfolding all_of
all_again {A} {s} {F} {r} law x fits =
    let read : r (s x) ≡ Some (x, []) = ap r (sym (append-nil (s x))) ∙ law.again x [] fits in
    rw (bytes_are (s x) (law.bytes x fits), read) refl

-- ---- a table

either : (b : Bool) → (b ≡ true) ⊎ (b ≡ false)
either true = inl refl
either false = inr refl

-- Taking up a record follows its place among the table's records: it is taken up exactly where it is the
-- next record of some table.
pub record IsTable {T : Type 0} (is_mine : Key → Bool) (records_of : T → List DirectoryRecord) (Fits : T → Type 0) (add : T → DirectoryRecord → Option T) : Type 0 where
  pub next : (t : T) (e : DirectoryRecord) (u : T) → is_mine e.0 ≡ true → Fits t → add t e ≡ Some u → (records_of t ++ e ∷ [] ≡ records_of u) × Fits u
  pub follows : (t : T) (e : DirectoryRecord) (es : List DirectoryRecord) (whole : T) → Fits t → Fits whole → records_of t ++ e ∷ es ≡ records_of whole → (u : T) × (add t e ≡ Some u)
  pub same : (t u : T) → Fits t → Fits u → records_of t ≡ records_of u → t ≡ u

module _ {T : Type 0} {is_mine : Key → Bool} {records_of : T → List DirectoryRecord} {Fits : T → Type 0} {add : T → DirectoryRecord → Option T} (law : IsTable is_mine records_of Fits add) where
  -- what is read are the table's records
  pub read_found : (t : T) (es : List DirectoryRecord) (whole : T) → Fits t → read_from is_mine add t es ≡ Some whole → (records_of t ++ of_kinds is_mine es ≡ records_of whole) × Fits whole
  unfolding read_from
  read_found t [] whole fits e =
      subst (λ (u : T). (records_of t ++ [] ≡ records_of u) × Fits u) (some_is t whole e) (append-nil (records_of t), fits)
  read_found t (e ∷ es) whole fits r = elim (chosen (is_mine e.0) _ _ (Some whole) r) [
    | inl mine ↦
        let a = bind_some (λ (next : T). read_from is_mine add next es) (add t e) whole mine.1 in
        let step = law.next t e a.0 mine.0 fits a.1 in
        let rest = read_found a.0 es whole step.1 a.2 in
        (rw mine.0 (sym (append_assoc (records_of t) (e ∷ []) (of_kinds is_mine es)) ∙ ap (λ (r : List DirectoryRecord). r ++ of_kinds is_mine es) step.0 ∙ rest.0), rest.1)
    | inr other ↦ rw other.0 (read_found t es whole fits other.1)
  ]

  -- the table whose records they are is read
  pub read_again : (t : T) (es : List DirectoryRecord) (whole : T) → Fits t → Fits whole → records_of t ++ of_kinds is_mine es ≡ records_of whole → read_from is_mine add t es ≡ Some whole
  unfolding read_from
  read_again t [] whole fits fits_whole same = ap (λ (u : T). Some u) (law.same t whole fits fits_whole (sym (append-nil (records_of t)) ∙ same))
  read_again t (e ∷ es) whole fits fits_whole same = elim (either (is_mine e.0)) [
    | inl mine ↦
        let follows : records_of t ++ e ∷ of_kinds is_mine es ≡ records_of whole = rw mine at same in
        let a = law.follows t e (of_kinds is_mine es) whole fits fits_whole follows in
        let step = law.next t e a.0 mine fits a.1 in
        let rest : records_of a.0 ++ of_kinds is_mine es ≡ records_of whole = ap (λ (r : List DirectoryRecord). r ++ of_kinds is_mine es) (sym step.0) ∙ append_assoc (records_of t) (e ∷ []) (of_kinds is_mine es) ∙ follows in
        rw (mine, a.1) (read_again a.0 es whole step.1 fits_whole rest)
    | inr other ↦ rw other (read_again t es whole fits fits_whole (rw other at same))
  ]

-- ---- a loop over records

-- one record that is taken up, or passed over
pub read_taken : {T : Type 0} (is_mine : Key → Bool) (add : T → DirectoryRecord → Option T) (t u : T) (e : DirectoryRecord) (es : List DirectoryRecord) → cond (is_mine e.0) (add t e) (Some t) ≡ Some u → read_from is_mine add t (e ∷ es) ≡ read_from is_mine add u es
unfolding read_from
read_taken is_mine add t u e es step = elim (chosen (is_mine e.0) (add t e) (Some t) (Some u) step) [
  | inl mine ↦ rw (mine.0, mine.1) refl
  | inr other ↦ rw other.0 (ap (λ v. read_from is_mine add v es) (some_is t u other.1))
]

pub read_refused : {T : Type 0} (is_mine : Key → Bool) (add : T → DirectoryRecord → Option T) (t : T) (e : DirectoryRecord) (es : List DirectoryRecord) → cond (is_mine e.0) (add t e) (Some t) ≡ None → read_from is_mine add t (e ∷ es) ≡ None
unfolding read_from
read_refused is_mine add t e es step = elim (chosen (is_mine e.0) (add t e) (Some t) None step) [
  | inl mine ↦ rw (mine.0, mine.1) refl
  | inr other ↦ absurd (none-some t (sym other.1))
]
