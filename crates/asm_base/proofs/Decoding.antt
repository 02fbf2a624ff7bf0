-- A body is decoded by its definition just where a reading takes it, where that reading is exact.
use Rattle.std.proofs.Common.{◌≡◌, Bool, true, cond, List, ℕ, length, Option, Some, None, refl, sym, ap, subst, ◌∙◌}
use Rattle.std.specs.Option.{option_and_then}
use Rattle.std.proofs.lemmas.Option.{none-some}
use Rattle.asm_formats.specs.Bytes.{whole_block}
use Rattle.asm_formats.specs.Codecs.{IsCodec}
use Rattle.asm_base.specs.Readings.{Reading, whole_reading}
use Rattle.asm_base.proofs.Exact.{IsBytes, IsExact, bind_some, test_some}
use Rattle.asm_base.proofs.FieldLaws.{whole_takes, whole_again}

-- What is read is allowed and the bytes are its spelling, and an allowed value is read from its spelling: so the
-- reading gives what is decoded.
pub is_decoded : {A : Type 0} {is_allowed : A → Bool} {spelling : A → List ℕ} {decoded : List ℕ → Option A} → IsCodec is_allowed spelling decoded → (bytes : List ℕ) (read : Option A)
    → ((x : A) → read ≡ Some x → (is_allowed x ≡ true) × (bytes ≡ spelling x))
    → ((x : A) → is_allowed x ≡ true → bytes ≡ spelling x → read ≡ Some x)
    → read ≡ decoded bytes
is_decoded {A} {is_allowed} {spelling} {decoded} codec bytes (Some x) found only = let f = found x refl in sym (ap decoded f.1 ∙ codec.1 x f.0)
is_decoded {A} {is_allowed} {spelling} {decoded} codec bytes None found only = none (decoded bytes) refl where
  none : (o : Option A) → decoded bytes ≡ o → None ≡ decoded bytes
  none None e = sym e
  none (Some y) e = let f = codec.0 bytes y e in absurd (none-some y (only y f.0 f.1))

-- a body that fills a block, read field by field and then tested
pub block_is_decoded : {A : Type 0} {s : A → List ℕ} {F : A → Type 0} {r : Reading A} {is_allowed : A → Bool} {spelling : A → List ℕ} {decoded : List ℕ → Option A} (test : A → Bool)
    → IsExact s F r → IsCodec is_allowed spelling decoded
    → ((x : A) → spelling x ≡ whole_block (s x))
    → ((x : A) → F x → test x ≡ true → is_allowed x ≡ true)
    → ((x : A) → is_allowed x ≡ true → F x × (test x ≡ true))
    → (bytes : List ℕ) → length bytes ≡ 4096 → IsBytes bytes
    → option_and_then (λ x. cond (test x) (Some x) None) (whole_reading r bytes) ≡ decoded bytes
block_is_decoded {A} {s} {F} {r} {is_allowed} {spelling} {decoded} test law codec spelt allowed fits bytes len are =
    is_decoded codec bytes (option_and_then (λ x. cond (test x) (Some x) None) (whole_reading r bytes)) found only where
      found : (x : A) → option_and_then (λ x. cond (test x) (Some x) None) (whole_reading r bytes) ≡ Some x → (is_allowed x ≡ true) × (bytes ≡ spelling x)
      found x e =
          let a = bind_some (λ (y : A). cond (test y) (Some y) None) (whole_reading r bytes) x e in
          let t = test_some (test a.0) a.0 x a.2 in
          let w = whole_takes law bytes a.0 len are a.1 in
          let ok : is_allowed a.0 ≡ true = allowed a.0 w.1 t.0 in
          subst (λ (y : A). (is_allowed y ≡ true) × (bytes ≡ spelling y)) t.1 (ok, w.0 ∙ sym (spelt a.0))

      only : (x : A) → is_allowed x ≡ true → bytes ≡ spelling x → option_and_then (λ x. cond (test x) (Some x) None) (whole_reading r bytes) ≡ Some x
      only x ok e =
          let f = fits x ok in
          rw (e, spelt x, whole_again law x f.0, f.1) refl

-- a body that fills a block, all of whose readings are allowed
pub plain_is_decoded : {A : Type 0} {s : A → List ℕ} {F : A → Type 0} {r : Reading A} {is_allowed : A → Bool} {spelling : A → List ℕ} {decoded : List ℕ → Option A}
    → IsExact s F r → IsCodec is_allowed spelling decoded
    → ((x : A) → spelling x ≡ whole_block (s x))
    → ((x : A) → F x → is_allowed x ≡ true)
    → ((x : A) → is_allowed x ≡ true → F x)
    → (bytes : List ℕ) → length bytes ≡ 4096 → IsBytes bytes
    → whole_reading r bytes ≡ decoded bytes
plain_is_decoded {A} {s} {F} {r} {is_allowed} {spelling} {decoded} law codec spelt allowed fits bytes len are = is_decoded codec bytes (whole_reading r bytes) found only where
  found : (x : A) → whole_reading r bytes ≡ Some x → (is_allowed x ≡ true) × (bytes ≡ spelling x)
  found x e = let w = whole_takes law bytes x len are e in (allowed x w.1, w.0 ∙ sym (spelt x))

  only : (x : A) → is_allowed x ≡ true → bytes ≡ spelling x → whole_reading r bytes ≡ Some x
  only x ok e = rw (e, spelt x) (whole_again law x (fits x ok))
