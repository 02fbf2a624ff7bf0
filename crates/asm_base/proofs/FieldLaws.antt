-- The laws of the fields that records share, and of a record that fills a block.
use Rattle.std.proofs.Common.{◌≡◌, ℕ, zero, suc, ◌-◌, ◌<◌, ◌≤◌, Bool, true, false, cond, leb, eqb, List, [], ◌∷◌, ◌++◌, length, replicate, take, Option, Some, None, refl, sym, ap, subst, ◌∙◌, append_assoc, arith}
use Rattle.std.specs.Prelude.{◌&&◌}
use Rattle.std.specs.List.{flat_map, list_all, AllByRecursion}
use Rattle.std.proofs.lemmas.Bool.{eqb-true, eq-eqb, leb-true, le-leb}
use Rattle.std.proofs.lemmas.List.{length-append, length-replicate, take_all}
use Rattle.asm_formats.specs.Bytes.{whole_block}
use Rattle.asm_formats.specs.Codes.{flag}
use Rattle.asm_base.specs.Readings.{Reading, byte_reading, fixed_reading, flag_of, flag_reading, repeated, counted_reading, whole_reading}
use Rattle.asm_base.specs.declared.cursor.Writer.{Writer}
use Rattle.asm_base.specs.Cursors.{PutsField, written_bytes}
use Rattle.asm_base.proofs.Exact.{IsBytes, IsBytes-append, IsBytes-none, IsBytes-flat_map, IsExact, Begins, bind_some, test_some, some_is, decoded_exact, repeated_exact}

abbrev pub one_byte : ℕ → List ℕ
one_byte x = x ∷ []

pub byte_exact : IsExact one_byte (λ x. x < 256) byte_reading
byte_exact = record { takes = takes; again = λ x rest fits. refl; bytes = bytes } where
  takes : (bytes : List ℕ) (x : ℕ) (rest : List ℕ) → IsBytes bytes → byte_reading bytes ≡ Some (x, rest) → Begins one_byte (λ x. x < 256) bytes x rest
  takes [] x rest fits e = absurd cc
  takes (b ∷ bytes) x rest fits e =
      let whole : Begins one_byte (λ x. x < 256) (b ∷ bytes) b bytes = record { parts = refl; fits = fits 0; rest_bytes = λ i. fits (suc i) } in
      subst (λ (p : ℕ × List ℕ). Begins one_byte (λ x. x < 256) (b ∷ bytes) p.0 p.1) (some_is (b, bytes) (x, rest) e) whole

  bytes : (x : ℕ) → x < 256 → IsBytes (one_byte x)
  bytes x fits zero = fits
  bytes x fits (suc i) = IsBytes-none i

-- the value of a choice that wasn't None
chosen_some : {Y : Type 0} (b : Bool) (o : Option Y) (y : Y) → cond b o None ≡ Some y → (b ≡ true) × (o ≡ Some y)
chosen_some true o y e = (refl, e)
chosen_some false o y e = absurd cc

fixed_takes : (field bytes : List ℕ) (u : Unit {0}) (rest : List ℕ) → IsBytes bytes → fixed_reading field bytes ≡ Some (u, rest) → Begins (λ (u : Unit {0}). field) (λ u. Unit {0}) bytes u rest
unfolding fixed_reading
fixed_takes [] bytes u rest fits e =
    let whole : Begins (λ (u : Unit {0}). []) (λ u. Unit {0}) bytes tt bytes = record { parts = refl; fits = tt; rest_bytes = fits } in
    subst (λ (p : Unit {0} × List ℕ). Begins (λ (u : Unit {0}). []) (λ u. Unit {0}) bytes p.0 p.1) (some_is (tt, bytes) (u, rest) e) whole
fixed_takes (f ∷ field) [] u rest fits e = absurd cc
fixed_takes (f ∷ field) (b ∷ bytes) u rest fits e =
    let g = chosen_some (eqb b f) (fixed_reading field bytes) (u, rest) e in
    let more = fixed_takes field bytes u rest (λ i. fits (suc i)) g.1 in
    record { parts = ap (λ (x : ℕ). x ∷ bytes) (eqb-true b f g.0) ∙ ap (λ (r : List ℕ). f ∷ r) more.parts; fits = tt; rest_bytes = more.rest_bytes }

fixed_again : (field rest : List ℕ) → fixed_reading field (field ++ rest) ≡ Some (tt, rest)
unfolding fixed_reading
fixed_again [] rest = refl
fixed_again (f ∷ field) rest = rw (eq-eqb f f refl) (fixed_again field rest)

pub fixed_exact : (field : List ℕ) → IsBytes field → IsExact (λ (u : Unit {0}). field) (λ u. Unit {0}) (fixed_reading field)
fixed_exact field are = record { takes = fixed_takes field; again = λ u rest fits. fixed_again field rest; bytes = λ u fits. are }

pub flag_exact : IsExact (λ b. one_byte (flag b)) (λ b. Unit {0}) flag_reading
flag_exact = decoded_exact flag_of flag known one_code fits_code byte_exact where
  known : (b : Bool) → flag_of (flag b) ≡ Some b
  known true = refl
  known false = refl

  one_code : (n : ℕ) (b : Bool) → flag_of n ≡ Some b → n ≡ flag b
  one_code zero true e = absurd cc
  one_code zero false e = refl
  one_code (suc zero) true e = refl
  one_code (suc zero) false e = absurd cc
  one_code (suc (suc n)) b e = absurd cc

  fits_code : (b : Bool) → flag b < 256
  fits_code true = omega arith
  fits_code false = omega arith

pub counted_exact : {A : Type 0} {s : A → List ℕ} {F : A → Type 0} {r : Reading A} (limit : ℕ) → limit < 256 → IsExact s F r → IsExact (λ xs. one_byte (length xs) ++ flat_map s xs) (λ xs. (length xs ≤ limit) × AllByRecursion F xs) (counted_reading limit r)
counted_exact {A} {s} {F} {r} limit small law = record {
  takes = λ bytes x rest fits e.
      let a = bind_some (λ (n : ℕ × List ℕ). cond (leb n.0 limit) (repeated n.0 r n.1) None) (byte_reading bytes) (x, rest) e in
      let one = byte_exact.takes bytes a.0.0 a.0.1 fits a.1 in
      let g = chosen_some (leb a.0.0 limit) (repeated a.0.0 r a.0.1) (x, rest) a.2 in
      let two = (repeated_exact law a.0.0).takes a.0.1 x rest one.rest_bytes g.1 in
      record {
        parts = one.parts ∙ ap (λ (w : List ℕ). one_byte a.0.0 ++ w) two.parts ∙ sym (append_assoc (one_byte a.0.0) (flat_map s x) rest) ∙ ap (λ (n : ℕ). (one_byte n ++ flat_map s x) ++ rest) (sym two.fits.0);
        fits = (omega (arith, two.fits.0, leb-true a.0.0 limit g.0), two.fits.1);
        rest_bytes = two.rest_bytes;
      };
  again = λ x rest fits.
      rw (le-leb (length x) limit fits.0) ((repeated_exact law (length x)).again x rest (refl, fits.1));
  bytes = λ x fits. IsBytes-append (one_byte (length x)) (flat_map s x) (byte_exact.bytes (length x) (omega (arith, fits.0))) (IsBytes-flat_map s F law.bytes x fits.1);
}

pub and_both : (a b : Bool) → (a && b) ≡ true → (a ≡ true) × (b ≡ true)
and_both true b e = (refl, e)
and_both false b e = absurd cc

pub are_zeros : (bytes : List ℕ) → list_all (λ b. eqb b 0) bytes ≡ true → bytes ≡ replicate (length bytes) 0
are_zeros [] e = refl
are_zeros (b ∷ bytes) e =
    let g = and_both (eqb b 0) (list_all (λ b. eqb b 0) bytes) e in
    ap (λ (z : ℕ). z ∷ bytes) (eqb-true b 0 g.0) ∙ ap (λ (r : List ℕ). 0 ∷ r) (are_zeros bytes g.1)

pub zeros_are : (n : ℕ) → list_all (λ b. eqb b 0) (replicate n 0) ≡ true
zeros_are zero = refl
zeros_are (suc n) = zeros_are n

pub whole_takes : {A : Type 0} {s : A → List ℕ} {F : A → Type 0} {r : Reading A} → IsExact s F r → (bytes : List ℕ) (x : A) → length bytes ≡ 4096 → IsBytes bytes → whole_reading r bytes ≡ Some x → (bytes ≡ whole_block (s x)) × F x
unfolding whole_block
whole_takes {A} {s} {F} {r} law bytes x len fits e =
    let a = bind_some (λ (y : A × List ℕ). cond (list_all (λ b. eqb b 0) y.1) (Some y.0) None) (r bytes) x e in
    let one = law.takes bytes a.0.0 a.0.1 fits a.1 in
    let g = test_some (list_all (λ b. eqb b 0) a.0.1) a.0.0 x a.2 in
    let n : 4096 - length (s a.0.0) ≡ length a.0.1 = omega (arith, len, ap length one.parts, length-append (s a.0.0) a.0.1) in
    let all : bytes ≡ whole_block (s a.0.0) = rw n (one.parts ∙ ap (λ (z : List ℕ). s a.0.0 ++ z) (are_zeros a.0.1 g.0)) in
    subst (λ (y : A). (bytes ≡ whole_block (s y)) × F y) g.1 (all, one.fits)

pub whole_again : {A : Type 0} {s : A → List ℕ} {F : A → Type 0} {r : Reading A} → IsExact s F r → (x : A) → F x → whole_reading r (whole_block (s x)) ≡ Some x
unfolding whole_block
whole_again {A} {s} {F} {r} law x fits = rw (law.again x (replicate (4096 - length (s x)) 0) fits, zeros_are (4096 - length (s x))) refl

-- a block whose front was put and whose rest are zeros
pub block_is_filled : (before after : List ℕ) (at : ℕ) → length after ≡ 4096 → at ≤ 4096 → take 4096 after ≡ take at before ++ replicate (4096 - at) 0 → after ≡ whole_block (take at before)
unfolding whole_block
block_is_filled before after at len at_most put =
    let same : after ≡ take at before ++ replicate (4096 - at) 0 = sym (take_all 4096 after (omega arith)) ∙ put in
    let front : length (take at before) ≡ at = omega (arith, ap length same, length-append (take at before) (replicate (4096 - at) 0), length-replicate {A = ℕ} (4096 - at) 0) in
    rw front same

-- one field put behind another is both put in a row
pub then_puts : {a b c : Writer} {x y : List ℕ} → PutsField a b x → PutsField b c y → PutsField a c (x ++ y)
then_puts {a} {b} {c} {x} {y} first second = record {
  written = second.written ∙ ap (λ (w : List ℕ). w ++ y) first.written ∙ append_assoc (written_bytes a) x y;
  size = second.size;
  same_block = second.same_block ∙ first.same_block;
}
