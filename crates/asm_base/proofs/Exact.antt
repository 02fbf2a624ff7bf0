-- A reading takes exactly the spellings of the values that fit: the laws of each field, and how those of a
-- record follow from those of its fields.
use Rattle.std.proofs.Common.{◌≡◌, ℕ, zero, suc, ◌<◌, Bool, true, false, cond, List, [], ◌∷◌, ◌++◌, length, get_or, Option, Some, None, refl, sym, ap, subst, ◌∙◌, append_assoc, arith, inl, inr, ◌⊎◌}
use Rattle.std.specs.Option.{option_and_then, option_map}
use Rattle.std.specs.List.{flat_map, AllByRecursion}
use Rattle.asm_base.specs.Readings.{Reading, both, as_a, tested, decoded, repeated}

-- a list of bytes
abbrev pub IsBytes : List ℕ → Type 0
IsBytes bytes = (i : ℕ) → get_or bytes i 0 < 256

-- the bytes begin with the spelling of x, which fits
pub record Begins {A : Type 0} (spelling : A → List ℕ) (Fits : A → Type 0) (bytes : List ℕ) (x : A) (rest : List ℕ) : Type 0 where
  pub parts : bytes ≡ spelling x ++ rest
  pub fits : Fits x
  pub rest_bytes : IsBytes rest

-- what is read stood there spelled, and what stands there spelled is read
pub record IsExact {A : Type 0} (spelling : A → List ℕ) (Fits : A → Type 0) (reading : Reading A) : Type 0 where
  pub takes : (bytes : List ℕ) (x : A) (rest : List ℕ) → IsBytes bytes → reading bytes ≡ Some (x, rest) → Begins spelling Fits bytes x rest
  pub again : (x : A) (rest : List ℕ) → Fits x → reading (spelling x ++ rest) ≡ Some (x, rest)
  pub bytes : (x : A) → Fits x → IsBytes (spelling x)

pub IsBytes-append : (xs ys : List ℕ) → IsBytes xs → IsBytes ys → IsBytes (xs ++ ys)
IsBytes-append [] ys p q i = q i
IsBytes-append (x ∷ xs) ys p q zero = p zero
IsBytes-append (x ∷ xs) ys p q (suc i) = IsBytes-append xs ys (λ j. p (suc j)) q i

pub IsBytes-none : IsBytes []
IsBytes-none i = omega arith

pub IsBytes-flat_map : {A : Type 0} (s : A → List ℕ) (F : A → Type 0) → ((x : A) → F x → IsBytes (s x)) → (xs : List A) → AllByRecursion F xs → IsBytes (flat_map s xs)
IsBytes-flat_map s F bytes [] fits = IsBytes-none
IsBytes-flat_map s F bytes (x ∷ xs) fits = IsBytes-append (s x) (flat_map s xs) (bytes x fits.0) (IsBytes-flat_map s F bytes xs fits.1)

-- the value of a step that gave one
pub bind_some : {A B : Type 0} (f : A → Option B) (o : Option A) (y : B) → option_and_then f o ≡ Some y → (x : A) × (o ≡ Some x) × (f x ≡ Some y)
bind_some f (Some x) y e = (x, refl, e)
bind_some f None y e = absurd cc

-- the value of a test that passed
pub test_some : {A : Type 0} (b : Bool) (x y : A) → cond b (Some x) None ≡ Some y → (b ≡ true) × (x ≡ y)
test_some true x y e = (refl, cc)
test_some false x y e = absurd cc

pub chosen : {X : Type 0} (b : Bool) (x y z : X) → cond b x y ≡ z → ((b ≡ true) × (x ≡ z)) ⊎ ((b ≡ false) × (y ≡ z))
chosen true x y z e = inl (refl, e)
chosen false x y z e = inr (refl, e)

abbrev given : {A : Type 0} → A → Option A
given x = Some x

pub some_is : {A : Type 0} (x y : A) → given x ≡ given y → x ≡ y
some_is x y e = cc

pub both_exact : {A B : Type 0} {s : A → List ℕ} {F : A → Type 0} {r : Reading A} {t : B → List ℕ} {G : B → Type 0} {q : Reading B} → IsExact s F r → IsExact t G q → IsExact (λ (p : A × B). s p.0 ++ t p.1) (λ p. F p.0 × G p.1) (both r q)
both_exact {A} {B} {s} {F} {r} {t} {G} {q} first second = record {
  takes = λ bytes x rest fits e.
      let a = bind_some (λ (u : A × List ℕ). option_and_then (λ (v : B × List ℕ). Some ((u.0, v.0), v.1)) (q u.1)) (r bytes) (x, rest) e in
      let b = bind_some (λ (v : B × List ℕ). Some ((a.0.0, v.0), v.1)) (q a.0.1) (x, rest) a.2 in
      let one = first.takes bytes a.0.0 a.0.1 fits a.1 in
      let two = second.takes a.0.1 b.0.0 b.0.1 one.rest_bytes b.1 in
      let same = some_is ((a.0.0, b.0.0), b.0.1) (x, rest) b.2 in
      let whole : Begins (λ (p : A × B). s p.0 ++ t p.1) (λ p. F p.0 × G p.1) bytes (a.0.0, b.0.0) b.0.1 = record {
        parts = one.parts ∙ ap (λ (w : List ℕ). s a.0.0 ++ w) two.parts ∙ sym (append_assoc (s a.0.0) (t b.0.0) b.0.1);
        fits = (one.fits, two.fits);
        rest_bytes = two.rest_bytes;
      } in
      subst (λ (p : (A × B) × List ℕ). Begins (λ (p : A × B). s p.0 ++ t p.1) (λ p. F p.0 × G p.1) bytes p.0 p.1) same whole;
  again = λ x rest fits.
      rw (append_assoc (s x.0) (t x.1) rest, first.again x.0 (t x.1 ++ rest) fits.0, second.again x.1 rest fits.1) refl;
  bytes = λ x fits. IsBytes-append (s x.0) (t x.1) (first.bytes x.0 fits.0) (second.bytes x.1 fits.1);
}

-- a value that is another in another form
pub as_exact : {A B : Type 0} {s : A → List ℕ} {F : A → Type 0} {r : Reading A} (made : A → B) (parts : B → A) → ((a : A) → parts (made a) ≡ a) → ((b : B) → made (parts b) ≡ b) → IsExact s F r → IsExact (λ b. s (parts b)) (λ b. F (parts b)) (as_a made r)
as_exact {A} {B} {s} {F} {r} made parts back there law = record {
  takes = λ bytes x rest fits e.
      let a = bind_some (λ (u : A × List ℕ). Some (made u.0, u.1)) (r bytes) (x, rest) e in
      let one = law.takes bytes a.0.0 a.0.1 fits a.1 in
      let same = some_is (made a.0.0, a.0.1) (x, rest) a.2 in
      let whole : Begins (λ (b : B). s (parts b)) (λ b. F (parts b)) bytes (made a.0.0) a.0.1 = record {
        parts = rw (back a.0.0) one.parts;
        fits = rw (back a.0.0) one.fits;
        rest_bytes = one.rest_bytes;
      } in
      subst (λ (p : B × List ℕ). Begins (λ (b : B). s (parts b)) (λ b. F (parts b)) bytes p.0 p.1) same whole;
  again = λ x rest fits. rw (law.again (parts x) rest fits, there x) refl;
  bytes = λ x fits. law.bytes (parts x) fits;
}

pub tested_exact : {A : Type 0} {s : A → List ℕ} {F : A → Type 0} {r : Reading A} (test : A → Bool) → IsExact s F r → IsExact s (λ x. F x × (test x ≡ true)) (tested test r)
tested_exact {A} {s} {F} {r} test law = record {
  takes = λ bytes x rest fits e.
      let a = bind_some (λ (u : A × List ℕ). cond (test u.0) (Some u) None) (r bytes) (x, rest) e in
      let one = law.takes bytes a.0.0 a.0.1 fits a.1 in
      let g = test_some (test a.0.0) a.0 (x, rest) a.2 in
      let whole : Begins s (λ x. F x × (test x ≡ true)) bytes a.0.0 a.0.1 = record { parts = one.parts; fits = (one.fits, g.0); rest_bytes = one.rest_bytes } in
      subst (λ (p : A × List ℕ). Begins s (λ x. F x × (test x ≡ true)) bytes p.0 p.1) g.1 whole;
  again = λ x rest fits. rw (law.again x rest fits.0, fits.1) refl;
  bytes = λ x fits. law.bytes x fits.0;
}

-- the number that stands for y is read as y, and no other number is
pub decoded_exact : {A B : Type 0} {s : A → List ℕ} {F : A → Type 0} {r : Reading A} (meaning : A → Option B) (code : B → A) → ((b : B) → meaning (code b) ≡ Some b) → ((a : A) (b : B) → meaning a ≡ Some b → a ≡ code b) → ((b : B) → F (code b)) → IsExact s F r → IsExact (λ b. s (code b)) (λ b. Unit {0}) (decoded meaning r)
decoded_exact {A} {B} {s} {F} {r} meaning code known one_code fits_code law = record {
  takes = λ bytes x rest fits e.
      let a = bind_some (λ (u : A × List ℕ). option_map (λ (y : B). (y, u.1)) (meaning u.0)) (r bytes) (x, rest) e in
      let one = law.takes bytes a.0.0 a.0.1 fits a.1 in
      let m = map_some (λ (y : B). (y, a.0.1)) (meaning a.0.0) (x, rest) a.2 in
      let is : a.0.0 ≡ code m.0 = one_code a.0.0 m.0 m.1 in
      let whole : Begins (λ (b : B). s (code b)) (λ b. Unit {0}) bytes m.0 a.0.1 = record { parts = rw (← is) one.parts; fits = tt; rest_bytes = one.rest_bytes } in
      subst (λ (p : B × List ℕ). Begins (λ (b : B). s (code b)) (λ b. Unit {0}) bytes p.0 p.1) m.2 whole;
  again = λ x rest fits. rw (law.again (code x) rest (fits_code x), known x) refl;
  bytes = λ x fits. law.bytes (code x) (fits_code x);
} where
  map_some : {X Y : Type 0} (f : X → Y) (o : Option X) (y : Y) → option_map f o ≡ Some y → (x : X) × (o ≡ Some x) × (f x ≡ y)
  map_some f (Some x) y e = (x, refl, cc)
  map_some f None y e = absurd cc

-- n values that fit
abbrev pub AreFitting : {A : Type 0} → (A → Type 0) → ℕ → List A → Type 0
AreFitting F n xs = (length xs ≡ n) × AllByRecursion F xs

repeated_takes : {A : Type 0} (s : A → List ℕ) (F : A → Type 0) (r : Reading A) → IsExact s F r → (n : ℕ) (bytes : List ℕ) (x : List A) (rest : List ℕ) → IsBytes bytes → repeated n r bytes ≡ Some (x, rest) → Begins (flat_map s) (AreFitting F n) bytes x rest
unfolding repeated
repeated_takes {A} s F r law zero bytes x rest fits e =
    let start : Begins (flat_map s) (AreFitting F 0) bytes [] bytes = record { parts = refl; fits = (refl, tt); rest_bytes = fits } in
    subst (λ (p : List A × List ℕ). Begins (flat_map s) (AreFitting F 0) bytes p.0 p.1) (some_is ([], bytes) (x, rest) e) start
repeated_takes {A} s F r law (suc n) bytes x rest fits e =
    let a = bind_some (λ (u : A × List ℕ). option_and_then (λ (v : List A × List ℕ). Some (u.0 ∷ v.0, v.1)) (repeated n r u.1)) (r bytes) (x, rest) e in
    let b = bind_some (λ (v : List A × List ℕ). Some (a.0.0 ∷ v.0, v.1)) (repeated n r a.0.1) (x, rest) a.2 in
    let one = law.takes bytes a.0.0 a.0.1 fits a.1 in
    let two = repeated_takes s F r law n a.0.1 b.0.0 b.0.1 one.rest_bytes b.1 in
    let whole : Begins (flat_map s) (AreFitting F (suc n)) bytes (a.0.0 ∷ b.0.0) b.0.1 = record {
      parts = one.parts ∙ ap (λ (w : List ℕ). s a.0.0 ++ w) two.parts ∙ sym (append_assoc (s a.0.0) (flat_map s b.0.0) b.0.1);
      fits = (ap suc two.fits.0, (one.fits, two.fits.1));
      rest_bytes = two.rest_bytes;
    } in
    subst (λ (p : List A × List ℕ). Begins (flat_map s) (AreFitting F (suc n)) bytes p.0 p.1) (some_is (a.0.0 ∷ b.0.0, b.0.1) (x, rest) b.2) whole

repeated_again : {A : Type 0} (s : A → List ℕ) (F : A → Type 0) (r : Reading A) → IsExact s F r → (n : ℕ) (xs : List A) (rest : List ℕ) → AreFitting F n xs → repeated n r (flat_map s xs ++ rest) ≡ Some (xs, rest)
unfolding repeated
repeated_again s F r law zero [] rest fits = refl
repeated_again s F r law zero (x ∷ xs) rest fits = absurd (omega (arith, fits.0))
repeated_again s F r law (suc n) [] rest fits = absurd (omega (arith, fits.0))
repeated_again s F r law (suc n) (x ∷ xs) rest fits =
    rw (append_assoc (s x) (flat_map s xs) rest, law.again x (flat_map s xs ++ rest) fits.1.0, repeated_again s F r law n xs rest (omega (arith, fits.0), fits.1.1)) refl

pub repeated_exact : {A : Type 0} {s : A → List ℕ} {F : A → Type 0} {r : Reading A} → IsExact s F r → (n : ℕ) → IsExact (flat_map s) (AreFitting F n) (repeated n r)
repeated_exact {A} {s} {F} {r} law n = record { takes = repeated_takes s F r law n; again = repeated_again s F r law n; bytes = λ xs fits. IsBytes-flat_map s F law.bytes xs fits.1 }

-- the same values fit, said in other words
pub fits_exact : {A : Type 0} {s : A → List ℕ} {F G : A → Type 0} {r : Reading A} → ((x : A) → F x → G x) → ((x : A) → G x → F x) → IsExact s F r → IsExact s G r
fits_exact there back law = record {
  takes = λ bytes x rest fits e.
      let b = law.takes bytes x rest fits e in
      record { parts = b.parts; fits = there x b.fits; rest_bytes = b.rest_bytes };
  again = λ x rest fits. law.again x rest (back x fits);
  bytes = λ x fits. law.bytes x (back x fits);
}
