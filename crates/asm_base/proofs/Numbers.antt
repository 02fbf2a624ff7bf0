-- The bytes of a number are taken as that number, and no other bytes are.
use Rattle.std.proofs.Common.{◌≡◌, ℕ, zero, suc, ◌+◌, ◌*◌, ◌/◌, ◌^◌, ◌<◌, ◌≤◌, Bool, true, false, cond, ltb, List, [], ◌∷◌, ◌++◌, length, take, drop, Some, None, refl, sym, ap, subst, ◌∙◌, arith, inl, inr}
use Rattle.std.specs.Int.{Width, byte_len, byte_at, bytes_high_first}
use Rattle.std.proofs.lemmas.Bool.{cases_lt, ltb-false, le-ltb}
use Rattle.std.proofs.lemmas.List.{append-nil, drop_at, take-append-drop, length-append, length-take, get_or-drop, get_or-take, get_or_past}
use Rattle.std.proofs.lemmas.Nat.{same_from_place, mod_below}
use Rattle.byteorder.specs.Endian.{big_from}
use Rattle.byteorder.specs.Numbers.{big_from-cons, big_from-lt, big_from-take, big_number-reads_back, length-bytes_high_first}
use Rattle.asm_formats.specs.Bytes.{number_bytes}
use Rattle.asm_base.specs.Readings.{number_reading}
use Rattle.asm_base.proofs.Exact.{IsBytes, IsExact, Begins}

pub IsBytes-drop : (n : ℕ) (bytes : List ℕ) → IsBytes bytes → IsBytes (drop n bytes)
IsBytes-drop n bytes h i = rw get_or-drop (h (n + i))

pub IsBytes-take : (n : ℕ) (bytes : List ℕ) → IsBytes bytes → IsBytes (take n bytes)
IsBytes-take n bytes h i =
    elim (cases_lt i n) [
      | inl lt ↦ rw (get_or-take n bytes i 0 lt) (h i)
      | inr le ↦ rw (get_or_past (take n bytes) i 0 (omega (arith, length-take n bytes))) (omega arith)
    ]

byte_at-lt : (k x : ℕ) → byte_at k x < 256
byte_at-lt zero x = mod_below x 256 (omega arith)
byte_at-lt (suc k) x = mod_below (x / 256 ^ suc k) 256 (omega arith)

pub IsBytes-of_number : (n x : ℕ) → IsBytes (bytes_high_first n x)
IsBytes-of_number zero x i = omega arith
IsBytes-of_number (suc n) x zero = byte_at-lt n x
IsBytes-of_number (suc n) x (suc i) = IsBytes-of_number n x i

-- two lists of n bytes that have one number are one list
same_bytes : (n : ℕ) (xs ys : List ℕ) → length xs ≡ n → length ys ≡ n → IsBytes xs → IsBytes ys → big_from 0 n xs ≡ big_from 0 n ys → xs ≡ ys
same_bytes zero [] [] p q f g e = refl
same_bytes zero [] (y ∷ ys) p q f g e = absurd (omega arith)
same_bytes zero (x ∷ xs) ys p q f g e = absurd (omega arith)
same_bytes (suc n) [] ys p q f g e = absurd (omega arith)
same_bytes (suc n) (x ∷ xs) [] p q f g e = absurd (omega arith)
same_bytes (suc n) (x ∷ xs) (y ∷ ys) p q f g e =
    let rest_f : IsBytes xs = λ i. f (suc i) in
    let rest_g : IsBytes ys = λ i. g (suc i) in
    let high = same_from_place x (big_from 0 n xs) y (big_from 0 n ys) (256 ^ n) (big_from-lt 0 n xs rest_f) (big_from-lt 0 n ys rest_g) (ap (λ (r : ℕ). x * 256 ^ n + r) (sym (big_from-cons 0 n x xs)) ∙ e ∙ ap (λ (r : ℕ). y * 256 ^ n + r) (big_from-cons 0 n y ys)) in
    let low = same_bytes n xs ys (omega arith) (omega arith) rest_f rest_g high.1 in
    ap (λ (b : ℕ). b ∷ xs) high.0 ∙ ap (λ (bs : List ℕ). y ∷ bs) low

-- the number of n bytes is spelled as these bytes
pub written_again : (n : ℕ) (bytes : List ℕ) → n ≤ length bytes → IsBytes bytes → bytes_high_first n (big_from 0 n bytes) ≡ take n bytes
written_again n bytes long fits =
    let front : IsBytes (take n bytes) = IsBytes-take n bytes fits in
    let read : big_from 0 n (bytes_high_first n (big_from 0 n bytes)) ≡ big_from 0 n bytes =
    ap (λ (bs : List ℕ). big_from 0 n bs) (sym (append-nil (bytes_high_first n (big_from 0 n bytes)))) ∙ big_number-reads_back n (big_from 0 n bytes) [] (big_from-lt 0 n bytes fits) in
    same_bytes n (bytes_high_first n (big_from 0 n bytes)) (take n bytes) (length-bytes_high_first n (big_from 0 n bytes)) (omega (arith, length-take n bytes)) (IsBytes-of_number n (big_from 0 n bytes)) front (read ∙ sym (big_from-take 0 n n bytes (omega arith)))

pub length-number : (w : Width) (x : ℕ) → length (number_bytes w x) ≡ byte_len w
unfolding number_bytes
length-number w x = length-bytes_high_first (byte_len w) x

-- a test that failed
else_some : {A : Type 0} (b : Bool) (x y : A) → cond b None (Some x) ≡ Some y → (b ≡ false) × (x ≡ y)
else_some true x y e = absurd cc
else_some false x y e = (refl, cc)

pub number_exact : (w : Width) → IsExact (number_bytes w) (λ x. x < 256 ^ byte_len w) (number_reading w)
unfolding number_bytes number_reading
number_exact w = let n = byte_len w in record {
  takes = λ bytes x rest fits e.
      let g = else_some (ltb (length bytes) n) (big_from 0 n bytes, drop n bytes) (x, rest) e in
      let long : n ≤ length bytes = ltb-false _ _ g.0 in
      let whole : Begins (number_bytes w) (λ y. y < 256 ^ n) bytes (big_from 0 n bytes) (drop n bytes) = record {
        parts = rw (written_again n bytes long fits) (sym (take-append-drop n bytes));
        fits = big_from-lt 0 n bytes fits;
        rest_bytes = IsBytes-drop n bytes fits;
      } in
      subst (λ (p : ℕ × List ℕ). Begins (number_bytes w) (λ y. y < 256 ^ n) bytes p.0 p.1) g.1 whole;
  again = λ x rest fits.
      let len = length-bytes_high_first n x in
      let long : ltb (length (bytes_high_first n x ++ rest)) n ≡ false = le-ltb _ _ (omega (arith, length-append (bytes_high_first n x) rest)) in
      rw (long, big_number-reads_back n x rest fits, drop_at (bytes_high_first n x) rest n len) refl;
  bytes = λ x fits. IsBytes-of_number n x;
}
