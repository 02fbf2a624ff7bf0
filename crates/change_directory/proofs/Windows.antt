-- Parts of windows.
use Rattle.std.proofs.Common.{◌≡◌, ℕ, zero, suc, ◌+◌, ◌≤◌, List, ◌∷◌, ◌++◌, length, take, drop, refl, sym, ap, ◌∙◌, arith, length-append}
use Rattle.std.proofs.Math.Seq.{take-append_seam, drop-append_seam}
use Rattle.bay.specs.Image.{window}
use Rattle.bay.proofs.Images.{length-window}

pub window-append : (byte : ℕ → ℕ) (at n m : ℕ) → window byte at (n + m) ≡ window byte at n ++ window byte (at + n) m
unfolding window
window-append byte at zero m =
    let none : zero + m ≡ m = omega arith in
    let here : at ≡ at + zero = omega arith in
    ap (λ (k : ℕ). window byte at k) none ∙ ap (λ (a : ℕ). window byte a m) here
window-append byte at (suc n) m =
    let more : suc n + m ≡ suc (n + m) = omega arith in
    let next : suc at + n ≡ at + suc n = omega arith in
    ap (λ (k : ℕ). window byte at k) more
    ∙ ap (λ (l : List ℕ). byte at ∷ l) (window-append byte (suc at) n m ∙ ap (λ (a : ℕ). window byte (suc at) n ++ window byte a m) next)

same_parts : (xs ys zs ws : List ℕ) → length xs ≡ length zs → xs ++ ys ≡ zs ++ ws → (xs ≡ zs) × (ys ≡ ws)
same_parts xs ys zs ws long e = (
  sym (take-append_seam xs ys) ∙ ap (take (length xs)) e ∙ ap (λ (n : ℕ). take n (zs ++ ws)) long ∙ take-append_seam zs ws,
  sym (drop-append_seam xs ys) ∙ ap (drop (length xs)) e ∙ ap (λ (n : ℕ). drop n (zs ++ ws)) long ∙ drop-append_seam zs ws,
)

-- a window that is two lists, one behind the other
pub window-parts : (byte : ℕ → ℕ) (at : ℕ) (xs ys : List ℕ) → window byte at (length (xs ++ ys)) ≡ xs ++ ys
    → (window byte at (length xs) ≡ xs) × (window byte (at + length xs) (length ys) ≡ ys)
window-parts byte at xs ys here =
    same_parts (window byte at (length xs)) (window byte (at + length xs) (length ys)) xs ys (length-window byte at (length xs))
    (sym (window-append byte at (length xs) (length ys)) ∙ ap (λ (n : ℕ). window byte at n) (sym (length-append xs ys)) ∙ here)

-- a part of a window
pub window-part : (byte : ℕ → ℕ) (from at n size : ℕ) → at + n ≤ size → take n (drop at (window byte from size)) ≡ window byte (from + at) n
unfolding window
window-part byte from at zero size le = refl
window-part byte from zero (suc n) zero le = absurd (omega arith)
window-part byte from zero (suc n) (suc size) le =
    let start : from ≡ from + 0 = omega arith in
    let rest : suc from + 0 ≡ suc (from + 0) = omega arith in
    λ i. byte (start i) ∷ (window-part byte (suc from) 0 n size (omega arith) ∙ ap (λ (k : ℕ). window byte k n) rest) i
window-part byte from (suc at) (suc n) zero le = absurd (omega arith)
window-part byte from (suc at) (suc n) (suc size) le =
    let start : suc from + at ≡ from + suc at = omega arith in
    window-part byte (suc from) at (suc n) size (omega arith) ∙ ap (λ (k : ℕ). window byte k (suc n)) start
