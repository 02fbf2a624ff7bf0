-- The tests of a version.
use Rattle.std.proofs.Common.{◌≡◌, ◌<◌, ◌≤◌, ℕ, Bool, true, false, List, [], ◌∷◌, length, take, drop, refl, sym, arith}
use Rattle.std.specs.Prelude.{◌&&◌, ◌==◌, codes}
use Rattle.std.specs.Str.{bytes_eq}
use Rattle.std.proofs.lemmas.Bool.{le-leb, lt-leb}
use Rattle.asm_world.specs.Settings.{is_version, is_version_rest}

and_true : (a : Bool) → (a && true) ≡ a
and_true true = refl
and_true false = refl

and_false : (a : Bool) → (a && false) ≡ false
and_false true = refl
and_false false = refl

pub short_enough : (bytes : List ℕ) → length bytes ≤ 30 → (bytes_eq (take 4 bytes) (codes "11.2") && is_version_rest 30 (drop 4 bytes)) ≡ is_version bytes
short_enough bytes le = rw (le-leb (length bytes) 30 le) (sym (and_true (bytes_eq (take 4 bytes) (codes "11.2") && is_version_rest 30 (drop 4 bytes))))

pub too_long : (bytes : List ℕ) → 30 < length bytes → false ≡ is_version bytes
too_long bytes more = rw (lt-leb (length bytes) 30 more) (sym (and_false (bytes_eq (take 4 bytes) (codes "11.2") && is_version_rest 30 (drop 4 bytes))))

-- a front of fewer than four bytes isn't `11.2`
pub too_short : (bytes : List ℕ) → length bytes < 4 → false ≡ is_version bytes
too_short [] less = refl
too_short (a ∷ []) less = rw (and_false (a == 49)) refl
too_short (a ∷ b ∷ []) less = rw (and_false (b == 49), and_false (a == 49)) refl
too_short (a ∷ b ∷ c ∷ []) less = rw (and_false (c == 46), and_false (b == 49), and_false (a == 49)) refl
too_short (a ∷ b ∷ c ∷ d ∷ bytes) less = absurd (omega arith)
