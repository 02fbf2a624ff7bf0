-- Runs of equal bytes, and their lines.
use Rattle.std.proofs.Common.{◌≡◌, ℕ, zero, suc, ◌+◌, ◌≤◌, ◌&&◌, Bool, true, false, inl, inr, List, [], ◌∷◌, ◌++◌, length, drop, replicate, refl, sym, ap, subst, ◌∙◌, add-one, arith, append_assoc, Option, Some, None}
use Rattle.std.specs.Prelude.{◌==◌}
use Rattle.std.proofs.lemmas.Bool.{eq-eqb, eqb-true}
use Rattle.std.proofs.lemmas.List.{length-append, length-replicate}
use Rattle.asm_grammar.proofs.Tests.{is_true_or_false}
use Rattle.asm_group.specs.Names.{Bytes}
use Rattle.asm_world.specs.Text.{runs_of, with_byte, run_lines, read_lines}
use Rattle.asmcmd.specs.Runs.{equal_front, first_run, run_line}

drop_more : (n c : ℕ) (bytes : Bytes) → drop (n + 1) (c ∷ bytes) ≡ drop n bytes
drop_more n c bytes = rw add-one refl

runs_from_front : (b : ℕ) (bytes : Bytes) → runs_of (b ∷ bytes) ≡ (b, equal_front b bytes + 1) ∷ runs_of (drop (equal_front b bytes) bytes)
runs_from_front b [] = refl
runs_from_front b (c ∷ bytes) = elim (is_true_or_false (b == c)) [
  | inl h ↦
      let q : b ≡ c = eqb-true b c h in
      let i : runs_of (c ∷ bytes) ≡ (c, equal_front b bytes + 1) ∷ runs_of (drop (equal_front b bytes) bytes) =
      subst (λ z. runs_of (c ∷ bytes) ≡ (c, equal_front z bytes + 1) ∷ runs_of (drop (equal_front z bytes) bytes)) (sym q) (runs_from_front c bytes) in
      rw (i, h, drop_more (equal_front b bytes) c bytes) (ap (λ z. (z, equal_front b bytes + 1 + 1) ∷ runs_of (drop (equal_front b bytes) bytes)) (sym q))
  | inr h ↦ rw (runs_from_front c bytes, h) (ap (λ z. (b, 1) ∷ z) (sym (runs_from_front c bytes)))
]

pub no_run : (rest : Bytes) → first_run rest ≡ None → rest ≡ []
no_run [] e = refl
no_run (b ∷ bytes) e = cc

-- ---- runs as equal bytes

-- as many equal bytes as stand at the front, and those behind them
front_and_rest : (b : ℕ) (bytes : Bytes) → replicate (equal_front b bytes) b ++ drop (equal_front b bytes) bytes ≡ bytes
front_and_rest b [] = refl
front_and_rest b (c ∷ bytes) = elim (is_true_or_false (b == c)) [
  | inl h ↦
      let q : b ≡ c = eqb-true b c h in
      rw (h, add-one) (ap (λ (x : ℕ). x ∷ (replicate (equal_front b bytes) b ++ drop (equal_front b bytes) bytes)) q ∙ ap (λ (xs : Bytes). c ∷ xs) (front_and_rest b bytes))
  | inr h ↦ rw h refl
]

three : {A B C : Type 0} (a x : A) (b y : B) (c z : C) → ◌≡◌ {A = Option (A × B × C)} (Some (a, b, c)) (Some (x, y, z)) → (a ≡ x) × (b ≡ y) × (c ≡ z)
three {A} {B} {C} a x b y c z e =
    let k : ◌≡◌ {A = A × B × C} (a, b, c) (x, y, z) = some_pair_is e in (ap (λ (t : A × B × C). t.0) k, ap (λ (t : A × B × C). t.1) k, ap (λ (t : A × B × C). t.2) k) where
      some_pair_is : {X : Type 0} {p q : X} → Some p ≡ Some q → p ≡ q
      some_pair_is e = cc

-- the first run is so many equal bytes, one at least
pub first_is : (rest : Bytes) (b n : ℕ) (behind : Bytes) → first_run rest ≡ Some (b, n, behind) → (rest ≡ replicate n b ++ behind) × (1 ≤ n)
first_is [] b n behind e = absurd cc
first_is (a ∷ bytes) b n behind e =
    let t = three a b (equal_front a bytes + 1) n (drop (equal_front a bytes) bytes) behind e in
    let all : a ∷ bytes ≡ replicate (equal_front a bytes + 1) a ++ drop (equal_front a bytes) bytes = rw add-one (ap (λ (xs : Bytes). a ∷ xs) (sym (front_and_rest a bytes))) in
    (rw (← t.0, ← t.1, ← t.2) all, omega (arith, t.1))

pub run_size : (rest : Bytes) (b n : ℕ) (behind : Bytes) → first_run rest ≡ Some (b, n, behind) → length rest ≡ n + length behind
run_size rest b n behind e =
    ap length (first_is rest b n behind e).0 ∙ (length-append (replicate n b) behind ∙ ap (λ (k : ℕ). k + length behind) (length-replicate n b))

front_of : (k b : ℕ) (more : Bytes) → equal_front b more ≡ 0 → equal_front b (replicate k b ++ more) ≡ k
front_of zero b more none = none
front_of (suc k) b more none = rw (eq-eqb b b refl, front_of k b more none, add-one) refl

drop_front : (k b : ℕ) (more : Bytes) → drop k (replicate k b ++ more) ≡ more
drop_front zero b more = refl
drop_front (suc k) b more = drop_front k b more

-- the lines of a run and of what is behind it, which begins with another byte
pub run_ends : (at n b : ℕ) (more : Bytes) → 1 ≤ n → equal_front b more ≡ 0 → read_lines at (replicate n b ++ more) ≡ run_line at b n ∷ read_lines (at + n) more
run_ends at zero b more some none = absurd (omega (arith, some))
run_ends at (suc k) b more some none =
    let front : equal_front b (replicate k b ++ more) ≡ k = front_of k b more none in
    let rest : drop (equal_front b (replicate k b ++ more)) (replicate k b ++ more) ≡ more = rw front (drop_front k b more) in
    let runs : runs_of (replicate (suc k) b ++ more) ≡ (b, suc k) ∷ runs_of more = runs_from_front b (replicate k b ++ more) ∙ rw (rest, front, add-one) refl in
    ap (λ (rs : List (ℕ × ℕ)). run_lines at rs) runs
