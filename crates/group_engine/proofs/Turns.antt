-- Each turn that a commit takes costs a copy.
use Rattle.std.proofs.Common.{◌≡◌, ◌≢◌, ⊎_elim, ℕ, zero, suc, ◌+◌, ◌/◌, ◌^◌, ◌<◌, ◌≤◌, true, false, not, List, [], ◌∷◌, length, refl, sym, ap, ◌∙◌, Result, Ok, Err, arith}
use Rattle.std.proofs.Math.Nat.{pow-suc}
use Rattle.std.proofs.lemmas.Bool.{cases_Bool, cases_lt, cond-false, cond-true}
use Rattle.std.proofs.lemmas.Nat.{div_below, le-div}
use Rattle.bay.specs.State.{BayState}
use Rattle.asm_formats.specs.Among.{IsAmong}
use Rattle.asm_formats.specs.Sets.{has_bit}
use Rattle.asm_formats.specs.Status.{Status}
use Rattle.directory_store.specs.change_directory.declared.copy.DirCopy.{DirCopy}
use Rattle.directory_store.specs.Copies.{HasOnlyFailedCopies}
use Rattle.directory_store.specs.Stores.{others}
use Rattle.status_register.specs.Registered.{Registered}
use Rattle.status_register.specs.Writes.{after_write}
use Rattle.status_register.specs.declared.error.Dead.{Dead}

-- a set that isn't empty has a number
some_bit : (n set : ℕ) → set ≢ 0 → set < 2 ^ n → (k : ℕ) × (k < n) × (has_bit set k ≡ true)
unfolding has_bit
some_bit zero set some less = absurd (some (omega arith))
some_bit (suc n) set some less = ⊎_elim
    (λ (low : set < 2 ^ n). let k = some_bit n set some low in (k.0, omega (arith, k.1), k.2))
    (λ (high : 2 ^ n ≤ set).
    let more : 0 < 2 ^ n = omega (arith, less, pow-suc 2 n) in
    let one : 1 ≤ set / 2 ^ n = le-div 1 set (2 ^ n) more (omega (arith, high)) in
    let two : set / 2 ^ n < 2 = div_below set (2 ^ n) 2 more (omega (arith, less, pow-suc 2 n)) in
    let is : set / 2 ^ n ≡ 1 = omega (arith, one, two) in
    (n, omega arith, rw is refl))
    (cases_lt set (2 ^ n))

pub no_longer : (failed : ℕ) (copies : List DirCopy) → length (others failed copies) ≤ length copies
no_longer failed [] = omega arith
no_longer failed (c ∷ copies) = ⊎_elim
    (λ (stays : not (has_bit failed c.number) ≡ true). omega (arith, ap length (cond-true (not (has_bit failed c.number)) (c ∷ others failed copies) (others failed copies) stays), no_longer failed copies))
    (λ goes. omega (arith, ap length (cond-false (not (has_bit failed c.number)) (c ∷ others failed copies) (others failed copies) goes), no_longer failed copies))
    (cases_Bool (not (has_bit failed c.number)))

-- without a copy that failed they are fewer
shorter : (failed : ℕ) (copies : List DirCopy) (c : DirCopy) → IsAmong copies c → has_bit failed c.number ≡ true → length (others failed copies) + 1 ≤ length copies
shorter failed [] c among has = absurd among
shorter failed (x ∷ copies) c among has = ⊎_elim
    (λ (here : c ≡ x).
    let goes : not (has_bit failed x.number) ≡ false = ap (λ (d : DirCopy). not (has_bit failed d.number)) (sym here) ∙ ap not has in
    omega (arith, ap length (cond-false (not (has_bit failed x.number)) (x ∷ others failed copies) (others failed copies) goes), no_longer failed copies))
    (λ later. ⊎_elim
    (λ stays. omega (arith, ap length (cond-true (not (has_bit failed x.number)) (x ∷ others failed copies) (others failed copies) stays), shorter failed copies c later has))
    (λ goes. omega (arith, ap length (cond-false (not (has_bit failed x.number)) (x ∷ others failed copies) (others failed copies) goes), no_longer failed copies))
    (cases_Bool (not (has_bit failed x.number))))
    among

-- some copy failed
pub fewer_copies : (failed : ℕ) (copies : List DirCopy) (s t : BayState) → failed ≢ 0 → failed < 2 ^ 64 → HasOnlyFailedCopies copies failed s t → length (others failed copies) + 1 ≤ length copies
fewer_copies failed copies s t some small alone =
    let k = some_bit 64 failed some small in
    let c = alone k.0 k.1 k.2 in
    shorter failed copies c.0 c.1 (ap (has_bit failed) c.2 ∙ k.2)

-- a write takes a turn at most
pub one_turn : (old new : Registered) (next : Status) (answer : Result ℕ Dead) → new ≡ after_write old next answer → new.turn ≤ old.turn + 1
one_turn old new next (Ok failed) is = omega (arith, ap (λ (r : Registered). r.turn) is)
one_turn old new next (Err dead) is = omega (arith, ap (λ (r : Registered). r.turn) is)
