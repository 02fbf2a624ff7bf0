-- A check passes over just what a reading takes.
use Rattle.std.proofs.Common.{◌≡◌, ℕ, zero, suc, ◌+◌, ◌-◌, ◌<◌, ◌≤◌, Bool, true, false, cond, eqb, List, ◌∷◌, length, Option, Some, None, refl, sym, ap, ◌∙◌, arith}
use Rattle.std.specs.Option.{is_some, option_and_then, option_map}
use Rattle.asm_base.specs.asm_formats.Items.{Item, Key}
use Rattle.asm_base.specs.asm_formats.Values.{decoded_item}
use Rattle.asm_base.specs.Readings.{Reading, both, as_a, repeated}
use Rattle.asm_base.specs.Records.{all_of}
use Rattle.asm_base.proofs.Exact.{IsBytes}
use Rattle.asm_base.proofs.Tables.{bytes_are}
use Rattle.directory_page.specs.Checks.{Check, check_of, checks_in_turn, times, is_all}

-- the check gives what the reading leaves
pub record Passing {A : Type 0} (check : Check) (reading : Reading A) : Type 0 where
  pub same : (bytes : List ℕ) → check bytes ≡ check_of reading bytes

pub read_passes : {A : Type 0} (r : Reading A) → Passing (check_of r) r
read_passes r = record { same = λ bytes. refl }

pub both_pass : {A B : Type 0} {c d : Check} {r : Reading A} {q : Reading B} → Passing c r → Passing d q → Passing (checks_in_turn c d) (both r q)
both_pass {A} {B} {c} {d} {r} {q} first second = record { same = λ bytes. ap (λ (o : Option (List ℕ)). option_and_then d o) (first.same bytes) ∙ go (r bytes) } where
  inner : (x : A) (o : Option (B × List ℕ)) → option_map (λ (y : B × List ℕ). y.1) o ≡ option_map (λ (y : (A × B) × List ℕ). y.1) (option_and_then (λ (y : B × List ℕ). Some ((x, y.0), y.1)) o)
  inner x None = refl
  inner x (Some y) = refl

  go : (o : Option (A × List ℕ)) → option_and_then d (option_map (λ (x : A × List ℕ). x.1) o) ≡ option_map (λ (y : (A × B) × List ℕ). y.1) (option_and_then (λ (x : A × List ℕ). option_and_then (λ (y : B × List ℕ). Some ((x.0, y.0), y.1)) (q x.1)) o)
  go None = refl
  go (Some x) = second.same x.1 ∙ inner x.0 (q x.1)

pub as_passes : {A B : Type 0} {c : Check} {r : Reading A} (made : A → B) → Passing c r → Passing c (as_a made r)
as_passes {A} {B} {c} {r} made law = record { same = λ bytes. law.same bytes ∙ go (r bytes) } where
  go : (o : Option (A × List ℕ)) → option_map (λ (x : A × List ℕ). x.1) o ≡ option_map (λ (x : B × List ℕ). x.1) (option_and_then (λ (x : A × List ℕ). Some (made x.0, x.1)) o)
  go None = refl
  go (Some x) = refl

times_same : {A : Type 0} (c : Check) (r : Reading A) → Passing c r → (n : ℕ) (bytes : List ℕ) → times n c bytes ≡ check_of (repeated n r) bytes
unfolding times repeated
times_same c r law zero bytes = refl
times_same {A} c r law (suc n) bytes = ap (λ (o : Option (List ℕ)). option_and_then (times n c) o) (law.same bytes) ∙ go (times_same c r law n) (r bytes) where
  inner : (x : A) (o : Option (List A × List ℕ)) → option_map (λ (y : List A × List ℕ). y.1) o ≡ option_map (λ (y : List A × List ℕ). y.1) (option_and_then (λ (xs : List A × List ℕ). Some (x ∷ xs.0, xs.1)) o)
  inner x None = refl
  inner x (Some y) = refl

  go : ((rest : List ℕ) → times n c rest ≡ check_of (repeated n r) rest) → (o : Option (A × List ℕ))
      → option_and_then (times n c) (option_map (λ (x : A × List ℕ). x.1) o) ≡ option_map (λ (y : List A × List ℕ). y.1) (option_and_then (λ (x : A × List ℕ). option_and_then (λ (xs : List A × List ℕ). Some (x.0 ∷ xs.0, xs.1)) (repeated n r x.1)) o)
  go others None = refl
  go others (Some x) = others x.1 ∙ inner x.0 (repeated n r x.1)

pub times_pass : {A : Type 0} {c : Check} {r : Reading A} (n : ℕ) → Passing c r → Passing (times n c) (repeated n r)
times_pass {A} {c} {r} n law = record { same = times_same c r law n }

-- ---- all the bytes

pub all_passes : {A : Type 0} {c : Check} {r : Reading A} → Passing c r → (bytes : List ℕ) → IsBytes bytes → is_all (c bytes) ≡ is_some (all_of r bytes)
unfolding all_of
all_passes {A} {c} {r} law bytes are = ap is_all (law.same bytes) ∙ rw (bytes_are bytes are) (go (r bytes)) where
  end : (x : A) (b : Bool) → b ≡ is_some (cond b (Some x) None)
  end x true = refl
  end x false = refl

  go : (o : Option (A × List ℕ)) → is_all (option_map (λ (x : A × List ℕ). x.1) o) ≡ is_some (option_and_then (λ (x : A × List ℕ). cond (eqb (length x.1) 0) (Some x.0) None) o)
  go None = refl
  go (Some x) = end x.0 (eqb (length x.1) 0)

-- Where the reading's value is what is decoded, the check passes just where something is.
pub passes_decoded : {A : Type 0} {c : Check} {r : Reading A} → Passing c r → (make : A → Item) (k : Key) (bytes : List ℕ) → option_map make (all_of r bytes) ≡ decoded_item k bytes
    → IsBytes bytes → is_all (c bytes) ≡ is_some (decoded_item k bytes)
passes_decoded {A} {c} {r} law make k bytes decoded are = all_passes law bytes are ∙ kept (all_of r bytes) ∙ ap is_some decoded where
  kept : (o : Option A) → is_some o ≡ is_some (option_map make o)
  kept None = refl
  kept (Some x) = refl

-- ---- a loop over one check

pub times_more : (c : Check) (count i : ℕ) (bytes after : List ℕ) (total : Option (List ℕ)) → i < count → c bytes ≡ Some after → times (count - i) c bytes ≡ total → times (count - (i + 1)) c after ≡ total
unfolding times
times_more c count i bytes after total lt passes so_far =
    let k : count - i ≡ suc (count - (i + 1)) = omega arith in
    let one : times (count - i) c bytes ≡ times (count - (i + 1)) c after = rw (k, passes) refl in
    sym one ∙ so_far

pub times_fails : (c : Check) (count i : ℕ) (bytes : List ℕ) (total : Option (List ℕ)) → i < count → c bytes ≡ None → times (count - i) c bytes ≡ total → total ≡ None
unfolding times
times_fails c count i bytes total lt fails so_far =
    let k : count - i ≡ suc (count - (i + 1)) = omega arith in
    let one : times (count - i) c bytes ≡ None = rw (k, fails) refl in
    sym so_far ∙ one

pub times_done : (c : Check) (count i : ℕ) (bytes : List ℕ) (total : Option (List ℕ)) → count ≤ i → times (count - i) c bytes ≡ total → total ≡ Some bytes
unfolding times
times_done c count i bytes total le so_far =
    let k : count - i ≡ 0 = omega arith in
    let one : times (count - i) c bytes ≡ Some bytes = rw k refl in
    sym so_far ∙ one

pub times_start : (c : Check) (count : ℕ) (bytes : List ℕ) → times (count - 0) c bytes ≡ times count c bytes
times_start c count bytes = let k : count - 0 ≡ count = omega arith in rw k refl
