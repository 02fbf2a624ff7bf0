-- Tables that keep the rules leave a number free: they have fewer files than there are numbers.
use Rattle.std.proofs.Common.{◌≡◌, ◌⊎◌, ℕ, zero, suc, ◌+◌, ◌<◌, ◌≤◌, ◌^◌, Bool, true, false, List, [], ◌∷◌, ◌++◌, length, map, Option, Some, None, refl, sym, ap, ◌∙◌, arith, inl, inr}
use Rattle.std.specs.Prelude.{◌&&◌, ◌||◌, is_some, nat_le}
use Rattle.std.specs.List.{range_with_len}
use Rattle.std.proofs.lemmas.Bool.{and_parts, eqb-true, leb-true}
use Rattle.asm_group.specs.Shape.{Shape, is_dir_blocks, is_sector, is_shape, is_step, is_unit_size}
use Rattle.asm_formats.specs.Among.{IsAmong}
use Rattle.asm_formats.specs.Items.{FileHead, Pending}
use Rattle.asm_formats.proofs.Among.{among_map}
use Rattle.asm_placement.specs.Naming.{is_pending}
use Rattle.catalog_laws.specs.file_directory.Files as heads
use Rattle.catalog_laws.specs.file_directory.Files.{head_at, is_file_number}
use Rattle.catalog_laws.specs.catalog.Numbers.{is_taken}
use Rattle.catalog_laws.specs.catalog_tables.Rules.{KeepsRules}
use Rattle.catalog_laws.specs.catalog_tables.Tables.{Tables}
use Rattle.group_of.proofs.Counts.{AllApart, no_longer}
use Rattle.group_of.proofs.HeadedFiles.{head_among}

-- a number is neither a file's nor the pending operation's
pub record HasFreeNumber (t : Tables) : Type 0 where
  pub number : ℕ
  pub at_least : 256 ≤ number
  pub few : number < 2 ^ 32
  pub free : is_taken t number ≡ false

pending_number : Option Pending → List ℕ
pending_number None = []
pending_number (Some op) = op.file ∷ []

-- those that are taken
taken_numbers : Tables → List ℕ
taken_numbers t = map (λ (x : heads.NumberedFile). x.0) t.files ++ pending_number t.operations.pending

one_pending : (o : Option Pending) → length (pending_number o) ≤ 1
unfolding pending_number
one_pending None = omega arith
one_pending (Some op) = omega arith

-- at most one more than there are files
few_taken : (t : Tables) → length (taken_numbers t) ≤ length t.files + 1
unfolding taken_numbers
few_taken t = by t.files t.operations.pending where
  by : (files : List heads.NumberedFile) (o : Option Pending) → length (map (λ (x : heads.NumberedFile). x.0) files ++ pending_number o) ≤ length files + 1
  by [] o = omega (arith, one_pending o)
  by (x ∷ files) o = omega (arith, by files o)

left_in : (xs ys : List ℕ) (k : ℕ) → IsAmong xs k → IsAmong (xs ++ ys) k
left_in [] ys k h = absurd h
left_in (x ∷ xs) ys k (inl e) = inl e
left_in (x ∷ xs) ys k (inr h) = inr (left_in xs ys k h)

right_in : (xs ys : List ℕ) (k : ℕ) → IsAmong ys k → IsAmong (xs ++ ys) k
right_in [] ys k h = h
right_in (x ∷ xs) ys k h = inr (right_in xs ys k h)

file_in : (files : List heads.NumberedFile) (k : ℕ) → is_file_number files k ≡ true → IsAmong (map (λ (x : heads.NumberedFile). x.0) files) k
file_in files k e = by (head_at files k) refl e where
  by : (o : Option FileHead) → head_at files k ≡ o → is_some o ≡ true → IsAmong (map (λ (x : heads.NumberedFile). x.0) files) k
  by None at some = absurd cc
  by (Some head) at some = among_map (λ (x : heads.NumberedFile). x.0) files (k, head) (head_among files k head at)

operation_in : (o : Option Pending) (k : ℕ) → is_pending k o ≡ true → IsAmong (pending_number o) k
unfolding pending_number
operation_in None k e = absurd cc
operation_in (Some op) k e = inl (sym (eqb-true op.file k e))

taken_in : (t : Tables) (k : ℕ) → is_taken t k ≡ true → IsAmong (taken_numbers t) k
unfolding taken_numbers
taken_in t k e = by (is_file_number t.files k) refl e where
  by : (b : Bool) → is_file_number t.files k ≡ b → (b || is_pending k t.operations.pending) ≡ true → IsAmong (map (λ (x : heads.NumberedFile). x.0) t.files ++ pending_number t.operations.pending) k
  by true is e = left_in (map (λ (x : heads.NumberedFile). x.0) t.files) (pending_number t.operations.pending) k (file_in t.files k is)
  by false is e = right_in (map (λ (x : heads.NumberedFile). x.0) t.files) (pending_number t.operations.pending) k (operation_in t.operations.pending k e)

-- ---- numbers from one on

from_on : (a n k : ℕ) → IsAmong (range_with_len a n) k → a ≤ k
from_on a zero k h = absurd h
from_on a (suc n) k (inl e) = omega (arith, e)
from_on a (suc n) k (inr h) = omega (arith, from_on (a + 1) n k h)

range_apart : (a n : ℕ) → AllApart (range_with_len a n)
unfolding AllApart
range_apart a zero = tt
range_apart a (suc n) = (λ h. absurd (omega (arith, from_on (a + 1) n a h)), range_apart (a + 1) n)

range_long : (a n : ℕ) → length (range_with_len a n) ≡ n
range_long a zero = refl
range_long a (suc n) = ap suc (range_long (a + 1) n)

record FreeIn (t : Tables) (a n : ℕ) : Type 0 where
  number : ℕ
  from : a ≤ number
  to : number < a + n
  free : is_taken t number ≡ false

-- one of them is free, or all are taken
searched : (t : Tables) (a n : ℕ) → FreeIn t a n ⊎ ((k : ℕ) → IsAmong (range_with_len a n) k → is_taken t k ≡ true)
searched t a zero = inr (λ k h. absurd h)
searched t a (suc n) = by (is_taken t a) refl (searched t (a + 1) n) where
  by : (b : Bool) → is_taken t a ≡ b → FreeIn t (a + 1) n ⊎ ((k : ℕ) → IsAmong (range_with_len (a + 1) n) k → is_taken t k ≡ true) → FreeIn t a (suc n) ⊎ ((k : ℕ) → IsAmong (range_with_len a (suc n)) k → is_taken t k ≡ true)
  by false e rest = inl (record { number = a; from = omega arith; to = omega arith; free = e })
  by true e (inl f) = inl (record { number = f.number; from = omega (arith, f.from); to = omega (arith, f.to); free = f.free })
  by true e (inr all) = inr (λ k h. elim h [ inl same ↦ ap (is_taken t) same ∙ e | inr later ↦ all k later ])

blocks_few : (s : Shape) → is_shape s ≡ true → s.dir_blocks ≤ 16384
unfolding is_shape
blocks_few s e =
    let a = and_parts (is_unit_size s.au) (is_step s.step && (is_sector s.sector s.au && is_dir_blocks s.dir_blocks)) e in
    let b = and_parts (is_step s.step) (is_sector s.sector s.au && is_dir_blocks s.dir_blocks) a.1 in
    let c = and_parts (is_sector s.sector s.au) (is_dir_blocks s.dir_blocks) b.1 in
    leb-true s.dir_blocks 16384 (and_parts (nat_le 128 s.dir_blocks) (nat_le s.dir_blocks 16384) c.1).1

pub number_is_free : (s : Shape) (t : Tables) → is_shape s ≡ true → KeepsRules s t → HasFreeNumber t
number_is_free s t shape k = by (searched t 256 (length t.files + 2)) where
  by : FreeIn t 256 (length t.files + 2) ⊎ ((n : ℕ) → IsAmong (range_with_len 256 (length t.files + 2)) n → is_taken t n ≡ true) → HasFreeNumber t
  by (inl f) = record { number = f.number; at_least = f.from; few = omega (arith, f.to, blocks_few s shape, k.room); free = f.free }
  by (inr all) =
      let into = no_longer (range_with_len 256 (length t.files + 2)) (taken_numbers t) (range_apart 256 (length t.files + 2)) (λ n h. taken_in t n (all n h)) in
      absurd (omega (arith, into, few_taken t, range_long 256 (length t.files + 2)))
