-- The value of a chunk's record is read exactly.
use Rattle.std.proofs.Common.{◌≡◌, ℕ, zero, suc, replicate, take, drop, ◌+◌, ◌^◌, ◌<◌, true, ltb, List, [], ◌∷◌, ◌++◌, length, Option, refl, ap, ◌∙◌, arith}
use Rattle.std.specs.Prelude.{slice_set}
use Rattle.std.proofs.lemmas.List.{length-append, length-drop, length-replicate, length-set, length-take}
use Rattle.std.specs.Option.{option_map}
use Rattle.std.specs.List.{AllByRecursion, list_all}
use Rattle.std.proofs.lemmas.Bool.{and_parts, ltb-true}
use Rattle.asm_formats.specs.Items.{Homes, chunk_item, is_homes, is_item}
use Rattle.asm_formats.specs.Values.{decoded_item}
use Rattle.asm_base.specs.Records.{all_of}
use Rattle.asm_base.proofs.Exact.{AreFitting}
use Rattle.record_values.specs.Values.{chunk_reading}
use Rattle.record_values.proofs.Chunks.{chunk_allowed, chunk_decoded, each_fits, homes_fit}
use Rattle.extent_map.specs.Extents.{absent_homes, chunk_key, cut_to}
pub use Rattle.record_values.proofs.Chunks.{IsHomes, chunk_fits}

pub chunk_numbered : (f c : ℕ) (homes : List Homes) → is_item (chunk_item f c homes) ≡ true → c + 1 < 2 ^ 32
unfolding is_item
chunk_numbered f c homes ok =
    let a = and_parts (ltb f (2 ^ 32)) _ ok in
    let b = and_parts (ltb (c + 1) (2 ^ 32)) _ a.1 in
    ltb-true (c + 1) (2 ^ 32) b.0

pub chunk_is_read : (f c : ℕ) → f < 2 ^ 32 → c + 1 < 2 ^ 32 → (bytes : List ℕ) (read : Option (List Homes)) → read ≡ all_of chunk_reading bytes → option_map (chunk_item f c) read ≡ decoded_item (chunk_key f c) bytes
chunk_is_read f c file number bytes read is = ap (option_map (chunk_item f c)) is ∙ chunk_decoded f c bytes file number

-- ---- a chunk with another extent

set_fits : (xs : List Homes) (i : ℕ) (h : Homes) → AllByRecursion IsHomes xs → IsHomes h → AllByRecursion IsHomes (slice_set xs i h)
set_fits [] i h all fits = tt
set_fits (x ∷ xs) zero h all fits = (fits, all.1)
set_fits (x ∷ xs) (suc i) h all fits = (all.0, set_fits xs i h all.1 fits)

same_fits : (n : ℕ) (h : Homes) → IsHomes h → AllByRecursion IsHomes (replicate n h)
same_fits zero h fits = tt
same_fits (suc n) h fits = (fits, same_fits n h fits)

file_of : (f c : ℕ) (homes : List Homes) → is_item (chunk_item f c homes) ≡ true → f < 2 ^ 32
unfolding is_item
file_of f c homes ok = ltb-true f (2 ^ 32) (and_parts (ltb f (2 ^ 32)) _ ok).0

pub set_allowed : (f c : ℕ) (homes : List Homes) (i : ℕ) (h : Homes) → is_item (chunk_item f c homes) ≡ true → is_homes h ≡ true → is_item (chunk_item f c (slice_set homes i h)) ≡ true
set_allowed f c homes i h ok right =
    let fits = chunk_fits f c homes ok in
    chunk_allowed f c (slice_set homes i h) (file_of f c homes ok) (chunk_numbered f c homes ok) (length-set homes i h ∙ fits.0, set_fits homes i h fits.1 (homes_fit h right))

all_append : (xs ys : List Homes) → AllByRecursion IsHomes xs → AllByRecursion IsHomes ys → AllByRecursion IsHomes (xs ++ ys)
all_append [] ys all more = more
all_append (x ∷ xs) ys all more = (all.0, all_append xs ys all.1 more)

all_take : (n : ℕ) (xs : List Homes) → AllByRecursion IsHomes xs → AllByRecursion IsHomes (take n xs)
all_take zero xs all = tt
all_take (suc n) [] all = tt
all_take (suc n) (x ∷ xs) all = (all.0, all_take n xs all.1)

all_drop : (n : ℕ) (xs : List Homes) → AllByRecursion IsHomes xs → AllByRecursion IsHomes (drop n xs)
all_drop zero xs all = all
all_drop (suc n) [] all = tt
all_drop (suc n) (x ∷ xs) all = all_drop n xs all.1

-- a chunk with more extents, of which the old ones are of the formats
pub blank_fits : AreFitting IsHomes 256 (replicate 256 absent_homes)
blank_fits = (length-replicate 256 absent_homes, same_fits 256 absent_homes (homes_fit absent_homes refl))

pub more_allowed : (f c n m : ℕ) (old homes : List Homes) → f < 2 ^ 32 → c + 1 < 2 ^ 32 → AreFitting IsHomes 256 old → list_all is_homes homes ≡ true → length (take n old ++ homes ++ drop m old) ≡ 256
    → is_item (chunk_item f c (take n old ++ homes ++ drop m old)) ≡ true
more_allowed f c n m old homes file number fits right size =
    chunk_allowed f c (take n old ++ homes ++ drop m old) file number (
      size,
      all_append (take n old ++ homes) (drop m old) (all_append (take n old) homes (all_take n old fits.1) (each_fits homes right)) (all_drop m old fits.1),
    )

pub new_allowed : (f c i : ℕ) (h : Homes) → f < 2 ^ 32 → c + 1 < 2 ^ 32 → is_homes h ≡ true → is_item (chunk_item f c (slice_set (replicate 256 absent_homes) i h)) ≡ true
new_allowed f c i h file number right =
    chunk_allowed f c (slice_set (replicate 256 absent_homes) i h) file number (length-set (replicate 256 absent_homes) i h ∙ length-replicate 256 absent_homes, set_fits (replicate 256 absent_homes) i h (same_fits 256 absent_homes (homes_fit absent_homes refl)) (homes_fit h right))

-- one that has lost some
pub cut_allowed : (f c kept : ℕ) (homes : List Homes) → is_item (chunk_item f c homes) ≡ true → is_item (chunk_item f c (cut_to kept homes)) ≡ true
cut_allowed f c kept homes ok =
    let fits = chunk_fits f c homes ok in
    let blank : List Homes = replicate 256 absent_homes in
    let size : length (cut_to kept homes) ≡ 256 =
    omega (arith, length-append (take kept homes) (drop kept blank), length-take kept homes, length-drop kept blank, length-replicate {A = Homes} 256 absent_homes, fits.0) in
    chunk_allowed f c (cut_to kept homes) (file_of f c homes ok) (chunk_numbered f c homes ok) (size, all_append (take kept homes) (drop kept blank) (all_take kept homes fits.1) (all_drop kept blank blank_fits.1))
