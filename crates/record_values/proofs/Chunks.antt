-- The homes of a chunk are read from their one spelling alone.
use Rattle.std.proofs.Common.{◌≡◌, ℕ, ◌+◌, ◌-◌, ◌^◌, ◌<◌, Bool, true, false, eqb, ltb, List, [], ◌∷◌, length, refl, ap, arith}
use Rattle.std.specs.List.{flat_map, list_all, AllByRecursion}
use Rattle.std.specs.Option.{option_map}
use Rattle.std.proofs.lemmas.Bool.{and_parts, eqb-true, eq-eqb, lt-ltb, ne_eqb}
use Rattle.asm_base.specs.asm_group.Names.{Bytes}
use Rattle.asm_base.specs.asm_formats.Items.{Homes, chunk_item, is_home, is_homes, is_item}
use Rattle.asm_base.specs.asm_formats.Values.{value, decoded_item, item_by, home_fields, homes_in_bytes}
use Rattle.asm_base.specs.Records.{all_of}
use Rattle.asm_base.proofs.Exact.{AreFitting, IsExact, repeated_exact}
use Rattle.record_values.specs.Values.{chunk_reading, extent_reading}
use Rattle.record_values.proofs.Decoded.{value_decoded}
use Rattle.record_values.proofs.FieldLaws.{IsHome, home_exact}

abbrev pub IsHomes : Homes → Type 0
IsHomes hs = AreFitting IsHome 3 hs

pub chunk_exact : IsExact (flat_map (flat_map home_fields)) (AreFitting IsHomes 256) chunk_reading
unfolding chunk_reading extent_reading
chunk_exact = repeated_exact (repeated_exact home_exact 3) 256

all_true : {A : Type 0} (test : A → Bool) (xs : List A) → AllByRecursion (λ x. test x ≡ true) xs → list_all test xs ≡ true
all_true test [] all = refl
all_true test (x ∷ xs) all = rw all.0 (all_true test xs all.1)

each_true : {A : Type 0} (test : A → Bool) (xs : List A) → list_all test xs ≡ true → AllByRecursion (λ x. test x ≡ true) xs
each_true test [] ok = tt
each_true test (x ∷ xs) ok = let p = and_parts (test x) (list_all test xs) ok in (p.0, each_true test xs p.1)

all_map : {A : Type 0} (P Q : A → Type 0) → ((x : A) → P x → Q x) → (xs : List A) → AllByRecursion P xs → AllByRecursion Q xs
all_map P Q f [] all = tt
all_map P Q f (x ∷ xs) all = (f x all.0, all_map P Q f xs all.1)

pub homes_fit : (hs : Homes) → is_homes hs ≡ true → IsHomes hs
homes_fit hs ok = let p = and_parts (eqb (length hs) 3) (list_all is_home hs) ok in (eqb-true (length hs) 3 p.0, each_true is_home hs p.1)

homes_are : (hs : Homes) → IsHomes hs → is_homes hs ≡ true
homes_are hs fits = rw (eq-eqb (length hs) 3 fits.0) (all_true is_home hs fits.1)

-- homes of extents that are of the formats
pub each_fits : (homes : List Homes) → list_all is_homes homes ≡ true → AllByRecursion IsHomes homes
each_fits homes right = all_map (λ hs. is_homes hs ≡ true) IsHomes homes_fit homes (each_true is_homes homes right)

pub chunk_allowed : (f c : ℕ) (homes : List Homes) → f < 2 ^ 32 → c + 1 < 2 ^ 32 → AreFitting IsHomes 256 homes → is_item (chunk_item f c homes) ≡ true
unfolding is_item
chunk_allowed f c homes file number fits =
    rw (lt-ltb f (2 ^ 32) file, lt-ltb (c + 1) (2 ^ 32) number, eq-eqb (length homes) 256 fits.0) (all_true is_homes homes (all_map IsHomes (λ hs. is_homes hs ≡ true) homes_are homes fits.1))

pub chunk_fits : (f c : ℕ) (homes : List Homes) → is_item (chunk_item f c homes) ≡ true → AreFitting IsHomes 256 homes
unfolding is_item
chunk_fits f c homes ok =
    let a = and_parts (ltb f (2 ^ 32)) _ ok in
    let b = and_parts (ltb (c + 1) (2 ^ 32)) _ a.1 in
    let d = and_parts (eqb (length homes) 256) (list_all is_homes homes) b.1 in
    (eqb-true (length homes) 256 d.0, each_fits homes d.1)

chunk_spelt : (f c : ℕ) (homes : List Homes) → value (chunk_item f c homes) ≡ flat_map (flat_map home_fields) homes
unfolding value
chunk_spelt f c homes = refl

chunk_form : (f c : ℕ) (bytes : Bytes) → item_by (record { kind = 1; a = f; b = c + 1 }) bytes ≡ chunk_item f c (homes_in_bytes bytes)
unfolding item_by
chunk_form f c bytes =
    let some : eqb (c + 1) 0 ≡ false = ne_eqb (c + 1) 0 (λ e. omega (arith, e)) in
    let back : c + 1 - 1 ≡ c = omega arith in
    rw some (ap (λ (b : ℕ). chunk_item f b (homes_in_bytes bytes)) back)

pub chunk_decoded : (f c : ℕ) (bytes : Bytes) → f < 2 ^ 32 → c + 1 < 2 ^ 32 → option_map (chunk_item f c) (all_of chunk_reading bytes) ≡ decoded_item (record { kind = 1; a = f; b = c + 1 }) bytes
chunk_decoded f c bytes file number =
    value_decoded chunk_exact (record { kind = 1; a = f; b = c + 1 }) (chunk_item f c) (homes_in_bytes bytes) bytes (chunk_form f c bytes) (chunk_spelt f c) (λ homes fits. (chunk_allowed f c homes file number fits, refl)) (chunk_fits f c)
