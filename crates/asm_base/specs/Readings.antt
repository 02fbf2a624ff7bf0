-- Readings of bytes from the front: each gives a value and the bytes after it, or None.
use Rattle.std.specs.Prelude.{ℕ, zero, suc, ◌+◌, List, [], ◌∷◌, length, take, drop, Option, Some, None, Bool, true, false, if◌then◌else◌, ◌==◌, ◌&&◌, nat_le, nat_lt}
use Rattle.std.specs.Option.{option_and_then, option_map}
use Rattle.std.specs.List.{list_all}
use Rattle.std.specs.Int.{Width, byte_len}
use Rattle.byteorder.specs.Endian.{big_number}
use Rattle.asm_group.specs.Names.{is_part}

abbrev pub Reading : Type 0 → Type 0
Reading A = List ℕ → Option (A × List ℕ)

-- ---- fields

abbrev pub byte_reading : Reading ℕ
byte_reading [] = None
byte_reading (b ∷ bytes) = Some (b, bytes)

-- the number of which the first bytes are the spelling, or None where too few are left
unfoldable pub number_reading : Width → Reading ℕ
number_reading w bytes = if nat_lt (length bytes) (byte_len w) then None else Some (big_number (byte_len w) bytes, drop (byte_len w) bytes)

abbrev pub flag_of : ℕ → Option Bool
flag_of zero = Some false
flag_of (suc zero) = Some true
flag_of (suc (suc n)) = None

-- certain bytes, as a tag
unfoldable pub fixed_reading : List ℕ → Reading (Unit {0})
fixed_reading [] bytes = Some (tt, bytes)
fixed_reading (f ∷ field) [] = None
fixed_reading (f ∷ field) (b ∷ bytes) = if b == f then fixed_reading field bytes else None

-- the text in a field: its length, its bytes, and zeros up to the width
abbrev pub text_in : ℕ → List ℕ → Option (List ℕ)
text_in width [] = None
text_in width (n ∷ bytes) = if nat_le n width && (nat_le width (length bytes) && list_all (λ b. b == 0) (drop n (take width bytes))) then Some (take n bytes) else None

unfoldable pub text_reading : ℕ → Reading (List ℕ)
text_reading width bytes = option_map (λ text. (text, drop (width + 1) bytes)) (text_in width bytes)

-- ---- what is made of readings

-- the first field, and then the second
abbrev pub both : {A B : Type 0} → Reading A → Reading B → Reading (A × B)
both first second bytes = option_and_then (λ x. option_and_then (λ y. Some ((x.0, y.0), y.1)) (second x.1)) (first bytes)

-- the value as another type has it
abbrev pub as_a : {A B : Type 0} → (A → B) → Reading A → Reading B
as_a made reading bytes = option_and_then (λ x. Some (made x.0, x.1)) (reading bytes)

-- only a value that passes a test
abbrev pub tested : {A : Type 0} → (A → Bool) → Reading A → Reading A
tested test reading bytes = option_and_then (λ x. if test x.0 then Some x else None) (reading bytes)

-- only a value that stands for one of another type
abbrev pub decoded : {A B : Type 0} → (A → Option B) → Reading A → Reading B
decoded meaning reading bytes = option_and_then (λ x. option_map (λ y. (y, x.1)) (meaning x.0)) (reading bytes)

-- n values, one after the other
unfoldable pub repeated : {A : Type 0} → ℕ → Reading A → Reading (List A)
repeated zero reading bytes = Some ([], bytes)
repeated (suc n) reading bytes = option_and_then (λ x. option_and_then (λ xs. Some (x.0 ∷ xs.0, xs.1)) (repeated n reading x.1)) (reading bytes)

-- a number of one byte, and then as many values
abbrev pub counted_reading : {A : Type 0} → ℕ → Reading A → Reading (List A)
counted_reading limit reading bytes = option_and_then (λ n. if nat_le n.0 limit then repeated n.0 reading n.1 else None) (byte_reading bytes)

-- ---- fields that are made so

-- a byte that is 0 or 1
abbrev pub flag_reading : Reading Bool
flag_reading = decoded flag_of byte_reading

-- a name or a part of a path, in a field of a width
abbrev pub name_reading : ℕ → Reading (List ℕ)
name_reading width = tested (is_part width) (text_reading width)

-- ---- whole bodies

-- what a reading makes of all the bytes, where only zeros stand behind what it takes
abbrev pub whole_reading : {A : Type 0} → Reading A → List ℕ → Option A
whole_reading reading bytes = option_and_then (λ x. if list_all (λ b. b == 0) x.1 then Some x.0 else None) (reading bytes)
