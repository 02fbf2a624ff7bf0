-- Blocks of a disk, and the fields of a body. Numbers are big-endian.
use Rattle.std.specs.Prelude.{ℕ, zero, suc, ◌+◌, ◌-◌, ◌*◌, Bool, ◌&&◌, List, [], ◌∷◌, ◌++◌, length, take, drop, replicate, slice_index, if◌then◌else◌, ◌==◌, Option, Some, None}
use Rattle.std.specs.Int.{Width, byte_len, to_be_bytes, from_be_bytes}
use Rattle.std.specs.Str.{bytes_eq}
use Rattle.asm_group.specs.Names.{Bytes}

-- bytes in a block
abbrev pub block_size : ℕ
block_size = 4096

-- n bytes from a place on
unfoldable pub piece : Bytes → ℕ → ℕ → Bytes
piece bytes at n = take n (drop at bytes)

-- block k
abbrev pub block : Bytes → ℕ → Bytes
block bytes k = piece bytes (k * block_size) block_size

-- the gate in block k is open just where the block's first byte is this
abbrev pub open_byte : ℕ
open_byte = 0xA5

abbrev pub is_open : Bytes → ℕ → Bool
is_open bytes k = slice_index bytes (k * block_size) == open_byte

-- ---- fields as they are written

unfoldable pub number_bytes : Width → ℕ → Bytes
number_bytes w n = to_be_bytes w n

-- the length, the name, and zeros up to the width
unfoldable pub name_field : ℕ → Bytes → Bytes
name_field width name = length name ∷ name ++ replicate (width - length name) 0

-- zeros up to the block's end
unfoldable pub whole_block : Bytes → Bytes
whole_block fields = fields ++ replicate (block_size - length fields) 0

-- ---- fields as they are read: the value, and the bytes behind it

abbrev pub byte_at : Bytes → ℕ × Bytes
byte_at bytes = (slice_index bytes 0, drop 1 bytes)

unfoldable pub number_at : Width → Bytes → ℕ × Bytes
number_at w bytes = (from_be_bytes w (take (byte_len w) bytes), drop (byte_len w) bytes)

unfoldable pub name_in_bytes : ℕ → Bytes → Bytes × Bytes
name_in_bytes width bytes = (take (slice_index bytes 0) (drop 1 bytes), drop (width + 1) bytes)

-- so many values, one behind another
abbrev pub values_at : {A : Type 0} → (Bytes → A × Bytes) → ℕ → Bytes → List A × Bytes
values_at read zero bytes = ([], bytes)
values_at read (suc n) bytes =
    let first = read bytes in
    let others = values_at read n first.1 in
    (first.0 ∷ others.0, others.1)

-- x, where it is allowed and the bytes are its one spelling
unfoldable pub spelled_by : {A : Type 0} → (A → Bool) → (A → Bytes) → Bytes → A → Option A
spelled_by is_allowed spelling bytes x = if is_allowed x && bytes_eq bytes (spelling x) then Some x else None
