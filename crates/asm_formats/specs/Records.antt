-- A directory record in its block: a frame of key and value, and what the value says.
use Rattle.std.specs.Prelude.{ℕ, ◌^◌, Bool, ◌&&◌, ◌++◌, length, drop, take, replicate, nat_lt, nat_le, codes, Option}
use Rattle.std.specs.Int.{w16, w32}
use Rattle.std.specs.Option.{option_and_then}
use Rattle.asm_group.specs.Names.{Bytes}
use Rattle.asm_formats.specs.Bytes.{number_bytes, number_at, whole_block, spelled_by}
use Rattle.asm_formats.specs.Items.{Item, Key, item_key}
use Rattle.asm_formats.specs.Values.{value, decoded_item}

pub record Frame : Type 0 where
  pub key : Key
  pub value : Bytes

-- bytes in a value
abbrev pub most_value : ℕ
most_value = 4064

-- the frame's one spelling
unfoldable pub frame_spelling : Frame → Bytes
frame_spelling f = whole_block (codes "ASMR" ++ (number_bytes w16 f.key.kind ++ (number_bytes w32 f.key.a ++ (number_bytes w32 f.key.b
    ++ (number_bytes w16 (length f.value) ++ (replicate 16 0 ++ f.value))))))

unfoldable pub is_frame : Frame → Bool
is_frame f = nat_lt f.key.kind (2 ^ 16) && (nat_lt f.key.a (2 ^ 32) && (nat_lt f.key.b (2 ^ 32) && nat_le (length f.value) most_value))

unfoldable pub frame_at : Bytes → Frame
frame_at bytes =
    let kind = number_at w16 (drop 4 bytes) in
    let a = number_at w32 kind.1 in
    let b = number_at w32 a.1 in
    let len = number_at w16 b.1 in
    record { key = record { kind = kind.0; a = a.0; b = b.0 }; value = take len.0 (drop 16 len.1) }

-- the frame that a block is the spelling of
unfoldable pub decoded_frame : Bytes → Option Frame
decoded_frame bytes = spelled_by is_frame frame_spelling bytes (frame_at bytes)

-- ---- what it says

abbrev pub frame_of : Item → Frame
frame_of i = record { key = item_key i; value = value i }

-- the block of a record
abbrev pub record_spelling : Item → Bytes
record_spelling i = frame_spelling (frame_of i)

-- the record that a block is the spelling of
unfoldable pub decoded_record : Bytes → Option Item
decoded_record bytes = option_and_then (λ (f : Frame). decoded_item f.key f.value) (decoded_frame bytes)
