-- The reading of a directory record's frame.
use Rattle.std.specs.Prelude.{ℕ, List, ◌++◌, length, take, drop, replicate, codes, Option, Some, None, if◌then◌else◌, ◌==◌, ◌&&◌, nat_le}
use Rattle.std.specs.Option.{option_and_then}
use Rattle.std.specs.List.{list_all}
use Rattle.std.specs.Int.{w16, w32}
use Rattle.asm_formats.specs.Bytes.{number_bytes}
use Rattle.asm_formats.specs.Items.{Key}
use Rattle.asm_formats.specs.Records.{Frame, most_value}
use Rattle.asm_base.specs.Records.{DirectoryRecord}
use Rattle.asm_base.specs.Readings.{Reading, number_reading, fixed_reading, both, as_a}

-- the record of a key and a value
abbrev pub entry_frame : DirectoryRecord → Frame
entry_frame (k, v) = record { key = k; value = v }

-- its bytes
unfoldable pub frame_fields : DirectoryRecord → List ℕ
frame_fields (k, v) = codes "ASMR" ++ (number_bytes w16 k.kind ++ (number_bytes w32 k.a ++ (number_bytes w32 k.b ++ (number_bytes w16 (length v) ++ (replicate 16 0 ++ v)))))

abbrev pub HeadParts : Type 0
HeadParts = Unit {0} × (ℕ × (ℕ × (ℕ × (ℕ × Unit {0}))))

-- what stands before the value: the key, and the value's length
abbrev pub Head : Type 0
Head = Key × ℕ

abbrev pub to_head : HeadParts → Head
to_head (asmr, (kind, (a, (b, (len, gap))))) = (record { kind = kind; a = a; b = b }, len)

unfoldable pub head_reading : Reading Head
head_reading =
    as_a to_head (both (fixed_reading (codes "ASMR")) (both (number_reading w16) (both (number_reading w32) (both (number_reading w32) (both (number_reading w16) (fixed_reading (replicate 16 0)))))))

-- the value of a length, with zeros behind it
abbrev pub record_in_frame : Head → List ℕ → Option DirectoryRecord
record_in_frame (k, len) rest =
    if nat_le len most_value && (nat_le len (length rest) && list_all (λ b. b == 0) (drop len rest)) then Some (k, take len rest) else None

abbrev pub framed_entry : List ℕ → Option DirectoryRecord
framed_entry bytes = option_and_then (λ h. record_in_frame h.0 h.1) (head_reading bytes)
