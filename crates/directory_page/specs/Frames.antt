-- The check of a record's block.
use Rattle.std.specs.Prelude.{ℕ, Bool, false, ◌&&◌, ◌==◌, nat_le, length, take, drop, if◌then◌else◌, Option, Some, None}
use Rattle.std.specs.List.{list_all}
use Rattle.std.specs.Option.{is_some}
use Rattle.asm_base.specs.asm_group.Names.{Bytes}
use Rattle.asm_base.specs.asm_formats.Items.{Key}
use Rattle.asm_base.specs.asm_formats.Records.{most_value}
use Rattle.asm_base.specs.asm_formats.Values.{decoded_item}
use Rattle.asm_base.specs.Frames.{Head}

-- the value of a length, with zeros behind it
abbrev pub value_in : ℕ → Bytes → Option Bytes
value_in len rest = if nat_le len most_value && (nat_le len (length rest) && list_all (λ b. b == 0) (drop len rest)) then Some (take len rest) else None

abbrev pub is_value_of : Key → Option Bytes → Bool
is_value_of k None = false
is_value_of k (Some value) = is_some (decoded_item k value)

-- a head that was read, and the value behind it
abbrev pub is_framed : Option (Head × Bytes) → Bool
is_framed None = false
is_framed (Some ((k, len), rest)) = is_value_of k (value_in len rest)
