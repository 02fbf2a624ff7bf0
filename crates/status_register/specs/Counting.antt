-- The disks of a set, one number after the other.
use Rattle.std.specs.Prelude.{ℕ, ◌-◌, List, [], filter, flat_map, if◌then◌else◌}
use Rattle.std.specs.List.{range_with_len}
use Rattle.asm_formats.specs.Sets.{has_bit}
use Rattle.asm_formats.specs.Status.{Entry, entry_of}
use Rattle.asm_formats.specs.Following.{Holder, holder_of}

-- the disk of a number, where it is in the set and has an entry
abbrev pub of_disk : List Entry → ℕ → ℕ → List Holder
of_disk entries set d = if has_bit set d then holder_of d (entry_of entries d) else []

-- those from a number on
unfoldable pub disks_from : List Entry → ℕ → ℕ → List Holder
disks_from entries set d = flat_map (λ k. holder_of k (entry_of entries k)) (filter (has_bit set) (range_with_len d (64 - d)))
