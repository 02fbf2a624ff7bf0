-- What a committed move leaves.
use Rattle.std.specs.Prelude.{ℕ, ◌/◌, ◌%◌, ◌^◌, ◌&&◌, List, [], map, set, get_or, slice_index, if◌then◌else◌, ◌==◌, Some, bit_xor}
use Rattle.asm_formats.specs.Sets.{has_bit}
use Rattle.asm_formats.specs.Status.{Status}
use Rattle.asm_formats.specs.Items.{Item, chunk_item, marks_item, Home, chunk_len}
use Rattle.asm_placement.specs.DiskSets.{with_bit}
use Rattle.asm_placement.specs.Rebalancing.{Move, recopy, fill, shift, directory, tables}

-- the set without a number
unfoldable pub without_bit : ℕ → ℕ → ℕ
without_bit set n = if has_bit set n then bit_xor set (2 ^ n) else set

-- the records once a copy of an extent is current: its mark is gone
abbrev pub unmarked_item : ℕ → ℕ → ℕ → Item → Item
unmarked_item f i copy (marks_item g c marks) =
    if (g == f) && (c == i / chunk_len)
    then marks_item g c (set marks (i % chunk_len) (without_bit (slice_index marks (i % chunk_len)) copy))
    else marks_item g c marks
unmarked_item f i copy item = item

-- and has this home
abbrev pub moved_item : ℕ → ℕ → ℕ → Home → Item → Item
moved_item f i copy h (chunk_item g c homes) =
    if (g == f) && (c == i / chunk_len)
    then chunk_item g c (set homes (i % chunk_len) (set (get_or homes (i % chunk_len) []) copy (Some h)))
    else chunk_item g c homes
moved_item f i copy h item = item

unfoldable pub with_current : ℕ → ℕ → ℕ → List Item → List Item
with_current f i copy items = map (unmarked_item f i copy) items

unfoldable pub with_home : ℕ → ℕ → ℕ → Home → List Item → List Item
with_home f i copy h items = with_current f i copy (map (moved_item f i copy h) items)

-- a group's record and directories after a move
abbrev pub record_after : Move → Status → Status
record_after (directory d) r = record r { directories = with_bit r.directories d }
record_after (tables to) r = record r { holders = to; next_holders = 0 }
record_after _ r = r

abbrev pub items_after : Move → List Item → List Item
items_after (recopy f i copy) items = with_current f i copy items
items_after (fill f i copy h) items = with_home f i copy h items
items_after (shift f i copy h) items = with_home f i copy h items
items_after _ items = items
