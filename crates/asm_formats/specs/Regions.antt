-- The places on a disk, in blocks. A slot is a gate and the body in the blocks behind it.
use Rattle.std.specs.Prelude.{ℕ, ◌+◌, ◌-◌, ◌*◌, ◌/◌, Bool, List, [], ◌∷◌, nat_le, min}
use Rattle.asm_group.specs.Shape.{Shape}
use Rattle.asm_formats.specs.Bytes.{block_size}

-- bytes that a disk has at least: up to the directory region
abbrev pub least_size : ℕ
least_size = 40960

-- ---- gates

abbrev pub header_gate : ℕ
header_gate = 0

abbrev pub claim_gates : List ℕ
claim_gates = 2 ∷ 4 ∷ []

abbrev pub status_gates : List ℕ
status_gates = 6 ∷ 8 ∷ []

-- ---- the directory region of a copy with so many pages

-- the first page
abbrev pub region_start : ℕ
region_start = 10

-- the block of a page
abbrev pub page_home : ℕ → ℕ
page_home page = region_start + page

-- pages in one commit, and blocks in a log slot: its gate, its head and a block for each page
abbrev pub log_pages : ℕ
log_pages = 64

abbrev pub log_blocks : ℕ
log_blocks = 66

-- the gates of the two log slots, behind the pages
abbrev pub first_log : ℕ → ℕ
first_log dir_blocks = region_start + dir_blocks

abbrev pub second_log : ℕ → ℕ
second_log dir_blocks = first_log dir_blocks + log_blocks

abbrev pub log_gates : ℕ → List ℕ
log_gates dir_blocks = first_log dir_blocks ∷ second_log dir_blocks ∷ []

-- The first block behind the region. With more than 128 pages the blocks between the second log slot and this one are unused.
abbrev pub region_end : ℕ → ℕ
region_end dir_blocks = 14 + 2 * dir_blocks

-- so many bytes reach to the end of the region
abbrev pub has_region : ℕ → ℕ → Bool
has_region dir_blocks size = nat_le (region_end dir_blocks * block_size) size

-- ---- units

-- units that hold no user bytes: those that the blocks below the region's end reach into
unfoldable pub reserved_units : Shape → ℕ
reserved_units s = (region_end s.dir_blocks * block_size + (s.au - 1)) / s.au

abbrev pub most_units : ℕ
most_units = 16777216

-- units of a disk of so many bytes
abbrev pub units_in : Shape → ℕ → ℕ
units_in s size = min (size / s.au) most_units
