-- Laws that join writes, and that tell blocks by their bytes.
use Rattle.std.specs.Prelude.{◌≡◌, ℕ, ◌+◌, ◌*◌, ◌<◌, ◌≤◌, List, [], length, get_or, slice_index}
use Rattle.asm_group.specs.Names.{Bytes}
use Rattle.asm_formats.specs.Bytes.{block_size, block}
use Rattle.asm_formats.specs.Logs.{blocks_from}
use Rattle.asm_formats.specs.Places.{SameElsewhere}

-- A write to a range is one to each range around it.
abbrev pub WriteWidens : Type 0
WriteWidens = (old new : Bytes) (at n from len : ℕ) → SameElsewhere old new at n → from ≤ at → at + n ≤ from + len → SameElsewhere old new from len

-- Two writes to a range are one.
abbrev pub WritesJoin : Type 0
WritesJoin = (first second third : Bytes) (at n : ℕ) → SameElsewhere first second at n → SameElsewhere second third at n → SameElsewhere first third at n

-- A block of which each byte is that of a body is the body.
abbrev pub BlockIsStored : Type 0
BlockIsStored =
    (bytes body : Bytes) (k : ℕ) → length body ≡ block_size → (k + 1) * block_size ≤ length bytes
    → ((i : ℕ) → i < block_size → slice_index bytes (k * block_size + i) ≡ slice_index body i) → block bytes k ≡ body

-- So it is with blocks in a row.
abbrev pub BlocksAreStored : Type 0
BlocksAreStored =
    (bytes : Bytes) (k : ℕ) (bodies : List Bytes) → ((j : ℕ) → j < length bodies → block bytes (k + j) ≡ get_or bodies j []) → blocks_from bytes k (length bodies) ≡ bodies
