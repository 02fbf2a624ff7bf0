-- The chunks of files, in order.
use Rattle.std.specs.Prelude.{ℕ, Bool}
use Rattle.std.specs.Ordering.{nat_cmp, ordering_then, is_lt}
use Rattle.std.specs.declared.cmp.Ordering.{Ordering}

-- a file and a chunk of it
abbrev pub Chunk : Type 0
Chunk = ℕ × ℕ

abbrev pub chunk_cmp : Chunk → Chunk → Ordering
chunk_cmp x y = ordering_then (nat_cmp x.0 y.0) (nat_cmp x.1 y.1)

abbrev pub is_chunk_before : Chunk → Chunk → Bool
is_chunk_before x y = is_lt (chunk_cmp x y)
