-- Writes that are joined, and blocks that are told by their bytes.
use Rattle.std.proofs.Common.{◌≡◌, ℕ, suc, ◌+◌, ◌*◌, ◌<◌, ◌≤◌, List, [], ◌∷◌, length, take, drop, get_or, slice_index, refl, ap, ◌∙◌, arith}
use Rattle.std.proofs.lemmas.List.{ext_get_or, get_or-take, get_or-drop, length-take, length-drop}
use Rattle.asm_group.specs.Names.{Bytes}
use Rattle.asm_formats.specs.Bytes.{block_size, piece, block}
use Rattle.asm_formats.specs.Logs.{blocks_from}
use Rattle.asm_formats.specs.Writing.{WriteWidens, WritesJoin}

pub write_widens : WriteWidens
write_widens = λ old new at n from len same low high. record {
  size = same.size;
  before = λ k lt. same.before k (omega (arith, low, lt));
  behind = λ k far. same.behind k (omega (arith, high, far));
}

pub writes_join : WritesJoin
writes_join = λ first second third at n a b. record {
  size = b.size ∙ a.size;
  before = λ k lt. b.before k lt ∙ a.before k lt;
  behind = λ k far. b.behind k far ∙ a.behind k far;
}

pub block_is_stored : (bytes body : Bytes) (k : ℕ) → length body ≡ block_size → (k + 1) * block_size ≤ length bytes
    → ((i : ℕ) → i < block_size → slice_index bytes (k * block_size + i) ≡ slice_index body i) → block bytes k ≡ body
unfolding piece
block_is_stored bytes body k len long each =
    let lengths : length (take block_size (drop (k * block_size) bytes)) ≡ length body =
    omega (arith, length-take block_size (drop (k * block_size) bytes), length-drop (k * block_size) bytes, len) in
    ext_get_or 0 (take block_size (drop (k * block_size) bytes)) body lengths (λ i lt.
    let below : i < block_size = omega (arith, length-take block_size (drop (k * block_size) bytes)) in
    get_or-take block_size (drop (k * block_size) bytes) i 0 below ∙ get_or-drop (k * block_size) bytes i 0 ∙ each i below)

pub blocks_are_stored : (bytes : Bytes) (k : ℕ) (bodies : List Bytes) → ((j : ℕ) → j < length bodies → block bytes (k + j) ≡ get_or bodies j []) → blocks_from bytes k (length bodies) ≡ bodies
blocks_are_stored bytes k [] each = refl
blocks_are_stored bytes k (b ∷ bodies) each =
    let first : block bytes k ≡ b = ap (block bytes) (omega arith) ∙ each 0 (omega arith) in
    let others = blocks_are_stored bytes (k + 1) bodies (λ j lt. ap (block bytes) (omega arith) ∙ each (suc j) (omega arith)) in
    λ i. first i ∷ others i
