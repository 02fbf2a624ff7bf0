-- The order of the chunks of files is a total one, and exact.
use Rattle.std.proofs.Common.{◌≡◌}
use Rattle.std.specs.Cmp.{IsTotalOrder}
use Rattle.std.specs.Ordering.{nat_cmp}
use Rattle.std.specs.declared.cmp.Ordering.TheVariants.{Equal}
use Rattle.std.proofs.lemmas.Cmp.{nat_cmp_total, then_total, on_total}
use Rattle.std.proofs.lemmas.Map.Lookups.{exact_pairs, exact_unsigned}
use Rattle.asm_base.specs.Chunks.{Chunk, chunk_cmp}

pub chunk_total : IsTotalOrder chunk_cmp
chunk_total = then_total (on_total (λ (p : Chunk). p.0) nat_cmp_total) (on_total (λ (p : Chunk). p.1) nat_cmp_total)

pub same_chunk : (x y : Chunk) → chunk_cmp x y ≡ Equal → x ≡ y
same_chunk x y e = exact_pairs nat_cmp nat_cmp exact_unsigned exact_unsigned x y e
