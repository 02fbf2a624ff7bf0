use Rattle.std.proofs.Common.{arith}
use Rattle.file_extents.proofs.Extents.{so_many_where}
use Rattle.file_extents.proofs.appending.has_so_many.Goals as goal

pub returns : goal.returns
returns c =
    so_many_where c.args.catalog.now.tables.extents c.args.file c.args.chunk c.args.count c.has-2.result c.requires.few
    (λ k lt. c.loop-place.invariant k (omega (arith, lt, c.loop-place-test.false))) c.has-2.ensures
