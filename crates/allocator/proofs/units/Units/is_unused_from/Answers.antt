use Rattle.std.proofs.Common.{arith, leb}
use Rattle.std.proofs.lemmas.Bool.{le-leb}
use Rattle.allocator.proofs.Resized.{always, unused_from, unused_is, unused_past}
use Rattle.allocator.proofs.units.Units.is_unused_from.Goals as goal

pub returns-then-from-self : goal.returns-then-from-self
returns-then-from-self c =
    rw (← c.self.view_is) (unused_is c.self.inside.first c.self.inside.units c.self.inside.words.items c.args.unit c.max-from.result (leb c.self.inside.units c.max-from.result) c.max-from.ensures
    (always (leb c.self.inside.units c.max-from.result) (le-leb c.self.inside.units c.max-from.result c.if-from-self.true) (unused_past c.self.inside.first c.self.inside.units c.self.inside.words.items c.max-from.result c.if-from-self.true)))

pub returns-else-from-self : goal.returns-else-from-self
returns-else-from-self c =
    let words = c.deref.ensures.value in
    rw (← c.self.view_is) (unused_is c.self.inside.first c.self.inside.units c.self.inside.words.items c.args.unit c.max-from.result c.is_free.result c.max-from.ensures
    (unused_from c.self.inside.first c.self.inside.units c.self.inside.from c.self.inside.words.items c.self.invariant.words c.max-from.result c.is_free.result (rw words at c.is_free.ensures.free) (rw words at c.is_free.ensures.used) (omega (arith, c.max-from.ensures))))
