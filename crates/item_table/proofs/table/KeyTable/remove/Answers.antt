use Rattle.item_table.proofs.Laws.{remove_keeps_table}
use Rattle.item_table.proofs.table.KeyTable.remove.Goals as goal

pub invariant_of-self : goal.invariant_of-self
invariant_of-self g c =
    rw c.remove.ensures.entries (remove_keeps_table g.met.K.Ord.total g.T.Listed.item_of c.self.inside.map.entries c.args.key c.self.invariant)
