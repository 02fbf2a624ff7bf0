use Rattle.item_table.proofs.Laws.{put_keeps_table}
use Rattle.item_table.proofs.table.KeyTable.put.Goals as goal

pub invariant_of-self : goal.invariant_of-self
invariant_of-self g c =
    rw c.in-Ok.ensures.entries (put_keeps_table g.met.K.Ord.total g.met.T.Listed.exact g.T.Listed.item_of c.self.inside.map.entries c.args.key c.args.kept c.requires c.self.invariant)
