use Rattle.catalog.proofs.AddedDisks.{added_planned}
use Rattle.catalog.proofs.catalog.Catalog.add_disks.Goals as goal

pub returns : goal.returns
returns c =
    added_planned c.args.self.now c.args.added.now c.new-put.result c.put_disks.new.put c.new.result c.keeps_rules.ensures c.requires.added c.requires.room c.new-put.ensures c.in_ok-put_disks.ensures c.new.ensures
