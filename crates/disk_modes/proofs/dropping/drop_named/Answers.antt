use Rattle.disk_modes.proofs.Checked.{drop_may_make}
use Rattle.disk_modes.proofs.Drops.{made_for}
use Rattle.disk_modes.specs.declared.records.NewModes.TheVariants as modes
use Rattle.disk_modes.proofs.dropping.drop_named.Goals as goal

pub returns-clause-done : goal.returns-clause-done
returns-clause-done g c =
    let named = c.args.named.now in
    made_for named.forced c.args.power c.changes_for-changes.result (modes.Dropped named.dropping named.forced) c.modes_of.result c.args.m.now c.change_disks.new.m c.change_disks.result
    c.changes_for-changes.ensures c.modes_of.ensures c.change_disks.ensures.done

pub returns-clause-held : goal.returns-clause-held
returns-clause-held g c = λ may turns.
    let named = c.args.named.now in
    c.change_disks.ensures.held (drop_may_make c.args.m.now named.dropping named.forced c.args.power c.changes_for-changes.result c.modes_of.result c.changes_for-changes.ensures c.modes_of.ensures may turns)
