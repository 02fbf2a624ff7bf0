use Rattle.partnership.proofs.Rows.{used_here}
use Rattle.partnership.proofs.row.use_run.Goals as goal

pub returns : goal.returns
returns c =
    used_here c.args.units.now c.args.n c.index-units-disk.result c.mark.new.self c.mark.result c.home.view_is c.if-disk-units.false c.mark.ensures.free c.mark.ensures.after
