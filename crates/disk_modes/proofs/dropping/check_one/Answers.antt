use Rattle.disk_modes.specs.Modes.{drop_as}
use Rattle.disk_modes.proofs.Checked.{takes_one}
use Rattle.disk_modes.proofs.Reasons.{alone_state_by}
use Rattle.disk_modes.proofs.dropping.check_one.Goals as goal

pub returns-clause-taken : goal.returns-clause-taken
returns-clause-taken c =
    takes_one c.drop_as.result (drop_as c.args.force) c.args.m.now c.status.result.now c.entries.result.now c.with_number-alone.result c.empty.result c.args.disk c.check_modes.result c.status.ensures c.entries.ensures.entries c.drop_as.ensures
    c.with_number-alone.ensures c.check_modes.ensures.taken

pub returns-clause-cause : goal.returns-clause-cause
returns-clause-cause c =
    alone_state_by c.args.m.now c.status.result.now c.entries.result.now c.drop_as.result c.args.force c.empty.result c.with_number-alone.result c.args.disk c.check_modes.result c.status.ensures c.entries.ensures.entries
    c.drop_as.ensures c.empty.ensures c.with_number-alone.ensures c.check_modes.ensures.cause
