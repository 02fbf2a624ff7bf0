use Rattle.std.proofs.Common.{◌∙◌, sym}
use Rattle.status_register.proofs.Losing.{lost_by}
use Rattle.status_register.proofs.losses.lost_of.Goals as goal

pub returns-in-Some : goal.returns-in-Some
returns-in-Some c = lost_by c.args.entries.now c.args.members.now c.args.took.now c.args.set c.in-Some.field-0 c.requires.holders c.requires.majority (sym c.lacking.ensures ∙ c.in-Some.is) c.first_failed_of.result c.first_failed_of.ensures
