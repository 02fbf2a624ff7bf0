use Rattle.edit_laws.proofs.Leading.{edit_is_refused, edit_leads_to}
use Rattle.edit_laws.proofs.edits_are_the_worlds.Goals as goal

pub returns : goal.returns
returns g c = record { leads = edit_leads_to (g.B.Bay.state c.args.bay.now); refused = edit_is_refused (g.B.Bay.state c.args.bay.now) }
