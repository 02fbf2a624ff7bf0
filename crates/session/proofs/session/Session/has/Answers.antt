use Rattle.std.proofs.Common.{◌∙◌}
use Rattle.session.proofs.Entries.{found_by_name}
use Rattle.session.proofs.session.Session.has.Goals as goal

pub returns : goal.returns
returns c = rw (← c.self.view_is) (c.contains_key.ensures ∙ found_by_name c.args.name.now c.self.inside.groups.entries)
