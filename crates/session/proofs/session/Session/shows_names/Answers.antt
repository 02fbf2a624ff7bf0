use Rattle.session.proofs.EditedEntries.{names_apart}
use Rattle.session.proofs.Grouped.{alike, paired}
use Rattle.session.proofs.session.Session.shows_names.Goals as goal

pub returns-clause-apart : goal.returns-clause-apart
returns-clause-apart c = rw (← c.self.view_is) (names_apart c.self.inside.groups.entries c.len-count.ensures.unique)

pub returns-clause-paired : goal.returns-clause-paired
returns-clause-paired c = rw (← c.self.view_is) (paired c.self.inside.groups.entries)

pub returns-clause-alike : goal.returns-clause-alike
returns-clause-alike c = rw (← c.self.view_is) (alike c.self.inside.groups.entries)
