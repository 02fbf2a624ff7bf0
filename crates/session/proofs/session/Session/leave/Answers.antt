use Rattle.std.proofs.Common.{map, is_some, ap, ◌∙◌}
use Rattle.session.specs.Entries.{entry_view}
use Rattle.session.proofs.Entries.{found_by_name, left_without, still_given}
use Rattle.session.proofs.Grouped.{groups_left, paired}
use Rattle.session.proofs.session.Session.leave.Goals as goal

pub returns-clause-found : goal.returns-clause-found
returns-clause-found c = rw (← c.self.view_is) (c.is_some-found.ensures ∙ ap is_some c.shift_remove-left.ensures.value ∙ found_by_name c.args.name.now c.self.inside.groups.entries)

pub returns-clause-left : goal.returns-clause-left
returns-clause-left c = rw (← c.self.view_is) (left_without c.args.name.now c.self.inside.groups.entries c.shift_remove-left.new.self.entries c.shift_remove-left.ensures.entries c.shift_remove-left.ensures.updates.1)

pub returns-clause-groups : goal.returns-clause-groups
returns-clause-groups c = rw (← c.self.view_is) (groups_left c.args.name.now c.self.inside.groups.entries c.shift_remove-left.new.self.entries c.shift_remove-left.ensures.entries c.shift_remove-left.ensures.updates.1)

pub returns-clause-paired : goal.returns-clause-paired
returns-clause-paired c = rw (← c.self.view_is) (paired c.self.inside.groups.entries)

pub invariant_of-self : goal.invariant_of-self
invariant_of-self c = still_given (map entry_view c.self.inside.groups.entries) (map entry_view c.shift_remove-left.new.self.entries) c.self.inside.given c.args.name.now
    (left_without c.args.name.now c.self.inside.groups.entries c.shift_remove-left.new.self.entries c.shift_remove-left.ensures.entries c.shift_remove-left.ensures.updates.1) c.self.invariant
