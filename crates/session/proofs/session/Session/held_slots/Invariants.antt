use Rattle.std.proofs.Common.{◌≡◌, ◌++◌, map}
use Rattle.session.specs.Entries.{group_view}
use Rattle.session.specs.Sessions.{held_by}
use Rattle.session.proofs.session.Session.held_slots.Given as goal

abbrev pub invariant-loop-entry : goal.invariant-loop-entry
invariant-loop-entry l = l.held.items ++ held_by (map group_view l.entry-iterator) ≡ held_by l.self.groups
