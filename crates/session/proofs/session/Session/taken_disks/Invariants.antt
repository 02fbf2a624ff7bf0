use Rattle.std.proofs.Common.{◌≡◌, ◌++◌, map}
use Rattle.session.specs.Entries.{group_view}
use Rattle.session.specs.Sessions.{taken_by}
use Rattle.session.proofs.session.Session.taken_disks.Given as goal

abbrev pub invariant-loop-entry : goal.invariant-loop-entry
invariant-loop-entry l = l.taken.items ++ taken_by (map group_view l.entry-iterator) ≡ taken_by l.self.groups
