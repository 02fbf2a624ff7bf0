use Rattle.report_commands.specs.GroupRows.{groups_asked}
use Rattle.report_commands.proofs.GroupLists.{AreSoFar}
use Rattle.report_commands.proofs.group_rows.group_rows.Given as goal

abbrev pub invariant-loop-key : goal.invariant-loop-key
invariant-loop-key l = AreSoFar l.group l.key-iterator l.rows.items (groups_asked l.group l.session.entries l.session.groups)
