use Rattle.std.proofs.Common.{◌≡◌, drop}
use Rattle.written_sql.specs.Lines.{groups_line}
use Rattle.written_sql.proofs.written_disks.write_groups.Given as goal

abbrev pub invariant-loop-group : goal.invariant-loop-group
invariant-loop-group l = groups_line (drop l.group-index l.groups) l.line ≡ groups_line l.groups l.fn.line
