use Rattle.std.proofs.Common.{◌≡◌, take}
use Rattle.asm_world.specs.Writing.{dropped_value}
use Rattle.written_sql.specs.Lines.{put_more}
use Rattle.group_sql.specs.Rows.{dropped_disk}
use Rattle.written_sql.proofs.written_disks.write_more_dropped.Given as goal

abbrev pub invariant-loop-disk : goal.invariant-loop-disk
invariant-loop-disk l = l.line ≡ put_more dropped_disk dropped_value (take l.disk-index l.disks) l.fn.line
