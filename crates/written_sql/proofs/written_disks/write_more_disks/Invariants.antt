use Rattle.std.proofs.Common.{◌≡◌, take}
use Rattle.asm_world.specs.Grammar as g
use Rattle.asm_world.specs.Writing.{new_disk_value}
use Rattle.written_sql.specs.Lines.{put_more}
use Rattle.written_sql.proofs.written_disks.write_more_disks.Given as goal

abbrev pub invariant-loop-disk : goal.invariant-loop-disk
invariant-loop-disk l = l.line ≡ put_more g.disk new_disk_value (take l.disk-index l.disks) l.fn.line
