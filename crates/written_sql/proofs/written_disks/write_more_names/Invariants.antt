use Rattle.std.proofs.Common.{◌≡◌, take}
use Rattle.asm_world.specs.Grammar as g
use Rattle.written_sql.specs.Lines.{put_more}
use Rattle.written_sql.proofs.written_disks.write_more_names.Given as goal

abbrev pub invariant-loop-name : goal.invariant-loop-name
invariant-loop-name l = l.line ≡ put_more g.name (λ n. n) (take l.name-index l.names) l.fn.line
