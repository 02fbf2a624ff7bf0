use Rattle.std.proofs.Common.{Err}
use Rattle.file_extents.proofs.group_engine.Causes.{calls_keep, nothing_kept}
use Rattle.file_extents.proofs.group_engine.Endings.{goes_on}
use Rattle.disk_joining.proofs.returning.drop_records.Goals as goal

pub loop-disk-init : goal.loop-disk-init
loop-disk-init g c = record {
  mounted = c.requires.mounted;
  keeps = nothing_kept c.args.m.now (g.B.Bay.state c.args.bay.now) (λ mounted. (c.requires.takes mounted).0) (λ mounted. (c.requires.takes mounted).1);
}

pub drop_record-requires : goal.drop_record-requires
drop_record-requires g c = record { takes = λ mounted. (c.loop-disk.invariant.keeps.whole mounted, c.loop-disk.invariant.keeps.ready mounted) }

pub loop-disk-preserved : goal.loop-disk-preserved
loop-disk-preserved g c = record { mounted = c.in-Ok.ensures.goes.mounted; keeps = calls_keep c.loop-disk.invariant.keeps c.drop_record.ensures.goes.keeps }

pub returns-in-Err : goal.returns-in-Err
returns-in-Err g c = record { goes = goes_on (Err c.in-Err.refusal) c.loop-disk.invariant.keeps c.loop-disk.invariant.mounted c.in-Err.ensures.goes }

pub returns : goal.returns
returns g c = record { goes = record { keeps = c.loop-disk.invariant.keeps; mounted = c.loop-disk.invariant.mounted; cause = tt } }
