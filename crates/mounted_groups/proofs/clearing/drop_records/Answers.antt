use Rattle.std.proofs.Common.{Ok, Err}
use Rattle.std.proofs.lemmas.Result.{err_from_is_err_and}
use Rattle.group_engine.proofs.Endings.{ends_begin, ends_on}
use Rattle.mounted_groups.proofs.LeftOver.{more_dropped, none_dropped}
use Rattle.mounted_groups.proofs.clearing.drop_records.Goals as goal

pub loop-number-init : goal.loop-number-init
loop-number-init g c =
    let both = c.requires.takes c.requires.mounted in
    record {
      ends = ends_begin c.args.m.now (g.B.Bay.state c.args.bay.now) c.requires.mounted both.0 both.1;
      dropped = none_dropped c.args.m.now.register.value.entries c.args.m.now.catalog.tables;
    }

pub drop_record-requires-clause-takes : goal.drop_record-requires-clause-takes
drop_record-requires-clause-takes g c = λ mounted. (c.loop-number.invariant.ends.goes.keeps.whole mounted, c.loop-number.invariant.ends.goes.keeps.ready mounted)

pub loop-number-preserved : goal.loop-number-preserved
loop-number-preserved g c = record {
  ends = ends_on (Ok tt) c.loop-number.invariant.ends c.in_ok-drop_record.ensures.ends;
  dropped = more_dropped c.args.m.now.register.value.entries c.args.m.now.catalog.tables _ c.loop-number.m.catalog.tables c.drop_record.new.m.catalog.tables c.loop-number.m.register.value.entries
      (c.loop-number.invariant.ends.goes.keeps.whole c.loop-number.invariant.ends.goes.mounted).are_tables c.loop-number.invariant.dropped c.loop-number.invariant.ends.status.entries c.in_ok-drop_record.ensures.dropped;
}

pub returns-in_err-drop_record-clause-ends : goal.returns-in_err-drop_record-clause-ends
returns-in_err-drop_record-clause-ends g c =
    let p = err_from_is_err_and c.from_residual.result c.from_residual.ensures.1 in
    rw (p.1, p.2) (ends_on (Err c.in_err-drop_record.field-0.0) c.loop-number.invariant.ends c.in_err-drop_record.ensures.ends)
