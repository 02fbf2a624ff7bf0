use Rattle.std.proofs.Common.{refl, ◌∙◌, arith}
use Rattle.group_pieces.proofs.group_engine.Causes.{calls_keep}
use Rattle.file_extents.proofs.Chains.{fails_none, fails_on, kept, takes_on}
use Rattle.file_extents.proofs.filling.write_pieces.Goals as goal

pub loop-done-init : goal.loop-done-init
loop-done-init g c = record {
  in_range = omega arith;
  keeps = kept c.args.m.now (g.B.Bay.state c.args.bay.now) c.requires.takes;
  end = refl;
  failed = fails_none c.args.m.now c.args.filling.now.failed (g.B.Bay.state c.args.bay.now);
}

pub write_new-requires-clause-takes : goal.write_new-requires-clause-takes
write_new-requires-clause-takes g c = takes_on c.loop-done.invariant.keeps

pub loop-done-preserved : goal.loop-done-preserved
loop-done-preserved g c =
    let inv = c.loop-done.invariant in
    let e = c.write_new.ensures in
    record {
      in_range = omega (arith, c.in-Some.ensures.within, inv.in_range, c.loop-done-test.true);
      keeps = calls_keep inv.keeps e.keeps;
      end = e.end ∙ inv.end;
      failed = fails_on c.args.filling.now.failed c.loop-done.filling.failed c.write_new.new.filling.failed inv.keeps e.keeps inv.failed e.failed;
    }

pub loop-done-smaller : goal.loop-done-smaller
loop-done-smaller g c = omega (arith, c.in-Some.ensures.within, c.in-Some.ensures.some, c.loop-done-test.true)

pub returns-in_err-write_new-clause-keeps : goal.returns-in_err-write_new-clause-keeps
returns-in_err-write_new-clause-keeps g c = calls_keep c.loop-done.invariant.keeps c.write_new.ensures.keeps

pub returns-in_err-write_new-clause-failed : goal.returns-in_err-write_new-clause-failed
returns-in_err-write_new-clause-failed g c =
    let inv = c.loop-done.invariant in
    let e = c.write_new.ensures in
    fails_on c.args.filling.now.failed c.loop-done.filling.failed c.write_new.new.filling.failed inv.keeps e.keeps inv.failed e.failed
