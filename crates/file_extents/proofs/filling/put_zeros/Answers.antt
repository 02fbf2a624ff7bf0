use Rattle.std.proofs.lemmas.Result.{err_from_is_err_and}
use Rattle.group_pieces.proofs.group_engine.Causes.{calls_keep}
use Rattle.file_extents.proofs.Chains.{fails_none, fails_on, kept, put_on, takes_on}
use Rattle.file_extents.proofs.filling.put_zeros.Goals as goal

pub loop-init : goal.loop-init
loop-init g c = record {
  mounted = c.requires.mounted;
  keeps = kept c.args.m.now (g.B.Bay.state c.args.bay.now) c.requires.takes;
  failed = fails_none c.args.m.now c.args.filling.now.failed (g.B.Bay.state c.args.bay.now);
}

pub put_next-requires : goal.put_next-requires
put_next-requires g c = record { takes = takes_on c.loop.invariant.keeps }

pub loop-preserved : goal.loop-preserved
loop-preserved g c =
    let inv = c.loop.invariant in
    let e = c.put_next.ensures in
    record {
      mounted = c.in_ok-put_next.ensures.mounted;
      keeps = calls_keep inv.keeps e.keeps;
      failed = fails_on c.args.filling.now.failed c.loop.filling.failed c.put_next.new.filling.failed inv.keeps e.keeps inv.failed e.failed;
    }

pub returns-in_err-put_next-clause-keeps : goal.returns-in_err-put_next-clause-keeps
returns-in_err-put_next-clause-keeps g c = calls_keep c.loop.invariant.keeps c.put_next.ensures.keeps

pub returns-in_err-put_next-clause-cause : goal.returns-in_err-put_next-clause-cause
returns-in_err-put_next-clause-cause g c =
    let inv = c.loop.invariant in
    let f = err_from_is_err_and c.from_residual.result c.from_residual.ensures.1 in
    rw (f.1, f.2)
    (put_on inv.keeps inv.mounted (g.B.Bay.state c.put_next.new.bay) c.put_next.new.m c.args.filling.now.failed c.loop.filling.failed inv.failed c.put_next.ensures.keeps c.in_err-put_next.field-0.0
    c.in_err-put_next.ensures.cause)
