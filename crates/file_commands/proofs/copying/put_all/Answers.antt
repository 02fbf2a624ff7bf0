use Rattle.std.proofs.Common.{arith, length-take}
use Rattle.std.proofs.lemmas.Result.{err_from_is_err_and}
use Rattle.session.proofs.Calls.{carries_more}
use Rattle.session.proofs.Carrying.{carries_none}
use Rattle.file_commands.specs.HostCauses.{IsOfSource}
use Rattle.file_commands.proofs.HostCauses.{falls_more, none_falls, since}
use Rattle.file_commands.proofs.Sources.{fewer, stays_to}
use Rattle.file_commands.proofs.copying.put_all.Goals as goal

pub loop-init : goal.loop-init
loop-init g c = record { carries = carries_none c.args.session.now c.requires.ready; inside = c.requires.inside; counts = none_falls (g.H.Host.faults c.args.host.now) }

pub put_piece-requires-clause-ready : goal.put_piece-requires-clause-ready
put_piece-requires-clause-ready g c = c.loop.invariant.carries.ready

pub put_piece-requires-clause-inside : goal.put_piece-requires-clause-inside
put_piece-requires-clause-inside g c = fewer (g.H.Host.file c.loop.host) c.args.source.now c.loop.filling.end _ (omega (arith, c.wanted.ensures, length-take c.min-n.result c.loop.buf)) c.loop.invariant.inside

pub loop-preserved : goal.loop-preserved
loop-preserved g c = record {
  carries = carries_more c.args.session.now c.loop.session c.put_piece.new.session _ _ _ c.loop.invariant.carries c.put_piece.ensures.carries;
  inside = stays_to (g.H.Host.file c.loop.host) (g.H.Host.file c.put_piece.new.host) c.args.source.now c.loop.filling.end _ c.put_piece.ensures.files c.in_ok-filling.ensures.end c.loop.invariant.inside;
  counts = falls_more (g.H.Host.faults c.args.host.now) (g.H.Host.faults c.loop.host) (g.H.Host.faults c.put_piece.new.host) c.loop.invariant.counts c.put_piece.ensures.counts;
}

pub returns-in_err-filling-clause-carries : goal.returns-in_err-filling-clause-carries
returns-in_err-filling-clause-carries g c = carries_more c.args.session.now c.loop.session c.put_piece.new.session _ _ _ c.loop.invariant.carries c.put_piece.ensures.carries

pub returns-in_err-filling-clause-cause : goal.returns-in_err-filling-clause-cause
returns-in_err-filling-clause-cause g c =
    let f = err_from_is_err_and c.from_residual.result c.from_residual.ensures.1 in
    rw (f.1, f.2) (since (IsOfSource c.args.source.now) (g.H.Host.faults c.args.host.now) (g.H.Host.faults c.loop.host) (g.H.Host.faults c.put_piece.new.host) _ c.loop.invariant.counts c.in_err-filling.ensures.cause)

pub returns : goal.returns
returns g c = record { carries = c.loop.invariant.carries; cause = tt }
