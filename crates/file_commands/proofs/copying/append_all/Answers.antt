use Rattle.std.proofs.Common.{arith}
use Rattle.std.proofs.lemmas.Result.{err_from_is_err_and}
use Rattle.session.proofs.Calls.{carries_more}
use Rattle.session.proofs.Carrying.{carries_none}
use Rattle.file_commands.specs.HostCauses.{IsAt}
use Rattle.file_commands.proofs.HostCauses.{falls_more, none_falls, since}
use Rattle.file_commands.proofs.copying.append_all.Goals as goal

pub loop-left-init : goal.loop-left-init
loop-left-init g c = record { few = omega arith; carries = carries_none c.args.session.now c.requires.ready; counts = none_falls (g.H.Host.faults c.args.host.now) }

pub append_piece-requires : goal.append_piece-requires
append_piece-requires g c = record { ready = c.loop-left.invariant.carries.ready }

pub loop-left-preserved : goal.loop-left-preserved
loop-left-preserved g c = record {
  few = omega arith;
  carries = carries_more c.args.session.now c.args.session.now c.args.session.now _ _ _ c.loop-left.invariant.carries c.append_piece.ensures.carries;
  counts = falls_more (g.H.Host.faults c.args.host.now) (g.H.Host.faults c.loop-left.host) (g.H.Host.faults c.append_piece.new.host) c.loop-left.invariant.counts c.append_piece.ensures.counts;
}

pub returns-in_err-append_piece-clause-carries : goal.returns-in_err-append_piece-clause-carries
returns-in_err-append_piece-clause-carries g c = carries_more c.args.session.now c.args.session.now c.args.session.now _ _ _ c.loop-left.invariant.carries c.append_piece.ensures.carries

pub returns-in_err-append_piece-clause-cause : goal.returns-in_err-append_piece-clause-cause
returns-in_err-append_piece-clause-cause g c =
    let f = err_from_is_err_and c.from_residual.result c.from_residual.ensures.1 in
    rw (f.1, f.2) (since (IsAt c.args.to.now) (g.H.Host.faults c.args.host.now) (g.H.Host.faults c.loop-left.host) (g.H.Host.faults c.append_piece.new.host) _ c.loop-left.invariant.counts c.in_err-append_piece.ensures.cause)
