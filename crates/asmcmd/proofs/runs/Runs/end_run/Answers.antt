use Rattle.std.proofs.Common.{refl, arith}
use Rattle.asmcmd.proofs.PutRuns.{ended}
use Rattle.asmcmd.proofs.runs.Runs.end_run.Goals as goal

pub returns-in_ok-push-clause-lines : goal.returns-in_ok-push-clause-lines
returns-in_ok-push-clause-lines c =
    let s = c.self.inside in
    rw (← c.self.view_is) (ended (record { lines = s.lines; at = s.at; end = s.end; byte = s.byte }) (record { lines = c.push.new.self; at = s.end; end = s.end; byte = s.byte }) (omega (arith, c.if-self.true))
    (rw (c.in_ok-push.ensures.ok, c.in_ok-line.ensures) refl))
