use Rattle.std.proofs.Common.{◌+◌, refl}
use Rattle.asmcmd.proofs.PutRuns.{goes_on}
use Rattle.asmcmd.proofs.runs.Runs.put_run.Goals as goal

pub returns-then-byte-self-clause-lines : goal.returns-then-byte-self-clause-lines
returns-then-byte-self-clause-lines c =
    let s = c.self.inside in
    rw (← c.self.view_is, c.if-byte-self.true) (goes_on (record { lines = s.lines; at = s.at; end = s.end; byte = s.byte }) (record { lines = s.lines; at = s.at; end = s.end + c.args.len; byte = s.byte }) c.args.len c.self.invariant refl)
