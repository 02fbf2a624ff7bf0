use Rattle.std.proofs.Common.{sym, arith}
use Rattle.asmcmd.proofs.EqualBytes.{run_size}
use Rattle.asmcmd.proofs.PutRuns.{puts_run}
use Rattle.asmcmd.proofs.runs.Runs.put.Goals as goal

pub put_run-requires-clause-room : goal.put_run-requires-clause-room
put_run-requires-clause-room c =
    let size = run_size c.loop-byte.rest.now c.in-Some.byte c.in-Some.len c.in-Some.behind.now (sym c.in-Some.ensures) in
    omega (arith, size, c.loop-byte.invariant.1, c.requires.room)

pub loop-byte-preserved : goal.loop-byte-preserved
loop-byte-preserved c =
    let size = run_size c.loop-byte.rest.now c.in-Some.byte c.in-Some.len c.in-Some.behind.now (sym c.in-Some.ensures) in (
      puts_run c.args.self.now c.loop-byte.self c.put_run.new.self c.args.bytes.now c.loop-byte.rest.now c.in-Some.behind.now c.in-Some.byte c.in-Some.len (sym c.in-Some.ensures) c.loop-byte.invariant.0 c.in_ok-put_run.ensures.lines,
      omega (arith, size, c.loop-byte.invariant.1, c.in_ok-put_run.ensures.end),
    )
