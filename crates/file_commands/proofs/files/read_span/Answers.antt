use Rattle.std.proofs.Common.{◌≡◌, ◌+◌, ◌-◌, arith, length, length-take, take}
use Rattle.session.proofs.Calls.{carries_more}
use Rattle.session.proofs.Carrying.{carries_none}
use Rattle.file_commands.proofs.ReadFailures.{short_read}
use Rattle.file_commands.proofs.Spans.{all_read, no_call, none_read, reads_more, reads_on}
use Rattle.file_commands.proofs.files.read_span.Goals as goal

pub loop-left-init : goal.loop-left-init
loop-left-init g c = record {
  few = omega arith;
  carries = carries_none c.args.session.now c.requires.ready;
  only = no_call (g.B.Bay.state c.args.bay.now);
  read = none_read c.args.session.now c.args.group.now c.args.file.now c.args.at c.args.len (g.B.Bay.state c.args.bay.now) c.args.runs.now;
  end = omega arith;
}

pub read_piece-requires-clause-ready : goal.read_piece-requires-clause-ready
read_piece-requires-clause-ready g c = c.loop-left.invariant.carries.ready

pub loop-left-preserved : goal.loop-left-preserved
loop-left-preserved g c =
    let s = g.B.Bay.state c.args.bay.now in
    let t = g.B.Bay.state c.loop-left.bay in
    let u = g.B.Bay.state c.read_piece.new.bay in
    let n = c.min-n.result in
    let size : length (take n c.loop-left.buf) ≡ n = omega (arith, length-take n c.loop-left.buf) in record {
      few = omega arith;
      carries = carries_more c.args.session.now c.args.session.now c.args.session.now _ _ _ c.loop-left.invariant.carries c.read_piece.ensures.carries;
      only = reads_on s t u c.loop-left.invariant.only c.read_piece.ensures.reads;
      read = reads_more c.args.session.now c.args.group.now c.args.file.now c.args.at c.args.len c.loop-left.left n (length (take n c.loop-left.buf)) (c.args.at + (c.args.len - c.loop-left.left)) s t u c.args.runs.now c.loop-left.runs c.read_piece.new.runs
          (g.met.B.Bay.sound c.args.bay.now) c.loop-left.invariant.only c.read_piece.ensures.reads size (omega arith) (omega arith) (omega arith) c.loop-left.invariant.read c.in-Ok.ensures.runs;
      end = omega (arith, size, c.in-Ok.ensures.end, c.loop-left.invariant.end, c.loop-left.invariant.few);
    }

pub returns-in-Err-clause-carries : goal.returns-in-Err-clause-carries
returns-in-Err-clause-carries g c = carries_more c.args.session.now c.args.session.now c.args.session.now _ _ _ c.loop-left.invariant.carries c.read_piece.ensures.carries

pub returns-in-Err-clause-reads : goal.returns-in-Err-clause-reads
returns-in-Err-clause-reads g c =
    reads_on (g.B.Bay.state c.args.bay.now) (g.B.Bay.state c.loop-left.bay) (g.B.Bay.state c.read_piece.new.bay) c.loop-left.invariant.only c.read_piece.ensures.reads

pub returns-clause-runs : goal.returns-clause-runs
returns-clause-runs g c =
    all_read c.args.session.now c.args.group.now c.args.file.now c.args.at c.args.len c.loop-left.left (g.B.Bay.state c.args.bay.now) (g.B.Bay.state c.loop-left.bay) c.args.runs.now c.loop-left.runs (omega arith) c.loop-left.invariant.read

pub returns-then-n-eq0-clause-cause : goal.returns-then-n-eq0-clause-cause
returns-then-n-eq0-clause-cause g c = short_read c.args.session.now c.args.group.now
