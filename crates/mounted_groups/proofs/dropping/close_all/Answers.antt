use Rattle.std.proofs.Common.{refl, arith}
use Rattle.bay.proofs.Calls.{attached-trans}
use Rattle.mounted_groups.proofs.Drops.{headers_keep, no_run, one_more_out, one_more_run}
use Rattle.mounted_groups.proofs.dropping.close_all.Goals as goal

pub close_at-requires-clause-headers : goal.close_at-requires-clause-headers
close_at-requires-clause-headers g c = headers_keep c.args.m.now c.loop-number.invariant.attached c.requires.headers

pub loop-number-init : goal.loop-number-init
loop-number-init g c = record {
  attached = record { same = λ slot. refl };
  runs = no_run c.args.m.now (g.B.Bay.state c.args.bay.now);
  out = λ d slot below at. absurd (omega (arith, below));
}

pub loop-number-preserved : goal.loop-number-preserved
loop-number-preserved g c =
    let s = g.B.Bay.state c.args.bay.now in
    let u = g.B.Bay.state c.loop-number.bay in
    let t = g.B.Bay.state c.close_at.new.bay in
    let m = c.args.m.now in
    let n = c.loop-number.number in
    let before = c.loop-number.invariant in
    record {
      attached = attached-trans before.attached c.close_at.ensures.attached;
      runs = one_more_run m n s u t c.requires.headers.own before.runs c.close_at.ensures.runs;
      out = one_more_out m n s u t c.requires.headers.apart before.runs.faults before.out c.close_at.ensures.runs c.close_at.ensures.out;
    }

pub returns : goal.returns
returns g c = record {
  attached = c.loop-number.invariant.attached;
  runs = c.loop-number.invariant.runs;
  out = λ d slot below at. c.loop-number.invariant.out d slot (omega (arith, below, c.loop-number-test.false)) at;
}
