use Rattle.std.proofs.Common.{◌≡◌, ℕ, ◌+◌, ◌-◌, ◌≤◌, length, min, replicate, take, Ok, ap, subst, sym, ◌∙◌, arith}
use Rattle.std.proofs.lemmas.Grind.{common_steps}
use Rattle.std.proofs.lemmas.List.{length-take-le}
use Rattle.asm_group.specs.Shape.{Shape}
use Rattle.file_extents.proofs.group_engine.Causes.{calls_keep}
use Rattle.file_extents.specs.Filling.{FailsMore}
use Rattle.refusal_lines.specs.declared.refusal.Refusal.TheVariants as cause
use Rattle.file_extents.specs.Pieces.{IsOfShape}
use Rattle.file_extents.proofs.Chains.{fails_none, fails_on, kept, put_on, takes_on}
use Rattle.group_contents.specs.Writing.{IsLayoutOf, WritesSpan}
use Rattle.group_contents.proofs.Rounds.{fill_next, fill_stops, first_alike, no_filling}
use Rattle.group_contents.proofs.Spans.{span_none}
use Rattle.group_contents.proofs.writing.fill_bytes.Goals as goal

pub loop-left-init : goal.loop-left-init
loop-left-init g c =
    let s = g.B.Bay.state c.args.bay.now in
    record {
      mounted = c.requires.mounted;
      keeps = kept c.args.m.now s c.requires.takes;
      failed = subst (λ (k : ℕ). FailsMore c.args.m.now 0 k s s) (sym c.empty-failed.ensures) (fails_none c.args.m.now 0 s);
      in_range = omega arith;
      place = omega arith;
      held = λ byte all laid.
          let none : 0 ≡ c.args.len - c.args.len = omega arith in
          subst (λ (n : ℕ). WritesSpan c.args.m.now c.args.writing.file c.args.at (replicate n byte) (Ok tt) c.args.m.now s s) none
          (span_none c.args.m.now c.requires.mounted c.args.writing.file c.args.at s);
    }

pub loop-left-preserved : goal.loop-left-preserved
loop-left-preserved g c =
    let i = c.loop-left.invariant in
    let n = c.min-n.result in
    let short : n ≤ c.loop-left.left = grind (arith, common_steps, c.min-n.ensures) in
    let room : n ≤ length c.args.buf.now = grind (arith, common_steps, c.min-n.ensures) in
    let size : length (take n c.args.buf.now) ≡ n = length-take-le n c.args.buf.now room in
    record {
      mounted = c.in-Ok.ensures.mounted;
      keeps = calls_keep i.keeps c.write_bytes.ensures.keeps;
      failed = fails_on 0 c.loop-left.failed c.in-Ok.more i.keeps c.write_bytes.ensures.keeps i.failed c.in-Ok.ensures.failed;
      in_range = omega (arith, i.in_range);
      place =
          let sum : c.saturating_add-from.result ≡ c.loop-left.from + n = grind (arith, common_steps, c.saturating_add-from.ensures, c.in-Ok.ensures.end, size) in
          omega (arith, sum, i.place, i.in_range, short);
      held = λ byte all laid.
          let of : IsLayoutOf c.args.writing.layout c.args.writing.file c.loop-left.m.catalog.shape = (subst (λ (z : Shape). IsOfShape c.args.writing.layout z) (sym i.keeps.same.shape) laid.0, laid.1) in
          fill_next c.args.m.now c.loop-left.m c.write_bytes.new.m c.args.writing.file c.args.at c.loop-left.from c.args.len c.loop-left.left byte (g.B.Bay.state c.args.bay.now)
          (g.B.Bay.state c.loop-left.bay) (g.B.Bay.state c.write_bytes.new.bay) i.mounted i.keeps.same.id i.in_range (i.held byte all laid) n (take n c.args.buf.now) (Ok tt) i.place short
          (first_alike n byte c.args.buf.now all room) (c.in-Ok.ensures.held of);
    }

pub write_bytes-requires-clause-takes : goal.write_bytes-requires-clause-takes
write_bytes-requires-clause-takes g c = takes_on c.loop-left.invariant.keeps

pub returns-in-Err-clause-keeps : goal.returns-in-Err-clause-keeps
returns-in-Err-clause-keeps g c = calls_keep c.loop-left.invariant.keeps c.write_bytes.ensures.keeps

pub returns-in-Err-clause-cause : goal.returns-in-Err-clause-cause
returns-in-Err-clause-cause g c =
    let i = c.loop-left.invariant in
    put_on i.keeps i.mounted (g.B.Bay.state c.write_bytes.new.bay) c.write_bytes.new.m 0 c.loop-left.failed i.failed c.write_bytes.ensures.keeps c.in-Err.refusal c.in-Err.ensures.cause

pub returns-in-Err-clause-held : goal.returns-in-Err-clause-held
returns-in-Err-clause-held g c = λ byte all laid.
    let i = c.loop-left.invariant in
    let n = c.min-n.result in
    let short : n ≤ c.loop-left.left = grind (arith, common_steps, c.min-n.ensures) in
    let room : n ≤ length c.args.buf.now = grind (arith, common_steps, c.min-n.ensures) in
    let of : IsLayoutOf c.args.writing.layout c.args.writing.file c.loop-left.m.catalog.shape = (subst (λ (z : Shape). IsOfShape c.args.writing.layout z) (sym i.keeps.same.shape) laid.0, laid.1) in
    fill_stops c.args.m.now c.loop-left.m c.write_bytes.new.m c.args.writing.file c.args.at c.loop-left.from c.args.len c.loop-left.left byte (g.B.Bay.state c.args.bay.now)
    (g.B.Bay.state c.loop-left.bay) (g.B.Bay.state c.write_bytes.new.bay) i.mounted i.keeps.same.id i.in_range (i.held byte all laid) n (take n c.args.buf.now) c.in-Err.refusal i.place short
    (first_alike n byte c.args.buf.now all room) (c.in-Err.ensures.held of)

pub returns-then-n-eq0-clause-held : goal.returns-then-n-eq0-clause-held
returns-then-n-eq0-clause-held g c = λ byte all laid.
    let i = c.loop-left.invariant in
    no_filling c.args.m.now c.loop-left.m c.args.writing.file c.args.at c.args.len c.loop-left.left byte (g.B.Bay.state c.args.bay.now) (g.B.Bay.state c.loop-left.bay) i.mounted i.keeps.same.id
    i.in_range (i.held byte all laid) cause.NoMemory

pub returns-clause-held : goal.returns-clause-held
returns-clause-held g c = λ byte all laid.
    let whole : c.args.len - c.loop-left.left ≡ c.args.len = omega (arith, c.loop-left-test.false) in
    subst (λ (n : ℕ). WritesSpan c.args.m.now c.args.writing.file c.args.at (replicate n byte) (Ok tt) c.loop-left.m (g.B.Bay.state c.args.bay.now) (g.B.Bay.state c.loop-left.bay)) whole
    (c.loop-left.invariant.held byte all laid)
