use Rattle.std.proofs.Common.{◌≡◌, ℕ, ◌+◌, ◌-◌, ◌<◌, ◌≤◌, ◌^◌, length, take, drop, Ok, ap, subst, sym, ◌∙◌, arith}
use Rattle.std.proofs.lemmas.Grind.{common_steps}
use Rattle.std.proofs.lemmas.List.{length-drop, length-take-le, take_all}
use Rattle.asm_group.specs.Names.{Bytes}
use Rattle.asm_group.specs.Shape.{Shape}
use Rattle.refusal_lines.specs.declared.refusal.Refusal.TheVariants as cause
use Rattle.file_extents.specs.catalog_tables.Tables.{Catalogued}
use Rattle.file_extents.proofs.group_engine.Causes.{calls_keep}
use Rattle.file_extents.proofs.Chains.{fails_none, fails_on, kept, put_on, takes_on}
use Rattle.file_extents.specs.Pieces.{IsOfShape}
use Rattle.group_contents.specs.Writing.{WritesSpan}
use Rattle.group_contents.proofs.Rounds.{no_piece, piece_next, piece_stops}
use Rattle.group_contents.proofs.Shown.{first_step}
use Rattle.group_contents.proofs.Spans.{span_none}
use Rattle.group_contents.proofs.writing.write_bytes.Goals as goal

pub loop-done-init : goal.loop-done-init
loop-done-init g c =
    let s = g.B.Bay.state c.args.bay.now in
    record {
      in_range = omega arith;
      place = omega arith;
      end = c.ranges.at.fits;
      mounted = c.requires.mounted;
      keeps = kept c.args.m.now s c.requires.takes;
      failed = fails_none c.args.m.now c.args.failed s;
      held = λ laid. span_none c.args.m.now c.requires.mounted c.args.writing.file c.args.at s;
    }

pub write_one-requires-clause-takes : goal.write_one-requires-clause-takes
write_one-requires-clause-takes g c = takes_on c.loop-done.invariant.keeps

pub returns-in-Err-clause-keeps : goal.returns-in-Err-clause-keeps
returns-in-Err-clause-keeps g c = calls_keep c.loop-done.invariant.keeps c.write_one.ensures.keeps

pub returns-in-Err-clause-cause : goal.returns-in-Err-clause-cause
returns-in-Err-clause-cause g c =
    let i = c.loop-done.invariant in
    put_on i.keeps i.mounted (g.B.Bay.state c.write_one.new.bay) c.write_one.new.m c.args.failed c.loop-done.failed i.failed c.write_one.ensures.keeps c.in-Err.refusal c.in-Err.ensures.cause

pub loop-done-preserved : goal.loop-done-preserved
loop-done-preserved g c =
    let i = c.loop-done.invariant in
    let m = c.args.m.now in
    let mid = c.loop-done.m in
    let file = c.args.writing.file in
    let done = c.loop-done.done in
    let bytes = c.args.bytes.now in
    let p = c.in-Some.piece in
    let part = take (done + p.len - done) (drop done bytes) in
    let room : done + p.len ≤ length bytes = omega (arith, c.in-Some.ensures.within, c.loop-done-test.true) in
    let size : length part ≡ p.len = length-take-le (done + p.len - done) (drop done bytes) (omega (arith, room, length-drop done bytes)) ∙ omega arith in
    let shape = c.shape-shape.ensures.shape ∙ ap (λ (k : Catalogued). k.shape) c.catalog.ensures in
    record {
      in_range = omega (arith, c.in-Some.ensures.within, c.loop-done-test.true);
      place = grind (arith, common_steps, c.saturating_add-from.ensures, i.place, c.in-Some.ensures.end, c.in-Some.ensures.within);
      end = grind (arith, common_steps, c.saturating_add-from.ensures, c.in-Some.ensures.end, c.in-Some.ensures.within);
      held = λ laid.
          let of = subst (λ (z : Shape). IsOfShape c.args.writing.layout z) (sym i.keeps.same.shape) laid.0 in
          let step = first_step c.shape-shape.result mid.catalog.shape c.args.writing.layout file.stripe file.file c.loop-done.from (length bytes - done) (length part) p shape laid.1 of c.in-Some.ensures.first size in
          piece_next m mid c.write_one.new.m file c.args.at c.loop-done.from done bytes (g.B.Bay.state c.args.bay.now) (g.B.Bay.state c.loop-done.bay) (g.B.Bay.state c.write_one.new.bay)
          i.mounted i.keeps.same.id i.in_range (i.held laid) p.len (length bytes - done) p.x p.inner (Ok c.in-Ok.more) i.place step c.in-Ok.ensures.held;
      mounted = c.in-Ok.ensures.mounted;
      keeps = calls_keep i.keeps c.write_one.ensures.keeps;
      failed = fails_on c.args.failed c.loop-done.failed c.in-Ok.more i.keeps c.write_one.ensures.keeps i.failed c.in-Ok.ensures.failed;
    }

pub returns-in-Err-clause-held : goal.returns-in-Err-clause-held
returns-in-Err-clause-held g c = λ laid.
    let i = c.loop-done.invariant in
    let m = c.args.m.now in
    let mid = c.loop-done.m in
    let file = c.args.writing.file in
    let done = c.loop-done.done in
    let bytes = c.args.bytes.now in
    let p = c.in-Some.piece in
    let part = take (done + p.len - done) (drop done bytes) in
    let room : done + p.len ≤ length bytes = omega (arith, c.in-Some.ensures.within, c.loop-done-test.true) in
    let size : length part ≡ p.len = length-take-le (done + p.len - done) (drop done bytes) (omega (arith, room, length-drop done bytes)) ∙ omega arith in
    let shape = c.shape-shape.ensures.shape ∙ ap (λ (k : Catalogued). k.shape) c.catalog.ensures in
    let of = subst (λ (z : Shape). IsOfShape c.args.writing.layout z) (sym i.keeps.same.shape) laid.0 in
    let step = first_step c.shape-shape.result mid.catalog.shape c.args.writing.layout file.stripe file.file c.loop-done.from (length bytes - done) (length part) p shape laid.1 of c.in-Some.ensures.first size in
    piece_stops m mid c.write_one.new.m file c.args.at c.loop-done.from done bytes (g.B.Bay.state c.args.bay.now) (g.B.Bay.state c.loop-done.bay) (g.B.Bay.state c.write_one.new.bay) i.mounted
    i.keeps.same.id i.in_range (i.held laid) p.len (length bytes - done) p.x p.inner c.in-Err.refusal i.place step c.in-Err.ensures.held

pub returns-in_default-clause-held : goal.returns-in_default-clause-held
returns-in_default-clause-held g c = λ laid.
    let i = c.loop-done.invariant in
    no_piece c.args.m.now c.loop-done.m c.args.writing.file c.args.at c.loop-done.done c.args.bytes.now (g.B.Bay.state c.args.bay.now) (g.B.Bay.state c.loop-done.bay) i.mounted i.keeps.same.id
    (i.held laid) cause.NoMemory

pub returns-clause-held : goal.returns-clause-held
returns-clause-held g c = λ laid.
    let i = c.loop-done.invariant in
    subst (λ (l : Bytes). WritesSpan c.args.m.now c.args.writing.file c.args.at l (Ok tt) c.loop-done.m (g.B.Bay.state c.args.bay.now) (g.B.Bay.state c.loop-done.bay))
    (take_all c.loop-done.done c.args.bytes.now c.loop-done-test.false) (i.held laid)

pub returns-clause-end : goal.returns-clause-end
returns-clause-end g c =
    let i = c.loop-done.invariant in
    let end : c.args.at + length c.args.bytes.now < 2 ^ 64 = omega (arith, i.place, i.in_range, i.end, c.loop-done-test.false) in
    end
