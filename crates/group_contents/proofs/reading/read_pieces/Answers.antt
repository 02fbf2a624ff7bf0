use Rattle.std.proofs.Common.{◌≡◌, ℕ, ◌+◌, ◌-◌, ◌≤◌, ◌++◌, length, take, drop, ap, subst, ◌∙◌, arith}
use Rattle.std.proofs.lemmas.Grind.{common_steps}
use Rattle.std.proofs.lemmas.List.{length-drop, length-take-le}
use borrow.Rule.Slice.PartMut.{post_of}
use Rattle.asm_group.specs.Names.{Bytes}
use Rattle.file_extents.specs.catalog_tables.Tables.{Catalogued}
use Rattle.file_extents.proofs.group_engine.Causes.{calls_keep}
use Rattle.file_extents.specs.group_pieces.Usable.{piece_of}
use Rattle.file_extents.proofs.group_pieces.Keeping.{no_reads}
use Rattle.file_extents.proofs.Chains.{kept, takes_on}
use Rattle.group_contents.proofs.Chains.{read_on}
use Rattle.group_contents.specs.Reading.{WhereMounted}
use Rattle.group_contents.proofs.Shown.{ShowsFirst, first_step, kept_before, mounted_more, put_behind, reads_more, shows_all, shows_more, shows_none, stays_itself}
use Rattle.group_contents.proofs.reading.read_pieces.Goals as goal

pub loop-done-init : goal.loop-done-init
loop-done-init g c =
    let m = c.args.m.now in
    let s = g.B.Bay.state c.args.bay.now in
    record {
      in_range = omega arith;
      place = omega arith;
      keeps = kept m s c.requires.takes;
      reads = no_reads m s (c.requires.takes c.requires.mounted).1;
      mounted = stays_itself m s;
      shown = shows_none m s s c.args.file.now c.args.at c.args.buf.now;
    }

pub read_one-requires-clause-takes : goal.read_one-requires-clause-takes
read_one-requires-clause-takes g c = takes_on c.loop-done.invariant.keeps

pub returns-in-Err-clause-keeps : goal.returns-in-Err-clause-keeps
returns-in-Err-clause-keeps g c = calls_keep c.loop-done.invariant.keeps c.read_one.ensures.keeps

pub returns-in-Err-clause-cause : goal.returns-in-Err-clause-cause
returns-in-Err-clause-cause g c =
    read_on c.loop-done.invariant.keeps c.requires.mounted (g.B.Bay.state c.read_one.new.bay) c.args.file.now c.in-Err.refusal c.in-Err.ensures.cause

pub returns-in-Err-clause-reads : goal.returns-in-Err-clause-reads
returns-in-Err-clause-reads g c = reads_more c.loop-done.invariant.reads c.read_one.ensures.reads

pub returns-in-Err-clause-mounted : goal.returns-in-Err-clause-mounted
returns-in-Err-clause-mounted g c =
    mounted_more c.args.m.now (g.B.Bay.state c.args.bay.now) (g.B.Bay.state c.loop-done.bay) (g.B.Bay.state c.read_one.new.bay) c.loop-done.invariant.mounted c.read_one.ensures.mounted

pub loop-done-preserved : goal.loop-done-preserved
loop-done-preserved g c =
    let m = c.args.m.now in
    let s = g.B.Bay.state c.args.bay.now in
    let t = g.B.Bay.state c.loop-done.bay in
    let u = g.B.Bay.state c.read_one.new.bay in
    let inv = c.loop-done.invariant in
    let file = c.args.file.now in
    let done = c.loop-done.done in
    let old = c.loop-done.buf in
    let p = c.in-Some.piece in
    let room : done + p.len ≤ length old = omega (arith, c.in-Some.ensures.within, c.loop-done-test.true) in
    let before : done ≤ length old = omega (arith, room) in
    let size : length (take (done + p.len - done) (drop done old)) ≡ p.len = length-take-le (done + p.len - done) (drop done old) (omega (arith, room, length-drop done old)) ∙ omega arith in
    let n : ℕ = length (take (done + p.len - done) (drop done old)) in
    let piece = c.read_one.new.buf in
    let long : length piece ≡ n = c.read_one.auto.buf in
    let tail = post_of done (done + p.len - done) old in
    let new : Bytes = take done old ++ (piece ++ tail) in
    let shape = c.shape-shape.ensures.shape ∙ ap (λ (k : Catalogued). k.shape) c.catalog.ensures in
    let step = first_step c.shape-shape.result m.catalog.shape c.args.layout file.stripe file.file c.loop-done.from (length old - done) n p shape c.requires.stripe c.requires.shape c.in-Some.ensures.first size in
    let shown = shows_more m s t u file c.args.at done c.loop-done.from (length old - done) (piece_of p.x p.inner n) old new piece c.read_one.ensures.reads inv.mounted inv.place step
    (λ k low. kept_before old piece tail done k before low) (λ k low. put_behind old piece tail done k before (omega (arith, low, long))) inv.shown c.in-Ok.ensures.agrees in
    record {
      in_range = omega (arith, c.in-Some.ensures.within, c.loop-done-test.true, c.loop-done.auto.buf);
      place = grind (arith, common_steps, c.saturating_add-from.ensures, inv.place, c.in-Some.ensures.end, c.in-Some.ensures.within);
      keeps = calls_keep inv.keeps c.read_one.ensures.keeps;
      reads = reads_more inv.reads c.read_one.ensures.reads;
      mounted = mounted_more m s t u inv.mounted c.read_one.ensures.mounted;
      shown = subst (λ (k : ℕ). WhereMounted m s u (ShowsFirst file c.args.at (done + k) new)) size shown;
    }

pub returns-clause-agrees : goal.returns-clause-agrees
returns-clause-agrees g c =
    shows_all c.args.m.now (g.B.Bay.state c.args.bay.now) (g.B.Bay.state c.loop-done.bay) c.args.file.now c.args.at c.loop-done.done c.loop-done.buf c.loop-done-test.false c.loop-done.invariant.shown
