use Rattle.std.proofs.Common.{ℕ, ap, sym, subst, ◌∙◌}
use Rattle.record_laws.proofs.catalog_tables.AfterLaws.{one_after}
use Rattle.record_laws.specs.catalog.Plans.{IsPlan}
use Rattle.record_laws.specs.catalog_tables.Tables.{Catalogued, Tables}
use Rattle.record_laws.specs.catalog.ExtentPlans.{MayMark, with_marks_changed}
use Rattle.record_laws.proofs.group_engine.Endings.{goes_begin, goes_without}
use Rattle.record_laws.proofs.group_engine.KeptRecords.{record_stays}
use Rattle.group_pieces.proofs.Leaving.{may_mark}
use Rattle.group_pieces.specs.Marking.{MarksMore}
use Rattle.group_pieces.proofs.MarkLookups.{marks_more, marks_same}
use Rattle.group_pieces.proofs.Marked.{left_marked, none_left}
use Rattle.group_pieces.proofs.Recording.{held_commit, held_none, held_without}
use Rattle.group_pieces.proofs.Steps.{on_ok}
use Rattle.group_pieces.proofs.marking.mark_left.Goals as goal

pub left_copies-left-requires : goal.left_copies-left-requires
left_copies-left-requires g c = record { shape = (c.requires.takes c.requires.mounted).0.shape; short = c.requires.short }

pub returns-then-left-eq0-clause-goes : goal.returns-then-left-eq0-clause-goes
returns-then-left-eq0-clause-goes g c =
    let takes = c.requires.takes c.requires.mounted in
    goes_begin c.args.m.now (g.B.Bay.state c.args.bay.now) c.requires.mounted takes.0 takes.1

pub returns-then-left-eq0-clause-marked : goal.returns-then-left-eq0-clause-marked
returns-then-left-eq0-clause-marked g c =
    let m = c.args.m.now in
    none_left m c.args.x c.args.inner c.args.failed (sym c.left_copies-left.ensures.value ∙ c.if-left-eq0.true) m.catalog.tables

pub plan_marks-requires : goal.plan_marks-requires
plan_marks-requires g c =
    let m = c.args.m.now in
    record {
      marks = subst (λ (k : Catalogued). MayMark k.tables c.args.x.file c.args.x.index c.left_copies-left.result) (sym c.catalog.ensures)
          (subst (λ (n : ℕ). MayMark m.catalog.tables c.args.x.file c.args.x.index n) (sym c.left_copies-left.ensures.value)
          (may_mark m c.args.x c.args.inner c.args.failed (λ none. c.if-left-eq0.false (c.left_copies-left.ensures.value ∙ none))));
    }

pub returns-clause-goes : goal.returns-clause-goes
returns-clause-goes g c =
    let takes = c.requires.takes c.requires.mounted in
    goes_without c.args.m.now (g.B.Bay.state c.args.bay.now) takes.0 takes.1

pub returns-in-Ok-clause-marked : goal.returns-in-Ok-clause-marked
returns-in-Ok-clause-marked g c =
    let m = c.args.m.now in
    let is = c.left_copies-left.ensures.value in
    let change = c.in-Ok.change in
    let planned = subst (λ (k : Catalogued). IsPlan k change.put change.gone (with_marks_changed k.tables c.args.x.file c.args.x.index c.left_copies-left.result 0)) c.catalog.ensures c.in-Ok.ensures.planned in
    on_ok c.commit_plan.result
    (λ applied. left_marked m c.args.x c.args.inner c.args.failed c.left_copies-left.ensures.rules (λ none. c.if-left-eq0.false (is ∙ none)) c.commit_plan.new.self.catalog.tables
    (one_after m.catalog.tables c.commit_plan.new.self.catalog.tables (with_marks_changed m.catalog.tables c.args.x.file c.args.x.index c.left_copies-left.result 0) change.put change.gone applied planned.after
    ∙ ap (λ (n : ℕ). with_marks_changed m.catalog.tables c.args.x.file c.args.x.index n 0) is))
    c.commit_plan.ensures.commits.applied

pub returns-in-Ok-clause-still : goal.returns-in-Ok-clause-still
returns-in-Ok-clause-still g c = λ none. absurd (c.if-left-eq0.false (c.left_copies-left.ensures.value ∙ none))

pub returns-then-left-eq0-clause-held : goal.returns-then-left-eq0-clause-held
returns-then-left-eq0-clause-held g c =
    held_none c.args.m.now (g.B.Bay.state c.args.bay.now) (g.met.B.Bay.sound c.args.bay.now) c.args.x c.args.inner c.args.failed (sym c.left_copies-left.ensures.value ∙ c.if-left-eq0.true)

pub returns-then-left-eq0-clause-status : goal.returns-then-left-eq0-clause-status
returns-then-left-eq0-clause-status g c = record_stays c.args.m.now.register.value

pub returns-clause-held : goal.returns-clause-held
returns-clause-held g c = held_without c.args.m.now (g.B.Bay.state c.args.bay.now) (g.met.B.Bay.sound c.args.bay.now) c.args.x c.args.inner c.args.failed _

pub returns-clause-status : goal.returns-clause-status
returns-clause-status g c = record_stays c.args.m.now.register.value

pub returns-in-Ok-clause-held : goal.returns-in-Ok-clause-held
returns-in-Ok-clause-held g c =
    let m = c.args.m.now in
    let change = c.in-Ok.change in
    let planned = subst (λ (k : Catalogued). IsPlan k change.put change.gone (with_marks_changed k.tables c.args.x.file c.args.x.index c.left_copies-left.result 0)) c.catalog.ensures c.in-Ok.ensures.planned in
    held_commit m (g.B.Bay.state c.args.bay.now) (g.met.B.Bay.sound c.args.bay.now) c.args.x c.args.inner c.args.failed c.commit_plan.new.self (g.B.Bay.state c.commit_plan.new.bay) change.put change.gone c.commit_plan.result
    c.requires.mounted
    (subst (λ (k : ℕ). IsPlan m.catalog change.put change.gone (with_marks_changed m.catalog.tables c.args.x.file c.args.x.index k 0)) c.left_copies-left.ensures.value planned)
    c.commit_plan.ensures.commits

pub returns-in-Ok-clause-turns : goal.returns-in-Ok-clause-turns
returns-in-Ok-clause-turns g c = (c.commit_plan.ensures.commits.held c.requires.mounted).turns

pub returns-then-left-eq0-clause-places : goal.returns-then-left-eq0-clause-places
returns-then-left-eq0-clause-places g c = marks_same c.args.m.now.catalog.tables

pub returns-in-Ok-clause-places : goal.returns-in-Ok-clause-places
returns-in-Ok-clause-places g c =
    let m = c.args.m.now in
    let change = c.in-Ok.change in
    let planned = subst (λ (k : Catalogued). IsPlan k change.put change.gone (with_marks_changed k.tables c.args.x.file c.args.x.index c.left_copies-left.result 0)) c.catalog.ensures c.in-Ok.ensures.planned in
    on_ok c.commit_plan.result
    (λ applied. subst (λ (t : Tables). MarksMore m.catalog.tables t)
    (sym (one_after m.catalog.tables c.commit_plan.new.self.catalog.tables (with_marks_changed m.catalog.tables c.args.x.file c.args.x.index c.left_copies-left.result 0) change.put change.gone applied planned.after))
    (marks_more m.catalog.tables (c.requires.takes c.requires.mounted).0.are_tables c.args.x.file c.args.x.index c.left_copies-left.result))
    c.commit_plan.ensures.commits.applied
