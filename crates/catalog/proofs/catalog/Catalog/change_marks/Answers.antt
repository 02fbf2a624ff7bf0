use Rattle.std.proofs.Common.{◌/◌, ◌%◌, ℕ, ◌∷◌, [], ap, ◌∙◌}
use Rattle.std.specs.Prelude.{slice_set}
use Rattle.asm_base.specs.Records.{DirectoryRecord}
use Rattle.plan_records.specs.staleness_directory.Marks.{record_of_marks}
use Rattle.catalog.specs.ExtentPlans.{marks_changed, marks_or_none}
use Rattle.catalog.proofs.MarkPlans.{marks_planned}
use Rattle.catalog.proofs.catalog.Catalog.change_marks.Goals as goal

pub returns : goal.returns
returns c =
    let its : ℕ → DirectoryRecord = λ marks. record_of_marks ((c.args.x.file, c.args.x.index / 256), slice_set (marks_or_none c.args.self.now.tables.stale (c.args.x.file, c.args.x.index / 256)) (c.args.x.index % 256) marks) in
    let marks = c.marks_changed-marks.ensures ∙ ap (λ (old : ℕ). marks_changed old c.args.set c.args.clear) c.marks.ensures in
    marks_planned c.args.self.now c.keeps_rules.ensures c.args.x.file c.args.x.index c.args.set c.args.clear c.requires.marks c.in_ok-change.change.put c.in_ok-change.change.gone
    (c.in_ok-change.ensures.put ∙ ap (λ (e : DirectoryRecord). e ∷ []) (c.in_ok-entry.ensures ∙ ap its marks)) c.in_ok-change.ensures.gone
