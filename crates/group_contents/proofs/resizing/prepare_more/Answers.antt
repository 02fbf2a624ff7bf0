use Rattle.std.proofs.Common.{subst, sym}
use Rattle.std.proofs.lemmas.Result.{err_from_is_err_and}
use Rattle.file_extents.specs.declared.rows.NewExtents.{NewExtents}
use Rattle.group_contents.specs.Sizes.{AreMore}
use Rattle.group_contents.proofs.Steps.{room_grows}
use Rattle.group_contents.proofs.resizing.prepare_more.Goals as goal

pub returns-in_err-new-clause-cause : goal.returns-in_err-new-clause-cause
returns-in_err-new-clause-cause c =
    let f = err_from_is_err_and c.from_residual.result c.from_residual.ensures.1 in
    rw (f.1, f.2) (room_grows c.args.m.now c.args.file.now c.in_err-new.field-0.0 c.in_err-new.ensures.cause)

pub returns-in-Ok-clause-extents : goal.returns-in-Ok-clause-extents
returns-in-Ok-clause-extents c = subst (λ (x : NewExtents). AreMore c.args.m.now.catalog c.args.file.now x) (sym c.in-Ok.ensures.new) c.in_ok-new.ensures.extents
