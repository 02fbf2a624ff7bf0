use Rattle.std.proofs.Common.{subst, sym}
use Rattle.file_extents.specs.declared.rows.NewExtents.{NewExtents}
use Rattle.group_contents.specs.Creating.{AreOfNew}
use Rattle.group_contents.proofs.creating.prepare_new.Goals as goal

pub returns-in-Ok-clause-extents : goal.returns-in-Ok-clause-extents
returns-in-Ok-clause-extents c =
    subst (λ (x : NewExtents). AreOfNew c.args.m.now c.args.new.now x) (sym c.in-Ok.ensures.new)
    (record { copies = c.in_ok-copies.copies; stripe = c.in_ok-copies.stripe; chosen = c.in_ok-copies.ensures.chosen; next = c.in_ok-extents.ensures.extents })
