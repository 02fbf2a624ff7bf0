use Rattle.std.proofs.Common.{◌≡◌, subst}
use Rattle.asm_formats.specs.Items.{Home}
use Rattle.table_tests.proofs.ExtentConditions.{may_append}
use Rattle.table_tests.proofs.catalogs.extents.may_append.Goals as goal

pub returns : goal.returns
returns c = λ m few marks.
    let apart : c.args.first.disk ≡ c.args.second.disk → ⊥ =
    subst (λ (h : Home). h.disk ≡ c.args.second.disk → ⊥) c.first.view_is (subst (λ (h : Home). c.first.inside.disk ≡ h.disk → ⊥) c.second.view_is c.if-first-second.false) in
    let room = c.if-not-has_room.ensures in
    may_append c.args.group.now c.args.file c.args.first c.args.second apart room.units room.copies room.owned room.room c.requires.first c.requires.second m few marks
