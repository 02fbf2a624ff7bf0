use Rattle.std.proofs.Common.{ℕ, ◌<◌, Some, None, sym, subst, ◌∙◌}
use Rattle.asm_placement.proofs.Chosen.{entry_among}
use Rattle.disk_joining.specs.Returning.{is_present}
use Rattle.disk_joining.proofs.Passing.{entry_is, image_refused, pass_with, pass_without}
use Rattle.disk_joining.proofs.onlining.check_image.Goals as goal

pub returns-then-not-has-clause-passes : goal.returns-then-not-has-clause-passes
returns-then-not-has-clause-passes c =
    pass_without c.args.m.now.register.value.entries c.args.disks (is_present c.args.looked.now c.args.held.now c.args.m.now) c.args.number (sym c.has.ensures ∙ c.if-not-has.true) c.requires.lesser

pub is_there-requires-clause-small : goal.is_there-requires-clause-small
is_there-requires-clause-small c =
    let at = entry_is c.status.result.now c.args.m.now.register.value c.args.number (Some c.in-Some.entry) c.status.ensures c.in-Some.ensures in
    subst (λ (n : ℕ). n < 64) (sym (entry_among c.args.m.now.register.value.entries c.args.number c.in-Some.entry at).1) c.requires.small

pub returns-then-is_there-clause-passes : goal.returns-then-is_there-clause-passes
returns-then-is_there-clause-passes c =
    let at = entry_is c.status.result.now c.args.m.now.register.value c.args.number (Some c.in-Some.entry) c.status.ensures c.in-Some.ensures in
    pass_with c.args.m.now.register.value.entries c.args.disks (is_present c.args.looked.now c.args.held.now c.args.m.now) c.args.number c.in-Some.entry at (sym c.is_there.ensures ∙ c.if-is_there.true) c.requires.lesser

pub returns-else-is_there-clause-cause : goal.returns-else-is_there-clause-cause
returns-else-is_there-clause-cause c =
    let at = entry_is c.status.result.now c.args.m.now.register.value c.args.number (Some c.in-Some.entry) c.status.ensures c.in-Some.ensures in
    image_refused c.args.looked.now c.args.held.now c.args.m.now c.args.disks c.args.number c.in-Some.entry (sym c.has.ensures ∙ c.if-not-has.false) at (sym c.is_there.ensures ∙ c.if-is_there.false) c.requires.lesser

pub returns-in-None-clause-cause : goal.returns-in-None-clause-cause
returns-in-None-clause-cause c =
    (c.args.number, sym c.has.ensures ∙ c.if-not-has.false, entry_is c.status.result.now c.args.m.now.register.value c.args.number None c.status.ensures c.in-None.ensures)
