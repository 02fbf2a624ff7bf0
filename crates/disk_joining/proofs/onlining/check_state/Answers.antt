use Rattle.std.proofs.Common.{◌≡◌, Some, sym, ap, ◌∙◌}
use Rattle.asm_formats.specs.Status.{Entry}
use Rattle.disk_joining.proofs.Passing.{entry_is, state_refused}
use Rattle.disk_joining.proofs.onlining.check_state.Goals as goal

pub returns-in_default-clause-cause : goal.returns-in_default-clause-cause
returns-in_default-clause-cause c =
    let at = entry_is c.status.result.now c.args.m.now.register.value c.args.number (Some c.in-Some.entry) c.status.ensures c.in-Some.ensures in
    let same : c.in-Some.entry.mode ≡ c.entry.inside.mode = cc (ap (λ (x : Entry). x.mode) c.entry.view_is) in
    state_refused c.args.m.now c.args.disks c.args.number c.in-Some.entry c.entry.inside.mode (sym c.has.ensures ∙ c.if-not-has.false) at same c.in_default.not-Offline c.requires.lesser
