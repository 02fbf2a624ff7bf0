use Rattle.std.proofs.Common.{Option, subst}
use Rattle.std.specs.Prelude.{IfSome}
use Rattle.refusal_lines.specs.declared.refusal.Refusal.{Refusal}
use Rattle.disk_commands.specs.Waits.{HasShortCause}
use Rattle.disk_commands.proofs.Waits.{spelt_short}
use Rattle.disk_commands.proofs.waiting.told.Goals as goal

pub returns-in-Some : goal.returns-in-Some
returns-in-Some c = λ why. spelt_short c.args.m.now c.in-Some.refusal c.spelt.result c.spelt.ensures
    (subst (λ (o : Option Refusal). IfSome o (HasShortCause c.args.m.now)) c.in-Some.is why)
