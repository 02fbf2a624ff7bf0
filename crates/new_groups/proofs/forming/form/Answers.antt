use Rattle.std.proofs.Common.{[]}
use Rattle.refusal_lines.specs.Refusals.{meaning_of}
use Rattle.new_groups.proofs.Works.{form_refused}
use Rattle.new_groups.proofs.forming.form.Goals as goal

pub returns-in-Err-clause-cause : goal.returns-in-Err-clause-cause
returns-in-Err-clause-cause g c =
    form_refused c.args.ready.now.draft.disks.items (g.B.Bay.state c.args.bay.now) (g.B.Bay.state c.give_parts.new.bay) c.in-Err.error (meaning_of (λ _. []) c.refusal_of.result) (rw (← c.deref.ensures.value) c.refusal_of.ensures) c.in-Err.ensures.cause
