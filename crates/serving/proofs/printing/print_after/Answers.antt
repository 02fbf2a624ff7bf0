use Rattle.std.proofs.Common.{refl, inr, []}
use Rattle.refusal_lines.specs.Refusals.{meaning_of}
use Rattle.serving.proofs.Printed.{bytes-as, refused-as}
use Rattle.serving.proofs.printing.print_after.Goals as goal

pub returns-in-Err-clause-reply : goal.returns-in-Err-clause-reply
returns-in-Err-clause-reply g c = inr (refl, c.print_no_memory.ensures.reply)

pub returns-in-Ok-clause-bytes : goal.returns-in-Ok-clause-bytes
returns-in-Ok-clause-bytes g c = bytes-as _ _ c.print_lines-printed.result _ _ (refused-as c.as_slice.result.now c.args.lines (meaning_of (λ _. []) c.args.refusal) c.deref.result.now c.in-Ok.text.items c.as_slice.ensures c.deref.ensures.value c.in-Ok.ensures) c.print_lines-printed.ensures.bytes
