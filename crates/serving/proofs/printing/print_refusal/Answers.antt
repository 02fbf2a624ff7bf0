use Rattle.std.proofs.Common.{refl, inr}
use Rattle.serving.proofs.printing.print_refusal.Goals as goal

pub returns-in-Err-clause-reply : goal.returns-in-Err-clause-reply
returns-in-Err-clause-reply g c = inr (refl, c.print_no_memory.ensures.reply)
