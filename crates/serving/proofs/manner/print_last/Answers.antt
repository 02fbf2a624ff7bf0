use Rattle.std.proofs.Common.{[], ◌∷◌}
use Rattle.serving.proofs.Printed.{all-behind, cut-more}
use Rattle.serving.proofs.manner.print_last.Goals as goal

pub returns-in-Ok-clause-bytes : goal.returns-in-Ok-clause-bytes
returns-in-Ok-clause-bytes g c = all-behind _ _ _ c.print_reply.result.1 (10 ∷ []) _ c.in-Ok.ensures.bytes c.print_reply.ensures.bytes

pub returns-in-Err-clause-bytes : goal.returns-in-Err-clause-bytes
returns-in-Err-clause-bytes g c = cut-more _ _ (10 ∷ []) _ c.in-Err.ensures.bytes
