use Rattle.std.proofs.Common.{inr}
use Rattle.file_commands.proofs.HostCauses.{given_none, work_or}
use Rattle.file_commands.proofs.copying.give_up.Goals as goal

pub returns-in-Ok-clause-cause : goal.returns-in-Ok-clause-cause
returns-in-Ok-clause-cause g c = inr tt

pub returns-in-Err-clause-cause : goal.returns-in-Err-clause-cause
returns-in-Err-clause-cause g c = work_or c.args.refusal _ _ _ _ _ _ _ c.in-Err.ensures (λ x y raw why. given_none c.args.refusal x y _ _ raw why.1)
