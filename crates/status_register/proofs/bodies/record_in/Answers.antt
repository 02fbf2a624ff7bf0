use Rattle.std.proofs.Common.{sym, subst}
use Rattle.status_register.specs.Sayings.{IsAllowedStatus}
use Rattle.status_register.proofs.Allowing.{decoded_allowed}
use Rattle.status_register.proofs.bodies.record_in.Goals as goal

pub returns-in-Some-clause-allowed : goal.returns-in-Some-clause-allowed
returns-in-Some-clause-allowed c = subst IsAllowedStatus (sym c.decode.ensures) (decoded_allowed _)
