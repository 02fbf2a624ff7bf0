use Rattle.std.proofs.Common.{inr, sym, subst}
use Rattle.status_register.specs.Sayings.{IsOwnRecord}
use Rattle.status_register.proofs.Allowing.{greater_own}
use Rattle.status_register.proofs.tally.read_one.Goals as goal

pub returns-in-Ok-clause-own : goal.returns-in-Ok-clause-own
returns-in-Ok-clause-own g c = λ was.
    subst (IsOwnRecord c.args.id) (sym c.greater_of.ensures) (greater_own c.args.id c.args.tally.status c.in-Ok.found.status was c.in-Ok.ensures.own)

pub returns-in-Ok-clause-adds : goal.returns-in-Ok-clause-adds
returns-in-Ok-clause-adds g c = inr (
  c.in-Ok.found.epoch,
  c.in-Ok.found.status,
  c.in-Ok.found.damage,
  c.in-Ok.ensures.call.done,
  (λ i. record { read = c.with.ensures i; epoch = c.max.ensures i; status = c.greater_of.ensures i; damage = c.first_of.ensures i }),
)
