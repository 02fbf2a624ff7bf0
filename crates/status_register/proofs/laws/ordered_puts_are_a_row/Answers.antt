use Rattle.bay.specs.Counts.{Rose}
use Rattle.status_register.specs.Slots.{status_gate}
use Rattle.status_register.proofs.Ordering.{order_row}
use Rattle.status_register.proofs.laws.ordered_puts_are_a_row.Goals as goal

pub returns : goal.returns
returns c = λ id body ms before now. order_row (status_gate id) body (λ slot. Rose (before slot) (now slot)) ms
