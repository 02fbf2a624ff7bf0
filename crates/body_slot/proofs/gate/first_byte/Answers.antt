use Rattle.std.proofs.Common.{ℕ, List, get_or, ap, ◌∙◌, arith}
use Rattle.bay.proofs.Images.{get_or-window}
use Rattle.bay.proofs.OneCall.{of_reading}
use Rattle.body_slot.proofs.gate.first_byte.Goals as goal

pub returns-clause-call : goal.returns-clause-call
returns-clause-call g c = record {
  calls = (of_reading c.read.ensures).calls;
  done = λ image holds. ap (λ (l : List ℕ). get_or l 0 0) (c.in_ok-read.ensures.done image holds) ∙ get_or-window (image.byte c.args.slot) c.args.at _ 0 c.requires.some ∙ ap (image.byte c.args.slot) (omega arith);
  cause = tt;
}
