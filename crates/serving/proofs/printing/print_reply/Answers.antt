use Rattle.serving.proofs.Printed.{bytes-as, done-as}
use Rattle.serving.proofs.printing.print_reply.Goals as goal

pub returns-in-Done-clause-bytes : goal.returns-in-Done-clause-bytes
returns-in-Done-clause-bytes g c = bytes-as _ _ c.print_lines-printed.result _ _ (done-as c.as_slice.result.now c.in-Done.lines c.as_slice.ensures) c.print_lines-printed.ensures.bytes
