use Rattle.std.proofs.Common.{refl}
use Rattle.std.specs.Fmt.{digits}
use Rattle.refusal_lines.specs.Refusals.{meaning_of}
use Rattle.serving.proofs.printing.print_no_memory.Goals as goal

pub returns-clause-reply : goal.returns-clause-reply
unfolding meaning_of
returns-clause-reply g c = refl

pub returns-clause-bytes : goal.returns-clause-bytes
unfolding meaning_of digits
returns-clause-bytes g c = rw c.no_memory_line.ensures at c.print_line.ensures.bytes
