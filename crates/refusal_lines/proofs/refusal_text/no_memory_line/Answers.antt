use Rattle.std.proofs.Common.{refl}
use Rattle.std.specs.Fmt.{digits}
use Rattle.refusal_lines.proofs.refusal_text.no_memory_line.Goals as goal

-- src/refusal_text.rt:107:1
pub returns : goal.returns
unfolding digits
returns c = refl
