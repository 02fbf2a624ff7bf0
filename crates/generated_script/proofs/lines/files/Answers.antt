use Rattle.generated_script.proofs.Scripts.{no_files}
use Rattle.generated_script.proofs.lines.files.Goals as goal

pub returns-then-count-eq0 : goal.returns-then-count-eq0
returns-then-count-eq0 c = λ x. no_files c.args.count x _ c.if-count-eq0.true (c.early_fills.ensures x)
