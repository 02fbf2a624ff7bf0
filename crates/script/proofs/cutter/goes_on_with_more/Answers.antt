use Rattle.script.proofs.Going.{more}
use Rattle.script.proofs.cutter.goes_on_with_more.Goals as goal

pub returns : goal.returns
returns c = λ bytes tail c s. more bytes tail _ _ _ _ s
