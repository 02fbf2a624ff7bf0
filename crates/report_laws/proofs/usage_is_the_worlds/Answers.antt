use Rattle.report_laws.proofs.Usage.{usage_is_worlds}
use Rattle.report_laws.proofs.usage_is_the_worlds.Goals as goal

pub returns : goal.returns
returns c = usage_is_worlds
