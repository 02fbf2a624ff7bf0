use Rattle.std.proofs.Common.{not, rules}
use Rattle.std.proofs.lemmas.Fn.{filter_same}
use Rattle.group_recovery.specs.Founds.{is_held}
use Rattle.group_recovery.specs.declared.finding.Headed.{Headed}
use Rattle.group_recovery.proofs.found.leave_out.Goals as goal

pub returns : goal.returns
returns c = filter_same _ (λ (x : Headed). not (is_held c.args.held.now x.slot)) _ (λ x b f' k. search rules) _ _ c.retain.ensures.filtered
