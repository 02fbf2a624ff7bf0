use Rattle.report_laws.proofs.InOrder.{all_match_star, groups_are_worlds, matches_are_in_order, names_are_inserted}
use Rattle.report_laws.proofs.names_are_in_order.Goals as goal

pub returns : goal.returns
returns c = record { inserted = names_are_inserted; matching = matches_are_in_order; groups = groups_are_worlds; star = all_match_star }
