use Rattle.mode_laws.proofs.Statements.{drop_changes, offline_changes, rebalance_changes, resize_changes, undrop_changes}
use Rattle.mode_laws.proofs.statements_change_modes.Goals as goal

pub returns : goal.returns
returns c = record { offline = offline_changes; drop = drop_changes; undrop = undrop_changes; resize = resize_changes; rebalance = rebalance_changes }
