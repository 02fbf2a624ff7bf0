use Rattle.record_laws.proofs.Changing.{modes_join, modes_of_each}
use Rattle.record_laws.proofs.Partners.{table_is_made, table_stays}
use Rattle.record_laws.proofs.modes_change.Goals as goal

pub returns : goal.returns
returns c = record { each = modes_of_each; join = modes_join; stays = table_stays; made = table_is_made }
