use Rattle.edit_laws.proofs.OfTables.{edit_is_of_tables, refusal_is_of_tables}
use Rattle.edit_laws.proofs.edits_of_tables_are_the_worlds.Goals as goal

pub returns : goal.returns
returns c = record { done = edit_is_of_tables; refused = refusal_is_of_tables }
