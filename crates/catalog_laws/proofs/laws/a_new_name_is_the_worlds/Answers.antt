use Rattle.catalog_laws.proofs.NameLaws.{files_as_world}
use Rattle.catalog_laws.proofs.laws.a_new_name_is_the_worlds.Goals as goal

pub returns : goal.returns
returns c = files_as_world
