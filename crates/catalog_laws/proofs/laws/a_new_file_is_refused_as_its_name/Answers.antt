use Rattle.catalog_laws.proofs.NameLaws.{refuses_as_world}
use Rattle.catalog_laws.proofs.laws.a_new_file_is_refused_as_its_name.Goals as goal

pub returns : goal.returns
returns c = refuses_as_world
