use Rattle.group_of.proofs.NameRefusals.{check_is_worlds, name_refusal_is_worlds}
use Rattle.group_of.proofs.files.refusals_of_names_are_the_worlds.Goals as goal

pub returns : goal.returns
returns c = record { check = check_is_worlds; name = name_refusal_is_worlds }
