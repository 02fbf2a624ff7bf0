use Rattle.group_of.proofs.NextNumbers.{made_number_is, next_number_is}
use Rattle.group_of.proofs.files.numbers_are_the_worlds.Goals as goal

pub returns : goal.returns
returns c = record { next = next_number_is; made = made_number_is }
