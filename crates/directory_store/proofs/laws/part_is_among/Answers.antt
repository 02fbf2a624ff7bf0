use Rattle.directory_store.proofs.ReadingCopies.{part_among}
use Rattle.directory_store.proofs.laws.part_is_among.Goals as goal

pub returns : goal.returns
returns c = part_among
