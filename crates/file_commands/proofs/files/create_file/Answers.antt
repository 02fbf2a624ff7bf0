use Rattle.std.proofs.Common.{refl}
use Rattle.file_commands.proofs.files.create_file.Goals as goal

pub create_at-requires-clause-unproved : goal.create_at-requires-clause-unproved
create_at-requires-clause-unproved g c = rw c.requires.asked refl

pub refuse-requires-clause-unproved : goal.refuse-requires-clause-unproved
refuse-requires-clause-unproved g c = rw c.requires.asked refl
