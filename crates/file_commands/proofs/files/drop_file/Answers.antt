use Rattle.std.proofs.Common.{refl}
use Rattle.file_commands.proofs.files.drop_file.Goals as goal

pub work_on_file-requires-clause-unproved : goal.work_on_file-requires-clause-unproved
work_on_file-requires-clause-unproved g c = rw c.requires.asked refl

pub refuse_in-requires-clause-unproved : goal.refuse_in-requires-clause-unproved
refuse_in-requires-clause-unproved g c = rw c.requires.asked refl
