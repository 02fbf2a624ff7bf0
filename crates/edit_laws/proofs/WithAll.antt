-- With all disks, Status and directories are there while an edit is committed.
use Rattle.std.proofs.Common.{true, refl}
use Rattle.bay.specs.State.{BayState}
use Rattle.bay.proofs.Calls.{leaves_less}
use Rattle.edit_laws.specs.Edits.{StandsWithAll}

pub stands_with_all : (s t : BayState) → StandsWithAll s t
stands_with_all s t c h over = leaves_less (λ image is. is.beside (λ any. true) (λ slot has. refl)) over.moments
