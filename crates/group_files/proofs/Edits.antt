-- Edits of a group.
use Rattle.bay.specs.Image.{Same}
use Rattle.bay.specs.Moments.{Runs}
use Rattle.bay.specs.State.{BayState}
use Rattle.bay.proofs.Calls.{started}
use Rattle.bay.proofs.Images.{same-refl}
use Rattle.group_engine.specs.Mounts.{MountedGroup, Takes}
use Rattle.group_engine.specs.Own.{KeepsGroup}
use Rattle.group_engine.proofs.Causes.{nothing_kept}

-- no call was made
pub nothing_done : (m : MountedGroup) (s : BayState) → Takes m s → KeepsGroup m m s s
nothing_done m s takes = nothing_kept m s (λ is. (takes is).0) (λ is. (takes is).1)

pub none_run : (s : BayState) → Runs (λ slot. ⊥) Same s s
none_run s = started same-refl
