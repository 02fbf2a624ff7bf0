-- A group that is mounted beside one that is edited.
use Rattle.std.proofs.Common.{[], ◌∷◌}
use Rattle.bay.specs.Moments.{Runs}
use Rattle.bay.specs.State.{BayState, IsSound}
use Rattle.group_files.specs.group_engine.Frames.{SparesOtherIds}
use Rattle.group_files.specs.group_engine.Mounts.{IsOwn}
use Rattle.group_files.proofs.group_engine.Beside as engine
use Rattle.group_files.proofs.group_engine.Elsewhere.{mounts_elsewhere, stays_attached}
use Rattle.edit_laws.specs.Edits.{OthersAreSpared, OthersStayMounted}

pub others_are_spared : (s t : BayState) → IsSound s → IsSound t → OthersAreSpared s t
others_are_spared s t before after c h mounts keeps over = engine.others_are_spared s t before after c.n c.old c.new (c.g ∷ h ∷ []) c.g c.kept mounts keeps over.moments

pub others_stay_mounted : (s t : BayState) → IsSound s → IsSound t → OthersStayMounted s t
others_stay_mounted s t before after c h m g kept mounts keeps over there other =
    let runs : Runs (IsOwn c.old) (SparesOtherIds c.old.register.id) s t = others_are_spared s t before after c h mounts keeps over in
    mounts_elsewhere c.n m s t g kept before there (stays_attached keeps.attached) runs (λ x y step. step m.register.id other)
