-- Where the images stand for no group, none is mounted.
use Rattle.std.proofs.Common.{◌≡◌, ℕ, [], ◌∷◌, refl, sym, ap, ◌∙◌, length, arith}
use Rattle.bay.specs.Image.{Image}
use Rattle.bay.specs.State.{BayState}
use Rattle.asm_group.specs.Group.{Group}
use Rattle.asm_group.specs.Names.{Bytes}
use Rattle.asm_group.specs.NewGroup.{new_group}
use Rattle.asm_images.specs.Bridge.{disks_in}
use Rattle.asm_images.proofs.Spans.{widen_keeps}
use Rattle.group_recovery.specs.Mounting.{Allows}
use Rattle.group_recovery.specs.Recovered.{StoodFor}
use Rattle.group_recovery.specs.declared.quorum.Quorate.{Quorate}
use Rattle.mounted_groups.specs.Creating.{made_group}
use Rattle.mounted_groups.specs.Leaving.{NothingIsMounted}

-- what may stand for no group may stand for any
allows_any : (id : ℕ) (g : Group) (image : Image) → Allows id [] image → Allows id (g ∷ []) image
allows_any id g image allows slots =
    let sound = allows slots in
    record {
      completed = sound.completed;
      begun = sound.begun;
      holds = widen_keeps id (disks_in slots image) [] (g ∷ []) sound.completed sound.begun sound.holds (λ h none. absurd none);
    }

stood_for_any : (q : Quorate) (g : Group) (s : BayState) → StoodFor q [] s → StoodFor q (g ∷ []) s
stood_for_any q g s none = record { allows = record { now = λ image left. allows_any q.id g image (none.allows.now image left) }; epochs = none.epochs }

name_made : (name : Bytes) → (made_group name).name ≡ name
unfolding new_group
name_made name = refl

-- groups of two names would be the one that is mounted
pub nothing_is_mounted : {B : Type 0} (state : B → BayState) (s t : BayState) → NothingIsMounted state s t
nothing_is_mounted {B} state s t name n held option m mounts none tells =
    let empty : Bytes = [] in
    let one_byte : Bytes = 0 ∷ [] in
    let unnamed = mounts.only (made_group empty) (stood_for_any mounts.was.quorum (made_group empty) s none) tells in
    let named = mounts.only (made_group one_byte) (stood_for_any mounts.was.quorum (made_group one_byte) s none) tells in
    let same : empty ≡ one_byte = sym (name_made empty) ∙ unnamed.mounts.represents.name ∙ sym named.mounts.represents.name ∙ name_made one_byte in
    absurd (omega (arith, ap length same))
