-- A mount leaves one group of the list: that which the content stood for that it took.
use Rattle.std.specs.Prelude.{◌≡◌, ℕ, ◌*◌, ◌≤◌, false, List, [], ◌∷◌, Option, Some}
use Rattle.asm_group.specs.Group.{Group}
use Rattle.asm_formats.specs.Bytes.{block_size}
use Rattle.asm_formats.specs.Regions.{region_end}
use Rattle.asm_formats.specs.Status.{Status}
use Rattle.asm_formats.specs.Content.{Content}
use Rattle.asm_formats.specs.Among.{IsAmong}
use Rattle.asm_images.specs.Members.{ImageBytes, Member, byte, all_members}
use Rattle.asm_images.specs.Directories.{IsNamed}
use Rattle.asm_images.specs.Stands.{Describes}
use Rattle.asm_images.specs.ContentLaws.{HaveContent}
use Rattle.asm_images.specs.Sound.{SoundBy}
use Rattle.group_recovery.specs.Renewing.{Renews}

-- Each disk that is a member then was one before, with the same header, and all its bytes behind the directory region are as they were.
pub record KeepsUserBytes (id : ℕ) (old new : ImageBytes) : Type 0 where
  pub member : (m : Member) → IsAmong (all_members id new) m → (k : Member) × IsAmong (all_members id old) k × (k.slot ≡ m.slot) × (k.header ≡ m.header)
  pub bytes : (m : Member) (at : ℕ) → IsAmong (all_members id new) m → region_end m.header.shape.dir_blocks * block_size ≤ at → byte new m.slot at ≡ byte old m.slot at

-- a copy that the record names has this content
abbrev pub HasCopy : ℕ → ImageBytes → Status → Content → Type 0
HasCopy id image s c = (m : Member) × IsAmong (all_members id image) m × IsNamed s m.header × (m.disk.content ≡ Some c)

-- Once the record anew is complete, and each copy that it names has the content that was taken or none, the group that it stood for with the
-- record that was read is left, whichever groups the content might stand for else.
abbrev pub MountNarrows : Type 0
MountNarrows =
    (id : ℕ) (old new : ImageBytes) (groups : List Group) (completed : Option Status) (begun : List Status) (r s : Status) (c : Content) (g : Group)
    → SoundBy id old groups completed begun → IsAmong groups g → Describes old (all_members id old) (all_members id old) r c g
    → Renews r s → KeepsUserBytes id old new → SoundBy id new groups (Some s) [] → s.gone ≡ false
    → HasCopy id new s c
    → HaveContent s (all_members id new) c → SoundBy id new (g ∷ []) (Some s) []
