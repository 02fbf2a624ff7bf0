-- Ids without members or without a record that counts, and what a write leaves of other groups.
use Rattle.std.specs.Prelude.{◌≡◌, ◌≢◌, ℕ, true, List, [], Some, None}
use Rattle.asm_group.specs.Group.{Group}
use Rattle.asm_formats.specs.Header.{Header}
use Rattle.asm_formats.specs.Status.{Status}
use Rattle.asm_formats.specs.Metadata.{metadata}
use Rattle.asm_formats.specs.Among.{IsAmong}
use Rattle.asm_images.specs.Members.{ImageBytes, Member, all_members, IsOutside}
use Rattle.asm_images.specs.Sound.{SoundBy}
use Rattle.asm_images.specs.Steps.{IsElsewhere}

-- An id that no disk is a member of holds no group.
abbrev pub MemberlessIsSound : Type 0
MemberlessIsSound = (id : ℕ) (image : ImageBytes) → all_members id image ≡ [] → SoundBy id image [] None []

-- Once the record that says so is complete, a dropped group is gone.
abbrev pub GoneHoldsNothing : Type 0
GoneHoldsNothing =
    (id : ℕ) (image : ImageBytes) (groups : List Group) (r : Status) → SoundBy id image groups (Some r) [] → r.gone ≡ true → SoundBy id image [] (Some r) []

-- A disk is a member of one id.
abbrev pub MemberIsOutsideOthers : Type 0
MemberIsOutsideOthers =
    (id other : ℕ) (image : ImageBytes) (m : Member) → IsAmong (all_members id image) m → other ≢ id → IsOutside (all_members other image) m.slot

-- A disk that is no member of an id, and whose header afterwards, if there is one, has another id, is outside before and after.
abbrev pub OtherHeaderIsElsewhere : Type 0
OtherHeaderIsElsewhere =
    (id : ℕ) (old : ImageBytes) (slot : ℕ) (bytes : List ℕ) → IsOutside (all_members id old) slot
    → ((h : Header) → (metadata bytes).header ≡ Some h → h.id ≢ id) → IsElsewhere id old slot bytes
