-- What a mount rests on.
use Rattle.std.specs.Prelude.{◌≡◌, ℕ, ◌<◌, ◌≤◌, Bool, false, List, [], ◌∷◌, Option, Some, IsTrue}
use Rattle.asm_group.specs.Group.{Group}
use Rattle.asm_formats.specs.Claim.{Claim}
use Rattle.asm_formats.specs.Status.{Status}
use Rattle.asm_formats.specs.Following.{Follows}
use Rattle.asm_formats.specs.Content.{Content}
use Rattle.asm_formats.specs.Among.{IsAmong}
use Rattle.asm_images.specs.Members.{ImageBytes, Member, all_members, within, statuses, claims, claims_of_group, AreDistinct}
use Rattle.asm_images.specs.Register.{Fits, current_records, base, greatest, is_enough, HasEpoch}
use Rattle.asm_images.specs.Directories.{directories}
use Rattle.asm_images.specs.Sound.{IsCovered, SoundBy}
use Rattle.asm_images.specs.Laws.{ShareASet}

-- each of the members has a claim of at least this epoch
abbrev pub HaveClaimed : ℕ → List Member → ℕ → Type 0
HaveClaimed id ms epoch = (m : Member) → IsAmong ms m → (c : Claim) × IsAmong (claims_of_group id m.disk.claims) c × (epoch ≤ c.epoch)

-- Where members that are enough for a record have claims of an epoch, every set that is enough for a record that shares a set with it sees the epoch.
abbrev pub MajorityIsClaimed : Type 0
MajorityIsClaimed =
    (id : ℕ) (image : ImageBytes) (r s : Status) (holders slots : ℕ → Bool) (epoch : ℕ) → AreDistinct (all_members id image) → ShareASet r s
    → IsTrue (is_enough r (within holders (all_members id image))) → HaveClaimed id (within holders (all_members id image)) epoch
    → IsTrue (is_enough s (within slots (all_members id image))) → HasEpoch id (within slots (all_members id image)) epoch

-- Where members that are enough for a record that counts have claims of an epoch, a record of that epoch may be begun: the claim is seen by
-- each set that is enough for it or for a record that counts.
abbrev pub ClaimIsSeen : Type 0
ClaimIsSeen =
    (id : ℕ) (image : ImageBytes) (completed : Option Status) (begun : List Status) → Fits id (all_members id image) completed begun
    → (g r : Status) (holders : ℕ → Bool) → IsAmong (current_records completed begun) g → IsTrue (is_enough g (within holders (all_members id image)))
    → HaveClaimed id (within holders (all_members id image)) r.epoch → ((v : Status) → base completed begun ≡ Some v → Follows v r)
    → (P : ℕ → Bool) (s : Status) → IsAmong (r ∷ current_records completed begun) s → IsTrue (is_enough s (within P (all_members id image)))
    → HasEpoch id (within P (all_members id image)) r.epoch

-- An epoch above all that a survey reads is above that of every record that counts.
abbrev pub SurveyedEpochIsAbove : Type 0
SurveyedEpochIsAbove =
    (id : ℕ) (image : ImageBytes) (completed : Option Status) (begun : List Status) (slots : ℕ → Bool) (g : Status) (epoch : ℕ)
    → Fits id (all_members id image) completed begun
    → greatest (statuses id (within slots (all_members id image))) ≡ Some g → IsTrue (is_enough g (within slots (all_members id image)))
    → ((c : Claim) → IsAmong (claims id (within slots (all_members id image))) c → c.epoch < epoch)
    → ((s : Status) → IsAmong (statuses id (within slots (all_members id image))) s → s.epoch < epoch)
    → (s : Status) → IsAmong (current_records completed begun) s → s.epoch < epoch

-- What a survey takes for Status counts: the greatest record of members that are enough for it.
abbrev pub SurveyedCounts : Type 0
SurveyedCounts =
    (id : ℕ) (ms : List Member) (completed : Option Status) (begun : List Status) (slots : ℕ → Bool) (g : Status) → Fits id ms completed begun
    → greatest (statuses id (within slots ms)) ≡ Some g → IsTrue (is_enough g (within slots ms)) → IsAmong (current_records completed begun) g

-- A record under another number, and with other holders, may be taken for Status as the record may.
abbrev pub RenumberedIsCovered : Type 0
RenumberedIsCovered =
    (id : ℕ) (image : ImageBytes) (groups : List Group) (r : Status) (epoch turn holders next : ℕ) → IsCovered id image (all_members id image) groups r
    → IsCovered id image (all_members id image) groups (record r { epoch = epoch; turn = turn; holders = holders; next_holders = next })

-- Where the completed record is the only one that counts, and one content is found whichever disks are left, one group is left.
abbrev pub OneContentIsOneGroup : Type 0
OneContentIsOneGroup =
    (id : ℕ) (image : ImageBytes) (groups : List Group) (r : Status) (c : Content) (slots : ℕ → Bool) → SoundBy id image groups (Some r) [] → r.gone ≡ false
    → directories r (within slots (all_members id image)) ≡ Some c
    → ((P : ℕ → Bool) (d : Content) → directories r (within P (all_members id image)) ≡ Some d → d ≡ c)
    → (g : Group) × IsAmong groups g × SoundBy id image (g ∷ []) (Some r) []
