-- Laws of the definitions, and of the steps that keep an image sound.
use Rattle.std.specs.Prelude.{◌≡◌, ℕ, Bool, List, [], ◌∷◌, ◌++◌, map, replicate, Option, Some, IsTrue}
use Rattle.asm_group.specs.Group.{Group}
use Rattle.asm_formats.specs.Header.{Header}
use Rattle.asm_formats.specs.Status.{Status}
use Rattle.asm_formats.specs.Following.{Holder, sets, Follows}
use Rattle.asm_formats.specs.Among.{IsAmong}
use Rattle.asm_images.specs.Members.{ImageBytes, Member, written, within}
use Rattle.asm_images.specs.Register.{Fits, current_records, status, is_enough}
use Rattle.asm_images.specs.Stands.{Standing, Stands}
use Rattle.asm_images.specs.Sound.{SoundBy, Sound}
use Rattle.asm_images.specs.Steps.{IsSpare, IsElsewhere, IsClaimed, IsBegun, IsStored, IsComplete, IsCopyCommitted, IsLeaving, IsJoining, IsNarrower}
use Rattle.asm_images.specs.Spans.{Span, freed, settled, IsPiece, IsSpanSettled}

-- ---- what Sound gives

-- disks of zeros, each with its length
abbrev pub zeros : List ℕ → ImageBytes
zeros sizes = map (λ n. replicate n 0) sizes

-- On disks of zeros there is no group.
abbrev pub ZerosAreSound : Type 0
ZerosAreSound = (id : ℕ) (sizes : List ℕ) → Sound id (zeros sizes) []

-- Whichever disks are left, what they stand for is one of the groups.
abbrev pub StandingStands : Type 0
StandingStands =
    (id : ℕ) (image : ImageBytes) (groups : List Group) (slots : ℕ → Bool) → Sound id image groups → (s : Standing id image slots)
    → (g : Group) × IsAmong groups g × Stands id image slots s g

-- Where there is no group, no set of disks has Status and directories.
abbrev pub NothingStands : Type 0
NothingStands = (id : ℕ) (image : ImageBytes) (slots : ℕ → Bool) → Sound id image [] → Standing id image slots → ⊥

-- ---- the register

-- What any set of members takes for Status is the completed record, or one that was begun after it.
abbrev pub StatusCounts : Type 0
StatusCounts =
    (id : ℕ) (ms : List Member) (completed : Option Status) (begun : List Status) (slots : ℕ → Bool) (r : Status)
    → Fits id ms completed begun → status id (within slots ms) ≡ Some r → IsAmong (current_records completed begun) r

-- The holders move in two steps: next holders come beside them, and then alone.
abbrev pub MoveFollows : Type 0
MoveFollows =
    (v : Status) (next epoch turn : ℕ)
    → (v.next_holders ≡ 0 → Follows v (record v { epoch = epoch; turn = turn; next_holders = next }))
    × ((v.next_holders ≡ 0 → ⊥) → Follows v (record v { epoch = epoch; turn = turn; holders = v.next_holders; next_holders = 0 }))

-- both records need a majority of this set
pub record ShareASet (r s : Status) : Type 0 where
  pub set : List Holder
  pub first : IsAmong (sets r) set
  pub second : IsAmong (sets s) set

-- A record and one that follows it share a set, and so do two that follow one.
abbrev pub FollowersShareASet : Type 0
FollowersShareASet = (v r s : Status) → Follows v r → ShareASet v r × (Follows v s → ShareASet r s)

-- So do any two of the records that count.
abbrev pub CurrentShareASet : Type 0
CurrentShareASet =
    (id : ℕ) (ms : List Member) (completed : Option Status) (begun : List Status) → Fits id ms completed begun
    → (r s : Status) → IsAmong (current_records completed begun) r → IsAmong (current_records completed begun) s → ShareASet r s

-- Where two records share a set, members that are enough for the one and members that are enough for the other have a disk in common.
abbrev pub EnoughMeet : Type 0
EnoughMeet =
    (r s : Status) (ms ns : List Member) → ShareASet r s → IsTrue (is_enough r ms) → IsTrue (is_enough s ns)
    → (m : Member) × (n : Member) × IsAmong ms m × IsAmong ns n × (m.header.number ≡ n.header.number) × (m.header.birth ≡ n.header.birth)

-- ---- the steps of which every command, slice and mount is made

-- A change of spare bytes keeps the groups.
abbrev pub SpareKeeps : Type 0
SpareKeeps =
    (id : ℕ) (old new : ImageBytes) (groups : List Group) (completed : Option Status) (begun : List Status) → SoundBy id old groups completed begun
    → IsSpare id old new completed begun → SoundBy id new groups completed begun

-- A disk that is no member, before and after, may change in any way: another group's, or one that is formatted.
abbrev pub OutsideKeeps : Type 0
OutsideKeeps =
    (id : ℕ) (old : ImageBytes) (groups : List Group) (completed : Option Status) (begun : List Status) → SoundBy id old groups completed begun
    → (slot : ℕ) (bytes : List ℕ) → IsElsewhere id old slot bytes → SoundBy id (written old slot bytes) groups completed begun

-- A claim slot of one disk is closed, or put with a greater epoch.
abbrev pub ClaimKeeps : Type 0
ClaimKeeps =
    (id : ℕ) (old : ImageBytes) (groups : List Group) (completed : Option Status) (begun : List Status) → SoundBy id old groups completed begun
    → (slot : ℕ) (bytes : List ℕ) → IsClaimed id old completed begun slot bytes → SoundBy id (written old slot bytes) groups completed begun

-- A record is begun; it is stored in one slot; it is complete once a majority of each of its sets has it.
abbrev pub BeginKeeps : Type 0
BeginKeeps =
    (id : ℕ) (image : ImageBytes) (groups : List Group) (completed : Option Status) (begun : List Status) → SoundBy id image groups completed begun
    → (r : Status) → IsBegun id image groups completed begun r → SoundBy id image groups completed (begun ++ (r ∷ []))

abbrev pub StoreKeeps : Type 0
StoreKeeps =
    (id : ℕ) (old : ImageBytes) (groups : List Group) (completed : Option Status) (begun : List Status) → SoundBy id old groups completed begun
    → (r : Status) (slot : ℕ) (bytes : List ℕ) → IsStored id old completed begun r slot bytes → SoundBy id (written old slot bytes) groups completed begun

abbrev pub CompleteKeeps : Type 0
CompleteKeeps =
    (id : ℕ) (image : ImageBytes) (groups : List Group) (completed : Option Status) (begun : List Status) → SoundBy id image groups completed begun
    → (r : Status) → IsComplete id image completed begun r → SoundBy id image groups (Some r) []

-- The directory copy of one disk keeps its content, loses it, or gets one that is known.
abbrev pub CommitKeeps : Type 0
CommitKeeps =
    (id : ℕ) (old : ImageBytes) (groups : List Group) (completed : Option Status) (begun : List Status) → SoundBy id old groups completed begun
    → (slot : ℕ) (bytes : List ℕ) → IsCopyCommitted id old groups completed begun slot bytes → SoundBy id (written old slot bytes) groups completed begun

-- A change in one span of one extent keeps the groups, with the span's cells Free.
abbrev pub PieceKeeps : Type 0
PieceKeeps =
    (id : ℕ) (old new : ImageBytes) (groups : List Group) (completed : Option Status) (begun : List Status) → SoundBy id old groups completed begun
    → (x : Span) → IsPiece id old new groups completed begun x → SoundBy id new (map (freed x) groups) completed begun

-- Where all current copies have the same bytes in a span, its cells are known.
abbrev pub SettleKeeps : Type 0
SettleKeeps =
    (id : ℕ) (image : ImageBytes) (groups : List Group) (completed : Option Status) (begun : List Status) → SoundBy id image groups completed begun
    → (x : Span) (bytes : List ℕ) → IsSpanSettled id image groups completed begun x bytes → SoundBy id image (map (settled x bytes) groups) completed begun

-- A group that no open content needs may go; further groups may come.
abbrev pub NarrowKeeps : Type 0
NarrowKeeps =
    (id : ℕ) (image : ImageBytes) (groups fewer : List Group) (completed : Option Status) (begun : List Status) → SoundBy id image groups completed begun
    → IsNarrower id image fewer completed begun → SoundBy id image fewer completed begun

abbrev pub WidenKeeps : Type 0
WidenKeeps =
    (id : ℕ) (image : ImageBytes) (groups more : List Group) (completed : Option Status) (begun : List Status) → SoundBy id image groups completed begun
    → ((g : Group) → IsAmong groups g → IsAmong more g) → SoundBy id image more completed begun

-- A disk leaves the group, or joins it.
abbrev pub LeaveKeeps : Type 0
LeaveKeeps =
    (id : ℕ) (old : ImageBytes) (groups : List Group) (completed : Option Status) (begun : List Status) → SoundBy id old groups completed begun
    → (slot : ℕ) (bytes : List ℕ) → IsLeaving id old completed begun slot bytes → SoundBy id (written old slot bytes) groups completed begun

abbrev pub JoinKeeps : Type 0
JoinKeeps =
    (id : ℕ) (old : ImageBytes) (groups : List Group) (completed : Option Status) (begun : List Status) → SoundBy id old groups completed begun
    → (slot : ℕ) (bytes : List ℕ) (h : Header) → IsJoining id old groups completed begun slot bytes h → SoundBy id (written old slot bytes) groups completed begun
