-- The members of a group on an image of all disks.
use Rattle.std.specs.Prelude.{◌≡◌, ℕ, suc, Bool, ◌&&◌, List, [], ◌∷◌, map, set, get_or, slice_index, filter, flat_map, if◌then◌else◌, ◌==◌, Option, Some, None}
use Rattle.std.specs.List.{list_any}
use Rattle.asm_formats.specs.Among.{IsAmong}
use Rattle.asm_formats.specs.Header.{Header}
use Rattle.asm_formats.specs.Claim.{Claim}
use Rattle.asm_formats.specs.Status.{Status}
use Rattle.asm_formats.specs.Metadata.{Metadata, metadata}

-- of each slot of the bay the bytes of its disk
abbrev pub ImageBytes : Type 0
ImageBytes = List (List ℕ)

-- a byte of the disk in a slot
abbrev pub byte : ImageBytes → ℕ → ℕ → ℕ
byte image slot at = slice_index (get_or image slot []) at

-- the disk of a slot has these bytes, and all others stay
abbrev pub written : ImageBytes → ℕ → List ℕ → ImageBytes
written image slot bytes = set image slot bytes

-- what the disk in a slot says
abbrev pub disk_of : ImageBytes → ℕ → Metadata
disk_of image slot = metadata (get_or image slot [])

-- what each disk says
abbrev pub metadata_of : ImageBytes → List Metadata
metadata_of image = map metadata image

-- a disk whose open header names the group
pub record Member : Type 0 where
  pub slot : ℕ
  pub header : Header
  pub disk : Metadata

-- the disk of a slot in front of other members, where it is one of the group with this id
abbrev pub with_member : ℕ → ℕ → Metadata → Option Header → List Member → List Member
with_member id slot disk None others = others
with_member id slot disk (Some h) others = if h.id == id then record { slot = slot; header = h; disk = disk } ∷ others else others

abbrev pub members_from : ℕ → ℕ → List Metadata → List Member
members_from id slot [] = []
members_from id slot (disk ∷ disks) = with_member id slot disk disk.header (members_from id (suc slot) disks)

unfoldable pub members : ℕ → List Metadata → List Member
members id disks = members_from id 0 disks

-- all members of an id, by slot
abbrev pub all_members : ℕ → ImageBytes → List Member
all_members id image = members id (metadata_of image)

-- those in a set of slots
unfoldable pub within : (ℕ → Bool) → List Member → List Member
within slots ms = filter (λ (m : Member). slots m.slot) ms

-- the members that can be read, where these slots can
abbrev pub readable_members : ℕ → ImageBytes → (ℕ → Bool) → List Member
readable_members id image slots = within slots (all_members id image)

-- the header is that of the disk with this number and birth
abbrev pub is_disk : ℕ → ℕ → Header → Bool
is_disk d birth h = (h.number == d) && (h.birth == birth)

-- one of the members is that disk
abbrev pub has_disk : List Member → ℕ → ℕ → Bool
has_disk ms d birth = list_any (λ (m : Member). is_disk d birth m.header) ms

-- no two slots are members with one number and birth
abbrev pub AreDistinct : List Member → Type 0
AreDistinct ms = (m n : Member) → IsAmong ms m → IsAmong ms n → m.header.number ≡ n.header.number → m.header.birth ≡ n.header.birth → m.slot ≡ n.slot

-- no member is in the slot
abbrev pub IsOutside : List Member → ℕ → Type 0
IsOutside ms slot = (m : Member) → IsAmong ms m → m.slot ≡ slot → ⊥

-- ---- what stands in the open slots of members

-- the values that there are and that pass
abbrev pub those : {A : Type 0} → (A → Bool) → List (Option A) → List A
those test [] = []
those test (None ∷ os) = those test os
those test (Some x ∷ os) = if test x then x ∷ those test os else those test os

-- the records of the group
abbrev pub of_group : ℕ → List (Option Status) → List Status
of_group id os = those (λ (r : Status). r.id == id) os

-- the status records of the group in the open slots of these members
unfoldable pub statuses : ℕ → List Member → List Status
statuses id ms = flat_map (λ (m : Member). of_group id m.disk.statuses) ms

-- the claims of the group
abbrev pub claims_of_group : ℕ → List (Option Claim) → List Claim
claims_of_group id os = those (λ (c : Claim). c.id == id) os

-- the claims of the group in the open slots of these members
unfoldable pub claims : ℕ → List Member → List Claim
claims id ms = flat_map (λ (m : Member). claims_of_group id m.disk.claims) ms
