-- What a survey of the disks of a group reads.
use Rattle.std.specs.Prelude.{◌≡◌, ℕ, ◌+◌, ◌*◌, ◌/◌, ◌==◌, Bool, ◌&&◌, List, [], ◌∷◌, ◌++◌, length, filter, flat_map, nat_lt, max, if◌then◌else◌, Option, Some, None}
use Rattle.std.specs.List.{list_any}
use Rattle.std.specs.Option.{option_map, option_or}
use Rattle.bay.specs.Image.{Image}
use Rattle.asm_formats.specs.Claim.{Claim}
use Rattle.asm_formats.specs.Status.{Status}
use Rattle.asm_formats.specs.Following.{Holder, sets}
use Rattle.asm_formats.specs.Metadata.{Metadata, metadata}
use Rattle.asm_formats.specs.Damage.{body_damage}
use Rattle.asm_images.specs.Bridge.{disk_bytes}
use Rattle.asm_images.specs.Members.{claims_of_group, of_group}
use Rattle.asm_images.specs.Register.{greatest, greater}
use Rattle.status_register.specs.declared.member.Member.{Member}

-- what the disk in a slot says
abbrev pub disk_in : Image → ℕ → Metadata
disk_in image slot = metadata (disk_bytes image slot)

-- the claims and the records of the group in the open slots of these disks
unfoldable pub claims_on : ℕ → Image → List Member → List Claim
claims_on id image ms = flat_map (λ (m : Member). claims_of_group id (disk_in image m.slot).claims) ms

unfoldable pub records_on : ℕ → Image → List Member → List Status
records_on id image ms = flat_map (λ (m : Member). of_group id (disk_in image m.slot).statuses) ms

-- the greatest epoch of some claims, and 0 where there are none
abbrev pub greatest_epoch : List Claim → ℕ
greatest_epoch [] = 0
greatest_epoch (c ∷ cs) = max c.epoch (greatest_epoch cs)

-- the first block where a claim or a record must stand and doesn't, with the slot of its disk
unfoldable pub first_damage : Image → List Member → Option (ℕ × ℕ)
first_damage image [] = None
first_damage image (m ∷ ms) = option_or (option_map (λ block. (m.slot, block)) (body_damage (disk_bytes image m.slot))) (first_damage image ms)

-- Those of the members that were read, in their order. A disk is left out only where its slot failed.
pub data AreRead (failed : ℕ → Type 0) : List Member → List Member → Type 0 where
  none_yet : AreRead failed [] []
  one_read : (ms read : List Member) (m : Member) → AreRead failed ms read → AreRead failed (ms ++ m ∷ []) (read ++ m ∷ [])
  one_failed : (ms read : List Member) (m : Member) → failed m.slot → AreRead failed ms read → AreRead failed (ms ++ m ∷ []) read

-- ---- majorities

-- the disk is one of these
abbrev pub is_holder_there : List Member → Holder → Bool
is_holder_there ms h = list_any (λ (m : Member). (m.number == h.0) && (m.birth == h.1)) ms

-- how many disks of a set are among these
unfoldable pub seen_of : List Member → List Holder → ℕ
seen_of ms set = length (filter (is_holder_there ms) set)

-- of the first set without a majority among these how many are there, and how many are needed
abbrev pub shortfall : List Member → List (List Holder) → Option (ℕ × ℕ)
shortfall ms [] = None
shortfall ms (set ∷ others) = if nat_lt (length set) (2 * seen_of ms set) then shortfall ms others else Some (seen_of ms set, length set / 2 + 1)

-- of the record that is to hold; without a record there is none of one
abbrev pub missing : List Member → Option Status → Option (ℕ × ℕ)
missing ms None = Some (0, 1)
missing ms (Some r) = shortfall ms (sets r)

-- ---- one survey

-- the greater of two records, the first where they are equal
abbrev pub greater_of : Option Status → Option Status → Option Status
greater_of None other = other
greater_of (Some r) other = greater r other

-- the slots of these disks say this
pub record DisksSay (id : ℕ) (ms : List Member) (epoch : ℕ) (status : Option Status) (damage : Option (ℕ × ℕ)) (image : Image) : Type 0 where
  pub epoch_is : greatest_epoch (claims_on id image ms) ≡ epoch
  pub status_is : greatest (records_on id image ms) ≡ status
  pub damage_is : first_damage image ms ≡ damage
