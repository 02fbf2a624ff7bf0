-- How the members are read one after another.
use Rattle.std.specs.Prelude.{◌≡◌, ◌⊎◌, ℕ, ◌*◌, List, [], ◌∷◌, ◌++◌, length, max, Option}
use Rattle.std.specs.Option.{option_map, option_or}
use Rattle.bay.specs.Calls.{Calls, cost}
use Rattle.bay.specs.Image.{Image, Same}
use Rattle.bay.specs.State.{BayState}
use Rattle.bay.specs.Counts.{Rose}
use Rattle.asm_formats.specs.Among.{IsAmong}
use Rattle.asm_formats.specs.Status.{Status}
use Rattle.asm_formats.specs.Damage.{body_damage}
use Rattle.asm_images.specs.Bridge.{disk_bytes}
use Rattle.asm_images.specs.Members.{claims_of_group, of_group}
use Rattle.asm_images.specs.Register.{greatest}
use Rattle.status_register.specs.Places.{HasSlots}
use Rattle.bay.specs.Told.{Told}
use Rattle.status_register.specs.Sayings.{IsOwnRecord}
use Rattle.status_register.specs.Surveys.{AreRead, DisksSay, disk_in, greatest_epoch, greater_of}
use Rattle.status_register.specs.declared.member.Member.{Member}
use Rattle.status_register.specs.declared.tally.Tally.{Tally}

-- each of the members is attached and has its slots
abbrev pub HaveSlots : BayState → List Member → Type 0
HaveSlots state ms = (m : Member) → IsAmong ms m → HasSlots state m.slot m.sector

-- the slot of one of the members
abbrev pub IsSlotOf : List Member → ℕ → Type 0
IsSlotOf ms slot = (m : Member) × IsAmong ms m × (slot ≡ m.slot)

-- what the slots of one disk say
pub record SlotsSay (id slot epoch : ℕ) (status : Option Status) (block : Option ℕ) (image : Image) : Type 0 where
  pub epoch_is : greatest_epoch (claims_of_group id (disk_in image slot).claims) ≡ epoch
  pub status_is : greatest (of_group id (disk_in image slot).statuses) ≡ status
  pub damage_is : body_damage (disk_bytes image slot) ≡ block

-- the tally after one member more: unchanged where its slot failed
abbrev pub TalliesMember : ℕ → Member → BayState → BayState → Tally → Tally → Type 0
TalliesMember id m s t old new =
    (Rose (s.faults m.slot) (t.faults m.slot) × (new ≡ old))
    ⊎ ((epoch : ℕ) × (status : Option Status) × (block : Option ℕ) × Told s t (SlotsSay id m.slot epoch status block)
    × (new ≡ record { read = old.read ++ m ∷ []; epoch = max old.epoch epoch; status = greater_of old.status status; damage = option_or old.damage (option_map (λ b. (m.slot, b)) block) }))

-- What the slots of these members say of a group was read, past faults.
pub record ReadsMembers (id : ℕ) (ms : List Member) (result : Tally) (s t : BayState) : Type 0 where
  -- a member is left out only where its slot failed
  pub read : AreRead (λ slot. Rose (s.faults slot) (t.faults slot)) ms result.read
  -- the record is one of the formats and of the group, whatever the disks hold
  pub own : IsOwnRecord id result.status
  -- the tally is what those that were read say
  pub says : Told s t (DisksSay id result.read result.epoch result.status result.damage)
  -- nothing is written
  pub calls : Calls (IsSlotOf ms) Same (cost (8 * length ms) 0) s t
