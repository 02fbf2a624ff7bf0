-- What is found on the disks, and why a creation is refused.
use Rattle.std.specs.Prelude.{◌≡◌, ◌≢◌, ◌⊎◌, ⊤, ℕ, ◌/◌, ◌^◌, ◌<◌, List, [], length, get_or, Option, Some, None, Contains}
use Rattle.std.specs.Option.{ForSome}
use Rattle.bay.specs.Image.{Image}
use Rattle.bay.specs.State.{BayState}
use Rattle.bay.specs.Counts.{Rose}
use Rattle.bay.specs.Told.{ToldOf}
use Rattle.asm_group.specs.Names.{Bytes}
use Rattle.asm_group.specs.Refusal as r
use Rattle.asm_formats.specs.Header.{Header}
use Rattle.asm_images.specs.Kept.{header_in}
use Rattle.mounted_groups.specs.Creating.{units_needed}

-- of the disks: what is attached, what they hold where it is told, and how often each slot failed
pub record Counts : Type 0 where
  pub attached : ℕ → Option ℕ
  pub holds : Option Image
  pub faults : ℕ → ℕ

abbrev pub counts_of : BayState → Counts
counts_of bay = record { attached = bay.attached; holds = bay.holds; faults = bay.faults }

-- the path stands among the images, in this slot
pub record IsSlotOfPath (paths : List Bytes) (path : Bytes) (slot : ℕ) : Type 0 where
  pub below : slot < length paths
  pub is : get_or paths slot [] ≡ path

-- what the disks held at first, where the bay tells at first and at last what they hold
abbrev pub ToldByCounts : Counts → Counts → (Image → Type 0) → Type 0
ToldByCounts s t P = ToldOf s.holds t.holds P

-- the ids that were read are those of headers
pub record AreIdsRead (ids : List ℕ) (s t : Counts) : Type 0 where
  pub each : (i : ℕ) → i < length ids → ToldByCounts s t (λ image. (slot : ℕ) × (h : Header) × (header_in image slot ≡ Some h) × (h.id ≡ get_or ids i 0))

-- each header that is told, of an image of the first n that could be attached and whose slot didn't fail, has one of these ids
pub record AreAllRead (n : ℕ) (ids : List ℕ) (s t : Counts) : Type 0 where
  pub each : (slot size : ℕ) → slot < n → t.attached slot ≡ Some size → (Rose (s.faults slot) (t.faults slot) → ⊥)
      → ToldByCounts s t (λ image. ForSome (header_in image slot) (λ h. Contains ids h.id))

-- each header that is told, of an image that could be attached and whose slot didn't fail, was read
pub record IsAboveAll (paths : List Bytes) (id : ℕ) (s t : Counts) : Type 0 where
  pub each : (slot size : ℕ) → slot < length paths → t.attached slot ≡ Some size → (Rose (s.faults slot) (t.faults slot) → ⊥)
      → ToldByCounts s t (λ image. ForSome (header_in image slot) (λ h. h.id < id))

-- ---- the causes of refusals

-- NoDisk: the path isn't among the images, or its slot failed.
abbrev pub NoDiskCause : List Bytes → Bytes → Counts → Counts → Type 0
NoDiskCause paths path s t = ((slot : ℕ) → IsSlotOfPath paths path slot → ⊥) ⊎ ((slot : ℕ) × IsSlotOfPath paths path slot × Rose (s.faults slot) (t.faults slot))

-- DiskTaken: the disk's header is open and names a group.
pub record DiskTakenCause (paths : List Bytes) (path : Bytes) (s t : Counts) : Type 0 where
  pub slot : ℕ
  pub is_slot : IsSlotOfPath paths path slot
  pub header : ToldByCounts s t (λ image. header_in image slot ≢ None)

-- TooSmall: the disk has fewer units of 1 MB than are needed.
pub record TooSmallCause (paths : List Bytes) (need : ℕ) (s t : Counts) : Type 0 where
  pub slot : ℕ
  pub below : slot < length paths
  pub size : ℕ
  pub attached : t.attached slot ≡ Some size
  pub small : size / 2 ^ 20 < need

-- WriteFault: the slot of a disk failed.
pub record WriteFaultCause (paths : List Bytes) (s t : Counts) : Type 0 where
  pub slot : ℕ
  pub below : slot < length paths
  pub rose : Rose (s.faults slot) (t.faults slot)

-- No other refusal comes, but want of memory.
abbrev pub RefusalCause : List Bytes → Bytes → r.Refusal → Counts → Counts → Type 0
RefusalCause paths path (r.NoDisk text) s t = (text ≡ path) × NoDiskCause paths path s t
RefusalCause paths path (r.DiskTaken text) s t = (text ≡ path) × DiskTakenCause paths path s t
RefusalCause paths path (r.TooSmall disk need) s t = (need ≡ units_needed) × TooSmallCause paths need s t
RefusalCause paths path (r.WriteFault disk) s t = WriteFaultCause paths s t
RefusalCause paths path r.NoMemory s t = ⊤
RefusalCause paths path other s t = ⊥

-- NoDisk, DiskTaken and TooSmall come before the first write.
abbrev pub IsEarly : r.Refusal → Type 0
IsEarly (r.NoDisk text) = ⊤
IsEarly (r.DiskTaken text) = ⊤
IsEarly (r.TooSmall disk need) = ⊤
IsEarly other = ⊥
