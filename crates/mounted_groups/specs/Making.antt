-- How an image is made anew.
use Rattle.std.specs.Prelude.{◌≡◌, ◌≢◌, ◌⊎◌, ⊤, ℕ, List, Some, None}
use Rattle.bay.specs.Counts.{Rose}
use Rattle.bay.specs.Image.{Makes}
use Rattle.bay.specs.Moments.{Ends}
use Rattle.bay.specs.State.{BayState}
use Rattle.asm_group.specs.Names.{Bytes}
use Rattle.asm_group.specs.Refusal as r
use Rattle.asm_formats.specs.Header.{Header}
use Rattle.asm_images.specs.Kept.{header_in}
use Rattle.group_recovery.specs.disk_images.declared.looking.Looked.{Looked}
use Rattle.group_recovery.specs.disk_images.declared.looking.Looked.TheVariants as look
use Rattle.mounted_groups.specs.Found.{Counts, IsSlotOfPath, NoDiskCause, ToldByCounts, counts_of}
use Rattle.mounted_groups.specs.Holding.{IsHeldSlot}

-- the disk is attached to another group, or was a member of one
pub record IsDiskTaken (paths : List Bytes) (path : Bytes) (held : List ℕ) (s t : Counts) : Type 0 where
  pub slot : ℕ
  pub is_slot : IsSlotOfPath paths path slot
  pub by : IsHeldSlot held slot ⊎ ToldByCounts s t (λ image. header_in image slot ≢ None)

-- the image was attached, and its slot failed
pub record IsImageUnread (paths : List Bytes) (path : Bytes) (s t : Counts) : Type 0 where
  pub slot : ℕ
  pub is_slot : IsSlotOfPath paths path slot
  pub rose : Rose (s.faults slot) (t.faults slot)

-- Why an image isn't made. No other refusal comes, but want of memory.
abbrev pub MakeCause : List Bytes → Bytes → List ℕ → r.Refusal → Counts → Counts → Type 0
MakeCause paths path held (r.NoDisk text) s t = (text ≡ path) × NoDiskCause paths path s t
MakeCause paths path held (r.DiskTaken text) s t = (text ≡ path) × IsDiskTaken paths path held s t
MakeCause paths path held (r.ReadFault text) s t = (text ≡ path) × IsImageUnread paths path s t
MakeCause paths path held r.NoMemory s t = ⊤
MakeCause paths path held other s t = ⊥

-- why the image that was looked at isn't to be made
abbrev pub IsNotFree : Bytes → Looked → r.Refusal → Type 0
IsNotFree path looked (r.ReadFault text) = (text ≡ path) × (size : ℕ) × (looked ≡ look.Unread size)
IsNotFree path looked (r.DiskTaken text) = (text ≡ path) × (size : ℕ) × (h : Header) × (looked ≡ look.Read size (Some h))
IsNotFree path looked r.NoMemory = ⊤
IsNotFree path looked other = ⊥

-- the look found no image, or one without an open header
abbrev pub IsLookFree : Looked → Type 0
IsLookFree look.Absent = ⊤
IsLookFree (look.Unread size) = ⊥
IsLookFree (look.Read size None) = ⊤
IsLookFree (look.Read size (Some h)) = ⊥

-- The image of the path, which no group held and which bore no open header where it could be read, is so many zeros, in each image that
-- a stop may leave from then on.
pub record IsImageMade (paths : List Bytes) (path : Bytes) (held : List ℕ) (size : ℕ) (s t : BayState) : Type 0 where
  pub slot : ℕ
  pub is_slot : IsSlotOfPath paths path slot
  pub apart : IsHeldSlot held slot → ⊥
  pub free : Rose (s.faults slot) (t.faults slot) ⊎ ToldByCounts (counts_of s) (counts_of t) (λ image. header_in image slot ≡ None)
  pub attached : t.attached slot ≡ Some size
  pub made : Ends (Makes slot size) s t

-- what is attached to other slots than the path's, or to one that is held, stays so
pub record StaysBut (paths : List Bytes) (path : Bytes) (slots : List ℕ) (old new : BayState) : Type 0 where
  pub others : (slot size : ℕ) → (IsSlotOfPath paths path slot → ⊥) → old.attached slot ≡ Some size → new.attached slot ≡ Some size
  pub held : (slot size : ℕ) → IsHeldSlot slots slot → old.attached slot ≡ Some size → new.attached slot ≡ Some size
