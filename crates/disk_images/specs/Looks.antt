-- What looks at images show.
use Rattle.std.specs.Prelude.{◌≡◌, ℕ, ◌+◌, ◌<◌, ◌≤◌, List, length, get_or, Option, Result, Some, IfOk, IsErrOf, IsTrue}
use Rattle.std.specs.Option.{ForSome}
use Rattle.bay.specs.Image.{Image, Same, window}
use Rattle.bay.specs.State.{BayState, IsSlot, KeepsAttached}
use Rattle.bay.specs.Counts.{Rose}
use Rattle.bay.specs.Moments.{Runs, Holds, NowOnly}
use Rattle.bay.specs.declared.fault.BayError.{BayError}
use Rattle.bay.specs.declared.fault.BayError.TheVariants.{Fault}
use Rattle.asm_formats.specs.Header.{Header, decoded_header, is_header}
use Rattle.asm_formats.specs.Regions.{least_size}
use Rattle.asm_images.specs.Kept.{header_in}
use Rattle.disk_images.specs.declared.looking.Looked.{Looked}
use Rattle.disk_images.specs.declared.looking.Looked.TheVariants as looked

-- Looks at the images of some slots: no disk changes, nothing is written, and what was attached stays so.
pub record Looks (slots : ℕ → Type 0) (most : ℕ) (s t : BayState) : Type 0 where
  pub calls : t.calls ≤ s.calls + most
  pub runs : Runs slots Same s t
  pub written : (slot : ℕ) → t.written slot ≡ s.written slot
  -- at most these slots are attached that weren't
  pub others : (slot : ℕ) → (slots slot → ⊥) → t.attached slot ≡ s.attached slot
  pub stays : (slot size : ℕ) → s.attached slot ≡ Some size → t.attached slot ≡ Some size

-- the open header of the disk in a slot is this, after a step
abbrev pub HeaderIs : ℕ → Option Header → Image → Image → Type 0
HeaderIs slot header old new = header_in new slot ≡ header

-- the header is one of the formats, and a disk of so many bytes may have it
pub record IsAllowed (size : ℕ) (h : Header) : Type 0 where
  pub header : IsTrue (is_header h)
  pub long : least_size ≤ size

-- ---- the open header of one disk

-- the disk in the slot holds this open header
abbrev pub IsHeaderHeld : ℕ → Option Header → BayState → BayState → Type 0
IsHeaderHeld slot header s t = Holds (HeaderIs slot header) s t

-- each image that a stop may leave now has it
abbrev pub IsHeaderLeft : ℕ → Option Header → BayState → BayState → Type 0
IsHeaderLeft slot header s t = NowOnly t (λ image. header_in image slot ≡ header)

-- the block behind the header's gate is the spelling of this one, or of none
abbrev pub IsDecoded : ℕ → Option Header → BayState → BayState → Type 0
IsDecoded slot header s t =
    ForSome s.holds (λ image. header ≡ decoded_header (window (image.byte slot) 4096 4096))

-- So many calls at most read the header of the attached disk of a slot.
pub record ReadsHeader (slot most : ℕ) (may : Header → Type 0)
    (shows : Option Header → BayState → BayState → Type 0)
    (result : Result (Option Header) BayError) (s t : BayState) : Type 0 where
  -- the same disks stay attached, and none changes
  pub attached : KeepsAttached s t
  pub runs : Runs (IsSlot slot) Same s t
  pub calls : t.calls ≤ s.calls + most
  -- nothing is written
  pub written : t.written slot ≡ s.written slot
  -- at Ok this is what was read
  pub header : IfOk result (λ header. shows header s t)
  -- whatever the disk holds, it is one that may be
  pub allowed : IfOk result (λ header. ForSome header may)
  -- it fails only where the slot failed, or for want of memory
  pub cause : IsErrOf result Fault → Rose (s.faults slot) (t.faults slot)

-- ---- what looks have shown

-- An image that was read: it is attached with its size, and each image that a stop may leave now has this open header.
pub record IsRead (slot size : ℕ) (header : Option Header) (s : BayState) : Type 0 where
  pub attached : s.attached slot ≡ Some size
  pub allowed : ForSome header (IsAllowed size)
  pub now : NowOnly s (λ image. header_in image slot ≡ header)

-- what a look at the image of a slot has shown
abbrev pub IsLooked : ℕ → Looked → BayState → BayState → Type 0
IsLooked slot looked.Absent s t = (t.attached slot ≡ s.attached slot) × Rose (s.faults slot) (t.faults slot)
IsLooked slot (looked.Unread size) s t = (t.attached slot ≡ Some size) × Rose (s.faults slot) (t.faults slot)
IsLooked slot (looked.Read size header) s t = IsRead slot size header t

-- what looks have shown, by slot
pub record AreLooked (found : List Looked) (s t : BayState) : Type 0 where
  pub each : (slot : ℕ) → slot < length found → IsLooked slot (get_or found slot looked.Absent) s t
