-- Which images have an open header.
use Rattle.std.specs.Prelude.{◌≡◌, ◌≢◌, ◌⊎◌, ⊤, ℕ, ◌<◌, List, [], ◌∷◌, Some, None}
use Rattle.std.specs.Option.{ForSome}
use Rattle.bay.specs.State.{BayState}
use Rattle.bay.specs.Counts.{Rose}
use Rattle.bay.specs.Moments.{NowOnly}
use Rattle.asm_formats.specs.Header.{Header}
use Rattle.asm_formats.specs.Among.{IsAmong}
use Rattle.asm_images.specs.Kept.{header_in}
use Rattle.disk_images.specs.Looks.{IsAllowed}
use Rattle.disk_images.specs.declared.looking.Looked.{Looked}
use Rattle.disk_images.specs.declared.looking.Looked.TheVariants as looked
use Rattle.group_recovery.specs.declared.finding.Headed.{Headed}

-- what is attached stays so, with its size
abbrev pub AttachedStays : BayState → BayState → Type 0
AttachedStays s t = (slot size : ℕ) → s.attached slot ≡ Some size → t.attached slot ≡ Some size

-- what a look at the image of a slot has shown as a list: the image where it has an open header
abbrev pub headed_in : ℕ → Looked → List Headed
headed_in slot looked.Absent = []
headed_in slot (looked.Unread size) = []
headed_in slot (looked.Read size None) = []
headed_in slot (looked.Read size (Some header)) = record { slot = slot; size = size; header = header } ∷ []

-- no two of these are in one slot
abbrev pub AreInOwnSlots : List Headed → Type 0
AreInOwnSlots [] = ⊤
AreInOwnSlots (h ∷ hs) = ((k : Headed) → IsAmong hs k → k.slot ≢ h.slot) × AreInOwnSlots hs

-- Each of these is attached in one of the first slots, and has the header in each image that a stop may leave now.
pub record AreThere (n : ℕ) (found : List Headed) (state : BayState) : Type 0 where
  pub inside : (h : Headed) → IsAmong found h → h.slot < n
  pub attached : (h : Headed) → IsAmong found h → state.attached h.slot ≡ Some h.size
  pub allowed : (h : Headed) → IsAmong found h → IsAllowed h.size h.header
  pub now : (h : Headed) → IsAmong found h → NowOnly state (λ image. header_in image h.slot ≡ Some h.header)
  pub apart : AreInOwnSlots found

-- the header of the disk in this slot is that of one of these
pub record IsFoundIn (found : List Headed) (slot : ℕ) (h : Header) : Type 0 where
  pub headed : Headed
  pub among : IsAmong found headed
  pub slot_is : headed.slot ≡ slot
  pub header_is : headed.header ≡ h

-- Each open header on an image in the first slots is one of these, but on those that failed.
pub record AreAllHeaded (below : ℕ) (found : List Headed) (s t : BayState) : Type 0 where
  pub each : (slot : ℕ) → slot < below → Rose (s.faults slot) (t.faults slot)
      ⊎ NowOnly t (λ image. ForSome (header_in image slot) (IsFoundIn found slot))
