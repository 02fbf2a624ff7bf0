-- What the copies of a store hold, image by image.
use Rattle.std.specs.Prelude.{◌≡◌, ◌≢◌, ◌⊎◌, ℕ, ◌+◌, ◌*◌, ◌/◌, ◌<◌, ◌≤◌, false, true, List, [], ◌∷◌, length, None, if◌then◌else◌, ◌==◌, IsTrue}
use Rattle.bay.specs.Image.{Image, ChangesOnly}
use Rattle.bay.specs.State.{BayState}
use Rattle.bay.specs.Counts.{Rose}
use Rattle.asm_group.specs.Names.{Bytes}
use Rattle.asm_base.specs.declared.block.Block.{Block}
use Rattle.asm_formats.specs.Among.{IsAmong}
use Rattle.asm_formats.specs.Sets.{has_bit}
use Rattle.change_directory.specs.declared.copy.DirCopy.{DirCopy}
use Rattle.change_directory.specs.Places.{IsCopy}
use Rattle.change_directory.specs.Logs.{AreLogsSettled, are_pages}
use Rattle.change_directory.specs.Changes.{content_in, DecodesIn, IsAtHome}
use Rattle.change_directory.specs.Formatting.{AreShut, MayLoseContent}
use Rattle.change_directory.specs.Laws.{ArePut}
use Rattle.change_directory.specs.StoreLaws.{HasContent, HasDue, RegionOf, content_with}
use Rattle.directory_store.specs.declared.due.Due.{Due}

-- ---- one copy

-- the copy has these pages as its content, and these are due
pub record IsKept (copy : DirCopy) (due : List (ℕ × Block)) (number : ℕ) (page : ℕ → Bytes) (x : Image) : Type 0 where
  pub content : HasContent copy number page x
  pub due_are : HasDue copy due x

-- the copy has these pages as its content, and each counts as it stands at home
pub record IsSettled (copy : DirCopy) (number : ℕ) (page : ℕ → Bytes) (x : Image) : Type 0 where
  pub content : HasContent copy number page x
  pub home : IsAtHome copy x

-- the content is that before a commit, or that after it
abbrev pub HasEither : DirCopy → ℕ → ℕ → (ℕ → Bytes) → (ℕ → Bytes) → Image → Type 0
HasEither copy before next page after x = (content_in copy x ≡ content_with copy before page) ⊎ (content_in copy x ≡ content_with copy next after)

-- ---- several copies

-- no two of the copies have one slot or one disk number
abbrev pub IsCopyApart : DirCopy → List DirCopy → Type 0
IsCopyApart copy copies = (c : DirCopy) → IsAmong copies c → (copy.slot ≢ c.slot) × (copy.number ≢ c.number)

abbrev pub AreCopiesApart : List DirCopy → Type 0
AreCopiesApart [] = Unit {0}
AreCopiesApart (copy ∷ copies) = IsCopyApart copy copies × AreCopiesApart copies

-- the slot is that of one of the copies
abbrev pub IsSlotOfCopy : List DirCopy → ℕ → Type 0
IsSlotOfCopy copies slot = (c : DirCopy) × IsAmong copies c × (slot ≡ c.slot)

-- the bytes of the directory regions of the copies
abbrev pub RegionsOf : List DirCopy → ℕ → ℕ → Type 0
RegionsOf copies s k = (c : DirCopy) × IsAmong copies c × RegionOf c s k

-- the due pages of the copy on a slot
abbrev pub due_of : List Due → ℕ → List (ℕ × Block)
due_of [] slot = []
due_of (due ∷ dues) slot = if due.slot == slot then due.pages.items else due_of dues slot

-- each copy has these pages as its content, and its due pages are due
abbrev pub AreKept : List DirCopy → List Due → ℕ → (ℕ → Bytes) → Image → Type 0
AreKept copies dues number page x = (c : DirCopy) → IsAmong copies c → IsKept c (due_of dues c.slot) number page x

-- each copy has its content before a commit, or that after it
abbrev pub HaveEither : List DirCopy → ℕ → ℕ → (ℕ → Bytes) → (ℕ → Bytes) → Image → Type 0
HaveEither copies before next page after x = (c : DirCopy) → IsAmong copies c → HasEither c before next page after x

-- each copy whose disk isn't in the set has these pages as its content, each as it stands at home
abbrev pub AreSettledBut : List DirCopy → ℕ → ℕ → (ℕ → Bytes) → Image → Type 0
AreSettledBut copies failed number page x = (c : DirCopy) → IsAmong copies c → has_bit failed c.number ≡ false → IsSettled c number page x

-- each image that a stop now may leave has the log slots of each copy as they are held
abbrev pub AllLogsSettled : List DirCopy → BayState → Type 0
AllLogsSettled copies state = (c : DirCopy) → IsAmong copies c → AreLogsSettled c state

-- so it has those of each copy whose disk isn't in the set
abbrev pub LogsSettledBut : List DirCopy → ℕ → BayState → Type 0
LogsSettledBut copies failed state = (c : DirCopy) → IsAmong copies c → has_bit failed c.number ≡ false → AreLogsSettled c state

-- a disk is in the set only where it is that of one of the copies and its slot failed
abbrev pub HasOnlyFailedCopies : List DirCopy → ℕ → BayState → BayState → Type 0
HasOnlyFailedCopies copies failed s t =
    (k : ℕ) → k < 64 → has_bit failed k ≡ true → (c : DirCopy) × IsAmong copies c × (c.number ≡ k) × Rose (s.faults c.slot) (t.faults c.slot)

-- ---- copies that are made

-- the content stays, is gone, or is that of these pages
abbrev pub MayBecome : DirCopy → ℕ → (ℕ → Bytes) → Image → Image → Type 0
MayBecome copy number page old new = (content_in copy new ≡ content_in copy old) ⊎ ((content_in copy new ≡ None) ⊎ (content_in copy new ≡ content_with copy number page))

-- While a copy is emptied nothing outside its directory region changes. The content of one that is at home, with open log slots that decode, stays, or is gone.
pub record MayEmpty (copy : DirCopy) (old new : Image) : Type 0 where
  pub elsewhere : ChangesOnly (RegionOf copy) old new
  pub content : DecodesIn copy old → IsAtHome copy old → MayLoseContent copy old new

-- the same while a copy is made of these pages, whose content may also be there then
pub record MayMakeCopy (copy : DirCopy) (number : ℕ) (page : ℕ → Bytes) (old new : Image) : Type 0 where
  pub elsewhere : ChangesOnly (RegionOf copy) old new
  pub content : DecodesIn copy old → IsAtHome copy old → MayBecome copy number page old new

-- no log slot of the copies is open
abbrev pub AllAreShut : List DirCopy → Image → Type 0
AllAreShut copies x = (c : DirCopy) → IsAmong copies c → AreShut c x

-- each copy has no content, or that of these pages
abbrev pub HaveNoneOr : List DirCopy → ℕ → (ℕ → Bytes) → Image → Type 0
HaveNoneOr copies number page x = (c : DirCopy) → IsAmong copies c → (content_in c x ≡ None) ⊎ (content_in c x ≡ content_with c number page)

-- each copy has these pages as its content, each as it stands at home
abbrev pub AreSettled : List DirCopy → ℕ → (ℕ → Bytes) → Image → Type 0
AreSettled copies number page x = (c : DirCopy) → IsAmong copies c → IsSettled c number page x

-- the pages are pages of each copy
abbrev pub ArePagesOf : List DirCopy → List (ℕ × Block) → Type 0
ArePagesOf copies pages = (c : DirCopy) → IsAmong copies c → IsTrue (are_pages c.dir_blocks pages)

-- the pages of the first copy
abbrev pub first_size : List DirCopy → ℕ
first_size [] = 0
first_size (copy ∷ copies) = copy.dir_blocks

-- the slot of a copy that failed
abbrev pub IsFailedSlot : List DirCopy → BayState → BayState → ℕ → Type 0
IsFailedSlot copies s t slot = IsSlotOfCopy copies slot × Rose (s.faults slot) (t.faults slot)

-- ---- the conditions of a commit

-- the copy may take a commit: it is attached, its disk has a number, and its due pages are pages of it
pub record IsNamedCopy (dues : List Due) (state : BayState) (copy : DirCopy) : Type 0 where
  pub copy_is : IsCopy state copy
  pub number : copy.number < 64
  pub due : IsTrue (are_pages copy.dir_blocks (due_of dues copy.slot))

abbrev pub AreNamedCopies : List DirCopy → List Due → BayState → Type 0
AreNamedCopies copies dues state = (c : DirCopy) → IsAmong copies c → IsNamedCopy dues state c

-- the pages may be put under the number on each copy
abbrev pub MayPutOn : List DirCopy → ℕ → List (ℕ × Block) → Type 0
MayPutOn copies number pages = (c : DirCopy) → IsAmong copies c → ArePut c number pages

-- a smaller number and pages that a claim holds with, now
pub record Earlier (next : ℕ) (P : ℕ → (ℕ → Bytes) → Type 0) : Type 0 where
  pub before : ℕ
  pub page : ℕ → Bytes
  pub smaller : before < next
  pub holds : P before page

-- ---- what it costs

-- the most calls that a commit of so many pages makes on the copies
abbrev pub calls_for : List DirCopy → List Due → ℕ → ℕ
calls_for [] dues pages = 0
calls_for (copy ∷ copies) dues pages = length (due_of dues copy.slot) + pages + 14 + calls_for copies dues pages

-- The bytes written to a copy's slot rise by at most two blocks for each page, a block and two sectors, and a block for each page that is due.
abbrev pub WritesFew : List DirCopy → List Due → ℕ → BayState → BayState → Type 0
WritesFew copies dues pages s t =
    (c : DirCopy) → IsAmong copies c → t.written c.slot ≤ s.written c.slot + 2 * c.sector + (2 * pages + 1) * 4096 + length (due_of dues c.slot) * 4096

-- the most calls that the making of these copies takes, of so many pages
abbrev pub making_calls : List DirCopy → ℕ → ℕ
making_calls [] pages = 0
making_calls (copy ∷ copies) pages = (copy.dir_blocks * 4096) / 262144 + pages + 27 + making_calls copies pages

-- The bytes written to a copy's slot rise by at most all its pages, a block for each page that is put, a block and four sectors.
abbrev pub WritesAll : List DirCopy → ℕ → BayState → BayState → Type 0
WritesAll copies pages s t =
    (c : DirCopy) → IsAmong copies c → t.written c.slot ≤ s.written c.slot + 4 * c.sector + (c.dir_blocks + pages + 1) * 4096
