-- What the making of copies does.
use Rattle.std.specs.Prelude.{ℕ, ◌+◌, ◌*◌, ◌/◌, ◌≤◌, List, length, Result, IfErr, OnOk}
use Rattle.bay.specs.Image.{Image, ChangesOnly}
use Rattle.bay.specs.State.{BayState, KeepsAttached}
use Rattle.bay.specs.Moments.{Runs, Durable, NowOnly, LeavesOnly}
use Rattle.bay.specs.Calls.{cost, Call}
use Rattle.asm_group.specs.Names.{Bytes}
use Rattle.asm_base.specs.declared.block.Block.{Block}
use Rattle.change_directory.specs.declared.copy.DirCopy.{DirCopy}
use Rattle.change_directory.specs.StoreLaws.{IsUnopened, shown_by}
use Rattle.directory_store.specs.Copies.{AllAreShut, AreSettled, HaveNoneOr, IsFailedSlot, IsSettled, IsSlotOfCopy, MayEmpty, MayMakeCopy, RegionsOf, WritesAll, making_calls}

-- ---- one copy

-- the copy has these pages at home, and no open log slot
pub record HasFilled (copy : DirCopy) (pages : List (ℕ × Block)) (s t : BayState) : Type 0 where
  pub done : NowOnly t (IsUnopened copy (shown_by pages))
  -- its disk was synced
  pub durable : Durable copy.slot t

-- The copy is formatted, and these pages are written home.
abbrev pub FillsCopy : {T E : Type 0} → Result T E → DirCopy → List (ℕ × Block) → BayState → BayState
    → Type 0
FillsCopy result copy pages = Call result copy.slot (MayEmpty copy) (λ value. HasFilled copy pages)
    (cost ((copy.dir_blocks * 4096) / 262144 + length pages + 15)
    (2 * copy.sector + (copy.dir_blocks + length pages) * 4096))

-- the copy has these pages as its content, each as it stands at home
abbrev pub HasMade : {T : Type 0} → DirCopy → ℕ → (ℕ → Bytes) → T → BayState → BayState → Type 0
HasMade copy number page value s t = NowOnly t (IsSettled copy number page)

-- The copy is made of so many pages under a number.
abbrev pub MakesOne : {T E : Type 0} → Result T E → DirCopy → ℕ → (ℕ → Bytes) → ℕ → BayState
    → BayState → Type 0
MakesOne result copy number page count = Call result copy.slot (MayMakeCopy copy number page)
    (HasMade copy number page)
    (cost ((copy.dir_blocks * 4096) / 262144 + count + 27)
    (4 * copy.sector + (copy.dir_blocks + count + 1) * 4096))

-- ---- several copies

-- Each of the copies is made of so many pages under a number, up to the first that fails.
pub record MakesCopies {T : Type 0} (result : Result T ℕ) (copies : List DirCopy) (number : ℕ)
    (page : ℕ → Bytes) (count : ℕ) (s t : BayState) : Type 0 where
  -- the same disks stay attached
  pub attached : KeepsAttached s t
  -- on each copy so many calls were made at most
  pub calls : t.calls ≤ s.calls + making_calls copies count
  -- on each copy so many bytes were written at most
  pub written : WritesAll copies count s t
  -- nothing changes but the copies' regions
  pub runs : Runs (IsSlotOfCopy copies) (ChangesOnly (RegionsOf copies)) s t
  -- of shut copies each has no content at each moment, or that of the pages
  pub moments : NowOnly s (AllAreShut copies) → LeavesOnly s t (HaveNoneOr copies number page)
  -- in the end each has the pages at home
  pub done : OnOk result (NowOnly t (AreSettled copies number page))
  -- an error is the slot of a copy that failed
  pub cause : IfErr result (IsFailedSlot copies s t)
