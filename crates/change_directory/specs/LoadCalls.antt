-- Calls of a load as one value each.
use Rattle.std.specs.Prelude.{◌≡◌, ℕ, ◌+◌, List, length, map, vec_len, Option, Some, None, Result, IfOk, IfErr, IfSome, IsErrOf, Vec}
use Rattle.std.specs.declared.alloc.Global.{Global}
use Rattle.bay.specs.Image.{Image}
use Rattle.bay.specs.State.{BayState}
use Rattle.bay.specs.Counts.{Rose}
use Rattle.asm_group.specs.Names.{Bytes}
use Rattle.asm_base.specs.Blocks.{image_of_page}
use Rattle.asm_base.specs.declared.block.Block.{Block}
use Rattle.change_directory.specs.declared.copy.DirCopy.{DirCopy}
use Rattle.change_directory.specs.declared.copy.LogSlot.{LogSlot}
use Rattle.change_directory.specs.declared.loading.Pages.{Pages}
use Rattle.change_directory.specs.declared.loading.LoadFault.{LoadFault}
use Rattle.change_directory.specs.declared.loading.LoadFault.TheVariants.{Fault}
use Rattle.change_directory.specs.declared.open_log.OpenLog.{OpenLog}
use Rattle.change_directory.specs.declared.open_log.OpenLogs.{OpenLogs}
use Rattle.bay.specs.Told.{Told}
use Rattle.change_directory.specs.Loads.{OpenSlot, damaged_block}
use Rattle.change_directory.specs.Slots.{ArePages, AreTaken, AreUpTo, GoesUpTo, IsLogRead, IsRestRead, IsSoundRead, all_slots, damaged_page, home_blocks, images_in}
use Rattle.change_directory.specs.Works.{OnlyReads}

-- Reads of a load with their answer. `refuses` is what a refusal says.
pub record LoadCall {T : Type 0} (result : Result T LoadFault) (slot : ℕ)
    (does : T → BayState → BayState → Type 0) (refuses : LoadFault → BayState → BayState → Type 0)
    (most : ℕ) (old new : BayState) : Type 0 where
  pub reads : OnlyReads slot most old new
  -- at Ok they tell this
  pub done : IfOk result (λ value. does value old new)
  -- no block is damaged, or the one that is named
  pub refusal : IfErr result (λ e. refuses e old new)
  -- a fault comes only where the slot failed
  pub cause : IsErrOf result Fault → Rose (old.faults slot) (new.faults slot)

-- no block is named
abbrev pub NoDamage : LoadFault → BayState → BayState → Type 0
NoDamage e old new = damaged_block e ≡ None

-- the block that is named is one of these
abbrev pub Damages : (ℕ → Image → Type 0) → LoadFault → BayState → BayState → Type 0
Damages P e old new = IfSome (damaged_block e) (λ block. Told old new (P block))

-- the images of these pages were read from a log slot
pub record ImagesAreRead (copy : DirCopy) (log : LogSlot) (pages : List ℕ) (images : Vec (ℕ × Block) Global)
    (old new : BayState) : Type 0 where
  pub len : vec_len images ≡ length pages
  pub are : Told old new (λ image. map image_of_page images.items ≡ images_in copy log pages image)

-- what stands behind a head was read
pub record RestIsRead (copy : DirCopy) (log : LogSlot) (head : Bytes) (read : OpenLog)
    (old new : BayState) : Type 0 where
  pub is : Told old new (IsRestRead copy log head read)
  -- without damage each image is a page
  pub sound : IsSoundRead (Some read)

-- a log slot was read
pub record LogIsRead (copy : DirCopy) (log : LogSlot) (read : Option OpenLog)
    (old new : BayState) : Type 0 where
  pub is : Told old new (IsLogRead copy log read)
  -- without damage each image is a page
  pub sound : IsSoundRead read

-- pages that stand behind one another, and the open log slots
pub record Piece : Type 0 where
  pub copy : DirCopy
  pub slots : List OpenSlot
  pub first : ℕ
  pub count : ℕ

-- the blocks of a piece at home
abbrev pub piece_home_blocks : Piece → Image → List Bytes
piece_home_blocks piece = home_blocks piece.copy piece.first piece.count

-- the pages of a piece were taken up
pub record TakesPiece (piece : Piece) (before after : Pages) (old new : BayState) : Type 0 where
  pub taken : Told old new (λ image. AreTaken piece.slots piece.first (piece_home_blocks piece image) before after)
  -- the numbers go on ascending, where the images are pages
  pub up_to : GoesUpTo piece.slots piece.first (piece.first + piece.count) before after

-- the first of its blocks that must be a page and isn't
abbrev pub IsPieceDamage : Piece → ℕ → Image → Type 0
IsPieceDamage piece block image = damaged_page piece.slots piece.first (piece_home_blocks piece image) ≡ Some block

-- the pages of a copy were read
pub record PagesAreRead (copy : DirCopy) (logs : OpenLogs) (pages : Pages)
    (old new : BayState) : Type 0 where
  pub are : Told old new (ArePages copy logs pages)
  -- their numbers ascend, where the images are pages
  pub up_to : AreUpTo (all_slots logs) copy.dir_blocks pages

-- so many pages from one on
abbrev pub piece_of_pages : DirCopy → OpenLogs → ℕ → ℕ → Piece
piece_of_pages copy logs first count = record { copy = copy; slots = all_slots logs; first = first; count = count }
