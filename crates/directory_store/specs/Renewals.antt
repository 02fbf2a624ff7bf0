-- What the renewal of a copy does.
use Rattle.std.specs.Prelude.{◌≡◌, ℕ, ◌+◌, ◌*◌, ◌/◌, List, Result, IfOk, OnOk, IsErrOf, IsTrue, Vec}
use Rattle.std.specs.declared.alloc.Global.{Global}
use Rattle.bay.specs.Image.{Same}
use Rattle.bay.specs.State.{BayState, IsSlot}
use Rattle.bay.specs.Counts.{Rose}
use Rattle.bay.specs.Moments.{NowOnly}
use Rattle.bay.specs.Calls.{cost, Calls}
use Rattle.asm_group.specs.Names.{Bytes}
use Rattle.asm_base.specs.declared.block.Block.{Block}
use Rattle.change_directory.specs.declared.copy.DirCopy.{DirCopy}
use Rattle.change_directory.specs.Logs.{are_pages}
use Rattle.directory_store.specs.Copies.{IsSettled}
use Rattle.directory_store.specs.Copying.{IsRenewable, MayRenewCopy}
use Rattle.directory_store.specs.declared.copying.CopyError.{CopyError}
use Rattle.directory_store.specs.declared.copying.CopyError.TheVariants.{Fault, NoMemory}

-- The due pages of a copy are read.
pub record ReadsDue (result : Result (Vec (ℕ × Block) Global) CopyError) (copy : DirCopy)
    (s t : BayState) : Type 0 where
  pub calls : Calls (IsSlot copy.slot) Same (cost (copy.dir_blocks / 64 + 8) 0) s t
  -- nothing was written
  pub written : t.written copy.slot ≡ s.written copy.slot
  -- they are pages of the copy
  pub pages : IfOk result (λ due. IsTrue (are_pages copy.dir_blocks due.items))
  -- written home they leave a readable copy at home
  pub read : IfOk result (λ due. NowOnly t (IsRenewable copy due.items))
  -- a fault comes only where the slot failed
  pub fault : IsErrOf result Fault → Rose (s.faults copy.slot) (t.faults copy.slot)

-- The copy is brought up to these pages under a number.
pub record RenewsCopy {T : Type 0} (result : Result T CopyError) (copy : DirCopy) (number : ℕ)
    (page : ℕ → Bytes) (s t : BayState) : Type 0 where
  pub calls : Calls (IsSlot copy.slot) (MayRenewCopy copy number page)
      (cost (2 * copy.dir_blocks + 2 * (copy.dir_blocks / 64) + 36)
      (4 * copy.sector + (3 * copy.dir_blocks + 1) * 4096)) s t
  -- then it has them as its content, each as it stands at home
  pub done : OnOk result (NowOnly t (IsSettled copy number page))
  -- a fault comes only where the slot failed
  pub fault : IsErrOf result Fault → Rose (s.faults copy.slot) (t.faults copy.slot)
  -- without memory nothing was written
  pub memory : IsErrOf result NoMemory → t.written copy.slot ≡ s.written copy.slot
