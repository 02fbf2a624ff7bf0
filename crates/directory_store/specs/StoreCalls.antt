-- What the calls of a store did, each as one value.
use Rattle.std.specs.Prelude.{◌≡◌, ℕ, ◌+◌, ◌*◌, ◌/◌, ◌<◌, ◌≤◌, List, [], ◌∷◌, ◌++◌, length, IfErr, IfOk, IsErrOf, OnErr, OnOk, Result}
use Rattle.bay.specs.Calls.{Calls, cost}
use Rattle.bay.specs.Counts.{Rose}
use Rattle.bay.specs.Image.{ChangesOnly, Same}
use Rattle.bay.specs.Moments.{LeavesOnly, NowOnly, Runs}
use Rattle.bay.specs.State.{BayState, IsSlot, KeepsAttached}
use Rattle.bay.specs.Told.{Told}
use Rattle.asm_formats.specs.Items.{Key}
use Rattle.asm_base.specs.Records.{DirectoryRecord, record_at}
use Rattle.change_directory.specs.declared.copy.DirCopy.{DirCopy}
use Rattle.page_map.specs.Changes.{value_after}
use Rattle.page_map.specs.Tables.{PageTable, new_in, room}
use Rattle.directory_store.specs.Answers.{IfFull, IfGone, IsFirstRefusal, IsStoreRefusal}
use Rattle.directory_store.specs.Copies.{AllAreShut, HasOnlyFailedCopies, IsSlotOfCopy, RegionsOf, WritesAll, WritesFew, calls_for, first_size, making_calls}
use Rattle.directory_store.specs.Copying.{MayBringUp, due_off}
use Rattle.directory_store.specs.Loading.{AreDurable, HaveContentsUpTo, KeepsEqual, LoadCause, TakesLeast}
use Rattle.directory_store.specs.Places.{AreAtHome, AreTakenPlaces}
use Rattle.directory_store.specs.Reading.{ArePartOf, AreUndamaged, KeepsWrittenCounts, calls_to_read}
use Rattle.directory_store.specs.Stores.{AreFirst, HaveEitherRecords, HaveNoneOrFirst, HaveRecords, IsEmpty, Keeps, Stored, others}
use Rattle.directory_store.specs.declared.copying.CopyError.{CopyError}
use Rattle.directory_store.specs.declared.copying.CopyError.TheVariants.{Fault, NoMemory}
use Rattle.directory_store.specs.declared.error.LoadError.{LoadError}
use Rattle.directory_store.specs.declared.error.StoreError.{StoreError}

-- ---- a store is made, or loaded

-- The first records of a group were made on the given copies.
pub record CreatesStore (given : List DirCopy) (put : List DirectoryRecord) (gone : List Key)
    (result : Result Stored StoreError) (s t : BayState) : Type 0 where
  -- they are those that the change puts into nothing
  pub records : IfOk result (λ store. AreFirst put gone store.table)
  -- under the first commit number
  pub number : IfOk result (λ store. store.number ≡ 1)
  -- all the given copies have them
  pub copies : IfOk result (λ store. store.copies ≡ given)
  -- they stand in their own blocks on the first one
  pub places : IfOk result (λ store. AreAtHome given store.read)
  -- there was room for them
  pub fits : OnOk result ((table : PageTable) → IsEmpty table (first_size given)
      → new_in table put ≤ room table)
  -- an error is that there was none, a copy that failed, or want of memory
  pub refused : IfErr result (IsFirstRefusal given (first_size given) put s t)
  -- the store may take commits
  pub kept : IfOk result (λ store. Keeps store t)
  -- of shut copies each has no content at each moment, or all the records
  pub moments : NowOnly s (AllAreShut given) → LeavesOnly s t (HaveNoneOrFirst given put gone)
  -- the same disks stay attached
  pub attached : KeepsAttached s t
  -- on each copy so many calls were made at most
  pub calls : t.calls ≤ s.calls + making_calls given (length put + length gone)
  -- on each copy so many bytes were written at most
  pub written : WritesAll given (length put + length gone) s t
  -- nothing changes but the copies' regions
  pub runs : Runs (IsSlotOfCopy given) (ChangesOnly (RegionsOf given)) s t

-- The given copies were read, and the content of the greatest number was taken.
pub record LoadsStore (given : List DirCopy) (result : Result Stored LoadError)
    (s t : BayState) : Type 0 where
  -- the copies that are kept are some of those given
  pub copies : IfOk result (λ store. ArePartOf store.copies given)
  -- at least one is
  pub some : IfOk result (λ store. 0 < length store.copies)
  -- each has the records
  pub content : IfOk result (λ store. Told s t (HaveRecords store))
  -- no given copy that was read has a greater number
  pub greatest : IfOk result (λ store. HaveContentsUpTo store.number given s t)
  -- of equal numbers that of the least disk was taken
  pub least : IfOk result (λ store. TakesLeast store given s t)
  -- no copy with the very same content is left out, unless it failed
  pub equals : IfOk result (λ store. KeepsEqual store given s t)
  -- where the disks hold what a stop leaves, the store may take commits
  pub kept : IfOk result (λ store. AreDurable given s → Keeps store t)
  -- the blocks where the records were read
  pub places : IfOk result (λ store. AreTakenPlaces store s t)
  -- no given copy is damaged
  pub undamaged : OnOk result (AreUndamaged given s t)
  -- an error has its cause
  pub cause : IfErr result (LoadCause given s t)
  pub calls : Calls (IsSlotOfCopy given) Same (cost (calls_to_read given) 0) s t
  -- nothing was written
  pub written : KeepsWrittenCounts s t

-- ---- a change is committed

-- the records are those after the change, under the next number
pub record AreAfter (old new : Stored) (put : List DirectoryRecord) (gone : List Key) : Type 0 where
  pub records : (k : Key) → record_at new.table.records k ≡ value_after put gone k (record_at old.table.records k)
  pub number : new.number ≡ old.number + 1

-- A change was committed on each copy of a store, past faults.
pub record CommitsRecords (old new : Stored) (put : List DirectoryRecord) (gone : List Key)
    (result : Result ℕ StoreError) (s t : BayState) : Type 0 where
  -- the store has the records after it
  pub after : OnOk result (AreAfter old new put gone)
  -- also where all copies failed
  pub after_gone : IfGone result (AreAfter old new put gone)
  -- the copies whose disks didn't fail are left
  pub copies : IfOk result (λ failed. new.copies ≡ others failed old.copies)
  -- at least one is
  pub some : OnOk result (0 < length new.copies)
  -- the records found no room only where there is a copy
  pub full : IfFull result (0 < length old.copies)
  -- at Ok there was room for the new ones
  pub fits : OnOk result (new_in old.table put ≤ room old.table)
  -- an error is that there was none, that all copies failed, or want of memory
  pub refused : IfErr result (IsStoreRefusal old put new s t)
  -- a disk is told as failed only where the slot of its copy did
  pub failed : IfOk result (λ failed. HasOnlyFailedCopies old.copies failed s t)
  -- at each moment each copy has the records before, or those after
  pub moments : LeavesOnly s t (HaveEitherRecords old new)
  -- the store may take commits
  pub kept : Keeps new t
  -- the copies that are left have its records
  pub done : NowOnly t (HaveRecords new)
  -- the same disks stay attached
  pub attached : KeepsAttached s t
  -- on each copy so many calls were made at most
  pub calls : t.calls ≤ s.calls + calls_for old.copies old.due (length put + length gone)
  -- on each copy so many bytes were written at most
  pub written : WritesFew old.copies old.due (length put + length gone) s t
  -- nothing changes but the copies' regions
  pub runs : Runs (IsSlotOfCopy old.copies) (ChangesOnly (RegionsOf old.copies)) s t

-- ---- a copy is brought up

-- A copy was brought up that the store didn't have.
pub record AddsCopy {T : Type 0} (old new : Stored) (copy : DirCopy) (result : Result T CopyError)
    (s t : BayState) : Type 0 where
  -- the records are the same
  pub table : new.table ≡ old.table
  -- and so is the commit number
  pub commit : new.number ≡ old.number
  -- the copy is one of the store's
  pub done : OnOk result (new.copies ≡ old.copies ++ copy ∷ [])
  -- no page of it is due
  pub due : OnOk result (new.due ≡ due_off copy.slot old.due)
  -- an error leaves the store as it was
  pub same : OnErr result (new ≡ old)
  -- the store may take commits
  pub kept : Keeps new t
  -- at each moment the other copies have the records
  pub moments : LeavesOnly s t (HaveRecords old)
  -- a fault comes only where the slot failed
  pub fault : IsErrOf result Fault → Rose (s.faults copy.slot) (t.faults copy.slot)
  -- without memory nothing was written
  pub memory : IsErrOf result NoMemory → t.written copy.slot ≡ s.written copy.slot
  -- the copy, where it can be read, has the content that it had, none, or the records
  pub calls : Calls (IsSlot copy.slot) (MayBringUp old.table old.number copy)
      (cost (2 * copy.dir_blocks + 2 * (copy.dir_blocks / 64) + 36)
      (4 * copy.sector + (3 * copy.dir_blocks + 1) * 4096)) s t
