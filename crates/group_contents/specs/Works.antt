-- A piece of work on a group's files: what it does, and why it is refused.
use Rattle.std.specs.Prelude.{◌⊎◌, ⊤, length, replicate, OnOk, Result}
use Rattle.bay.specs.State.{BayState}
use Rattle.refusal_lines.specs.declared.refusal.Refusal.{Refusal}
use Rattle.file_extents.specs.group_engine.Commits.{StatusCause}
use Rattle.file_extents.specs.group_engine.Mounts.{MountedGroup}
use Rattle.group_contents.specs.Files.{OpenCause, WriteFileCause}
use Rattle.group_contents.specs.Removing.{IsRemoved, RemoveCause, RemovesPath}
use Rattle.group_contents.specs.Sizes.{ResizeCause, ResizesFile}
use Rattle.group_contents.specs.Writing.{WritesFile}
use Rattle.group_contents.specs.declared.work.FileWork.{FileWork}
use Rattle.group_contents.specs.declared.work.FileWork.TheVariants as work

-- what was committed, as the call that does it says; of bytes nothing is said
abbrev pub WorkDone : MountedGroup → FileWork → MountedGroup → Type 0
WorkDone old (work.Resize path size) new = ResizesFile old path.parts size new
WorkDone old (work.Remove path) new = RemovesPath old path.parts new
WorkDone old (work.RemoveFile path) new = IsRemoved old path.parts new
WorkDone old (work.Write path at bytes) new = ⊤
WorkDone old (work.Fill path at len byte) new = ⊤

-- the cause is one of the call that does it
abbrev pub WorkCause : MountedGroup → FileWork → MountedGroup → BayState → BayState → Refusal → Type 0
WorkCause old (work.Resize path size) new s t refusal = ResizeCause old path.parts size new s t refusal
WorkCause old (work.Remove path) new s t refusal = RemoveCause old path.parts new s t refusal
WorkCause old (work.RemoveFile path) new s t refusal = OpenCause old path.parts refusal ⊎ StatusCause old new s t refusal
WorkCause old (work.Write path at bytes) new s t refusal = WriteFileCause old path.parts at (length bytes) new s t refusal
WorkCause old (work.Fill path at len byte) new s t refusal = WriteFileCause old path.parts at len new s t refusal

-- what it did to a group that takes calls, by its answer: of bytes that are written, what the disks hold at each moment
abbrev pub WorkDoes : MountedGroup → FileWork → Result (Unit {0}) Refusal → MountedGroup → BayState → BayState → Type 0
WorkDoes old (work.Write path at bytes) answer new s t = WritesFile old path.parts at bytes answer new s t
WorkDoes old (work.Fill path at len byte) answer new s t = WritesFile old path.parts at (replicate len byte) answer new s t
WorkDoes old other answer new s t = OnOk answer (WorkDone old other new)
