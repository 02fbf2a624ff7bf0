-- What the looks before a creation do: they read headers, and write nothing.
use Rattle.std.specs.Prelude.{◌≡◌, ◌++◌, ℕ, ◌+◌, ◌*◌, ◌<◌, ◌≤◌, List, Result, IfOk, OnErr}
use Rattle.bay.specs.Image.{Same}
use Rattle.bay.specs.Moments.{Runs}
use Rattle.bay.specs.State.{AttachesOnly, BayState, IsSlot}
use Rattle.group_engine.specs.Frames.{StaysAttached}
use Rattle.mounted_groups.specs.Found.{AreAllRead, AreIdsRead, counts_of}
use Rattle.mounted_groups.specs.Probes.{IsShown, ids_of}
use Rattle.mounted_groups.specs.declared.find.Probe.{Probe}

-- The image of one slot is attached, and its header is read.
pub record LooksAt {E : Type 0} (slot : ℕ) (result : Result Probe E) (s t : BayState) : Type 0 where
  -- no disk changes
  pub runs : Runs (IsSlot slot) Same s t
  pub calls : t.calls ≤ s.calls + 3
  -- what was attached stays so, and no other slot's image is attached
  pub stays : StaysAttached s t
  pub others : AttachesOnly slot s t
  -- what is answered is so
  pub shown : IfOk result (λ probe. IsShown slot probe (counts_of s) (counts_of t))

-- the id that a look has shown is put behind the others; without an answer none is
pub record Notes {E : Type 0} (result : Result Probe E) (old new : List ℕ) : Type 0 where
  pub ids : IfOk result (λ probe. new ≡ old ++ ids_of probe)
  pub err : OnErr result (new ≡ old)

-- The images of the first n slots are looked at, and the ids in the headers that were read are noted.
pub record LooksAtAll {T E : Type 0} (n : ℕ) (result : Result T E) (noted : List ℕ) (s t : BayState) : Type 0 where
  -- no disk changes
  pub runs : Runs (λ slot. slot < n) Same s t
  pub calls : t.calls ≤ s.calls + 3 * n
  -- what was attached stays so
  pub stays : StaysAttached s t
  pub ids : AreIdsRead noted (counts_of s) (counts_of t)
  -- at Ok each header that could be read was read
  pub all : IfOk result (λ _. AreAllRead n noted (counts_of s) (counts_of t))
