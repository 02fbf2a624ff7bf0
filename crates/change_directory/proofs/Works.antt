-- Calls on a copy's disk, put together.
use Rattle.std.proofs.Common.{◌≡◌, ℕ, ◌+◌, ◌≤◌, ◌∙◌, Some, List, length, refl, subst, arith}
use Rattle.std.specs.Prelude.{Result, Ok, Err, OnOk, OnErr, IsErrOf}
use Rattle.bay.specs.Image.{Image, Same, ChangesOnly, Range, Puts}
use Rattle.bay.specs.State.{BayState, IsSound, IsSlot, KeepsAttached}
use Rattle.bay.specs.Counts.{Rose}
use Rattle.bay.specs.Moments.{Runs, Ends, Holds, Joins}
use Rattle.bay.specs.Calls.{Cost, Calls, Call, ChangesEachImage, Held, Settles, both_costs, cost}
use Rattle.bay.proofs.Calls.{attached-trans, both_done, stops, synced}
use Rattle.bay.proofs.Images.{same-refl, same-trans, changes-same, changes-trans}
use Rattle.bay.proofs.OneCall.{Follows, call_of_parts, cheaper, joined, no_call, of_parts, on_region, wider}
use Rattle.change_directory.specs.Works.{OnlyReads, DoneSynced, WentHeld}
use Rattle.change_directory.proofs.Runs.{goes_on_told, done_told}

-- ---- reads

module _ {slot : ℕ} where
  -- a read of the bay
  pub one_read : {a b : BayState} → KeepsAttached a b → b.calls ≤ a.calls + 1 → b.written slot ≡ a.written slot → Runs (IsSlot slot) Same a b → OnlyReads slot 1 a b
  one_read attached calls written runs = record { calls = of_parts 1 0 attached calls (omega (arith, written)) runs; written = written }

  -- none yet
  pub no_reads : {a : BayState} → OnlyReads slot 0 a a
  no_reads = record { calls = no_call same-refl; written = refl }

  -- reads, and others behind them
  pub reads_on : {m n : ℕ} {a b c : BayState} → OnlyReads slot m a b → OnlyReads slot n b c → OnlyReads slot (m + n) a c
  reads_on one two = record { calls = joined same-trans one.calls (stops one.calls.runs) two.calls; written = two.written ∙ one.written }

  -- so many at most
  pub reads_fit : {m n : ℕ} {a b : BayState} → m ≤ n → OnlyReads slot m a b → OnlyReads slot n a b
  reads_fit fits reads = record { calls = cheaper (record { calls = fits; bytes = λ s. omega arith }) reads.calls; written = reads.written }

-- an answer that is no error
pub not_err : {T E P : Type 0} {value : T} {e : E} → IsErrOf {T = T} {E = E} (Ok value) e → P
not_err {T} {E} is = absurd (subst (λ (r : Result T E). OnErr r ⊥) is tt)

-- ---- calls by a step that follows where the bay tells what its disks hold

pub joined_told : {slots : ℕ → Type 0} {done step whole : Image → Image → Type 0} {first second : Cost} {a b c : BayState} → IsSound b
    → Calls slots whole first a b → Ends done a b → Calls slots step second b c → ((held : Image) → b.holds ≡ Some held → Joins done step whole) → Calls slots whole (both_costs first second) a c
joined_told {slots} {done} {step} {whole} {first} {second} {a} {b} {c} sound call ends more each = record {
  attached = attached-trans call.attached more.attached;
  runs = goes_on_told sound call.runs ends more.runs each;
  calls = omega (arith, call.calls, more.calls);
  written = λ s. omega (arith, call.written s, more.written s);
}

-- with their answer
pub then_told : {E : Type 0} {result : Result (Unit {0}) E} {slot : ℕ} {read step done whole whole_done : Image → Image → Type 0} {first second : Cost} {a b c : BayState} → IsSound b
    → Calls (IsSlot slot) whole first a b → Ends read a b → Call result slot step (ChangesEachImage done) second b c
    → ((held : Image) → b.holds ≡ Some held → Joins read step whole) → ((held : Image) → b.holds ≡ Some held → Joins read done whole_done)
    → Call result slot whole (ChangesEachImage whole_done) (both_costs first second) a c
then_told {result = Ok v} sound calls ends call goes gives = record { calls = joined_told sound calls ends call.calls goes; done = done_told sound ends call.done gives; cause = tt }
then_told {result = Err e} {slot = slot} sound calls ends call goes gives = record {
  calls = joined_told sound calls ends call.calls goes;
  done = tt;
  cause = omega (arith, calls.runs.faults slot, call.cause);
}

-- ---- writes

-- a write of the bay
pub write_call : {E : Type 0} (result : Result (Unit {0}) E) (slot at : ℕ) (bytes : List ℕ) {a b : BayState} → KeepsAttached a b → b.calls ≤ a.calls + 1 → b.written slot ≤ a.written slot + length bytes
    → Runs (IsSlot slot) (ChangesOnly (Range slot at (length bytes))) a b → OnOk result (Holds (Puts slot at bytes) a b) → OnErr result (Rose (a.faults slot) (b.faults slot))
    → Call result slot (ChangesOnly (Range slot at (length bytes))) (Held (Puts slot at bytes)) (cost 1 (length bytes)) a b
write_call result slot at bytes attached calls written runs held cause = call_of_parts 1 (length bytes) attached calls written runs held cause

-- ---- calls that end with a sync

-- a sync behind calls that changed one region
pub settled : {E F : Type 0} {value : Unit {0}} {result : Result (Unit {0}) E} {slot : ℕ} {region : ℕ → ℕ → Type 0} {change : Image → Image → Type 0} {most : Cost} {a b c : BayState}
    → IsSound c → ((x y h held : Image) → ChangesOnly region x y → change h held → ((k : ℕ) → y.byte slot k ≡ held.byte slot k) → change x y)
    → Call {E = F} (Ok value) slot (ChangesOnly region) (Held change) most a b → Call result slot Same (Settles slot) (cost 1 0) b c
    → Call result slot (ChangesOnly region) (DoneSynced slot change) (both_costs most (cost 1 0)) a c
settled {slot = slot} {region = region} {change = change} sound gives call sync =
    on_region {last = Settles slot} {does = DoneSynced slot change} call.calls
    (λ value durable. record { ends = synced sound (λ x y z step same. changes-trans region x y z step (changes-same region y z same)) gives call.calls.runs call.done sync.calls.runs durable; durable = durable })
    (record { calls = wider (changes-same region) sync.calls; done = sync.done; cause = sync.cause })

-- a call that ended well, and one that ends with a sync
pub then_synced : {S E F : Type 0} {value : S} {result : Result (Unit {0}) E} {slot : ℕ} {done : S → Image → Image → Type 0} {may next_may next_done whole_may whole_done : Image → Image → Type 0}
    {first second : Cost} {a b c : BayState}
    → Follows may (done value) next_may next_done whole_may whole_done → Call {E = F} (Ok value) slot may (λ v. Ends (done v)) first a b
    → Call result slot next_may (DoneSynced slot next_done) second b c → Call result slot whole_may (DoneSynced slot whole_done) (both_costs first second) a c
then_synced {result = Ok v} follows call more = record {
  calls = joined follows.goes (wider follows.starts call.calls) call.done more.calls;
  done = record { ends = both_done follows.ends call.done more.done.ends; durable = more.done.durable };
  cause = tt;
}
then_synced {result = Err e} {slot = slot} follows call more = record {
  calls = joined follows.goes (wider follows.starts call.calls) call.done more.calls;
  done = tt;
  cause = omega (arith, call.calls.runs.faults slot, more.cause);
}

-- a call that ended well, its value left out
pub went_held : {T E : Type 0} {value : T} {slot : ℕ} {step change : Image → Image → Type 0} {most : Cost} {a b : BayState}
    → Call {E = E} (Ok value) slot step (Held change) most a b → WentHeld slot step change most a b
went_held call = record { calls = call.calls; done = call.done; cause = tt }
