-- A call in other words, and calls one after the other.
use Rattle.std.proofs.Common.{◌≡◌, ◌≢◌, ⊎_elim, ℕ, ◌+◌, ◌≤◌, ◌∙◌, arith, refl, sym, subst}
use Rattle.std.proofs.lemmas.Bool.{cases_eq}
use Rattle.std.specs.Prelude.{Some, Result, Ok, Err, IfOk, OnErr}
use Rattle.std.specs.Option.{ForSome}
use Rattle.bay.specs.declared.fault.BayError.{BayError}
use Rattle.bay.specs.Image.{Image, ChangesOnly}
use Rattle.bay.specs.State.{BayState, IsSlot, KeepsAttached}
use Rattle.bay.specs.Counts.{Rose}
use Rattle.bay.specs.Moments.{Runs, Ends, Joins, Within}
use Rattle.bay.specs.Calls.{AttachCall, Attaches, Cost, CostsAtMost, both_costs, cost, Calls, Call, DeviceCall, sends, sends_none, Settles, ChangesEachImage, Went}
use Rattle.bay.proofs.Calls.{widened, goes_on, both_done, done_less, attached-trans, on_more, started, stops}
use Rattle.bay.proofs.Images.{changes-trans}

module _ {slots : ℕ → Type 0} where
  -- calls of a larger step
  pub wider : {step whole : Image → Image → Type 0} {most : Cost} {a b : BayState} → Within step whole → Calls slots step most a b → Calls slots whole most a b
  wider {step} {whole} {most} {a} {b} within call = record { attached = call.attached; runs = widened within call.runs; calls = call.calls; written = call.written }

  -- calls of a greater cost
  pub cheaper : {step : Image → Image → Type 0} {cost most : Cost} {a b : BayState} → CostsAtMost cost most → Calls slots step cost a b → Calls slots step most a b
  cheaper {step} {cost} {most} {a} {b} fits call = record {
    attached = call.attached;
    runs = call.runs;
    calls = omega (arith, call.calls, fits.calls);
    written = λ s. omega (arith, call.written s, fits.bytes s);
  }

  -- calls that ended well, and the next
  pub joined : {done step whole : Image → Image → Type 0} {first second : Cost} {a b c : BayState} → Joins done step whole
      → Calls slots whole first a b → Ends done a b → Calls slots step second b c → Calls slots whole (both_costs first second) a c
  joined {done} {step} {whole} {first} {second} {a} {b} {c} joins call ends more = record {
    attached = attached-trans call.attached more.attached;
    runs = goes_on joins call.runs ends more.runs;
    calls = omega (arith, call.calls, more.calls);
    written = λ s. omega (arith, call.written s, more.written s);
  }

-- calls on more slots
pub more_slots : {slots more : ℕ → Type 0} {step : Image → Image → Type 0} {most : Cost} {a b : BayState} → ((s : ℕ) → slots s → more s) → Calls slots step most a b → Calls more step most a b
more_slots {slots} {more} {step} {most} {a} {b} within call = record { attached = call.attached; runs = on_more within call.runs; calls = call.calls; written = call.written }

-- no calls
pub no_call : {slots : ℕ → Type 0} {step : Image → Image → Type 0} {most : Cost} {a : BayState} → ((x : Image) → step x x) → Calls slots step most a a
no_call keeps = record { attached = record { same = λ s. refl }; runs = started keeps; calls = omega arith; written = λ s. omega arith }

-- ---- from clauses that say the parts one by one

module _ {slot : ℕ} {step : Image → Image → Type 0} {a b : BayState} where
  -- calls on one slot
  pub of_parts : (n m : ℕ) → KeepsAttached a b → b.calls ≤ a.calls + n → b.written slot ≤ a.written slot + m → Runs (IsSlot slot) step a b → Calls (IsSlot slot) step (cost n m) a b
  of_parts n m attached calls written runs = record {
    attached = attached;
    runs = runs;
    calls = calls;
    written = λ s. ⊎_elim (λ (here : s ≡ slot). subst (λ (k : ℕ). b.written k ≤ a.written k + m) (sym here) written)
        (λ (apart : s ≢ slot). omega (arith, runs.other_written s apart)) (cases_eq s slot);
  }

  -- with their answer
  pub call_of_parts : {T E : Type 0} {result : Result T E} {does : T → BayState → BayState → Type 0} (n m : ℕ)
      → KeepsAttached a b → b.calls ≤ a.calls + n → b.written slot ≤ a.written slot + m → Runs (IsSlot slot) step a b
      → IfOk result (λ value. does value a b) → OnErr result (Rose (a.faults slot) (b.faults slot)) → Call result slot step does (cost n m) a b
  call_of_parts n m attached calls written runs done cause = record { calls = of_parts n m attached calls written runs; done = done; cause = cause }

  -- a call of the device is a call
  pub of_device : {T E : Type 0} {result : Result T E} {does : T → BayState → BayState → Type 0} {sent : ℕ → ℕ} (bytes : ℕ)
      → ((n : ℕ) → sent n ≤ n + bytes) → DeviceCall result slot step does sent a b → Call result slot step does (cost 1 bytes) a b
  of_device bytes few call = call_of_parts 1 bytes call.attached (omega (arith, call.count)) (omega (arith, call.written, few (a.written slot))) call.runs call.done call.cause

  -- one that reads or syncs
  pub of_reading : {T E : Type 0} {result : Result T E} {does : T → BayState → BayState → Type 0} → DeviceCall result slot step does sends_none a b → Call result slot step does (cost 1 0) a b
  of_reading call = of_device 0 (λ n. omega arith) call

  -- one that writes
  pub of_writing : {T E : Type 0} {result : Result T E} {does : T → BayState → BayState → Type 0} {bytes : ℕ} → DeviceCall result slot step does (sends bytes) a b → Call result slot step does (cost 1 bytes) a b
  of_writing {bytes = bytes} call = of_device bytes (λ n. omega arith) call

  -- a sync that leaves what it settles to others
  pub of_settling : {T E : Type 0} {result : Result T E} → DeviceCall result slot step (Settles slot) sends_none a b → Call result slot step (ChangesEachImage step) (cost 1 0) a b
  of_settling {result = Ok value} call = record { calls = (of_reading call).calls; done = stops call.runs; cause = tt }
  of_settling {result = Err e} call = record { calls = (of_reading call).calls; done = tt; cause = call.cause }

-- ---- a call with its answer

-- a change and then another are a third, while they run and when they are done
pub record Follows (may done next_may next_done whole_may whole_done : Image → Image → Type 0) : Type 0 where
  pub starts : Within may whole_may
  pub goes : Joins done next_may whole_may
  pub ends : Joins done next_done whole_done

module _ {E : Type 0} {slot : ℕ} where
  -- a call in other words
  pub reworded : {T : Type 0} {result : Result T E} {step whole done less : Image → Image → Type 0} {cost most : Cost} {a b : BayState} → Within step whole → Within done less → CostsAtMost cost most
      → Call result slot step (ChangesEachImage done) cost a b → Call result slot whole (ChangesEachImage less) most a b
  reworded {result = Ok value} within weaker fits call = record { calls = cheaper fits (wider within call.calls); done = done_less weaker call.done; cause = tt }
  reworded {result = Err e} within weaker fits call = record { calls = cheaper fits (wider within call.calls); done = tt; cause = call.cause }

  -- a call of a greater cost
  pub afforded : {T : Type 0} {result : Result T E} {step : Image → Image → Type 0} {does : T → BayState → BayState → Type 0} {cost most : Cost} {a b : BayState} → CostsAtMost cost most
      → Call result slot step does cost a b → Call result slot step does most a b
  afforded fits call = record { calls = cheaper fits call.calls; done = call.done; cause = call.cause }

  -- a call that ended well, and the next, whose answer is that of both
  pub then : {S T F : Type 0} {value : S} {result : Result T E} {done : S → Image → Image → Type 0} {may next_may next_done whole_may whole_done : Image → Image → Type 0} {first second : Cost} {a b c : BayState}
      → Follows may (done value) next_may next_done whole_may whole_done → Call {E = F} (Ok value) slot may (λ v. Ends (done v)) first a b → Call result slot next_may (ChangesEachImage next_done) second b c
      → Call result slot whole_may (ChangesEachImage whole_done) (both_costs first second) a c
  then {result = Ok v} {a = a} follows call more = record { calls = joined follows.goes (wider follows.starts call.calls) call.done more.calls; done = both_done follows.ends call.done more.done; cause = tt }
  then {result = Err e} follows call more = record {
    calls = joined follows.goes (wider follows.starts call.calls) call.done more.calls;
    done = tt;
    cause = omega (arith, call.calls.runs.faults slot, more.cause);
  }

-- two calls that change one region
pub on_region : {T E : Type 0} {slot : ℕ} {result : Result T E} {region : ℕ → ℕ → Type 0} {last does : T → BayState → BayState → Type 0} {first second : Cost} {a b c : BayState}
    → Calls (IsSlot slot) (ChangesOnly region) first a b → ((value : T) → last value b c → does value a c) → Call result slot (ChangesOnly region) last second b c
    → Call result slot (ChangesOnly region) does (both_costs first second) a c
on_region {result = Ok value} {region} before gives call = record { calls = joined (changes-trans region) before (stops before.runs) call.calls; done = gives value call.done; cause = tt }
on_region {slot = slot} {result = Err e} {region} before gives call = record {
  calls = joined (changes-trans region) before (stops before.runs) call.calls;
  done = tt;
  cause = omega (arith, before.runs.faults slot, call.cause);
}

-- a call that ended well, its value left out
pub went : {T E : Type 0} {value : T} {slot : ℕ} {step : Image → Image → Type 0} {done : T → Image → Image → Type 0} {most : Cost} {a b : BayState}
    → Call {E = E} (Ok value) slot step (λ v. Ends (done v)) most a b → Went slot step (done value) most a b
went call = record { calls = call.calls; done = call.done; cause = tt }

-- no calls yet
pub not_yet : {slot : ℕ} {step done : Image → Image → Type 0} {most : Cost} {a : BayState} → ((x : Image) → step x x) → ((x : Image) → done x x) → Went slot step done most a a
not_yet {a = a} keeps does = record {
  calls = no_call keeps;
  done = record { held = λ image holds. (image, holds, does image); now = λ image left. (image, left, does image) };
  cause = tt;
}

-- ---- a call that attaches a disk

-- an attached disk keeps its size, whatever is answered
pub keeps_size : {result : Result ℕ BayError} {slot : ℕ} {step : Image → Image → Type 0} {a b : BayState}
    → AttachCall result slot step (Attaches slot) (a.attached slot) a b → ForSome (a.attached slot) (λ size. b.attached slot ≡ Some size)
keeps_size {result = Ok size} call = call.done.has
keeps_size {result = Err e} call = λ had is. call.refused ∙ is
