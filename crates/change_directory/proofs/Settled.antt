-- Log slots that each image has as they are held: how it comes, over which calls it stays, and what a put of a log does then.
use Rattle.std.proofs.Common.{◌≡◌, inl, inr, ℕ, ◌+◌, ◌<◌, List, length, sym, subst, ◌∙◌, Some}
use Rattle.std.specs.Prelude.{Ok}
use Rattle.bay.specs.Image.{Image, Same, ChangesOnly}
use Rattle.bay.specs.State.{BayState, IsSound}
use Rattle.bay.specs.Moments.{Runs, Ends, Durable}
use Rattle.bay.specs.Calls.{Went, cost}
use Rattle.bay.proofs.Calls.{stops}
use Rattle.bay.proofs.OneCall.{Follows}
use Rattle.body_slot.specs.declared.place.Place.{Place}
use Rattle.body_slot.specs.Slot.{IsGateSettled, MayPut, HasPut}
use Rattle.asm_base.specs.declared.block.Block.{Block}
use Rattle.asm_group.specs.Names.{Bytes}
use Rattle.change_directory.specs.declared.copy.DirCopy.{DirCopy}
use Rattle.change_directory.specs.declared.copy.LogSlot.{LogSlot}
use Rattle.change_directory.specs.Places.{log_place}
use Rattle.change_directory.specs.Logs.{AreLogsSettled, SameLogSlots, spare_in, log_of, log_body}
use Rattle.change_directory.specs.Changes.{MayLog, HasLogged}
use Rattle.change_directory.specs.Works.{ReadCall, TellsNow}
use Rattle.change_directory.proofs.Spares.{same_logs, spare_logs}
use Rattle.change_directory.proofs.Runs.{same_put, same_has}

-- a sync settles them
pub durable_logs : (copy : DirCopy) (state : BayState) → Durable copy.slot state → AreLogsSettled copy state
durable_logs copy state durable = record { as_held = λ image held left holds. same_logs copy held image (λ k. durable.byte image held k left holds) }

-- they stay so over calls that leave them
pub logs_stay : (copy : DirCopy) {slots : ℕ → Type 0} {step : Image → Image → Type 0} {a b : BayState} → ((x y : Image) → step x y → SameLogSlots copy x y) → Runs slots step a b
    → AreLogsSettled copy a → AreLogsSettled copy b
logs_stay copy {slots} {step} {a} {b} keeps run settled = record {
  as_held = λ image held left holds.
      let from = (stops run).now image left in
      let before = run.held held holds in
      let now = keeps from.0 image from.2 in
      let then = keeps before.0 held before.2 in
      let was = settled.as_held from.0 before.0 from.1 before.1 in
      record {
        gates = λ log. now.gates log ∙ was.gates log ∙ sym (then.gates log);
        numbers = λ log. now.numbers log ∙ was.numbers log ∙ sym (then.numbers log);
      };
}

-- over calls that leave the bytes of the copy's disk
pub logs_off : (copy : DirCopy) {slots : ℕ → Type 0} {region : ℕ → ℕ → Type 0} {a b : BayState} → ((k : ℕ) → region copy.slot k → ⊥) → Runs slots (ChangesOnly region) a b
    → AreLogsSettled copy a → AreLogsSettled copy b
logs_off copy {slots} {region} {a} {b} apart run settled = logs_stay copy (λ x y step. same_logs copy x y (λ k. step.byte copy.slot k (apart k))) run settled

-- over reads
pub logs_read : (copy : DirCopy) {slots : ℕ → Type 0} {a b : BayState} → Runs slots Same a b → AreLogsSettled copy a → AreLogsSettled copy b
logs_read copy {slots} {a} {b} run settled = logs_stay copy (λ x y same. same_logs copy x y (λ k. same.byte copy.slot k)) run settled

-- then the gate of each is settled
pub gate_settled : (copy : DirCopy) (log : LogSlot) (blocks : ℕ) (state : BayState) → AreLogsSettled copy state → IsGateSettled (log_place copy log blocks) copy.slot state
gate_settled copy log blocks state settled = record { gate = λ image held left holds. (settled.as_held image held left holds).gates log }

-- the disks are the same, and this log slot is the spare one
pub record FoundSpare (copy : DirCopy) (log : LogSlot) (old new : Image) : Type 0 where
  pub is : log ≡ spare_in copy old
  pub same : Same old new

-- and which log slot is the spare one, as it is read, is so in each image
pub found_spare : (copy : DirCopy) (log : LogSlot) {slots : ℕ → Type 0} (a b : BayState) → IsSound b → AreLogsSettled copy a → Runs slots Same a b
    → ((image : Image) → b.holds ≡ Some image → log ≡ spare_in copy image) → Ends (FoundSpare copy log) a b
found_spare copy log {slots} a b sound settled read spare = record {
  held = λ image holds.
      let start = read.held image holds in
      (start.0, start.1, record { is = spare image holds ∙ still start.0 image start.2; same = start.2 });
  now = λ image left.
      let start = (stops read).now image left in
      let held = sound.told image left in
      let before = read.held held.0 held.1 in (
        start.0,
        start.1,
        record { is = spare held.0 held.1 ∙ still before.0 held.0 before.2 ∙ sym (spare_logs copy before.0 start.0 (settled.as_held start.0 before.0 start.1 before.1)); same = start.2 },
      );
}
  where
    still : (x y : Image) → Same x y → spare_in copy y ≡ spare_in copy x
    still x y same = spare_logs copy x y (same_logs copy x y (λ k. same.byte copy.slot k))

-- the same as a call
pub found_call : {E : Type 0} (copy : DirCopy) (log : LogSlot) {a b : BayState} → IsSound b → AreLogsSettled copy a
    → ReadCall {E = E} (Ok log) copy.slot (λ l. TellsNow (λ image. l ≡ spare_in copy image)) 4 a b → Went copy.slot Same (FoundSpare copy log) (cost 4 0) a b
found_call copy log {a} {b} sound settled read = record { calls = read.reads.calls; done = found_spare copy log a b sound settled read.reads.calls.runs read.done; cause = tt }

module _ (copy : DirCopy) (number : ℕ) (pages : List (ℕ × Block)) (some : 0 < copy.sector) (log : LogSlot) (place : Place) (body : Bytes) (at : place ≡ log_place copy log (length pages + 1))
    (has : body ≡ log_body (log_of number pages)) where
  pub logs_found : (x w y : Image) → FoundSpare copy log x w → MayPut place copy.slot body w y → MayLog copy number pages x y
  logs_found x w y found put =
      inr (subst (λ (l : LogSlot). MayPut (log_place copy l (length pages + 1)) copy.slot (log_body (log_of number pages)) x y) found.is
      (same_put copy number pages some log x w y found.same
      (subst (λ (p : Place). MayPut p copy.slot (log_body (log_of number pages)) w y) at (subst (λ (b : Bytes). MayPut place copy.slot b w y) has put))))

  pub logged_found : (x w y : Image) → FoundSpare copy log x w → HasPut place copy.slot body w y → HasLogged copy number pages x y
  logged_found x w y found put =
      subst (λ (l : LogSlot). HasPut (log_place copy l (length pages + 1)) copy.slot (log_body (log_of number pages)) x y) found.is
      (same_has copy number pages log x w y found.same
      (subst (λ (p : Place). HasPut p copy.slot (log_body (log_of number pages)) w y) at (subst (λ (b : Bytes). HasPut place copy.slot b w y) has put)))

  pub then_logs : Follows Same (FoundSpare copy log) (MayPut place copy.slot body) (HasPut place copy.slot body) (MayLog copy number pages) (HasLogged copy number pages)
  then_logs = record { starts = λ x y same. inl same; goes = logs_found; ends = logged_found }
