-- What is known of a bay of files: its slots and its counts, and nothing of what the images hold.
use Rattle.std.specs.Prelude.{ℕ, None}
use Rattle.bay.specs.State.{BayState}
use Rattle.bay_file.specs.Slots.{SlotMap, attached_in, faults_in, written_in}
use Rattle.bay_file.specs.declared.file_bay.FileBay.{FileBay}

abbrev pub state_with : SlotMap → ℕ → BayState
state_with slots calls = record {
  attached = attached_in slots;
  holds = None;
  calls = calls;
  leaves = λ m image. ⊥;
  faults = faults_in slots;
  written = written_in slots;
}

abbrev pub file_bay_state : FileBay → BayState
file_bay_state bay = state_with bay.slots bay.calls
