-- What is known of disks, but for what they hold.
use Rattle.std.specs.Prelude.{◌≡◌, ℕ, None}
use Rattle.bay.specs.State.{BayState}

-- a state that tells nothing of images
abbrev pub untold_state : BayState → BayState
untold_state state = record {
  attached = state.attached;
  holds = None;
  calls = state.calls;
  leaves = λ m image. ⊥;
  faults = state.faults;
  written = state.written;
}

-- nothing is attached or detached, and no count rises
pub record Stays (old new : BayState) : Type 0 where
  pub calls : new.calls ≡ old.calls
  pub attached : (s : ℕ) → new.attached s ≡ old.attached s
  pub faults : (s : ℕ) → new.faults s ≡ old.faults s
  pub written : (s : ℕ) → new.written s ≡ old.written s
