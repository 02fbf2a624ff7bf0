-- Memory was wanted behind the first write: the group takes no more calls.
use Rattle.std.proofs.Common.{List, ℕ, Result, Ok, Err}
use Rattle.bay.specs.State.{BayState}
use Rattle.refusal_lines.specs.declared.refusal.Refusal.{Refusal}
use Rattle.refusal_lines.specs.declared.refusal.Refusal.TheVariants as refusal
use Rattle.file_extents.specs.Closing.{or_shut, shut_group}
use Rattle.file_extents.specs.group_engine.Mounts.{MountedGroup}
use Rattle.file_extents.proofs.group_engine.Endings.{closed_takes_none}
use Rattle.disk_joining.specs.Taking.{TakesIn}

pub shut_taken : (held : List ℕ) {a b : MountedGroup} {s t : BayState} → TakesIn held a b s t → TakesIn held a (shut_group b) s t
shut_taken held {a} {b} {s} {t} taken = record {
  name = taken.name;
  id = taken.id;
  shape = taken.shape;
  own = λ slot own. taken.own slot (own.0, own.1, own.2, own.3);
  attached = taken.attached;
  spares = taken.spares;
  whole = λ mounted. absurd (closed_takes_none b mounted);
  ready = λ mounted. absurd (closed_takes_none b mounted);
}

pub or_shut_taken : (held : List ℕ) (r : Result (Unit {0}) Refusal) {a b : MountedGroup} {s t : BayState} → TakesIn held a b s t → TakesIn held a (or_shut r b) s t
or_shut_taken held (Ok done) taken = taken
or_shut_taken held (Err refusal.NoMemory) taken = shut_taken held taken
or_shut_taken held (Err other) taken = taken
