use Rattle.std.proofs.Common.{◌≤◌, ◌<◌, ℕ, take, All}
use Rattle.bay.specs.Counts.{last_count}
use Rattle.mounted_groups.proofs.choose.next_id.Given as goal

abbrev pub invariant-loop-id : goal.invariant-loop-id
invariant-loop-id l = record {
  floor : l.floor ≤ l.next;
  above : l.next < last_count → All (λ (other : ℕ). other < l.next) (take l.id-index l.ids);
}
