-- What a statement waits for.
use Rattle.std.specs.Prelude.{ℕ, Bool, ◌&&◌, nat_lt, Option, Some, None, unwrap_or, if◌then◌else◌}
use Rattle.asm_world.specs.Statement as s

pub data Wait : Type 0 where
  Nothing : Wait
  Rebalance : Wait
  Resync : (disks : s.NamedDisks) → Wait

abbrev pub power_of : s.Rebalance → ℕ
power_of rebalance = unwrap_or rebalance.power 1

-- WAIT with power 0 is as NOWAIT
abbrev pub rebalance_wait : Option s.Rebalance → Wait
rebalance_wait None = Nothing
rebalance_wait (Some rebalance) = if rebalance.wait && nat_lt 0 (power_of rebalance) then Rebalance else Nothing

abbrev pub resync_wait : s.NamedDisks → Bool → Wait
resync_wait disks wait = if wait then Resync disks else Nothing

abbrev pub wait_of : s.Clause → Wait
wait_of (s.AddDisks groups rebalance) = rebalance_wait rebalance
wait_of (s.DropDisks disks rebalance) = rebalance_wait rebalance
wait_of (s.DropFailgroup kind name force rebalance) = rebalance_wait rebalance
wait_of (s.ResizeAll size rebalance) = rebalance_wait rebalance
wait_of (s.ResizeDisk name size rebalance) = rebalance_wait rebalance
wait_of (s.Rebalancing rebalance) = rebalance_wait (Some rebalance)
wait_of (s.Online disks wait) = resync_wait disks wait
wait_of other = Nothing
