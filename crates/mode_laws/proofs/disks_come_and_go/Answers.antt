use Rattle.mode_laws.proofs.Coming.{joining_changes, leaving_changes, online_changes, sync_changes}
use Rattle.mode_laws.proofs.disks_come_and_go.Goals as goal

pub returns : goal.returns
returns c = record { joining = joining_changes; leaving = leaving_changes; online = online_changes; sync = sync_changes }
