use Rattle.std.proofs.Common.{◌≡◌, ◌<◌, ℕ, Some, refl, ap, subst}
use Rattle.group_engine.specs.Mounts.{MountedGroup, slot_at}
use Rattle.group_engine.specs.declared.access.Access.TheVariants as access
use Rattle.group_engine.proofs.mounted.Mounted.dismount.Goals as goal

pub returns : goal.returns
returns c = record {
  number = c.disk_in-disk.result;
  small = c.disk_in-disk.ensures.small;
  found = subst (λ (v : MountedGroup). (k : ℕ) → k < 64 → slot_at v.disks k ≡ Some c.args.slot → slot_at v.disks c.disk_in-disk.result ≡ Some c.args.slot) c.self.view_is c.disk_in-disk.ensures.found;
  refusal_is = refl;
  new_is = ap (λ (v : MountedGroup). record v { access = access.Dismounted c.disk_in-disk.result }) c.self.view_is;
}
