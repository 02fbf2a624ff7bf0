-- A record with the same disks and fewer directory copies may come next.
use Rattle.std.proofs.Common.{ℕ, refl, sym, subst, IsTrue}
use Rattle.asm_formats.specs.Status.{Status, is_status}
use Rattle.record_laws.specs.group_engine.Mounts.{IsWhole, MountedGroup}
use Rattle.record_laws.specs.group_engine.Statuses.{IsNextOf}
use Rattle.record_laws.proofs.group_engine.NextRecords.{same_disks_are_next}
use Rattle.record_laws.proofs.status_register.Reaching.{same_sets_reach}
use Rattle.disk_modes.specs.Records.{HasFewer, IsChanged}

-- the record may come without some copies too
fewer_is_next : (m : MountedGroup) (r : Status) (fewer : ℕ) → IsNextOf m r → HasFewer r (record r { directories = fewer }) → IsTrue (is_status (record r { directories = fewer }))
    → IsNextOf m (record r { directories = fewer })
fewer_is_next m r fewer n less allowed = record {
  status = allowed;
  group = n.group;
  alive = n.alive;
  follows = n.follows;
  reached = same_sets_reach m.register.members r (record r { directories = fewer }) refl n.reached;
  births = n.births;
  copies = record {
    each = λ c among named. let is = n.copies.each c among (less.fewer c.number named) in record {
      named = named;
      member = is.member;
      attached = is.attached;
      slot = is.slot;
      entry = is.entry;
      pages = is.pages;
      sector = is.sector;
    };
    all = λ d named. n.copies.all d (less.fewer d named);
  };
  units = n.units;
}

pub changed_is_next : (m : MountedGroup) (next : Status) → IsWhole m → IsTrue (is_status next) → IsChanged m.register.value next → IsNextOf m next
changed_is_next m next whole allowed is =
    let same = is.fewer.same in
    subst (λ (s : Status). IsNextOf m s) (sym same)
    (fewer_is_next m is.named next.directories (same_disks_are_next m is.named whole is.allowed is.disks)
    (subst (λ (s : Status). HasFewer is.named s) same is.fewer) (subst (λ (s : Status). IsTrue (is_status s)) same allowed))
