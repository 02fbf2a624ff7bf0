-- Which status records a mounted group may get by the same disks.
use Rattle.std.specs.Prelude.{◌≡◌, map, IsTrue}
use Rattle.asm_formats.specs.Status.{Status, is_status}
use Rattle.asm_images.specs.RecordLaws.{bare}
use Rattle.group_engine.specs.Mounts.{IsWhole, MountedGroup}
use Rattle.group_engine.specs.Statuses.{IsNextOf}

-- s has the id, the sets, the directory copies and the disks of r; modes, times and partners may differ.
pub record KeepsDisks (r s : Status) : Type 0 where
  pub id : s.id ≡ r.id
  pub gone : s.gone ≡ r.gone
  pub holders : s.holders ≡ r.holders
  pub next_holders : s.next_holders ≡ r.next_holders
  pub directories : s.directories ≡ r.directories
  pub entries : map bare s.entries ≡ map bare r.entries

-- Such a record a mounted group may get.
abbrev pub SameDisksAreNext : Type 0
SameDisksAreNext = (m : MountedGroup) (next : Status) → IsWhole m → IsTrue (is_status next) → KeepsDisks m.register.value next → IsNextOf m next
