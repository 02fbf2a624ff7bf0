-- The record of a disk names it and its failure group.
use Rattle.std.proofs.Common.{◌≡◌, ℕ, true, sym, subst}
use Rattle.asm_formats.specs.Items.{DiskInfo, disk_item, is_item}
use Rattle.asm_formats.specs.asm_group.Names.{Bytes, is_name}
use Rattle.record_values.proofs.Disks.{disk_fits}

pub disk_name : (d birth : ℕ) (info : DiskInfo) (name failgroup : Bytes) → record { birth = birth; name = name; failgroup = failgroup } ≡ info → is_item (disk_item d info) ≡ true → is_name name ≡ true
disk_name d birth info name failgroup is ok = subst (λ (i : DiskInfo). is_name i.name ≡ true) (sym is) (disk_fits d info ok).1.name

pub disk_failgroup : (d birth : ℕ) (info : DiskInfo) (name failgroup : Bytes) → record { birth = birth; name = name; failgroup = failgroup } ≡ info → is_item (disk_item d info) ≡ true → is_name failgroup ≡ true
disk_failgroup d birth info name failgroup is ok = subst (λ (i : DiskInfo). is_name i.failgroup ≡ true) (sym is) (disk_fits d info ok).1.failgroup
