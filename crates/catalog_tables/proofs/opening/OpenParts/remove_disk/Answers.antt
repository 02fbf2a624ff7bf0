use Rattle.std.proofs.Common.{◌≡◌, ℕ, cond, None, subst}
use Rattle.std.specs.Ordering.{nat_cmp}
use Rattle.std.specs.BTreeMap.{is_at}
use Rattle.asm_formats.specs.Items.{Key}
use Rattle.disk_directory.specs.Disks.{disk_value_at}
use Rattle.catalog_tables.proofs.SetLaws.{disks_set, place_of_disk}
use Rattle.catalog_tables.specs.Changing.{tables_of}
use Rattle.catalog_tables.proofs.opening.OpenParts.remove_disk.Goals as goal

pub returns-clause-gone : goal.returns-clause-gone
returns-clause-gone c = disks_set (tables_of c.args.self.now) c.remove_record.new.self c.args.key None c.requires.kind (place_of_disk c.args.key c.requires.kind c.requires.place) (subst (λ (k : Key). (d : ℕ) → disk_value_at c.remove_record.new.self d ≡ cond (is_at (nat_cmp k.a) d) None (disk_value_at c.args.self.now.disks d)) c.key.view_is c.remove_record.ensures)
