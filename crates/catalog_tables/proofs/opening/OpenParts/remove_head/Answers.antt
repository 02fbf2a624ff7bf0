use Rattle.std.proofs.Common.{◌≡◌, ℕ, cond, None, subst}
use Rattle.std.specs.Ordering.{nat_cmp}
use Rattle.std.specs.BTreeMap.{is_at}
use Rattle.asm_formats.specs.Items.{Key}
use Rattle.file_directory.specs.Changing.{file_value_at}
use Rattle.catalog_tables.proofs.SetLaws.{files_set}
use Rattle.catalog_tables.specs.Changing.{tables_of}
use Rattle.catalog_tables.proofs.opening.OpenParts.remove_head.Goals as goal

pub returns-clause-gone : goal.returns-clause-gone
returns-clause-gone c = files_set (tables_of c.args.self.now) c.remove_record.new.self c.args.key None c.requires.kind c.requires.head (subst (λ (k : Key). (f : ℕ) → file_value_at c.remove_record.new.self f ≡ cond (is_at (nat_cmp k.a) f) None (file_value_at c.args.self.now.files f)) c.key.view_is c.remove_record.ensures)
