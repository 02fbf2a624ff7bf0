use Rattle.std.proofs.Common.{◌≡◌, cond, None, subst}
use Rattle.std.specs.BTreeMap.{is_at}
use Rattle.asm_formats.specs.Items.{Key}
use Rattle.asm_base.specs.Chunks.{Chunk, chunk_cmp}
use Rattle.staleness_directory.specs.Changing.{marks_value_at}
use Rattle.catalog_tables.proofs.SetLaws.{stale_set}
use Rattle.catalog_tables.specs.Changing.{tables_of}
use Rattle.catalog_tables.proofs.opening.OpenParts.remove_marks.Goals as goal

pub returns-clause-gone : goal.returns-clause-gone
returns-clause-gone c = stale_set (tables_of c.args.self.now) c.remove_record.new.self c.args.key None c.requires.kind (subst (λ (k : Key). (x : Chunk) → marks_value_at c.remove_record.new.self x ≡ cond (is_at (chunk_cmp (k.a, k.b)) x) None (marks_value_at c.args.self.now.stale x)) c.key.view_is c.remove_record.ensures)
