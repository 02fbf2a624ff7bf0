-- A file without bytes that is being made.
use Rattle.std.proofs.Common.{◌≡◌, ℕ, List, Some, None, sym, ap, ◌∙◌, refl, arith}
use Rattle.std.proofs.lemmas.Bool.{ltb-true}
use Rattle.asm_group.specs.Names.{Path}
use Rattle.asm_group.specs.declared.PendingKind.TheVariants.{Create}
use Rattle.asm_group.specs.declared.Stripe.{Stripe}
use Rattle.asm_group.specs.declared.Stripe.TheVariants.{Fine}
use Rattle.asm_formats.specs.Items.{Key, Pending}
use Rattle.asm_base.specs.Records.{DirectoryRecord}
use Rattle.asm_placement.specs.Layout.{first_of_set, start}
use Rattle.file_directory.specs.Files.{head_at}
use Rattle.catalog.specs.NamePlans.{IsFileBeingMade, IsNamePlan, is_within_file, made_file, tables_with_name, new_head}
use Rattle.catalog_tables.specs.Rules.{first_wrong}
use Rattle.catalog_tables.specs.Tables.{Catalogued}
use Rattle.table_tests.specs.Planned.{IsPlanned}

pub created : (c : Catalogued) (op : Pending) → Some op ≡ c.tables.operations.pending → op.kind ≡ Create → head_at c.tables.files op.file ≡ None → first_wrong (is_within_file op.file 2) c.tables.extents ≡ None → IsFileBeingMade c 0 2 Fine
created c op pending kind new within = record {
  file = op.file;
  kept = op.kept;
  pending = sym pending ∙ ap (λ (o : Pending). Some o) is;
  new = new;
  redundancy = refl;
  extents = λ i due. absurd (let less = ltb-true (start c.shape.au c.shape.step (first_of_set Fine i)) 0 due in omega arith);
  within = within;
} where
  is : op ≡ record { kind = Create; file = op.file; kept = op.kept }
  is = λ i. record { kind = kind i; file = op.file; kept = op.kept }

pub planned : (c : Catalogued) (path : Path) (size copies : ℕ) (stripe : Stripe) (put : List DirectoryRecord) (gone : List Key) → IsNamePlan c path size copies stripe put gone → IsPlanned c put gone
planned c path size copies stripe put gone plan = record { tables = tables_with_name c.tables (made_file c.tables) (new_head c.tables plan.name size copies stripe plan.filing.number) plan.made; plan = plan.plan }
