-- What plans of files lead to where no operation is pending, or one on a file.
use Rattle.std.proofs.Common.{◌≡◌, ◌<◌, ℕ, true, List, Some, subst}
use Rattle.std.specs.Prelude.{◌↔◌}
use Rattle.asm_group.specs.Names.{Bytes}
use Rattle.asm_group.specs.Shape.{Shape}
use Rattle.asm_formats.specs.Items.{FileHead, Key}
use Rattle.asm_base.specs.Records.{DirectoryRecord}
use Rattle.asm_placement.specs.Layout.{has_extent_by_size}
use Rattle.extent_map.specs.Extents.{extent_at}
use Rattle.file_directory.specs.Files.{head_at}
use Rattle.catalog.specs.FilePlans.{IsAttributePlan, IsRemovalPlan, IsSizePlan, MayGrow, is_on_file, with_size}
use Rattle.catalog.specs.FilePlans.{tables_with_size as sized_to, with_removal_pending as removed_from}
use Rattle.catalog_tables.specs.Rules.{HasExtents, has_copies}
use Rattle.catalog_tables.specs.Tables.{Catalogued, Tables}
use Rattle.table_tests.specs.Planned.{IsPlanned}

pub may_grow : (s : Shape) (t : Tables) (f size n : ℕ) (head : FileHead) → head_at t.files f ≡ Some head → ((i : ℕ) → (i < n) ↔ (has_extent_by_size head.stripe s.au s.step size i ≡ true))
    → ((i : ℕ) → i < n → has_copies head.copies (extent_at t.extents f i) ≡ true) → MayGrow s t f size
may_grow s t f size n head there due copied other is more =
    let same : head ≡ other = cc in
    subst (λ (h : FileHead). HasExtents t s (f, with_size h size)) same (λ i d. copied i ((due i).1 d))

pub set : (c : Catalogued) (name value : Bytes) (put : List DirectoryRecord) (gone : List Key) → IsAttributePlan c name value put gone → IsPlanned c put gone
set c name value put gone plan = record { tables = record c.tables { templates = record c.tables.templates { settings = plan.settings } }; plan = plan.plan }

pub sized : (c : Catalogued) (f size : ℕ) (put : List DirectoryRecord) (gone : List Key) → IsSizePlan c f size put gone → is_on_file c.tables.files c.tables.operations.pending ≡ true → IsPlanned c put gone
sized c f size put gone plan on = record { tables = sized_to c.tables f plan.head size plan.pending; plan = plan.plan (plan.owned on) }

pub removed : (c : Catalogued) (f : ℕ) (put : List DirectoryRecord) (gone : List Key) → IsRemovalPlan c f put gone → is_on_file c.tables.files c.tables.operations.pending ≡ true → IsPlanned c put gone
removed c f put gone plan on = record { tables = removed_from c.tables f plan.head; plan = plan.plan (plan.owned on) }
