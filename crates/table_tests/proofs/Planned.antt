-- Plans whose tables are known.
use Rattle.std.proofs.Common.{List}
use Rattle.asm_group.specs.TemplateEdits.{TemplateEdit}
use Rattle.asm_group.specs.TreeEdits as trees
use Rattle.asm_formats.specs.Items.{Key}
use Rattle.asm_base.specs.Records.{DirectoryRecord}
use Rattle.catalog.specs.Plans.{AreOwned, IsPlan, IsTemplatePlan}
use Rattle.catalog.specs.TreePlans.{IsTreePlan}
use Rattle.catalog_tables.specs.Tables.{Catalogued, Tables}
use Rattle.table_tests.specs.Planned.{IsPlanned}

pub planned : (c : Catalogued) (put : List DirectoryRecord) (gone : List Key) (u : Tables) → IsPlan c put gone u → IsPlanned c put gone
planned c put gone u plan = record { tables = u; plan = plan }

pub template_planned : (c : Catalogued) (edit : TemplateEdit) (put : List DirectoryRecord) (gone : List Key) → IsTemplatePlan c edit put gone → IsPlanned c put gone
template_planned c edit put gone plan = record { tables = _; plan = plan.plan }

pub tree_planned : (c : Catalogued) (edit : trees.TreeEdit) (put : List DirectoryRecord) (gone : List Key) → IsTreePlan c edit put gone → IsPlanned c put gone
tree_planned c edit put gone plan = record { tables = _; plan = plan.plan }

-- a plan of an operation, where each chunk is one of a file or of it
pub owned : (c : Catalogued) (put : List DirectoryRecord) (gone : List Key) (u : Tables) → AreOwned u → (AreOwned u → IsPlan c put gone u) → IsPlanned c put gone
owned c put gone u are plan = record { tables = u; plan = plan are }
