-- A catalog from records.
use Rattle.std.proofs.Common.{◌≡◌, ◌+◌, ◌≤◌, List, None}
use Rattle.asm_group.specs.Shape.{Shape}
use Rattle.asm_formats.specs.Items.{Key}
use Rattle.asm_formats.specs.Status as status
use Rattle.asm_base.specs.Records.{DirectoryRecord}
use Rattle.plan_records.specs.catalog_tables.declared.error.CatalogError.{CatalogError}
use Rattle.plan_records.specs.catalog_tables.declared.error.CatalogError.TheVariants as answer
use Rattle.plan_records.specs.catalog_tables.Tables.{AreTables, Catalogued, HasRecords, Tables}
use Rattle.plan_records.specs.catalog_tables.Rules.{AreOnRegular, KeepsRules, blocks_used, first_unknown}
use Rattle.plan_records.specs.catalog_tables.Placing.{HasUnits}
use Rattle.plan_records.specs.catalog_tables.Faults.{BreaksRule, IsAtFault, IsCatalog, IsCatalogOf, NamesFault}
use Rattle.plan_records.specs.catalog_tables.Faults as fault

pub broken_at : (content : List DirectoryRecord) (s : Shape) (es : List status.Entry) (t : Tables) (k : Key) → AreTables t → HasRecords content t → BreaksRule s es t k → IsAtFault content s es k
broken_at content s es t k are has b = fault.broken t are has b

pub names_broken : (content : List DirectoryRecord) (s : Shape) (es : List status.Entry) (t : Tables) (e : CatalogError) → AreTables t → HasRecords content t → NamesFault (BreaksRule s es t) e → NamesFault (IsAtFault content s es) e
names_broken content s es t (answer.Damaged k) are has b = fault.broken t are has b
names_broken content s es t answer.NoMemory are has b = tt

pub catalog_is : (content : List DirectoryRecord) (es : List status.Entry) (c : Catalogued) → HasRecords content c.tables → KeepsRules c.shape c.tables → first_unknown c.tables es ≡ None → AreOnRegular es c.tables → HasUnits c.shape es c.tables c.units → IsCatalogOf content es c
catalog_is content es c has rules infos regular units = record { records = has; rules = rules; infos = infos; regular = regular; units = units }

pub invariant_is : (es : List status.Entry) (c : Catalogued) → KeepsRules c.shape c.tables → HasUnits c.shape es c.tables c.units → IsCatalog c
invariant_is es c rules units = record { rules = rules; entries = es; units = units }

pub names_at : (content : List DirectoryRecord) (s : Shape) (es : List status.Entry) (e : CatalogError) → ((s : Shape) (es : List status.Entry) → NamesFault (IsAtFault content s es) e) → NamesFault (IsAtFault content s es) e
names_at content s es e each = each s es

pub has_room : (c : Catalogued) → IsCatalog c → blocks_used c.tables + 2 ≤ c.shape.dir_blocks
has_room c is = is.rules.room
