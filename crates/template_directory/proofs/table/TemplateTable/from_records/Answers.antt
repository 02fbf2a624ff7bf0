use Rattle.std.proofs.Common.{◌≡◌, Option, Some}
use Rattle.std.specs.Prelude.{IfSome}
use Rattle.std.proofs.lemmas.Result.{IfOk-weaker}
use Rattle.asm_base.specs.Records.{of_kinds}
use Rattle.template_directory.specs.Tables.{Table, IsTemplateTable, is_key_of_templates, records_of_templates, table_of}
use Rattle.template_directory.proofs.ReadingLaws.{table_found, table_again}
use Rattle.template_directory.proofs.table.TemplateTable.from_records.Goals as goal

pub returns-clause-found : goal.returns-clause-found
returns-clause-found c =
    IfOk-weaker c.read.result (λ (read : Option Table). read ≡ table_of (of_kinds is_key_of_templates c.args.records.now)) (λ (read : Option Table). IfSome read (λ t. IsTemplateTable t × (of_kinds is_key_of_templates c.args.records.now ≡ records_of_templates t))) (λ read e. table_found (of_kinds is_key_of_templates c.args.records.now) read e) c.read.ensures

pub returns-clause-only : goal.returns-clause-only
returns-clause-only c =
    IfOk-weaker c.read.result (λ (read : Option Table). read ≡ table_of (of_kinds is_key_of_templates c.args.records.now)) (λ (read : Option Table). (t : Table) → IsTemplateTable t → of_kinds is_key_of_templates c.args.records.now ≡ records_of_templates t → read ≡ Some t) (λ read e t is same. table_again (of_kinds is_key_of_templates c.args.records.now) read t e is same) c.read.ensures
