use Rattle.std.proofs.Common.{arith}
use Rattle.attribute_values.proofs.SettingLaws.{advm_stays, allowed_with, asm_stays, rdbms_stays}
use Rattle.attribute_values.proofs.setting.with_repair.Goals as goal

pub returns-clause-allowed : goal.returns-clause-allowed
returns-clause-allowed c = allowed_with c.settings.view_is c.requires c.in-Some.repair c.in_ok-copy.field-0 c.in_ok-copy-2.field-0 c.in_ok-copy-3.field-0 (omega arith) (asm_stays c.settings.view_is c.requires c.in_ok-copy.field-0 c.in_ok-copy.ensures) (rdbms_stays c.settings.view_is c.requires c.in_ok-copy-2.field-0 c.in_ok-copy-2.ensures) (advm_stays c.settings.view_is c.requires c.in_ok-copy-3.field-0 c.in_ok-copy-3.ensures)
