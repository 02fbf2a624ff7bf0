use Rattle.std.proofs.Common.{◌∙◌, sym}
use Rattle.asm_formats.specs.Status.{entry_of}
use Rattle.status_register.specs.Surveys.{is_holder_there}
use Rattle.store_tests.proofs.Trying.{no_holder, one_holder}
use Rattle.store_tests.proofs.registers.trials.is_entry_there.Goals as goal

pub returns-in-None : goal.returns-in-None
returns-in-None c =
    sym (no_holder (is_holder_there c.args.members.now) c.args.disk (entry_of c.args.entries.now c.args.disk) (sym c.birth_of.ensures ∙ c.in-None.is))

pub returns-in-Some : goal.returns-in-Some
returns-in-Some c =
    c.is_there.ensures
    ∙ sym (one_holder (is_holder_there c.args.members.now) c.args.disk (entry_of c.args.entries.now c.args.disk) c.in-Some.birth (sym c.birth_of.ensures ∙ c.in-Some.is))
