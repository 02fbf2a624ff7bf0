use Rattle.std.proofs.Common.{◌∙◌, arith}
use Rattle.template_directory.proofs.ReadingLaws.{texts_are_all}
use Rattle.template_directory.proofs.settings.Settings.is_allowed.Goals as goal

pub returns : goal.returns
returns c = c.have_texts.ensures ∙ texts_are_all c.self.view_is (omega arith) (omega arith)
