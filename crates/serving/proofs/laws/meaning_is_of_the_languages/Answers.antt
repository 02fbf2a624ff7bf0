use Rattle.disk_commands.proofs.session.Languages.{of_the_languages}
use Rattle.serving.proofs.laws.meaning_is_of_the_languages.Goals as goal

pub returns : goal.returns
returns c = of_the_languages
