use Rattle.std.proofs.Common.{[], ◌∙◌, ap}
use Rattle.asm_group.specs.Refusal as r
use Rattle.asm_world.specs.Text.{short_text}
use Rattle.disk_commands.specs.session.Views.{reply_view}
use Rattle.serving.proofs.manner.mark_of.Goals as goal

pub returns-in-Done : goal.returns-in-Done
returns-in-Done c = ap (λ reply. short_text (reply_view reply)) c.in-Done.is ∙ c.mark.ensures [] r.NoMemory

pub returns-in-Refused : goal.returns-in-Refused
returns-in-Refused c = ap (λ reply. short_text (reply_view reply)) c.in-Refused.is ∙ c.mark-in-Refused.ensures [] r.NoMemory

pub returns-in-RefusedAfter : goal.returns-in-RefusedAfter
returns-in-RefusedAfter c = ap (λ reply. short_text (reply_view reply)) c.in-RefusedAfter.is ∙ c.mark-in-RefusedAfter.ensures [] r.NoMemory
