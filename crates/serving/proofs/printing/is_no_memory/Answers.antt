use Rattle.std.proofs.Common.{[], ap}
use Rattle.disk_commands.specs.session.Views.{reply_view}
use Rattle.serving.proofs.Ending.{by_refusal}
use Rattle.serving.proofs.printing.is_no_memory.Goals as goal

pub returns-in-Refused : goal.returns-in-Refused
returns-in-Refused c = by_refusal c.args.reply.now [] c.in-Refused.refusal c.is_want_of_memory.result (ap reply_view c.in-Refused.is) c.is_want_of_memory.ensures

pub returns-in-RefusedAfter : goal.returns-in-RefusedAfter
returns-in-RefusedAfter c = by_refusal c.args.reply.now c.in-RefusedAfter.field-0 c.in-RefusedAfter.refusal c.is_want_of_memory-in-RefusedAfter.result (ap reply_view c.in-RefusedAfter.is) c.is_want_of_memory-in-RefusedAfter.ensures
