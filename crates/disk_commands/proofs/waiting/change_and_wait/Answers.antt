use Rattle.session.proofs.Calls.{carries_more}
use Rattle.disk_commands.proofs.waiting.change_and_wait.Goals as goal

pub reply_after-requires : goal.reply_after-requires
reply_after-requires g c = record { ready = c.work.ensures.carries.ready }

pub returns-in-Ok : goal.returns-in-Ok
returns-in-Ok g c = record { carries = carries_more c.args.session.now c.work.new.self c.reply_after.new.session _ _ _ c.work.ensures.carries c.reply_after.ensures.carries; waited = c.reply_after.ensures.waited }
