use Rattle.session.proofs.Calls.{carries_more}
use Rattle.disk_commands.proofs.waiting.bring_back_and_wait.Goals as goal

pub reply_online-requires : goal.reply_online-requires
reply_online-requires g c = record { ready = c.join.ensures.carries.ready }

pub returns-in-Ok : goal.returns-in-Ok
returns-in-Ok g c = record { carries = carries_more c.args.session.now c.join.new.self c.reply_online.new.session _ _ _ c.join.ensures.carries c.reply_online.ensures.carries }
