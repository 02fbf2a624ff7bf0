use Rattle.std.proofs.Common.{◌∙◌, ap, sym, refl, true, Ok, Err}
use Rattle.serving.specs.Manners.{line_in}
use Rattle.disk_commands.specs.group_turns.Turns.{when_of}
use Rattle.serving.specs.declared.stop.Stop.TheVariants.{WriteFault}
use Rattle.serving.proofs.Stories.{tells_idle, tells_line, tells_stop}
use Rattle.serving.proofs.program.Program.take_turn.Goals as goal

pub returns-in-Idle : goal.returns-in-Idle
returns-in-Idle g c = tells_idle (when_of c.args.turn) _ c.args.self.now _ c.in-Idle.ensures.idle refl refl refl refl refl refl refl c.requires.ready

pub returns-in-Ok : goal.returns-in-Ok
returns-in-Ok g c =
    tells_line (when_of c.args.turn) c.args.self.now _ c.in-Happened.ensures.carries refl refl refl refl refl refl (Ok true) c.turn.new.line (line_in c.args.self.now.manner c.as_bytes.result.now)
    c.in-Happened.ensures.line (ap (line_in c.args.self.now.manner) c.as_bytes.ensures) c.in-Ok.ensures.bytes (record { later = c.tell_event.ensures.later; failed = tt })

pub returns-in-Err : goal.returns-in-Err
returns-in-Err g c =
    let cut = c.in-Err.ensures.bytes in
    tells_line (when_of c.args.turn) c.args.self.now _ c.in-Happened.ensures.carries refl refl refl refl refl refl (Err WriteFault) c.turn.new.line cut.0
    c.in-Happened.ensures.line (cut.1, sym (ap (line_in c.args.self.now.manner) c.as_bytes.ensures) ∙ cut.2) cut.4 (record { later = c.tell_event.ensures.later; failed = c.in-Err.ensures.cause })

pub returns-in-NoMemory : goal.returns-in-NoMemory
returns-in-NoMemory g c = tells_stop (when_of c.args.turn) c.args.self.now _ c.in-NoMemory.ensures.carries refl refl refl refl refl refl refl refl
