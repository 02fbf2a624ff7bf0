use Rattle.std.proofs.Common.{◌++◌, drop, arith}
use Rattle.asm_world.specs.Text.{ended}
use Rattle.generated_script.specs.Lines.{lines_left}
use Rattle.generated_script.proofs.Reading.{some_given}
use Rattle.generated_script.proofs.script_source.GeneratedScript.read_creations.Goals as goal

pub returns : goal.returns
returns c =
    let s = c.args.self.now in
    some_given s.creations.items c.deref.result.now c.args.buf.now c.give-count.new.buf (drop s.at s.line ++ ended (lines_left s.lines)) s.given c.give-count.result
    (omega (arith, c.requires, s.creations.ok.0)) c.deref.ensures.value c.give-count.ensures.count c.give-count.ensures.bytes c.give-count.ensures.len
