use Rattle.std.proofs.Common.{arith}
use Rattle.asm_world.specs.Text.{ended}
use Rattle.generated_script.specs.Lines.{lines_left}
use Rattle.generated_script.specs.Source.{left_in}
use Rattle.generated_script.proofs.Reading.{line_given}
use Rattle.generated_script.proofs.script_source.GeneratedScript.read_line.Goals as goal

pub returns : goal.returns
returns c =
    let s = c.go_on.new.self in
    line_given s.creations.items s.line c.as_bytes.result.now c.args.buf.now c.give-count.new.buf (ended (lines_left s.lines)) (left_in c.args.self.now) s.given s.at c.give-count.result
    (omega (arith, c.go_on.ensures.read)) c.as_bytes.ensures c.go_on.ensures.left c.give-count.ensures.count c.give-count.ensures.bytes c.give-count.ensures.len c.go_on.ensures.over
