use Rattle.generated_script.specs.Lines.{lines_left}
use Rattle.generated_script.proofs.Reading.{begins}
use Rattle.generated_script.proofs.script_source.GeneratedScript.new.Goals as goal

pub returns : goal.returns
returns c = begins c.args.number c.args.paths.now c.in_ok-creations.field-0.items c.new.result (lines_left c.new-2.result) c.in_ok-creations.ensures c.new.ensures c.new-2.ensures
