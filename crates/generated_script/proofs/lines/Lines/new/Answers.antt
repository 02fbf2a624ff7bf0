use Rattle.generated_script.proofs.Scripts.{made}
use Rattle.generated_script.proofs.lines.Lines.new.Goals as goal

pub returns : goal.returns
returns c = made c.args.number c.next_choice.result _ c.next_choice.ensures (c.files.ensures c.next_choice.result)
