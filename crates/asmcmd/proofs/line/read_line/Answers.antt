use Rattle.asmcmd.proofs.Lines.{exact, command}
use Rattle.asmcmd.proofs.line.read_line.Goals as goal

pub returns : goal.returns
returns c = record {
  reads = c.read_whole.ensures;
  exact = exact c.read_whole.result c.args.text.now c.read_whole.ensures;
  command = λ o b. command c.read_whole.result c.args.text.now c.read_whole.ensures o b;
}
