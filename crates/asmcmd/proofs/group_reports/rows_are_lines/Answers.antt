use Rattle.asmcmd.proofs.Shown as shown
use Rattle.asmcmd.proofs.group_reports.rows_are_lines.Goals as goal

pub returns : goal.returns
returns c = shown.rows_are_lines
