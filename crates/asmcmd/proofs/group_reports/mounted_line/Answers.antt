use Rattle.asmcmd.proofs.group_reports.mounted_line.Goals as goal

pub returns : goal.returns
returns c = rw (c.as_slice.ensures, c.as_slice-2.ensures, c.as_slice-3.ensures, c.as_slice-4.ensures) at c.line_of.ensures
