use Rattle.std.proofs.Common.{◌≡◌, ◌∙◌, sym, ap}
use Rattle.asmcmd.specs.Runs.{RunsView}
use Rattle.asmcmd.proofs.PutRuns.{all_lines}
use Rattle.asmcmd.proofs.runs.Runs.into_lines.Goals as goal

pub returns : goal.returns
returns c = λ at bytes holds.
    ap (λ (r : RunsView). r.lines) c.self.view_is
    ∙ all_lines c.args.self c.end_run.new.self c.in_ok-end_run.ensures.lines (c.in_ok-end_run.ensures.at ∙ sym c.in_ok-end_run.ensures.end) at bytes holds
