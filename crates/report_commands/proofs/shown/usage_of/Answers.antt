use Rattle.std.proofs.Common.{◌≡◌, ◌∙◌, ap}
use Rattle.std.proofs.lemmas.Result.{IfOk-weaker}
use Rattle.asm_world.specs.Reports.{du_lines}
use Rattle.group_reports.specs.Files.{directory_usage}
use Rattle.group_reports.specs.declared.taking.Taken.{Taken}
use Rattle.report_commands.proofs.shown.usage_of.Goals as goal

pub returns : goal.returns
returns c =
    let m = c.args.m.now in
    let taken : c.in_ok-usage.usage ≡ directory_usage m.catalog m.name c.args.dir.now m.catalog.tables.files = rw (c.name.ensures, c.catalog.ensures) at c.in_ok-usage.ensures in
    IfOk-weaker c.usage_lines.result _ _ (λ lines is. is ∙ ap (λ (t : Taken). du_lines t.used t.mirrored) taken) c.usage_lines.ensures
