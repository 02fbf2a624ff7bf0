use Rattle.std.proofs.lemmas.Result.{IfErr-weaker, err_from_is_err_and}
use Rattle.file_commands.proofs.HostCauses.{out_none, source_none}
use Rattle.file_commands.proofs.copying.open_file.Goals as goal

pub returns-in_err-m : goal.returns-in_err-m
returns-in_err-m c =
    let f = err_from_is_err_and c.from_residual.result c.from_residual.ensures.1 in
    record { cause = rw (f.1, f.2) (out_none c.args.session.now.entries c.args.path.now.group _ c.in_err-m.ensures.cause) }

pub returns : goal.returns
returns c = record { cause = IfErr-weaker c.check_source.result _ _ (λ refusal why. source_none c.in_ok-m.m.now c.args.path.now.parts refusal why) c.check_source.ensures.cause }
