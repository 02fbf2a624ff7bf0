use Rattle.std.proofs.lemmas.Result.{IfOk-weaker}
use Rattle.generated_script.proofs.Statements.{group_put}
use Rattle.generated_script.proofs.creations.with_group.Goals as goal

pub returns : goal.returns
returns c = IfOk-weaker c.with-2.result _ _ (λ longer e. group_put c.args.text.items c.args.paths.now c.in_ok-text.ensures c.in_ok-with_paths.ensures e) c.with-2.ensures
