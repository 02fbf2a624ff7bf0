use Rattle.std.proofs.lemmas.Result.{IfOk-weaker}
use Rattle.generated_script.proofs.Statements.{image_put}
use Rattle.generated_script.proofs.creations.with_image.Goals as goal

pub returns : goal.returns
returns c = IfOk-weaker c.with-2.result _ _ (λ longer e. image_put c.args.text.items c.args.path.now c.in_ok-text.ensures c.in_ok-with_quoted.ensures e) c.with-2.ensures
