use Rattle.std.proofs.lemmas.Result.{IfOk-weaker}
use Rattle.generated_script.proofs.Statements.{paths_put}
use Rattle.generated_script.proofs.creations.with_paths.Goals as goal

pub returns-in_ok-with_quoted-in-len1-up : goal.returns-in_ok-with_quoted-in-len1-up
returns-in_ok-with_quoted-in-len1-up c =
    let first = c.first-item.result in
    let put = c.in_ok-with_quoted-in-len1-up.field-0.items in
    IfOk-weaker c.with_later_paths.result _ _
    (λ longer e. paths_put c.args.text.items put longer.items c.args.paths.now first c.in-len1-up.len_at_least c.first-item.is (rw c.as_slice.ensures at c.in_ok-with_quoted-in-len1-up.ensures) e)
    c.with_later_paths.ensures
