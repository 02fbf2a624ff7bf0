use Rattle.std.proofs.Common.{sym, ◌∙◌}
use Rattle.alias_tree.specs.FileNames.{has_name}
use Rattle.alias_tree.proofs.FileLaws.{gone_is}
use Rattle.alias_tree.proofs.files.FileNames.forget.Goals as goal

pub returns-then-not-is_that : goal.returns-then-not-is_that
returns-then-not-is_that c = λ q.
    rw (c.in-Some.is, ← c.self.view_is) (c.remove.ensures.updates.0 q ∙ gone_is c.in-Some.gone c.args.kept q (has_name c.self.inside.set.keys q) (sym c.is_that.ensures ∙ c.if-not-is_that.true))
