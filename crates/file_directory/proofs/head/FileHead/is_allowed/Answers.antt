use Rattle.std.proofs.Common.{◌∙◌, arith}
use Rattle.file_directory.proofs.Laws.{part_of_view, tests_are_all}
use Rattle.file_directory.proofs.head.FileHead.is_allowed.Goals as goal

pub returns : goal.returns
returns c =
    c.is_right.ensures.test
    ∙ tests_are_all c.args.file c.self.view_is (omega arith) (record { size = omega arith; incarnation = omega arith; system = omega arith; alias = omega arith }) (part_of_view c.self.view_is c.is_right.ensures.part)
