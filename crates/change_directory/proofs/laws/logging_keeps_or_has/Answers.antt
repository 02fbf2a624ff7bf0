use Rattle.change_directory.proofs.Copies.{is_ready, logging_keeps}
use Rattle.change_directory.proofs.laws.logging_keeps_or_has.Goals as goal

pub returns : goal.returns
returns c = λ copy number before pages page x y put has home lt step.
    logging_keeps copy number pages put page x y (is_ready copy number before page x has home lt) has.pages step
