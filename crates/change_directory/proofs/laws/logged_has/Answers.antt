use Rattle.change_directory.proofs.Copies.{is_ready, logged_has}
use Rattle.change_directory.proofs.laws.logged_has.Goals as goal

pub returns : goal.returns
returns c = λ copy number before pages page x y put has home lt logged.
    logged_has copy number pages put page x y (is_ready copy number before page x has home lt) has.pages logged
