use Rattle.std.proofs.Common.{sym, ap, ◌∙◌, Some}
use Rattle.std.proofs.lemmas.Result.{on_ok_weaker}
use Rattle.change_directory.specs.Slots.{all_slots}
use Rattle.change_directory.proofs.Runs.{on_ok_both}
use Rattle.change_directory.proofs.PageRows.{taken_image, taken_home, bad_home}
use Rattle.change_directory.proofs.LoadAnswers.{damage_weaker}
use Rattle.change_directory.proofs.loading.take_page.Goals as goal

pub returns-in-Some-clause-taken : goal.returns-in-Some-clause-taken
returns-in-Some-clause-taken c =
    on_ok_weaker c.put_image.result
    (taken_image (all_slots c.args.logs.now) c.args.page c.in-Some.block c.args.home.bytes c.in-Some.image.now.bytes _ _ (sym c.in-Some.ensures.block) (sym c.in-Some.ensures.image))
    c.put_image.ensures.put

pub returns-in-None-clause-taken : goal.returns-in-None-clause-taken
returns-in-None-clause-taken c =
    on_ok_both c.put_home.result
    (λ ok takes. taken_home (all_slots c.args.logs.now) c.args.page c.args.home.bytes _ _ (sym c.in-None.ensures.block) (sym c.in-None.ensures.image) ok takes)
    c.put_home.ensures.page c.put_home.ensures.put

pub returns-in-None-clause-damage : goal.returns-in-None-clause-damage
returns-in-None-clause-damage c =
    damage_weaker c.put_home.result _ _
    (λ block p. bad_home (all_slots c.args.logs.now) c.args.page c.args.home.bytes (sym c.in-None.ensures.image) p.1 ∙ ap Some (sym p.0))
    c.put_home.ensures.damage
