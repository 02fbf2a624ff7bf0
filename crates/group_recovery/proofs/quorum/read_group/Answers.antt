use Rattle.std.proofs.lemmas.Result.{err_from_is_err_and}
use Rattle.bay.proofs.Calls.{goes_on, stops}
use Rattle.bay.proofs.Images.{same-trans}
use Rattle.group_recovery.specs.declared.quorum.MountOption.{MountOption}
use Rattle.group_recovery.proofs.Quorums.{load_refused, read_is}
use Rattle.group_recovery.proofs.quorum.read_group.Goals as goal

pub returns-in_err-store-clause-cause : goal.returns-in_err-store-clause-cause
returns-in_err-store-clause-cause g c =
    let p = err_from_is_err_and c.from_residual-in_err-store.result c.from_residual-in_err-store.ensures.1 in
    rw (p.1, p.2) (λ (option : MountOption).
    load_refused (g.B.Bay.state c.args.bay.now) (g.B.Bay.state c.survey_named.new.bay) (g.B.Bay.state c.load_copies.new.bay) c.survey_named.ensures.runs c.survey_named.ensures.attached
    c.load_copies.ensures.runs c.load_copies.ensures.attached c.args.slots c.args.id c.args.images.now c.in_ok-survey.survey c.in_ok-survey.ensures.now option c.in_err-store.field-0.0 c.in_err-store.ensures.cause)

pub returns-clause-read : goal.returns-clause-read
returns-clause-read g c =
    read_is (g.B.Bay.state c.args.bay.now) (g.B.Bay.state c.survey_named.new.bay) (g.B.Bay.state c.load_copies.new.bay) c.survey_named.ensures.runs c.survey_named.ensures.attached
    c.load_copies.ensures.runs c.load_copies.ensures.attached c.args.slots c.args.id c.args.images.now c.in_ok-survey.survey c.in_ok-survey.ensures.now
    c.in_ok-shape.shape c.in_ok-store.store c.requires.there c.in_ok-survey.ensures.among c.in_ok-shape.ensures.alike c.in_ok-shape.ensures.shape
    c.in_ok-store.ensures.copies c.in_ok-store.ensures.some c.in_ok-store.ensures.kept c.in_ok-check_epoch.ensures.left

pub returns-clause-runs : goal.returns-clause-runs
returns-clause-runs g c = goes_on same-trans c.survey_named.ensures.runs (stops c.survey_named.ensures.runs) c.load_copies.ensures.runs
