use Rattle.asm_formats.specs.Claim.{claim_spelling}
use Rattle.status_register.specs.Registered.{claim_of}
use Rattle.group_recovery.specs.Writing.{mount_of}
use Rattle.group_recovery.proofs.Fronts.{claims_change}
use Rattle.group_recovery.proofs.Renewals.{sets_same, is_reached, claiming_runs, renewing_front, renewing_runs, renewed_done, renew_cause, groups_kept, renew_groups, renew_held, renew_history}
use Rattle.group_recovery.proofs.writing.renew.Goals as goal

pub write_anew-requires-clause-sets : goal.write_anew-requires-clause-sets
write_anew-requires-clause-sets g c =
    sets_same (g.B.Bay.state c.args.bay.now) (g.B.Bay.state c.claim.new.bay) c.args.survey c.args.next.now c.requires.renews c.requires.numbers c.claim.ensures.claim.calls.runs c.in-Ok.register c.in-Ok.ensures.claim.answer

pub write_anew-requires-clause-majority : goal.write_anew-requires-clause-majority
write_anew-requires-clause-majority g c =
    is_reached (g.B.Bay.state c.args.bay.now) (g.B.Bay.state c.claim.new.bay) c.args.survey c.args.next.now c.requires.renews c.requires.numbers c.claim.ensures.claim.calls.runs c.in-Ok.register c.in-Ok.ensures.claim.answer c.in-Ok.ensures.reaches

pub returns-in-Ok-clause-runs : goal.returns-in-Ok-clause-runs
returns-in-Ok-clause-runs g c =
    renewing_runs (g.B.Bay.state c.args.bay.now) (g.B.Bay.state c.claim.new.bay) c.args.survey c.args.next.now c.requires.renews c.requires.numbers c.claim.ensures.claim.calls.runs c.in-Ok.register c.in-Ok.ensures.claim.answer
    (g.B.Bay.state c.write_anew.new.bay) c.write_anew.ensures.runs

pub returns-in-Ok-clause-done : goal.returns-in-Ok-clause-done
returns-in-Ok-clause-done g c =
    renewed_done (g.B.Bay.state c.args.bay.now) (g.B.Bay.state c.claim.new.bay) c.args.survey c.args.next.now c.requires.renews c.requires.numbers c.claim.ensures.claim.calls.runs c.in-Ok.register c.in-Ok.ensures.claim.answer
    (g.B.Bay.state c.write_anew.new.bay) c.write_anew.ensures.runs c.write_anew.result c.write_anew.ensures.answer

pub returns-in-Ok-clause-cause : goal.returns-in-Ok-clause-cause
returns-in-Ok-clause-cause g c =
    renew_cause (g.B.Bay.state c.args.bay.now) (g.B.Bay.state c.claim.new.bay) c.args.survey c.args.next.now c.requires.renews c.requires.numbers c.claim.ensures.claim.calls.runs c.in-Ok.register c.in-Ok.ensures.claim.answer
    (g.B.Bay.state c.write_anew.new.bay) c.write_anew.ensures.runs c.write_anew.result c.write_anew.ensures.answer

pub returns-in-Ok-clause-groups : goal.returns-in-Ok-clause-groups
returns-in-Ok-clause-groups g c =
    renew_groups (g.B.Bay.state c.args.bay.now) (g.B.Bay.state c.claim.new.bay) (g.B.Bay.state c.write_anew.new.bay) c.args.survey c.args.next.now c.requires.renews c.requires.numbers c.claim.ensures.claim.calls.runs c.in-Ok.register c.in-Ok.ensures.claim.answer
    c.write_anew.ensures.runs c.write_anew.result c.write_anew.ensures.answer

pub returns-in-Ok-clause-held : goal.returns-in-Ok-clause-held
returns-in-Ok-clause-held g c =
    renew_held (g.B.Bay.state c.args.bay.now) (g.B.Bay.state c.claim.new.bay) (g.B.Bay.state c.write_anew.new.bay) c.args.survey c.args.next.now c.requires.renews c.requires.numbers c.claim.ensures.claim.calls.runs c.in-Ok.register c.in-Ok.ensures.claim.answer
    c.write_anew.ensures.runs c.write_anew.result c.write_anew.ensures.answer

pub returns-in-Ok-clause-history : goal.returns-in-Ok-clause-history
returns-in-Ok-clause-history g c =
    renew_history (g.B.Bay.state c.args.bay.now) (g.B.Bay.state c.claim.new.bay) (g.B.Bay.state c.write_anew.new.bay) c.args.survey c.args.next.now c.requires.renews c.requires.numbers c.claim.ensures.claim.calls.runs c.in-Ok.register c.in-Ok.ensures.claim.answer
    c.write_anew.ensures.runs c.write_anew.result c.write_anew.ensures.answer

pub returns-in-Err-NoMajority-clause-groups : goal.returns-in-Err-NoMajority-clause-groups
returns-in-Err-NoMajority-clause-groups g c = λ content.
    groups_kept (mount_of c.args.survey c.args.next.now content) (g.B.Bay.state c.args.bay.now) (g.B.Bay.state c.claim.new.bay)
    (claiming_runs (g.B.Bay.state c.args.bay.now) (g.B.Bay.state c.claim.new.bay) c.args.survey c.args.next.now c.requires.renews c.requires.numbers c.claim.ensures.claim.calls.runs content)

pub returns-in-Ok-clause-front : goal.returns-in-Ok-clause-front
returns-in-Ok-clause-front g c =
    renewing_front (g.B.Bay.state c.args.bay.now) (g.B.Bay.state c.claim.new.bay) c.args.survey c.args.next.now c.requires.renews c.requires.numbers c.claim.ensures.claim.calls.runs c.in-Ok.register c.in-Ok.ensures.claim.answer
    (g.B.Bay.state c.write_anew.new.bay) c.write_anew.ensures.runs

pub returns-in-Err-NoMajority-clause-front : goal.returns-in-Err-NoMajority-clause-front
returns-in-Err-NoMajority-clause-front g c =
    claims_change c.args.survey.id c.args.survey.members (claim_spelling (claim_of c.args.survey)) (g.B.Bay.state c.args.bay.now) (g.B.Bay.state c.claim.new.bay) c.claim.ensures.claim.calls.runs
