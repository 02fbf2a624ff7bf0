use Rattle.std.proofs.Common.{rules, ◌+◌, ◌*◌, length, arith}
use Rattle.std.proofs.lemmas.Result.{IfOk-weaker}
use Rattle.bay.specs.Calls.{cost}
use Rattle.bay.proofs.OneCall.{afforded, cheaper, on_region, wider}
use Rattle.change_directory.proofs.Afterwards.{head_pages}
use Rattle.change_directory.proofs.Regions.{steps_stay_inside}
use Rattle.change_directory.proofs.Settled.{durable_logs}
use Rattle.directory_store.specs.Commits.{HasTaken}
use Rattle.directory_store.specs.Copies.{IsSettled}
use Rattle.directory_store.proofs.Steps.{shaped, logging_moments, logged_now, commit_moments, commit_done}
use Rattle.directory_store.proofs.commit.log_and_home.Goals as goal

pub returns-in_err-commit : goal.returns-in_err-commit
returns-in_err-commit g c =
    let e = c.commit.ensures.call in
    let copy = c.args.copy in
    let pages = c.args.pages.now in
    let calls = cheaper {most = cost (length pages + 13) (2 * copy.sector + (2 * length pages + 1) * 4096)} (record { calls = omega arith; bytes = λ s. omega arith })
    (wider (λ x y h. steps_stay_inside.logging copy c.args.number pages x y c.requires.put h) e.calls) in
    record {
      call = search rules;
      moments = λ before page less now. logging_moments copy c.args.number pages (shaped c.requires.copy) c.requires.put before page less e.calls.runs now;
    }

pub checkpoint-requires-clause-pages : goal.checkpoint-requires-clause-pages
checkpoint-requires-clause-pages g c = head_pages c.args.copy.dir_blocks c.args.number c.args.pages.now c.requires.put.head

pub checkpoint-requires-clause-due : goal.checkpoint-requires-clause-due
checkpoint-requires-clause-due g c =
    let e = c.requires.settled in
    let logged = logged_now c.args.copy c.args.number c.args.pages.now (shaped c.requires.copy) c.requires.put e.before e.page e.smaller c.in_ok-commit.ensures.call.done e.holds in
    record { now = λ x left. (logged.now x left).due_are.due }

pub returns : goal.returns
returns g c =
    let e = c.commit.ensures.call in
    let h = c.checkpoint.ensures.call in
    let copy = c.args.copy in
    let number = c.args.number in
    let pages = c.args.pages.now in
    let s = g.B.Bay.state c.args.bay.now in
    let t = g.B.Bay.state c.checkpoint.new.bay in
    let ok = head_pages copy.dir_blocks number pages c.requires.put.head in
    let logged = c.in_ok-commit.ensures.call.done in
    record {
      call = afforded (search rules)
          (on_region {last = λ value m t. HasTaken copy (IsSettled copy) number pages s t}
          (wider (λ x y h. steps_stay_inside.logging copy number pages x y c.requires.put h) e.calls)
          (λ _ taken. taken)
          (record {
            calls = wider (λ x y h. steps_stay_inside.homing copy pages x y ok h) h.calls;
            done = IfOk-weaker c.checkpoint.result _ (λ value. HasTaken copy (IsSettled copy) number pages s t)
                (λ value homed. record {
                  done = λ before page less now. commit_done copy number pages (shaped c.requires.copy) c.requires.put before page less logged homed.ends now;
                  logs = durable_logs copy _ homed.durable;
                }) h.done;
            cause = h.cause;
          }));
      moments = λ before page less now. commit_moments copy number pages (shaped c.requires.copy) c.requires.put before page less e.calls.runs logged h.calls.runs now;
    }
