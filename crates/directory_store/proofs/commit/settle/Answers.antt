use Rattle.std.proofs.Common.{◌≡◌, ◌∙◌, ◌+◌, ◌*◌, [], length, sym, arith}
use Rattle.std.proofs.lemmas.Bool.{eqb-true}
use Rattle.std.proofs.lemmas.Result.{IfOk-weaker, on_ok_weaker}
use Rattle.bay.specs.State.{IsSlot}
use Rattle.bay.proofs.Calls.{widened, started}
use Rattle.bay.proofs.Images.{changes-same, same-refl}
use Rattle.bay.proofs.OneCall.{call_of_parts, no_call, wider}
use Rattle.change_directory.specs.StoreLaws.{RegionOf}
use Rattle.change_directory.proofs.Regions.{steps_stay_inside}
use Rattle.change_directory.proofs.Settled.{durable_logs}
use Rattle.directory_store.specs.Commits.{HasSettled}
use Rattle.directory_store.proofs.Steps.{shaped, homing_moments, homing_done, empty_list, reading_moments, reading_done}
use Rattle.directory_store.proofs.commit.settle.Goals as goal

pub checkpoint-requires-clause-due : goal.checkpoint-requires-clause-due
checkpoint-requires-clause-due g c = record { now = λ x left. (c.requires.kept.2.now x left).due_are.due }

pub returns-then-not-is_empty : goal.returns-then-not-is_empty
returns-then-not-is_empty g c =
    let e = c.checkpoint.ensures.call in
    let copy = c.args.copy in
    let due = c.args.due.now in
    record {
      call = record {
        calls = wider (λ x y h. steps_stay_inside.homing copy due x y c.requires.pages h) e.calls;
        done = IfOk-weaker c.checkpoint.result _ (λ value. HasSettled copy due (g.B.Bay.state c.args.bay.now) (g.B.Bay.state c.checkpoint.new.bay))
            (λ value homed. record { pages = homing_done copy due (shaped c.requires.copy) homed.ends; logs = durable_logs copy _ homed.durable }) e.done;
        cause = e.cause;
      };
      moments = λ number page now. homing_moments copy due (shaped c.requires.copy) number page e.calls.runs now;
    }

pub returns-then-is_settled : goal.returns-then-is_settled
returns-then-is_settled g c =
    let copy = c.args.copy in
    let due = c.args.due.now in
    let none : due ≡ [] = empty_list due (eqb-true (length due) 0 (sym c.is_empty.ensures ∙ c.if-not-is_empty.false)) in
    record {
      call = record {
        calls = no_call (λ x. changes-same (RegionOf copy) x x (same-refl x));
        done = record { pages = λ number page now. reading_done copy due (shaped c.requires.copy) {slots = IsSlot copy.slot} none (started same-refl) number page now; logs = c.requires.logs c.if-is_settled.true };
        cause = tt;
      };
      moments = λ number page now. reading_moments copy due (shaped c.requires.copy) {slots = IsSlot copy.slot} number page (started same-refl) now;
    }

pub returns : goal.returns
returns g c =
    let e = c.sync.ensures in
    let copy = c.args.copy in
    let due = c.args.due.now in
    let none : due ≡ [] = empty_list due (eqb-true (length due) 0 (sym c.is_empty.ensures ∙ c.if-not-is_empty.false)) in
    record {
      call = call_of_parts (length due + 1) (length due * 4096) e.attached (omega (arith, e.count)) (omega (arith, e.written)) (widened (λ x y same. changes-same (RegionOf copy) x y same) e.runs)
          (on_ok_weaker {Q = HasSettled copy due (g.B.Bay.state c.args.bay.now) (g.B.Bay.state c.sync.new.self)} c.sync.result (λ durable. record { pages = λ number page now. reading_done copy due (shaped c.requires.copy) none e.runs number page now; logs = durable_logs copy _ durable }) e.done) e.cause;
      moments = λ number page now. reading_moments copy due (shaped c.requires.copy) number page e.runs now;
    }
