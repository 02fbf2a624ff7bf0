use Rattle.std.proofs.Common.{◌≡◌, ◌≤◌, ◌+◌, ◌-◌, ◌*◌, true, ℕ, length, take, drop, sym, subst, rules, arith, refl}
use Rattle.std.proofs.lemmas.List.{take_all}
use Rattle.bay.proofs.OneCall.{cheaper, no_call}
use Rattle.bay.specs.Calls.{cost}
use Rattle.bay.specs.Moments.{Holds}
use Rattle.change_directory.specs.Homes.{HasHomed, is_row, first_number}
use Rattle.change_directory.proofs.Homing.{next_run, homed_none, one_run}
use Rattle.change_directory.proofs.Works.{went_held}
use Rattle.change_directory.proofs.home.write_home.Goals as goal

pub loop-at-init : goal.loop-at-init
loop-at-init g c = record {
  below = omega arith;
  went = record {
    calls = no_call (λ x. record { size = λ s. refl; byte = λ s k outside. refl });
    done = record { held = λ image holds. (image, holds, homed_none c.args.copy image) };
    cause = tt;
  };
}

pub write_run-requires-clause-row : goal.write_run-requires-clause-row
write_run-requires-clause-row g c =
    let same : c.loop-at.at + c.run_len-count.result - c.loop-at.at ≡ c.run_len-count.result = omega arith in
    let next = next_run c.args.copy.dir_blocks c.loop-at.at _ c.args.pages.now c.requires.pages c.loop-at-test.true c.run_len-count.ensures.some c.run_len-count.ensures.inside c.run_len-count.ensures.row in
    subst (λ (n : ℕ). is_row (first_number (take n (drop c.loop-at.at c.args.pages.now))) (take n (drop c.loop-at.at c.args.pages.now)) ≡ true) (sym same)
    next.run.row

pub write_run-requires-clause-inside : goal.write_run-requires-clause-inside
write_run-requires-clause-inside g c =
    let same : c.loop-at.at + c.run_len-count.result - c.loop-at.at ≡ c.run_len-count.result = omega arith in
    let next = next_run c.args.copy.dir_blocks c.loop-at.at _ c.args.pages.now c.requires.pages c.loop-at-test.true c.run_len-count.ensures.some c.run_len-count.ensures.inside c.run_len-count.ensures.row in
    subst (λ (n : ℕ). first_number (take n (drop c.loop-at.at c.args.pages.now)) + length (take n (drop c.loop-at.at c.args.pages.now)) ≤ c.args.copy.dir_blocks) (sym same)
    next.run.inside

pub returns-in_err-write_run : goal.returns-in_err-write_run
returns-in_err-write_run g c =
    let next = next_run c.args.copy.dir_blocks c.loop-at.at _ c.args.pages.now c.requires.pages c.loop-at-test.true c.run_len-count.ensures.some c.run_len-count.ensures.inside c.run_len-count.ensures.row in
    let calls = cheaper {most = cost (length c.args.pages.now) (length c.args.pages.now * 4096)} (record { calls = omega (arith, next.inside, c.loop-at-test.true); bytes = λ s. omega (arith, next.inside, c.loop-at-test.true) })
    (one_run c.args.copy c.args.copy.dir_blocks c.loop-at.at c.run_len-count.result _ c.args.pages.now (omega arith) c.requires.pages next c.loop-at.invariant.went c.write_run.ensures).calls in search rules

pub loop-at-preserved : goal.loop-at-preserved
loop-at-preserved g c =
    let next = next_run c.args.copy.dir_blocks c.loop-at.at _ c.args.pages.now c.requires.pages c.loop-at-test.true c.run_len-count.ensures.some c.run_len-count.ensures.inside c.run_len-count.ensures.row in
    record {
      below = omega (arith, c.loop-at-test.true, next.inside);
      went = went_held (one_run c.args.copy c.args.copy.dir_blocks c.loop-at.at c.run_len-count.result _ c.args.pages.now (omega arith) c.requires.pages next c.loop-at.invariant.went c.in_ok-write_run.ensures);
    }

pub returns : goal.returns
returns g c =
    let all = take_all c.loop-at.at c.args.pages.now (omega (arith, c.loop-at-test.false)) in
    record {
      calls = cheaper (record { calls = c.loop-at.invariant.below; bytes = λ s. omega (arith, c.loop-at.invariant.below) }) c.loop-at.invariant.went.calls;
      done = subst (λ l. Holds (HasHomed c.args.copy l) (g.B.Bay.state c.args.bay.now) (g.B.Bay.state c.loop-at.bay)) all c.loop-at.invariant.went.done;
      cause = tt;
    }
