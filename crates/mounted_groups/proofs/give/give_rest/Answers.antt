use Rattle.std.proofs.Common.{rules, arith}
use Rattle.std.proofs.lemmas.Grind.{common_steps}
use Rattle.bay.proofs.Calls.{leaves_on}
use Rattle.mounted_groups.proofs.FirstCopy.{both_run}
use Rattle.mounted_groups.proofs.FirstStore.{store_stays}
use Rattle.mounted_groups.proofs.Parts.{has_region, is_copy, still_room, directory_moments, filled_now, directory_run, record_moments, record_now, record_run}
use Rattle.mounted_groups.proofs.give.give_rest.Goals as goal

pub give_directory-requires-clause-copy : goal.give_directory-requires-clause-copy
give_directory-requires-clause-copy g c = is_copy c.args.slot c.args.group.now.units c.requires.plan.least c.requires.room

pub give_directory-requires-clause-shut : goal.give_directory-requires-clause-shut
give_directory-requires-clause-shut g c = record { now = λ x left. (c.requires.headed.now x left).shut }

pub give_record-requires-clause-region : goal.give_record-requires-clause-region
give_record-requires-clause-region g c =
    has_region c.args.slot c.args.group.now.units c.requires.plan.least (still_room c.args.slot c.args.group.now.units c.requires.plan.least c.requires.room c.give_directory.ensures.gives.attached)

pub returns-in_err-store : goal.returns-in_err-store
returns-in_err-store g c =
    let runs = directory_run c.args.slot c.args.group.now c.give_directory.ensures.gives.runs in
    let moments = directory_moments c.args.slot c.args.group.now c.requires.headed c.give_directory.ensures.gives.runs c.give_directory.ensures.moments in
    record { gives = record { attached = first_of (search rules, grind (arith, common_steps)); runs = runs; store = first_of (search rules, grind (arith, common_steps)); cause = first_of (search rules, grind (arith, common_steps)) }; moments = moments; done = first_of (search rules, grind (arith, common_steps)) }

pub returns-in-Ok : goal.returns-in-Ok
returns-in-Ok g c =
    let slot = c.args.slot in
    let plan = c.args.group.now in
    let filled = filled_now slot plan c.requires.headed c.give_directory.ensures.gives.runs c.in_ok-store.ensures.done in
    let last = rw c.requires.bodies.claim at (rw c.requires.bodies.status at c.give_record.ensures.calls.runs) in
    record {
      gives = record {
        attached = first_of (search rules, grind (arith, common_steps));
        runs = both_run (directory_run slot plan c.give_directory.ensures.gives.runs) (record_run slot plan last);
        store = store_stays slot plan c.requires.plan c.in_ok-store.store (λ x y step. step.elsewhere) c.give_record.ensures.calls.attached last c.in_ok-store.ensures.gives.store;
        cause = first_of (search rules, grind (arith, common_steps));
      };
      moments = leaves_on (directory_moments slot plan c.requires.headed c.give_directory.ensures.gives.runs c.give_directory.ensures.moments) (record_moments slot plan filled last);
      done = record_now slot plan filled (rw c.requires.bodies.claim at (rw c.requires.bodies.status at c.in-Ok.ensures.done));
    }

pub returns-in-Err : goal.returns-in-Err
returns-in-Err g c =
    let slot = c.args.slot in
    let plan = c.args.group.now in
    let filled = filled_now slot plan c.requires.headed c.give_directory.ensures.gives.runs c.in_ok-store.ensures.done in
    let last = rw c.requires.bodies.claim at (rw c.requires.bodies.status at c.give_record.ensures.calls.runs) in
    record {
      gives = record {
        attached = first_of (search rules, grind (arith, common_steps));
        runs = both_run (directory_run slot plan c.give_directory.ensures.gives.runs) (record_run slot plan last);
        store = tt;
        cause = first_of (search rules, grind (arith, common_steps));
      };
      moments = leaves_on (directory_moments slot plan c.requires.headed c.give_directory.ensures.gives.runs c.give_directory.ensures.moments) (record_moments slot plan filled last);
      done = tt;
    }
