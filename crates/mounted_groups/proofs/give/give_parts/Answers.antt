use Rattle.std.proofs.Common.{rules, arith}
use Rattle.std.proofs.lemmas.Grind.{common_steps}
use Rattle.std.proofs.lemmas.Result.{on_ok_weaker}
use Rattle.mounted_groups.proofs.Parts.{has_region, still_room, room_now, header_now, header_run, parts_run, parts_done}
use Rattle.mounted_groups.proofs.give.give_parts.Goals as goal

pub give_header-requires-clause-region : goal.give_header-requires-clause-region
give_header-requires-clause-region g c = has_region c.args.slot c.args.group.now.units c.requires.plan.least c.requires.room

pub give_rest-requires-clause-room : goal.give_rest-requires-clause-room
give_rest-requires-clause-room g c = still_room c.args.slot c.args.group.now.units c.requires.plan.least c.requires.room c.give_header.ensures.calls.attached

pub give_rest-requires-clause-headed : goal.give_rest-requires-clause-headed
give_rest-requires-clause-headed g c =
    header_now c.args.slot c.args.group.now (room_now c.args.slot c.args.group.now.units c.requires.plan.least c.requires.room (g.met.B.Bay.sound c.args.bay.now))
    (rw c.requires.bodies.header at c.in-Ok.ensures.done)

pub returns-in-Ok : goal.returns-in-Ok
returns-in-Ok g c =
    let slot = c.args.slot in
    let plan = c.args.group.now in
    let room = room_now slot plan.units c.requires.plan.least c.requires.room (g.met.B.Bay.sound c.args.bay.now) in
    let first = rw c.requires.bodies.header at c.give_header.ensures.calls.runs in
    let headed = rw c.requires.bodies.header at c.in-Ok.ensures.done in
    let rest = c.give_rest.ensures in
    record {
      gives = record {
        attached = first_of (search rules, grind (arith, common_steps));
        runs = parts_run slot plan (g.met.B.Bay.sound c.args.bay.now) room first (g.met.B.Bay.sound c.give_rest.new.bay) headed rest.gives.runs rest.moments;
        store = rest.gives.store;
        cause = first_of (search rules, grind (arith, common_steps));
      };
      done = on_ok_weaker c.give_rest.result (parts_done slot plan (g.met.B.Bay.sound c.args.bay.now) room first (g.met.B.Bay.sound c.give_rest.new.bay) headed rest.gives.runs) rest.done;
    }

pub returns-in-Err : goal.returns-in-Err
returns-in-Err g c =
    let runs = header_run c.args.slot c.args.group.now (g.met.B.Bay.sound c.args.bay.now)
    (room_now c.args.slot c.args.group.now.units c.requires.plan.least c.requires.room (g.met.B.Bay.sound c.args.bay.now))
    (rw c.requires.bodies.header at c.give_header.ensures.calls.runs) in
    record { gives = record { attached = first_of (search rules, grind (arith, common_steps)); runs = runs; store = tt; cause = first_of (search rules, grind (arith, common_steps)) }; done = tt }
