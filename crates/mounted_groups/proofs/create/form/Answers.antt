use Rattle.std.proofs.Common.{rules, arith}
use Rattle.std.proofs.lemmas.Grind.{common_steps}
use Rattle.refusal_lines.specs.Refusals.{meaning_of}
use Rattle.mounted_groups.proofs.FirstMounts.{forms_says}
use Rattle.mounted_groups.proofs.Moments.{forms_creates, forms_founds}
use Rattle.mounted_groups.proofs.create.form.Goals as goal

pub returns-in-Ok : goal.returns-in-Ok
returns-in-Ok g c =
    let room = c.requires.room in
    let sound = g.met.B.Bay.sound c.args.bay.now in
    let runs = forms_creates c.args.slot room.size c.args.group.now sound room.attached c.requires.plan room.inside c.give_parts.ensures.gives.runs in
    let done = forms_founds c.args.slot c.args.slots room.size c.args.group.now sound room.attached c.requires.plan room.inside c.requires.among c.in-Ok.ensures.done in
    let says = forms_says c.args.slot room.size c.args.group.now sound room.attached c.requires.plan room.inside c.in-Ok.ensures.done in
    record { attached = first_of (search rules, grind (arith, common_steps)); runs = runs; done = done; says = says; store = first_of (search rules, grind (arith, common_steps)); cause = tt }

pub returns-in-Err-Fault : goal.returns-in-Err-Fault
returns-in-Err-Fault g c =
    let room = c.requires.room in
    let runs = forms_creates c.args.slot room.size c.args.group.now (g.met.B.Bay.sound c.args.bay.now) room.attached c.requires.plan room.inside c.give_parts.ensures.gives.runs in
    record { attached = first_of (search rules, grind (arith, common_steps)); runs = runs; done = tt; says = tt; store = tt; cause = first_of (search rules, grind (arith, common_steps)) }

pub returns-in-Err-NoMemory : goal.returns-in-Err-NoMemory
unfolding meaning_of
returns-in-Err-NoMemory g c =
    let room = c.requires.room in
    let runs = forms_creates c.args.slot room.size c.args.group.now (g.met.B.Bay.sound c.args.bay.now) room.attached c.requires.plan room.inside c.give_parts.ensures.gives.runs in
    record { attached = first_of (search rules, grind (arith, common_steps)); runs = runs; done = tt; says = tt; store = tt; cause = tt }
