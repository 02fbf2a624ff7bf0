use Rattle.std.proofs.Common.{rules, ◌≡◌, Some, None, ◌∙◌, arith}
use Rattle.std.proofs.lemmas.Grind.{common_steps}
use Rattle.mounted_groups.specs.Probes.{id_in}
use Rattle.bay.proofs.Telling.{told_before}
use Rattle.mounted_groups.proofs.Told.{told_held, told_id, told_no_id, same_id}
use Rattle.mounted_groups.proofs.find.look.Goals as goal

pub returns-in-Ok-Some : goal.returns-in-Ok-Some
returns-in-Ok-Some g c =
    let s = g.B.Bay.state c.args.bay.now in
    let m = g.B.Bay.state c.attach.new.self in
    let t = g.B.Bay.state c.read_header.new.bay in
    let attached = c.read_header.ensures.attached.same c.args.slot ∙ c.in-Ok.ensures.done.attached in
    let told = told_before s m t (λ image. id_in image c.args.slot ≡ Some c.header.inside.id) c.attach.ensures.runs c.read_header.ensures.runs (same_id c.args.slot (Some c.header.inside.id))
    (told_id m t c.args.slot c.in-Ok-Some.field-0 _ c.in-Ok-Some.header c.in-Ok-Some.field-0-is c.header.view_is
    (told_held m t c.args.slot c.in-Ok-Some.field-0 c.read_header.ensures.runs c.in-Ok-Some.ensures.header)) in
    record { runs = first_of (search rules, grind (arith, common_steps)); calls = first_of (search rules, grind (arith, common_steps)); stays = first_of (search rules, grind (arith, common_steps)); others = first_of (search rules, grind (arith, common_steps)); shown = (attached, told) }

pub returns-in-Ok-None : goal.returns-in-Ok-None
returns-in-Ok-None g c =
    let s = g.B.Bay.state c.args.bay.now in
    let m = g.B.Bay.state c.attach.new.self in
    let t = g.B.Bay.state c.read_header.new.bay in
    let attached = c.read_header.ensures.attached.same c.args.slot ∙ c.in-Ok.ensures.done.attached in
    let told = told_before s m t (λ image. id_in image c.args.slot ≡ None) c.attach.ensures.runs c.read_header.ensures.runs (same_id c.args.slot None)
    (told_no_id m t c.args.slot c.in-Ok-None.field-0 c.in-Ok-None.field-0-is
    (told_held m t c.args.slot c.in-Ok-None.field-0 c.read_header.ensures.runs c.in-Ok-None.ensures.header)) in
    record { runs = first_of (search rules, grind (arith, common_steps)); calls = first_of (search rules, grind (arith, common_steps)); stays = first_of (search rules, grind (arith, common_steps)); others = first_of (search rules, grind (arith, common_steps)); shown = (attached, told) }
