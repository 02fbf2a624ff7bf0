use Rattle.std.proofs.Common.{◌≡◌, ℕ, [], List, length, map, true, refl, sym, subst, ◌∙◌}
use Rattle.std.specs.String.{string_bytes}
use Rattle.std.proofs.lemmas.List.{length-map}
use Rattle.std.proofs.lemmas.Result.{IfErr-weaker, IfOk-weaker}
use Rattle.refusal_lines.specs.Refusals.{meaning_of}
use Rattle.asm_world.specs.NewDisks.{PlannedDisk}
use Rattle.new_groups.proofs.Formed.{looks_none}
use Rattle.disk_joining.specs.AddCauses.IsNotPrepared.{by_too_many, by_lack_of_memory}
use Rattle.disk_joining.specs.Asking.{asked_disks}
use Rattle.disk_joining.specs.Joiners.{are_asked}
use Rattle.disk_joining.proofs.Unfit.{look_refused}
use Rattle.disk_joining.proofs.Joiners.{joining_may}
use Rattle.disk_joining.proofs.joining.prepare.Goals as goal

pub returns-in-Err-clause-looks : goal.returns-in-Err-clause-looks
returns-in-Err-clause-looks g c = looks_none (length c.args.paths.now) _ (g.B.Bay.state c.args.bay.now)

pub returns-in-Err-clause-refused : goal.returns-in-Err-clause-refused
returns-in-Err-clause-refused g c = by_too_many c.in-Err.ensures.refused

pub planned-requires-clause-shape : goal.planned-requires-clause-shape
planned-requires-clause-shape g c = c.requires.whole.shape

pub returns-in-Ok-look_at_images-clause-may : goal.returns-in-Ok-look_at_images-clause-may
returns-in-Ok-look_at_images-clause-may g c =
    IfOk-weaker c.planned.result _ _
    (λ j is. joining_may c.args.m.now c.requires.whole c.in-Ok-look_at_images.looked.items c.deref.result.now c.args.known.now.held.items j (g.B.Bay.state c.args.bay.now) (g.B.Bay.state c.look_at_images.new.bay) c.deref.ensures.value c.in-Ok-look_at_images.ensures.each is)
    c.planned.ensures.may

pub returns-in-Ok-look_at_images-clause-asked : goal.returns-in-Ok-look_at_images-clause-asked
returns-in-Ok-look_at_images-clause-asked g c =
    IfOk-weaker c.planned.result _ _
    (λ j is. subst (λ (ns : List ℕ). are_asked j.disks.items (asked_disks c.args.m.now c.args.groups.now) ns ≡ true) c.in-Ok.ensures.numbers
    (subst (λ (ds : List PlannedDisk). are_asked j.disks.items ds c.in-Ok.asked.numbers.items ≡ true) c.in-Ok.ensures.disks is)) c.planned.ensures.asked

pub returns-in-Ok-look_at_images-clause-refused : goal.returns-in-Ok-look_at_images-clause-refused
returns-in-Ok-look_at_images-clause-refused g c =
    IfErr-weaker c.planned.result _ _
    (λ refusal is. look_refused c.args.known.now c.args.m.now (map string_bytes c.args.paths.now) c.args.groups.now c.in-Ok.asked c.in-Ok-look_at_images.looked.items c.deref.result.now (meaning_of (λ any. []) refusal) (g.B.Bay.state c.args.bay.now) (g.B.Bay.state c.look_at_images.new.bay)
    c.in-Ok.ensures.disks c.in-Ok.ensures.terms c.deref.ensures.value (c.in-Ok-look_at_images.ensures.count ∙ sym (length-map c.args.paths.now string_bytes)) c.in-Ok-look_at_images.ensures.each is)
    c.planned.ensures.refused

pub returns-clause-refused : goal.returns-clause-refused
unfolding meaning_of
returns-clause-refused g c = by_lack_of_memory refl
