use Rattle.std.proofs.Common.{[], length, map, sym, ◌∙◌, refl}
use Rattle.std.specs.String.{string_bytes}
use Rattle.std.proofs.lemmas.List.{length-map}
use Rattle.std.proofs.lemmas.Result.{IfErr-weaker, IfOk-weaker}
use Rattle.refusal_lines.specs.Refusals.{meaning_of}
use Rattle.mounted_groups.specs.attribute_values.Creations.{creation_meant}
use Rattle.new_groups.proofs.Formed.{looks_none}
use Rattle.new_groups.proofs.Passing.{prepared_above, prepared_agrees, prepared_free}
use Rattle.new_groups.specs.Preparing.{by_memory}
use Rattle.new_groups.proofs.Unprepared.{attribute_refused, count_refused, look_refused}
use Rattle.new_groups.proofs.preparing.prepare.Goals as goal

pub returns-in-Err-clause-looks : goal.returns-in-Err-clause-looks
returns-in-Err-clause-looks g c = looks_none (length c.args.paths.now) _ (g.B.Bay.state c.args.bay.now)

pub returns-clause-agrees : goal.returns-clause-agrees
returns-clause-agrees g c =
    IfOk-weaker c.planned_group-ready.result _ _ (λ r is. prepared_agrees c.deref-2.result.now c.args.known.now.held.items c.args.asked.now.name c.next_id-id.result r is) c.planned_group-ready.ensures.prepared

pub returns-clause-free : goal.returns-clause-free
returns-clause-free g c =
    IfOk-weaker c.planned_group-ready.result _ _
    (λ r is. prepared_free (length c.args.paths.now) c.in-Ok-look.looked.items c.deref-2.result.now c.args.known.now.held.items c.args.asked.now.name c.next_id-id.result r (g.B.Bay.state c.args.bay.now) (g.B.Bay.state c.look.new.bay)
    c.deref-2.ensures.value c.in-Ok-look.ensures.count c.in-Ok-look.ensures.each is)
    c.planned_group-ready.ensures.prepared

pub returns-clause-above : goal.returns-clause-above
returns-clause-above g c =
    IfOk-weaker c.planned_group-ready.result _ _
    (λ r is. prepared_above c.deref-2.result.now c.args.known.now.held.items c.args.asked.now.name c.next_id-id.result r c.deref.result.now c.look.new.ids.items c.deref.ensures.value c.next_id-id.ensures.above is)
    c.planned_group-ready.ensures.prepared

pub returns-in-Err-clause-cause : goal.returns-in-Err-clause-cause
returns-in-Err-clause-cause g c =
    attribute_refused (map string_bytes c.args.paths.now) c.args.asked.now c.args.known.now (g.B.Bay.state c.args.bay.now) (g.B.Bay.state c.args.bay.now) c.as_slice.result.now _ c.as_slice.ensures c.in-Err.ensures.refused

pub returns-in-Err-planned_disks-clause-cause : goal.returns-in-Err-planned_disks-clause-cause
returns-in-Err-planned_disks-clause-cause g c =
    count_refused (map string_bytes c.args.paths.now) c.args.asked.now c.args.known.now (g.B.Bay.state c.args.bay.now) (g.B.Bay.state c.args.bay.now) c.as_slice-2.result.now _ c.as_slice-2.ensures c.in-Err-planned_disks.ensures.refused

pub returns-in-Err-look-clause-cause : goal.returns-in-Err-look-clause-cause
unfolding meaning_of
returns-in-Err-look-clause-cause g c = by_memory refl

pub returns-clause-cause : goal.returns-clause-cause
returns-clause-cause g c =
    IfErr-weaker c.planned_group-ready.result _ _
    (λ refusal is. look_refused (map string_bytes c.args.paths.now) c.args.asked.now c.args.known.now (g.B.Bay.state c.args.bay.now) (g.B.Bay.state c.look.new.bay) c.as_slice.result.now c.as_slice-2.result.now
    (creation_meant c.in-Ok.creation) c.in-Ok-look.looked.items c.deref-2.result.now c.in-Ok-planned_disks.planned.disks.items c.in-Ok-planned_disks.planned.terms.items (meaning_of (λ any. []) refusal)
    c.as_slice.ensures c.as_slice-2.ensures c.in-Ok.ensures.given c.deref-2.ensures.value (c.in-Ok-look.ensures.count ∙ sym (length-map c.args.paths.now string_bytes)) c.in-Ok-look.ensures.each
    c.in-Ok-planned_disks.ensures.planned c.in-Ok-planned_disks.ensures.terms is)
    c.planned_group-ready.ensures.refused
