use Rattle.std.proofs.Common.{[], length, map, sym, ap}
use Rattle.std.specs.String.{string_bytes}
use Rattle.std.proofs.lemmas.List.{length-map}
use Rattle.std.proofs.lemmas.Result.{IfErr-weaker, IfOk-weaker}
use Rattle.refusal_lines.specs.Refusals.{meaning_of}
use Rattle.new_groups.specs.Preparing.{not_formed}
use Rattle.new_groups.specs.declared.preparing.Ready.{Ready}
use Rattle.new_groups.proofs.Formed.{looks_spare, looks_stay, newly_as, work_spares, works_stay}
use Rattle.new_groups.proofs.Refused.{form_failed}
use Rattle.new_groups.proofs.create.create_group.Goals as goal

pub returns-in-Ok-clause-mounted : goal.returns-in-Ok-clause-mounted
returns-in-Ok-clause-mounted g c =
    IfOk-weaker c.form_ready-made.result _ _
    (λ m is. newly_as c.deref.result.now c.args.known.now.held.items c.in-Ok.ready.draft.name c.args.asked.now.name c.in-Ok.ready.draft.status.id _ m (g.B.Bay.state c.form_ready-made.new.bay)
    c.deref.ensures.value c.in-Ok.ensures.name (sym (ap (λ (r : Ready). r.draft.status.id) c.ready.view_is)) is) c.form_ready-made.ensures.mounted

pub returns-in-Ok-clause-attached : goal.returns-in-Ok-clause-attached
returns-in-Ok-clause-attached g c = works_stay c.in-Ok.ready.draft.disks.items (looks_stay (length c.args.paths.now) _ c.prepare.ensures.looks) c.form_ready-made.ensures.works

pub returns-in-Ok-clause-spares : goal.returns-in-Ok-clause-spares
returns-in-Ok-clause-spares g c =
    work_spares (length c.args.paths.now) c.args.known.now.held.items c.in-Ok.ready.draft.disks.items c.in-Ok.ensures.free (looks_spare (length c.args.paths.now) _ c.args.known.now.held.items c.prepare.ensures.looks) c.form_ready-made.ensures.works

pub returns-in-Err-clause-attached : goal.returns-in-Err-clause-attached
returns-in-Err-clause-attached g c = looks_stay (length c.args.paths.now) _ c.prepare.ensures.looks

pub returns-in-Err-clause-spares : goal.returns-in-Err-clause-spares
returns-in-Err-clause-spares g c = looks_spare (length c.args.paths.now) _ c.args.known.now.held.items c.prepare.ensures.looks

pub returns-in-Ok-clause-cause : goal.returns-in-Ok-clause-cause
returns-in-Ok-clause-cause g c =
    IfErr-weaker c.form_ready-made.result _ _
    (λ refusal is. not_formed
    (form_failed (length c.args.paths.now) (length (map string_bytes c.args.paths.now)) c.args.known.now.held.items c.in-Ok.ready.draft.disks.items (g.B.Bay.state c.args.bay.now) (g.B.Bay.state c.prepare.new.bay) (g.B.Bay.state c.form_ready-made.new.bay)
    (sym (length-map c.args.paths.now string_bytes)) c.in-Ok.ensures.free c.prepare.ensures.looks.runs (meaning_of (λ any. []) refusal) is))
    c.form_ready-made.ensures.cause
