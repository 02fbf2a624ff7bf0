use Rattle.std.proofs.Common.{[], length, map, ap, refl, rules, arith, sym, ◌∙◌}
use Rattle.std.specs.Prelude.{is_ok}
use Rattle.std.specs.String.{string_bytes}
use Rattle.std.proofs.lemmas.Bool.{false≢true}
use Rattle.std.proofs.lemmas.Grind.{common_steps}
use Rattle.std.proofs.lemmas.List.{length-map}
use Rattle.std.proofs.lemmas.Result.{IfErr-weaker, IfOk-weaker}
use Rattle.refusal_lines.specs.Refusals.{meaning_of}
use Rattle.mounted_groups.specs.Creating.{made_group}
use Rattle.mounted_groups.specs.Found.{counts_of}
use Rattle.mounted_groups.proofs.Causes.{memory_cause, memory_is_late}
use Rattle.mounted_groups.proofs.FirstMounts.{new_mounts}
use Rattle.mounted_groups.proofs.FirstSpares.{creation_spares_held, newly_mounted}
use Rattle.mounted_groups.proofs.Looking.{ids_later, all_later}
use Rattle.mounted_groups.proofs.Moments.{created_less, has_created, plan_above}
use Rattle.mounted_groups.proofs.Spared.{looks_held}
use Rattle.mounted_groups.proofs.Staying.{stays_keeps, stays_trans}
use Rattle.mounted_groups.proofs.create.create_group.Goals as goal

pub returns-in-Err : goal.returns-in-Err
returns-in-Err g c =
    let looks = c.prepare.ensures.looks in
    record {
      ids = looks.ids;
      cause = first_of (search rules, grind (arith, common_steps));
      given = tt;
      early = λ is. refl;
      above = tt;
      floor = tt;
      above_read = tt;
      moments = looks.runs;
      mounted = tt;
      stands = tt;
      attached = looks.stays;
      spares = looks_held c.args.held.now (length c.args.paths.now) looks.runs;
    }

pub returns-then-is_held : goal.returns-then-is_held
unfolding meaning_of
returns-then-is_held g c =
    let looks = c.prepare.ensures.looks in
    record {
      ids = looks.ids;
      cause = tt;
      given = tt;
      early = λ is. refl;
      above = tt;
      floor = tt;
      above_read = tt;
      moments = looks.runs;
      mounted = tt;
      stands = tt;
      attached = looks.stays;
      spares = looks_held c.args.held.now (length c.args.paths.now) looks.runs;
    }

pub returns-in-Ok-form : goal.returns-in-Ok-form
returns-in-Ok-form g c =
    let s = g.B.Bay.state c.args.bay.now in
    let m = g.B.Bay.state c.prepare.new.bay in
    let t = g.B.Bay.state c.form.new.bay in
    let n = length c.args.paths.now in
    let paths = map string_bytes c.args.paths.now in
    let held = c.args.held.now in
    let slot = c.in-Ok.field-0.slot in
    let group = c.in-Ok.field-0.group in
    let ids = c.prepare.new.ids.items in
    let looks = c.prepare.ensures.looks in
    let ready = c.in-Ok.ensures.ready in
    let free = sym c.is_held.ensures ∙ c.if-is_held.false in
    record {
      ids = ids_later s m t c.form.ensures.runs ids looks.ids;
      cause = IfErr-weaker c.mount_new.result _ _
          (λ refusal is. memory_cause paths c.args.path.now (counts_of s) (counts_of t) (meaning_of (λ any. []) refusal) is)
          c.mount_new.ensures.err;
      given = first_of (search rules, grind (arith, common_steps));
      early = IfErr-weaker c.mount_new.result _ _
          (λ refusal is early. absurd (memory_is_late (meaning_of (λ any. []) refusal) is early))
          c.mount_new.ensures.err;
      above = plan_above s t paths n ids _ group c.group.view_is (length-map c.args.paths.now string_bytes)
          (all_later s m t c.form.ensures.runs n ids (λ at below. c.form.ensures.attached.same at) c.in-Ok.ensures.looks.all) ready.above;
      floor = first_of (search rules, grind (arith, common_steps));
      above_read = first_of (search rules, grind (arith, common_steps));
      moments = created_less _ _ _ (is_ok c.form.result) _ (λ ok. ap is_ok c.in-Ok-form.is)
          (has_created n slot _ group c.args.name.now c.form.result c.group.view_is ready.name ready.slot
          (g.met.B.Bay.sound c.prepare.new.bay) ready.free looks.runs c.form.ensures.runs c.form.ensures.done);
      mounted = IfOk-weaker c.mount_new.result _ _
          (λ new is. newly_mounted held slot free c.args.name.now _ group new t c.group.view_is ready.name is)
          c.mount_new.ensures.mounted;
      stands = IfOk-weaker c.mount_new.result _ _
          (λ new is. new_mounts n slot group c.args.name.now new ready.name ready.slot looks.runs c.in-Ok-form.ensures.done c.in-Ok-form.ensures.says is)
          c.mount_new.ensures.mounted;
      attached = stays_trans looks.stays (stays_keeps c.form.ensures.attached);
      spares = creation_spares_held held slot free n group.id (made_group group.name) ready.slot looks.runs c.form.ensures.runs;
    }

pub returns-in-Err-form : goal.returns-in-Err-form
returns-in-Err-form g c =
    let s = g.B.Bay.state c.args.bay.now in
    let m = g.B.Bay.state c.prepare.new.bay in
    let t = g.B.Bay.state c.form.new.bay in
    let n = length c.args.paths.now in
    let paths = map string_bytes c.args.paths.now in
    let held = c.args.held.now in
    let slot = c.in-Ok.field-0.slot in
    let group = c.in-Ok.field-0.group in
    let ids = c.prepare.new.ids.items in
    let looks = c.prepare.ensures.looks in
    let ready = c.in-Ok.ensures.ready in
    let free = sym c.is_held.ensures ∙ c.if-is_held.false in
    record {
      ids = ids_later s m t c.form.ensures.runs ids looks.ids;
      cause = first_of (search rules, grind (arith, common_steps));
      given = tt;
      early = first_of (search rules, grind (arith, common_steps));
      above = plan_above s t paths n ids _ group c.group.view_is (length-map c.args.paths.now string_bytes)
          (all_later s m t c.form.ensures.runs n ids (λ at below. c.form.ensures.attached.same at) c.in-Ok.ensures.looks.all) ready.above;
      floor = first_of (search rules, grind (arith, common_steps));
      above_read = first_of (search rules, grind (arith, common_steps));
      moments = created_less _ _ _ (is_ok c.form.result) _ (λ ok. absurd (false≢true ok))
          (has_created n slot _ group c.args.name.now c.form.result c.group.view_is ready.name ready.slot
          (g.met.B.Bay.sound c.prepare.new.bay) ready.free looks.runs c.form.ensures.runs c.form.ensures.done);
      mounted = tt;
      stands = tt;
      attached = stays_trans looks.stays (stays_keeps c.form.ensures.attached);
      spares = creation_spares_held held slot free n group.id (made_group group.name) ready.slot looks.runs c.form.ensures.runs;
    }
