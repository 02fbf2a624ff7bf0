use Rattle.std.proofs.Common.{Err, ◌≡◌, ◌≤◌, ◌<◌, ℕ, List, map, [], Some, All, arith, rules, ap, sym, subst, ◌∙◌}
use Rattle.std.proofs.lemmas.Grind.{common_steps}
use Rattle.std.proofs.lemmas.List.{length-map}
use Rattle.std.proofs.lemmas.Result.{IfErr-weaker, IfOk-weaker}
use Rattle.std.specs.String.{string_bytes}
use Rattle.refusal_lines.specs.Refusals.{meaning_of}
use Rattle.bay.specs.Counts.{last_count}
use Rattle.bay.specs.State.{BayState}
use Rattle.bay.proofs.Calls.{started}
use Rattle.bay.proofs.Images.{same-refl}
use Rattle.mounted_groups.specs.Found.{AreIdsRead, counts_of, IsSlotOfPath}
use Rattle.mounted_groups.specs.Looks.{LooksAtAll}
use Rattle.mounted_groups.specs.Ready.{HasRoom}
use Rattle.asm_images.specs.Kept.{header_in}
use Rattle.mounted_groups.specs.declared.create.Ready.{Ready}
use Rattle.mounted_groups.proofs.Causes.{has_room, memory_cause, unusable_cause}
use Rattle.mounted_groups.proofs.Looking.{none_read, usable_free, usable_size}
use Rattle.mounted_groups.proofs.Staying.{stays_refl}
use Rattle.mounted_groups.proofs.create.prepare.Goals as goal

-- nothing is looked at
nothing_read : {T E : Type 0} (n : ℕ) (e : E) (ids : List ℕ) (s : BayState) → ids ≡ [] → LooksAtAll {T = T} n (Err e) ids s s
nothing_read {T} {E} n e ids s none = record {
  runs = started (λ x. same-refl x);
  calls = omega arith;
  stays = stays_refl s;
  ids = subst (λ (l : List ℕ). AreIdsRead l (counts_of s) (counts_of s)) (sym none) (none_read s);
  all = tt;
}

pub returns-in_default : goal.returns-in_default
returns-in_default g c = record { looks = nothing_read _ _ _ _ c.requires.none; ready = tt; cause = first_of (search rules, grind (arith, common_steps)) }

pub returns-in_default-first_disk_name : goal.returns-in_default-first_disk_name
unfolding meaning_of
returns-in_default-first_disk_name g c = record { looks = nothing_read _ _ _ _ c.requires.none; ready = tt; cause = tt }

pub returns-in_default-look_at_all : goal.returns-in_default-look_at_all
unfolding meaning_of
returns-in_default-look_at_all g c =
    let looks = c.look_at_all.ensures.looks in
    record { looks = record { runs = looks.runs; calls = looks.calls; stays = looks.stays; ids = looks.ids; all = tt }; ready = tt; cause = tt }

pub returns-in-Err : goal.returns-in-Err
returns-in-Err g c =
    let looks = c.look_at_all.ensures.looks in
    let cause = unusable_cause (map string_bytes c.args.paths.now) c.args.path.now c.in-Ok.disk c.in-Some.slot c.in-Some.ensures (counts_of (g.B.Bay.state c.args.bay.now)) (counts_of (g.B.Bay.state c.look_at_all.new.bay))
    c.in-Ok-look_at_all.probe c.in-Ok-look_at_all.ensures.shown (meaning_of (λ any. []) c.in-Err.refusal) c.in-Err.ensures.cause in
    record { looks = record { runs = looks.runs; calls = looks.calls; stays = looks.stays; ids = looks.ids; all = tt }; ready = tt; cause = cause }

pub returns-in-Ok-usable_units : goal.returns-in-Ok-usable_units
returns-in-Ok-usable_units g c =
    let s = g.B.Bay.state c.args.bay.now in
    let t = g.B.Bay.state c.look_at_all.new.bay in
    let slot = c.in-Some.slot in
    let probe = c.in-Ok-look_at_all.probe in
    let units = c.in-Ok-usable_units.units in
    let ids = c.look_at_all.new.ids.items in
    let looks = c.in-Ok-look_at_all.ensures.looks in
    let free = usable_free s t slot units probe c.in-Ok-usable_units.ensures.ok c.in-Ok-look_at_all.ensures.shown in
    let sized = usable_size s t slot units probe c.in-Ok-usable_units.ensures.ok c.in-Ok-look_at_all.ensures.shown in
    let room = has_room s t slot units probe c.in-Ok-look_at_all.ensures.shown c.in-Ok-usable_units.ensures.ok in
    let made = c.make_ready.ensures.ready in
    record {
      looks = record {
        runs = looks.runs;
        calls = looks.calls;
        stays = looks.stays;
        ids = looks.ids;
        all = IfOk-weaker c.make_ready.result _ _ (λ ready is. looks.all) made;
      };
      ready = IfOk-weaker c.make_ready.result _ _
          (λ (ready : Ready) is. record {
            name = is.name_is;
            plan = is.plan;
            bodies = is.bodies;
            floor = subst (λ (i : ℕ). c.args.floor ≤ i) (sym is.id_is) c.next_id.ensures.floor;
            above = subst (λ (i : ℕ). i < last_count → All (λ (other : ℕ). other < i) ids) (sym is.id_is) (first_of (search rules, grind (arith, common_steps)));
            slot = omega (arith, is.slot, c.in-Some.ensures.below, length-map c.args.paths.now string_bytes);
            at = subst (λ (k : ℕ). IsSlotOfPath (map string_bytes c.args.paths.now) c.args.path.now k) (sym is.slot) c.in-Some.ensures;
            size = ap (λ (k : ℕ). t.attached k) is.slot ∙ (sized ∙ sym (ap (λ (n : ℕ). Some n) (is.size ∙ c.shown_size.ensures)));
            room = subst (λ (k : ℕ). HasRoom k ready.group.units t) (sym is.slot) (subst (λ (n : ℕ). HasRoom slot n t) (sym is.units_are) room);
            free = λ now holds image was. ap (λ (k : ℕ). header_in image k) is.slot ∙ free now holds image was;
          })
          made;
      cause = IfErr-weaker c.make_ready.result _ _
          (λ refusal is. memory_cause (map string_bytes c.args.paths.now) c.args.path.now (counts_of s) (counts_of t) (meaning_of (λ any. []) refusal) is)
          c.make_ready.ensures.err;
    }
