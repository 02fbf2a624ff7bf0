use Rattle.std.proofs.Common.{rules, inl, sym, subst, arith}
use Rattle.std.proofs.lemmas.Grind.{common_steps}
use Rattle.bay.proofs.Calls.{started, leaves_begin}
use Rattle.bay.proofs.Images.{changes-same, same-refl}
use Rattle.change_directory.specs.StoreLaws.{RegionOf}
use Rattle.group_recovery.specs.directory_store.Contents.{ArePutItems}
use Rattle.mounted_groups.specs.Stages.{first_copy}
use Rattle.mounted_groups.proofs.FirstCopy.{shaped, sized_now, none_now}
use Rattle.mounted_groups.proofs.FirstStore.{put_items, only_named, only_apart, only_size, only_shut, only_run, gone_cause, never_full, first_moments, first_now, first_store}
use Rattle.mounted_groups.proofs.directory.give_directory.Goals as goal

pub returns-in_default : goal.returns-in_default
returns-in_default g c =
    let none = none_now (first_copy c.args.slot) (shaped c.requires.copy) (sized_now (g.met.B.Bay.sound c.args.bay.now) c.requires.copy) c.requires.shut in
    record {
      gives = record { attached = first_of (search rules, grind (arith, common_steps)); runs = started (λ x. changes-same (RegionOf (first_copy c.args.slot)) x x (same-refl x)); store = tt; cause = first_of (search rules, grind (arith, common_steps)) };
      moments = leaves_begin (record { now = λ x left. inl (none.now x left) });
      done = tt;
    }

pub create-requires-clause-named : goal.create-requires-clause-named
create-requires-clause-named g c = only_named c.args.slot c.requires.copy

pub create-requires-clause-apart : goal.create-requires-clause-apart
create-requires-clause-apart g c = only_apart c.args.slot

pub create-requires-clause-size : goal.create-requires-clause-size
create-requires-clause-size g c = only_size c.args.slot

pub create-requires-clause-items : goal.create-requires-clause-items
create-requires-clause-items g c = subst ArePutItems (sym c.in-Ok.ensures.put) (put_items c.args.group.now c.requires.plan)

pub unreachable-requires : goal.unreachable-requires
unreachable-requires g c =
    never_full c.args.slot c.args.group.now (g.B.Bay.state c.args.bay.now) (g.B.Bay.state c.create.new.bay) _ c.in-Err-Full.field-0 _ _ c.in-Err-Full.field-0-is c.in-Ok.ensures.put c.in-Err-Full.ensures.refused

pub returns-in-Ok-create : goal.returns-in-Ok-create
returns-in-Ok-create g c =
    let ens = c.in-Ok-create.ensures in
    let slot = c.args.slot in
    let plan = c.args.group.now in
    let is = c.requires.plan in
    let records = rw c.in-Ok.ensures.put at (rw c.in-Ok.ensures.gone at ens.records) in
    record {
      gives = record {
        attached = first_of (search rules, grind (arith, common_steps));
        runs = only_run slot c.create.ensures.runs;
        store = first_store slot plan is c.in-Ok-create.store (g.B.Bay.state c.create.new.bay) ens.copies records ens.kept;
        cause = first_of (search rules, grind (arith, common_steps));
      };
      moments = first_moments slot plan is (rw c.in-Ok.ensures.put at (rw c.in-Ok.ensures.gone at (c.create.ensures.moments (only_shut slot c.requires.shut))));
      done = first_now slot plan is c.in-Ok-create.store ens.copies ens.number records (c.kept_have_records.ensures c.in-Ok-create.store ens.kept);
    }

pub returns-in-Err-Gone : goal.returns-in-Err-Gone
returns-in-Err-Gone g c =
    let slot = c.args.slot in
    record {
      gives = record {
        attached = first_of (search rules, grind (arith, common_steps));
        runs = only_run slot c.create.ensures.runs;
        store = tt;
        cause = λ fault. gone_cause slot (g.B.Bay.state c.args.bay.now) (g.B.Bay.state c.create.new.bay) _ c.in-Err-Gone.field-0 c.in-Err-Gone.field-0-0 c.in-Err-Gone.field-0-is c.in-Err-Gone.ensures.refused;
      };
      moments = first_moments slot c.args.group.now c.requires.plan (rw c.in-Ok.ensures.put at (rw c.in-Ok.ensures.gone at (c.create.ensures.moments (only_shut slot c.requires.shut))));
      done = tt;
    }

pub returns : goal.returns
returns g c =
    let slot = c.args.slot in
    record {
      gives = record { attached = first_of (search rules, grind (arith, common_steps)); runs = only_run slot c.create.ensures.runs; store = tt; cause = first_of (search rules, grind (arith, common_steps)) };
      moments = first_moments slot c.args.group.now c.requires.plan (rw c.in-Ok.ensures.put at (rw c.in-Ok.ensures.gone at (c.create.ensures.moments (only_shut slot c.requires.shut))));
      done = tt;
    }
