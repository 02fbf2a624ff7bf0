use Rattle.std.proofs.Common.{inl, inr, sym, ap, subst, ◌∙◌}
use Rattle.asm_group.specs.Shape.{Shape}
use Rattle.file_extents.specs.catalog_tables.Tables.{Catalogued}
use Rattle.new_groups.specs.Forming.{AreLong}
use Rattle.disk_joining.proofs.Joiners.{joiners_long, works_taken}
use Rattle.disk_joining.proofs.Onlines.{recorded}
use Rattle.disk_joining.proofs.Takings.{step_cause, takes_then}
use Rattle.disk_joining.proofs.returning.give_back.Goals as goal

pub take_headers-requires-clause-long : goal.take_headers-requires-clause-long
take_headers-requires-clause-long g c =
    let s = g.B.Bay.state c.args.bay.now in
    subst (λ (k : Shape). AreLong k c.args.disks.now s) (sym (c.shape-shape.ensures.shape ∙ ap (λ (k : Catalogued). k.shape) c.catalog.ensures))
    (joiners_long c.args.held.now c.args.m.now (c.requires.takes c.requires.mounted).0.shape c.args.disks.now s c.requires.joiners)

pub drop_records-requires-clause-takes : goal.drop_records-requires-clause-takes
drop_records-requires-clause-takes g c =
    takes_then (works_taken c.args.held.now c.args.m.now c.args.disks.now c.requires.takes c.requires.apart c.requires.joiners c.take_headers.ensures.works)

pub returns-in-Ok-clause-taken : goal.returns-in-Ok-clause-taken
returns-in-Ok-clause-taken g c =
    recorded c.args.held.now (works_taken c.args.held.now c.args.m.now c.args.disks.now c.requires.takes c.requires.apart c.requires.joiners c.take_headers.ensures.works) c.drop_records.ensures.goes

pub returns-in-Ok-clause-cause : goal.returns-in-Ok-clause-cause
returns-in-Ok-clause-cause g c = inl c.write_fault.ensures

pub returns-in-Err-clause-taken : goal.returns-in-Err-clause-taken
returns-in-Err-clause-taken g c =
    recorded c.args.held.now (works_taken c.args.held.now c.args.m.now c.args.disks.now c.requires.takes c.requires.apart c.requires.joiners c.take_headers.ensures.works) c.drop_records.ensures.goes

pub returns-in-Err-clause-cause : goal.returns-in-Err-clause-cause
returns-in-Err-clause-cause g c =
    inr (step_cause c.args.held.now (works_taken c.args.held.now c.args.m.now c.args.disks.now c.requires.takes c.requires.apart c.requires.joiners c.take_headers.ensures.works) c.requires.mounted c.drop_records.ensures.goes.keeps c.in-Err.refusal
    c.in-Err.ensures.goes.cause)
