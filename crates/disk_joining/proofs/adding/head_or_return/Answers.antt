use Rattle.std.proofs.Common.{◌≡◌, refl, true, sym, ap, subst, ◌∙◌}
use Rattle.asm_group.specs.Shape.{Shape, is_shape}
use Rattle.file_extents.specs.catalog_tables.Tables.{Catalogued}
use Rattle.new_groups.proofs.mounted_groups.Staying.{stays_keeps}
use Rattle.new_groups.specs.Forming.{AreLong}
use Rattle.disk_joining.proofs.Adds.{given_back}
use Rattle.disk_joining.proofs.Joiners.{joiners_headable, joiners_long, joiners_stay, works_taken}
use Rattle.disk_joining.proofs.Takings.{taken_on, takes_then}
use Rattle.disk_joining.proofs.adding.head_or_return.Goals as goal

pub give_headers-requires-clause-shape : goal.give_headers-requires-clause-shape
give_headers-requires-clause-shape g c =
    subst (λ (s : Shape). is_shape s ≡ true) (sym (c.shape-shape.ensures.shape ∙ ap (λ (k : Catalogued). k.shape) c.catalog.ensures)) (c.requires.takes c.requires.mounted).0.shape

pub give_headers-requires-clause-long : goal.give_headers-requires-clause-long
give_headers-requires-clause-long g c =
    let s = g.B.Bay.state c.args.bay.now in
    subst (λ (k : Shape). AreLong k c.args.disks.now s) (sym (c.shape-shape.ensures.shape ∙ ap (λ (k : Catalogued). k.shape) c.catalog.ensures))
    (joiners_long c.args.held.now c.args.m.now (c.requires.takes c.requires.mounted).0.shape c.args.disks.now s c.requires.joiners)

pub give_headers-requires-clause-headers : goal.give_headers-requires-clause-headers
give_headers-requires-clause-headers g c =
    joiners_headable c.args.held.now c.args.m.now (c.requires.takes c.requires.mounted).0.shape c.args.disks.now (g.B.Bay.state c.args.bay.now) c.requires.joiners

pub give_back-requires-clause-takes : goal.give_back-requires-clause-takes
give_back-requires-clause-takes g c =
    takes_then (works_taken c.args.held.now c.args.m.now c.args.disks.now c.requires.takes c.requires.apart c.requires.joiners c.give_headers.ensures.works)

pub give_back-requires-clause-joiners : goal.give_back-requires-clause-joiners
give_back-requires-clause-joiners g c =
    joiners_stay c.args.held.now c.args.disks.now refl refl (stays_keeps c.give_headers.ensures.works.attached) c.requires.joiners

pub returns-in-Ok-clause-joins : goal.returns-in-Ok-clause-joins
returns-in-Ok-clause-joins g c = record {
  taken = works_taken c.args.held.now c.args.m.now c.args.disks.now c.requires.takes c.requires.apart c.requires.joiners c.give_headers.ensures.works;
  mounted = c.requires.mounted;
  cause = tt;
}

pub returns-in-Ok-clause-joiners : goal.returns-in-Ok-clause-joiners
returns-in-Ok-clause-joiners g c =
    joiners_stay c.args.held.now c.args.disks.now refl refl (stays_keeps c.give_headers.ensures.works.attached) c.requires.joiners

pub returns-in-Err-clause-joins : goal.returns-in-Err-clause-joins
returns-in-Err-clause-joins g c =
    let headed = works_taken c.args.held.now c.args.m.now c.args.disks.now c.requires.takes c.requires.apart c.requires.joiners c.give_headers.ensures.works in
    record {
      taken = taken_on c.args.held.now headed c.give_back.ensures.taken;
      mounted = tt;
      cause = given_back c.args.m.now c.give_back.new.m c.give_headers.ensures.works.runs c.give_back.ensures.taken.spares c.in-Err.ensures.cause c.give_back.result c.give_back.ensures.cause;
    }

pub returns-in-Ok-clause-show : goal.returns-in-Ok-clause-show
returns-in-Ok-clause-show g c = c.in-Ok.ensures.show
