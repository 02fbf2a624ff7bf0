use Rattle.std.proofs.Common.{rules, sym, ap, subst, ◌∙◌, arith}
use Rattle.std.proofs.lemmas.Grind.{common_steps}
use Rattle.std.proofs.lemmas.Option.{none-some}
use Rattle.asm_group.specs.Shape.{Shape}
use Rattle.group_recovery.specs.catalog_tables.Tables.{Catalogued}
use Rattle.group_recovery.specs.disk_images.Headers.{HasHeaderSlot}
use Rattle.mounted_groups.proofs.Drops.{no_runs, one_out, one_runs}
use Rattle.mounted_groups.proofs.dropping.close_at.Goals as goal

pub close_header-requires : goal.close_header-requires
close_header-requires g c =
    subst (λ (s : Shape). HasHeaderSlot (g.B.Bay.state c.args.bay.now) c.in-Some.slot s.sector) (sym (c.shape.ensures.shape ∙ ap (λ (k : Catalogued). k.shape) c.catalog.ensures))
    (c.requires.headers.slots c.args.number c.in-Some.slot (sym c.in-Some.ensures))

pub returns-in-Some : goal.returns-in-Some
returns-in-Some g c = record {
  attached = first_of (search rules, grind (arith, common_steps));
  runs = one_runs c.args.m.now c.args.number c.in-Some.slot _ (sym c.in-Some.ensures) c.close_header.ensures.call.calls.runs;
  out = one_out c.args.m.now c.args.number c.in-Some.slot c.close_header.result (g.B.Bay.state c.args.bay.now) (g.B.Bay.state c.close_header.new.bay) (sym c.in-Some.ensures) c.close_header.ensures.gone
      c.close_header.ensures.call.cause;
}

pub returns-in-None : goal.returns-in-None
returns-in-None g c = record {
  attached = first_of (search rules, grind (arith, common_steps));
  runs = no_runs c.args.m.now c.args.number (g.B.Bay.state c.args.bay.now);
  out = λ slot at. absurd (none-some slot (c.in-None.ensures ∙ at));
}
