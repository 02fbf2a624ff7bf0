use Rattle.std.proofs.Common.{rules, ◌≡◌, ◌∙◌, sym, ap, arith}
use Rattle.asm_formats.specs.Items.{Home}
use Rattle.asm_formats.specs.Regions.{reserved_units}
use Rattle.catalog_tables.specs.Tables.{Catalogued}
use Rattle.group_pieces.specs.group_engine.Mounts.{slot_at}
use Rattle.group_pieces.specs.Usable.{size_at}
use Rattle.file_extents.proofs.sparing.is_run.Goals as goal

pub returns : goal.returns
returns c =
    let m = c.args.m.now in
    let shape : c.shape-shape.result ≡ m.catalog.shape = c.shape-shape.ensures.shape ∙ ap (λ (v : Catalogued). v.shape) c.catalog.ensures in
    let unit = ap (λ (h : Home). h.unit) c.home.view_is in
    let reserved = c.reserved_units-reserved.ensures.units ∙ ap reserved_units shape in
    record {
      number = omega (arith, ap (λ (h : Home). h.disk) c.home.view_is);
      slot = _;
      at = sym (ap (λ (h : Home). slot_at m.disks h.disk) c.home.view_is) ∙ sym c.in-Some.ensures;
      size = c.in-Some-size.size;
      sized = sym (ap (λ (h : Home). size_at m.disks h.disk) c.home.view_is) ∙ sym c.in-Some-size.ensures;
      reserved = omega (arith, reserved, unit);
      room = search rules;
      inside = search rules;
      short = omega arith;
      sectors = search rules;
    }
