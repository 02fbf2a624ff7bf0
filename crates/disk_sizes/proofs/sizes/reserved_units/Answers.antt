use Rattle.std.proofs.Common.{ℕ, ◌+◌, ◌-◌, ◌*◌, ◌/◌, ap, sym, ◌∙◌}
use Rattle.asm_group.specs.Shape.{Shape}
use Rattle.asm_formats.specs.Bytes.{block_size}
use Rattle.asm_formats.specs.Regions.{region_end}
use Rattle.disk_sizes.proofs.Reserved.{none_reserved, reserved_is}
use Rattle.disk_sizes.proofs.sizes.reserved_units.Goals as goal

pub returns-then-au-eq0-clause-units : goal.returns-then-au-eq0-clause-units
returns-then-au-eq0-clause-units c = sym (none_reserved c.args.shape.now (ap (λ (s : Shape). s.au) (sym c.shape.view_is) ∙ c.if-au-eq0.true))

pub returns-clause-units : goal.returns-clause-units
returns-clause-units c =
    ap (λ (bytes : ℕ). (bytes + (c.shape.inside.au - 1)) / c.shape.inside.au) c.region_bytes.ensures
    ∙ (ap (λ (s : Shape). (region_end s.dir_blocks * block_size + (s.au - 1)) / s.au) c.shape.view_is ∙ reserved_is c.args.shape.now)
