use Rattle.std.proofs.Common.{◌≡◌, false, take}
use Rattle.catalog_tables.specs.page_map.Changes.{is_gone}
use Rattle.catalog_units.specs.Giving.{changed_keys}
use Rattle.catalog_units.proofs.changed_units.is_earlier.Given as goal

abbrev pub invariant-loop-earlier : goal.invariant-loop-earlier
invariant-loop-earlier l = is_gone (take l.earlier (changed_keys l.put l.gone)) l.key ≡ false
