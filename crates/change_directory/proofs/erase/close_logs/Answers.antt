use Rattle.std.proofs.Common.{◌≡◌, ◌∙◌, ap, arith}
use Rattle.bay.proofs.OneCall.{afforded, then}
use Rattle.body_slot.specs.declared.place.Place.{Place}
use Rattle.body_slot.proofs.Steps.{plain, may_close-same}
use Rattle.change_directory.specs.Places.{log_place}
use Rattle.change_directory.proofs.Usable.{short_sector, some_sector}
use Rattle.change_directory.proofs.Losing.{other_shuts}
use Rattle.change_directory.proofs.erase.close_logs.Goals as goal

pub returns : goal.returns
returns g c =
    let at = c.log_place.ensures ∙ ap (λ l. log_place c.args.copy l 65) c.other_slot-other.ensures in
    let sector : c.log_place.result.sector ≡ c.args.copy.sector = ap (λ (p : Place). p.sector) c.log_place.ensures in
    let follows = other_shuts c.args.copy c.requires.least (short_sector _ c.requires.sector_size) (some_sector _ c.requires.sector_size) _ _ at in
    afforded (record { calls = omega arith; bytes = λ s. omega (arith, sector) })
    (then follows c.in_ok-spare.ensures (plain (may_close-same _ c.args.copy.slot) c.close_gate.ensures.call))
