use Rattle.std.proofs.Common.{rules}
use Rattle.bay.proofs.OneCall.{reworded}
use Rattle.body_slot.proofs.Steps.{plain, may_put-same}
use Rattle.status_register.proofs.Filling.{fills, may_fill, short_sector}
use Rattle.status_register.proofs.storing.fill_slot.Goals as goal

pub returns : goal.returns
returns g c =
    let body = c.args.body.now.bytes in
    let short = short_sector c.args.sector c.requires.slots.sector_size in
    reworded (may_fill c.args.gate c.args.slot c.args.sector body short) (fills c.args.gate c.args.slot c.args.sector body short) (search rules)
    (plain (may_put-same _ c.args.slot body) (rw c.place_at.ensures at c.put.ensures))
