use Rattle.std.proofs.Common.{rules}
use Rattle.bay.proofs.OneCall.{afforded, wider}
use Rattle.change_directory.proofs.Usable.{short_sector, some_sector}
use Rattle.change_directory.proofs.Losing.{then_erases}
use Rattle.change_directory.proofs.Works.{then_synced}
use Rattle.change_directory.proofs.erase.erase.Goals as goal

pub returns-in_err-close_logs : goal.returns-in_err-close_logs
returns-in_err-close_logs g c =
    let follows = then_erases c.args.copy c.requires.least (short_sector _ c.requires.sector_size) (some_sector _ c.requires.sector_size) in
    let calls = wider follows.starts c.close_logs.ensures.calls in search rules

pub returns : goal.returns
returns g c =
    let follows = then_erases c.args.copy c.requires.least (short_sector _ c.requires.sector_size) (some_sector _ c.requires.sector_size) in
    afforded (search rules) (then_synced follows c.in_ok-close_logs.ensures c.zero_pages.ensures)
