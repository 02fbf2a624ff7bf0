use Rattle.std.proofs.Common.{Err, List, sym, subst}
use Rattle.new_groups.specs.disk_directory.Disks.{Disk}
use Rattle.file_extents.specs.catalog.Plans.{MayAdd}
use Rattle.disk_joining.proofs.Adds.{goes_joiners, joins_goes, joins_on}
use Rattle.disk_joining.proofs.Takings.{goes_takes, keeps_taken, nothing_taken}
use Rattle.disk_joining.proofs.adding.join_born.Goals as goal

pub join_recorded-requires-clause-mounted : goal.join_recorded-requires-clause-mounted
join_recorded-requires-clause-mounted g c = c.in-Ok.ensures.goes.mounted

pub join_recorded-requires-clause-takes : goal.join_recorded-requires-clause-takes
join_recorded-requires-clause-takes g c = goes_takes c.put_records.ensures.goes

pub join_recorded-requires-clause-apart : goal.join_recorded-requires-clause-apart
join_recorded-requires-clause-apart g c = (keeps_taken c.args.held.now c.requires.apart c.put_records.ensures.goes.keeps).own

pub join_recorded-requires-clause-joiners : goal.join_recorded-requires-clause-joiners
join_recorded-requires-clause-joiners g c = goes_joiners c.args.held.now c.args.joining.now.disks.items c.put_records.ensures.goes c.requires.may.disks

pub returns-in-Ok-clause-joins : goal.returns-in-Ok-clause-joins
returns-in-Ok-clause-joins g c =
    joins_on c.args.held.now c.join_recorded.result (keeps_taken c.args.held.now c.requires.apart c.put_records.ensures.goes.keeps) c.in-Ok.ensures.goes.mounted c.join_recorded.ensures.joins

pub returns-in-Err-clause-joins : goal.returns-in-Err-clause-joins
returns-in-Err-clause-joins g c =
    joins_goes c.args.held.now (Err c.in-Err.refusal) (nothing_taken c.args.held.now c.args.m.now (g.B.Bay.state c.args.bay.now) c.requires.takes c.requires.apart) c.requires.mounted c.in-Err.ensures.goes

pub put_records-requires-clause-records : goal.put_records-requires-clause-records
put_records-requires-clause-records g c = subst (λ (l : List Disk). MayAdd c.args.m.now.catalog.tables l) (sym c.deref.ensures.value) c.requires.may.records
