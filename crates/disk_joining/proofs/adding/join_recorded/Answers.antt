use Rattle.std.proofs.Common.{List, sym, subst}
use Rattle.new_groups.specs.group_recovery.declared.finding.Headed.{Headed}
use Rattle.new_groups.specs.Drafts.{AreDisksApart}
use Rattle.disk_joining.specs.Joiners.{AreJoiners, ShowHeaders}
use Rattle.disk_joining.proofs.Adds.{joins_on}
use Rattle.disk_joining.proofs.Takings.{takes_then}
use Rattle.disk_joining.proofs.adding.join_recorded.Goals as goal

pub join_headed-requires-clause-mounted : goal.join_headed-requires-clause-mounted
join_headed-requires-clause-mounted g c = c.in-Ok.ensures.joins.mounted

pub join_headed-requires-clause-takes : goal.join_headed-requires-clause-takes
join_headed-requires-clause-takes g c = takes_then c.head_or_return.ensures.joins.taken

pub join_headed-requires-clause-apart : goal.join_headed-requires-clause-apart
join_headed-requires-clause-apart g c = c.head_or_return.ensures.joins.taken.own

pub join_headed-requires-clause-joiners : goal.join_headed-requires-clause-joiners
join_headed-requires-clause-joiners g c =
    subst (λ (l : List Headed). AreJoiners c.args.held.now c.head_or_return.new.m l (g.B.Bay.state c.head_or_return.new.bay)) c.deref.ensures.value c.in-Ok.ensures.joiners

pub returns-in-Ok-clause-joins : goal.returns-in-Ok-clause-joins
returns-in-Ok-clause-joins g c = joins_on c.args.held.now c.join_headed.result c.head_or_return.ensures.joins.taken c.in-Ok.ensures.joins.mounted c.join_headed.ensures.joins

pub head_or_return-requires-clause-joiners : goal.head_or_return-requires-clause-joiners
head_or_return-requires-clause-joiners g c =
    subst (λ (l : List Headed). AreJoiners c.args.held.now c.args.m.now l (g.B.Bay.state c.args.bay.now)) (sym c.deref.ensures.value) c.requires.joiners

pub head_or_return-requires-clause-apart_disks : goal.head_or_return-requires-clause-apart_disks
head_or_return-requires-clause-apart_disks g c = subst AreDisksApart (sym c.deref.ensures.value) c.requires.apart_disks

pub join_headed-requires-clause-show : goal.join_headed-requires-clause-show
join_headed-requires-clause-show g c = subst (λ (l : List Headed). ShowHeaders l (g.B.Bay.state c.head_or_return.new.bay)) c.deref.ensures.value c.in-Ok.ensures.show
