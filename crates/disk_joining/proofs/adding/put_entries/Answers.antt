use Rattle.std.proofs.Common.{List, sym, subst, ◌∙◌, ◌≡◌, true}
use Rattle.new_groups.specs.group_recovery.declared.finding.Headed.{Headed}
use Rattle.disk_joining.specs.Joiners.{are_entered}
use Rattle.disk_joining.proofs.Joiners.{entries_written}
use Rattle.disk_joining.proofs.Takings.{nothing_goes}
use Rattle.disk_joining.proofs.adding.put_entries.Goals as goal

pub returns-in-Err-clause-goes : goal.returns-in-Err-clause-goes
returns-in-Err-clause-goes g c = nothing_goes c.args.m.now (g.B.Bay.state c.args.bay.now) c.requires.takes

pub returns-then-not-are_entered-clause-goes : goal.returns-then-not-are_entered-clause-goes
returns-then-not-are_entered-clause-goes g c = nothing_goes c.args.m.now (g.B.Bay.state c.args.bay.now) c.requires.takes

pub returns-clause-entries : goal.returns-clause-entries
returns-clause-entries g c =
    entries_written c.write_next.result c.args.m.now.register c.in-Ok.next c.write_next.new.m.register.value c.args.joining.now.disks.items
    (subst (λ (l : List Headed). are_entered c.in-Ok.next l ≡ true) c.deref.ensures.value (sym c.are_entered.ensures ∙ c.if-not-are_entered.false)) c.write_next.ensures.recorded
