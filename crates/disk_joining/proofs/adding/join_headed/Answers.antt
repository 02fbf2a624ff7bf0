use Rattle.std.proofs.Common.{List, sym, subst, ◌∙◌, Err}
use Rattle.asm_formats.specs.Status.{Status}
use Rattle.new_groups.specs.group_recovery.declared.finding.Headed.{Headed}
use Rattle.new_groups.proofs.mounted_groups.Staying.{stays_keeps}
use Rattle.disk_joining.specs.Joiners.{AreJoiners, AreEntered}
use Rattle.disk_joining.proofs.Adds.{joins_goes}
use Rattle.disk_joining.proofs.Headers.{show_over}
use Rattle.disk_joining.proofs.Joiners.{joiners_attached}
use Rattle.disk_joining.proofs.Takings.{goes_takes, keeps_taken, nothing_taken, taken_on}
use Rattle.disk_joining.proofs.adding.join_headed.Goals as goal

pub attach_all-requires-clause-takes : goal.attach_all-requires-clause-takes
attach_all-requires-clause-takes g c = goes_takes c.enter.ensures.goes

pub attach_all-requires-clause-apart : goal.attach_all-requires-clause-apart
attach_all-requires-clause-apart g c = (keeps_taken c.args.held.now c.requires.apart c.enter.ensures.goes.keeps).own

pub attach_all-requires-clause-attached : goal.attach_all-requires-clause-attached
attach_all-requires-clause-attached g c =
    joiners_attached c.args.held.now c.args.m.now c.deref.result.now (stays_keeps c.enter.ensures.goes.keeps.attached)
    (subst (λ (l : List Headed). AreJoiners c.args.held.now c.args.m.now l (g.B.Bay.state c.args.bay.now)) (sym c.deref.ensures.value) c.requires.joiners)

pub returns-in-Ok-clause-joins : goal.returns-in-Ok-clause-joins
returns-in-Ok-clause-joins g c = record {
  taken = taken_on c.args.held.now (keeps_taken c.args.held.now c.requires.apart c.enter.ensures.goes.keeps) c.attach_all.ensures.taken;
  mounted = c.attach_all.ensures.same ∙ c.in-Ok.ensures.goes.mounted;
  cause = tt;
}

pub returns-in-Ok-clause-entries : goal.returns-in-Ok-clause-entries
returns-in-Ok-clause-entries g c = subst (λ (r : Status). AreEntered r c.args.joining.now.disks.items) (sym c.attach_all.ensures.value) c.in-Ok.ensures.entries

pub returns-in-Err-clause-joins : goal.returns-in-Err-clause-joins
returns-in-Err-clause-joins g c =
    joins_goes c.args.held.now (Err c.in-Err.refusal) (nothing_taken c.args.held.now c.args.m.now (g.B.Bay.state c.args.bay.now) c.requires.takes c.requires.apart) c.requires.mounted c.in-Err.ensures.goes

pub returns-in-Ok-clause-show : goal.returns-in-Ok-clause-show
returns-in-Ok-clause-show g c = show_over c.args.held.now c.args.joining.now.disks.items c.requires.joiners c.enter.ensures.goes.keeps c.requires.show
