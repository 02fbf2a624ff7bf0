use Rattle.std.proofs.Common.{◌≡◌, ◌∙◌, List, Some, None, sym, ap, subst}
use Rattle.asm_formats.specs.Status.{Status}
use Rattle.status_register.specs.Holders.{with_next_number}
use Rattle.status_register.specs.Registered.{register_of}
use Rattle.status_register.specs.Surveys.{missing}
use Rattle.status_register.specs.Writes.{first_register}
use Rattle.status_register.specs.declared.member.Member.{Member}
use Rattle.group_recovery.specs.Recovering.{MayRenewRecord, RefusesAnew}
use Rattle.group_recovery.specs.declared.finding.Headed.{Headed}
use Rattle.group_recovery.proofs.NextRecords.{next_renews}
use Rattle.group_recovery.proofs.LeftGroups.{leaves_one, left_moments, members_run}
use Rattle.group_recovery.proofs.Recovered.{may_renew, parts_are, refused, runs_on}
use Rattle.group_recovery.proofs.recovering.write_parts.Goals as goal

pub write_register-requires : goal.write_register-requires
write_register-requires g c =
    let s = g.B.Bay.state c.args.bay.now in
    let q = c.args.quorate in
    let next = c.args.anew.next in
    let a = c.requires.anew in
    subst (λ (l : List Member). MayRenewRecord q.survey next l s) (sym (c.deref.ensures.value ∙ a.1.members))
    (may_renew q s c.requires.quorum next a.1.status (next_renews q s c.requires.quorum a.0 next a.1.next) (ap (λ (x : Status). x.id) a.1.next.next_is)
    (subst (λ (l : List Member). missing l (Some next) ≡ None) a.1.members a.1.enough))

pub returns-in-Ok-clause-parts : goal.returns-in-Ok-clause-parts
returns-in-Ok-clause-parts g c = λ now is.
    let q = c.args.quorate in
    parts_are q (g.B.Bay.state c.args.bay.now) c.requires.quorum now c.args.anew is c.in-Ok.register
    (c.in-Ok.ensures.register ∙ ap (λ (l : List Member). first_register (with_next_number (register_of q.survey) c.args.anew.next) l) (c.deref.ensures.value ∙ is.members))
    (g.B.Bay.state c.write_register.new.bay) c.in-Ok.ensures.stands c.write_register.ensures.attached c.write_register.ensures.front

pub returns-in-Ok-clause-runs : goal.returns-in-Ok-clause-runs
returns-in-Ok-clause-runs g c =
    runs_on c.args.quorate (g.B.Bay.state c.args.bay.now) c.requires.quorum (g.B.Bay.state c.write_register.new.bay) c.write_register.ensures.front

pub returns-clause-cause : goal.returns-clause-cause
returns-clause-cause g c =
    refused c.args.quorate (g.B.Bay.state c.args.bay.now) (g.B.Bay.state c.write_register.new.bay) c.requires.quorum c.args.anew.next c.in-Err.error c.refusal_of_renew.result
    (subst (λ (l : List Headed). RefusesAnew l c.in-Err.error c.refusal_of_renew.result) c.deref-in-Err.ensures.value c.refusal_of_renew.ensures) c.in-Err.ensures.cause

pub returns-clause-runs : goal.returns-clause-runs
returns-clause-runs g c =
    runs_on c.args.quorate (g.B.Bay.state c.args.bay.now) c.requires.quorum (g.B.Bay.state c.write_register.new.bay) c.write_register.ensures.front

pub returns-in-Ok-clause-leaves : goal.returns-in-Ok-clause-leaves
returns-in-Ok-clause-leaves g c = λ groups may.
    let q = c.args.quorate in
    let s = g.B.Bay.state c.args.bay.now in
    let t = g.B.Bay.state c.write_register.new.bay in
    let now = c.requires.anew.0 in
    let is = c.requires.anew.1 in
    record {
      moments = left_moments q s c.requires.quorum now c.args.anew is groups may t c.write_register.ensures.groups;
      one = leaves_one q s c.requires.quorum now c.args.anew is groups may c.in-Ok.register
          (c.in-Ok.ensures.register ∙ ap (λ (l : List Member). first_register (with_next_number (register_of q.survey) c.args.anew.next) l) (c.deref.ensures.value ∙ is.members))
          t c.write_register.ensures.attached c.write_register.ensures.front c.in-Ok.ensures.held c.in-Ok.ensures.history;
    }

pub returns-clause-leaves : goal.returns-clause-leaves
returns-clause-leaves g c = λ groups may. record {
  moments = left_moments c.args.quorate (g.B.Bay.state c.args.bay.now) c.requires.quorum c.requires.anew.0 c.args.anew c.requires.anew.1 groups may
      (g.B.Bay.state c.write_register.new.bay) c.write_register.ensures.groups;
  one = tt;
}

pub returns-in-Ok-clause-members : goal.returns-in-Ok-clause-members
returns-in-Ok-clause-members g c =
    members_run c.args.quorate (g.B.Bay.state c.args.bay.now) (g.met.B.Bay.sound c.args.bay.now) c.requires.quorum (g.B.Bay.state c.write_register.new.bay)
    (runs_on c.args.quorate (g.B.Bay.state c.args.bay.now) c.requires.quorum (g.B.Bay.state c.write_register.new.bay) c.write_register.ensures.front)

pub returns-clause-members : goal.returns-clause-members
returns-clause-members g c =
    members_run c.args.quorate (g.B.Bay.state c.args.bay.now) (g.met.B.Bay.sound c.args.bay.now) c.requires.quorum (g.B.Bay.state c.write_register.new.bay)
    (runs_on c.args.quorate (g.B.Bay.state c.args.bay.now) c.requires.quorum (g.B.Bay.state c.write_register.new.bay) c.write_register.ensures.front)
