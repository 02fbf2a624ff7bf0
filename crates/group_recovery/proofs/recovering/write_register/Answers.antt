use Rattle.std.proofs.Common.{◌≡◌, ◌∙◌, Some, sym, ap, subst, IsTrue}
use Rattle.asm_formats.specs.Content.{Content}
use Rattle.asm_formats.specs.Status.{Status, is_status}
use Rattle.status_register.specs.Holders.{with_next_number}
use Rattle.status_register.specs.Keeping.{KeepsStanding}
use Rattle.status_register.specs.Registered.{Registered, register_of}
use Rattle.status_register.specs.Surveys.{missing}
use Rattle.status_register.specs.Writes.{first_register}
use Rattle.group_recovery.specs.Writing.{KeepsAnyRegister, KeepsRegister, mount_of}
use Rattle.group_recovery.proofs.Renewals.{any_register}
use Rattle.group_recovery.proofs.recovering.write_register.Goals as goal

pub returns-in-Ok-clause-stands : goal.returns-in-Ok-clause-stands
returns-in-Ok-clause-stands g c =
    let ms = c.args.members.now in
    let register = c.in-Ok.ensures.register in
    let value = c.value.ensures ∙ ap (λ (x : Registered). x.value) register in
    record {
      status = subst (λ (r : Status). IsTrue (is_status r)) (sym (ap (λ (x : Registered). x.value) c.standing.ensures.register ∙ c.value.ensures)) c.in-Ok.ensures.allowed;
      reached = c.standing.ensures.reaches (ap (λ (r : Status). missing ms (Some r)) value ∙ c.requires.enough);
      ready = c.standing.ensures.ready;
    }

pub returns-in-Ok-clause-history : goal.returns-in-Ok-clause-history
returns-in-Ok-clause-history g c =
    let s = g.B.Bay.state c.args.bay.now in
    let t = g.B.Bay.state c.renew.new.bay in
    let survey = c.args.survey in
    let next = c.args.next.now in
    let ms = c.args.members.now in
    let renewed = c.in-Ok.ensures.register in
    let same : c.standing.result ≡ first_register (with_next_number (register_of survey) next) ms =
    c.standing.ensures.register ∙ ap (λ (r : Status). first_register r ms) (c.value.ensures ∙ ap (λ (x : Registered). x.value) renewed) in
    subst (λ (x : Registered). (content : Content) → KeepsAnyRegister (mount_of survey next content) x s t) (sym same)
    (any_register s t survey next ms (subst (λ (x : Registered). (content : Content) → KeepsRegister (mount_of survey next content) x s t) renewed c.in-Ok.ensures.history)
    (subst (λ (x : Registered). KeepsStanding x t) same c.standing.ensures.history))
