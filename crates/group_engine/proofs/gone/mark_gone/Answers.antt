use Rattle.std.proofs.Common.{◌≡◌, ◌∙◌, List, Some, None, IsTrue, sym, ap, subst}
use Rattle.asm_formats.specs.Following.{Follows, sets}
use Rattle.asm_formats.specs.Status.{Status, is_status}
use Rattle.asm_images.proofs.Sharing.{follows_itself}
use Rattle.status_register.specs.Holders.{attached_to}
use Rattle.status_register.specs.Surveys.{missing, shortfall}
use Rattle.status_register.specs.declared.member.Member.{Member}
use Rattle.status_register.specs.RegisterCalls.{HasWritten}
use Rattle.group_engine.specs.Gone.{gone_of}
use Rattle.group_engine.proofs.Gones.{same_holders}
use Rattle.group_engine.proofs.gone.mark_gone.Goals as goal

pub write-requires-clause-status : goal.write-requires-clause-status
write-requires-clause-status g c = c.with_gone-next.ensures.kept (subst (λ (s : Status). IsTrue (is_status s)) (sym c.value-value.ensures) c.requires.status)

pub write-requires-clause-follows : goal.write-requires-clause-follows
write-requires-clause-follows g c =
    let v = c.args.register.now.value in
    let is : c.with_gone-next.result ≡ gone_of v = c.with_gone-next.ensures.value ∙ ap gone_of c.value-value.ensures in
    subst (λ (n : Status). Follows v n) (sym is) (follows_itself v)

pub write-requires-clause-majority : goal.write-requires-clause-majority
write-requires-clause-majority g c =
    let v = c.args.register.now.value in
    let ms = c.args.register.now.members in
    let is : c.with_gone-next.result ≡ gone_of v = c.with_gone-next.ensures.value ∙ ap gone_of c.value-value.ensures in
    subst (λ (n : Status). missing (attached_to ms n) (Some n) ≡ None) (sym is) (ap (λ (l : List Member). shortfall l (sets v)) (same_holders ms v 64) ∙ c.requires.majority)

pub returns : goal.returns
returns g c =
    let v = c.args.register.now.value in
    let s = g.B.Bay.state c.args.bay.now in
    let t = g.B.Bay.state c.write.new.bay in
    let is : c.with_gone-next.result ≡ gone_of v = c.with_gone-next.ensures.value ∙ ap gone_of c.value-value.ensures in
    subst (λ (n : Status). HasWritten c.args.register.now n c.write.result c.write.new.self s t) is c.write.ensures
