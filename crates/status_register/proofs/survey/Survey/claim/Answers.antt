use Rattle.std.proofs.Common.{subst}
use Rattle.status_register.specs.Answers.{Surveyed}
use Rattle.status_register.specs.RegisterCalls.{ClaimsEpoch}
use Rattle.status_register.proofs.Reaching.{claim_reaches}
use Rattle.status_register.proofs.RowFits.{next_claim_allowed}
use Rattle.status_register.proofs.Written.{kept_claim, ready_claim}
use Rattle.status_register.proofs.survey.Survey.claim.Goals as goal

pub returns : goal.returns
returns g c =
    let s = g.B.Bay.state c.args.bay.now in
    let t = g.B.Bay.state c.claim_epoch.new.bay in
    let sound = g.met.B.Bay.sound c.args.bay.now in
    let result = c.claim_epoch.result in
    let said = c.claim_epoch.ensures in
    let claim : ClaimsEpoch c.args.self result s t = subst (λ (v : Surveyed). ClaimsEpoch v result s t) c.self.view_is
    (record { answer = said.answer; calls = said.calls; history = said.history; small = said.small }) in
    let allowed = next_claim_allowed c.args.self.id c.args.self.epoch claim.small in
    record {
      claim = claim;
      ready = ready_claim s t sound c.args.self allowed c.requires.numbers c.requires.slots claim.calls.runs c.requires.apart claim.calls.attached result claim.answer;
      reaches = claim_reaches s t c.args.self c.requires.numbers result claim.answer;
      kept = kept_claim s t sound c.args.self allowed c.requires.numbers c.requires.slots claim.calls.runs result claim.answer;
    }
