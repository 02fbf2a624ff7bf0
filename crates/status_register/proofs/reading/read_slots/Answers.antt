use Rattle.std.proofs.Common.{◌∙◌, sym, subst, rules}
use Rattle.std.specs.Option.{option_map, option_or}
use Rattle.status_register.specs.Sayings.{IsOwnRecord}
use Rattle.status_register.specs.Slots.{ShowBoth}
use Rattle.status_register.specs.declared.places.SlotPair.TheVariants.{Claims, Records}
use Rattle.status_register.proofs.Shown.{same_both}
use Rattle.status_register.proofs.Surveying.{slots_say}
use Rattle.status_register.proofs.Allowing.{greatest_own}
use Rattle.status_register.proofs.Telling.{both_read, told_both, slots_long}
use Rattle.status_register.proofs.reading.read_slots.Goals as goal

pub returns-clause-own : goal.returns-clause-own
returns-clause-own g c = subst (IsOwnRecord c.args.id) (sym c.record_in_both.ensures)
    (greatest_own c.args.id c.record_in-first_record.result c.record_in-second_record.result c.record_in-first_record.ensures.allowed c.record_in-second_record.ensures.allowed)

pub returns-clause-call : goal.returns-clause-call
returns-clause-call g c =
    let slot = c.args.slot in
    let sound = g.met.B.Bay.sound c.args.bay.now in
    let one = option_map (λ b. b.bytes) c.in_ok-claims.claims.0 in
    let two = option_map (λ b. b.bytes) c.in_ok-claims.claims.1 in
    let three = option_map (λ b. b.bytes) c.in_ok-records.records.0 in
    let four = option_map (λ b. b.bytes) c.in_ok-records.records.1 in
    let first = c.in_ok-claims.ensures in
    let second = c.in_ok-records.ensures in
    let both = told_both first.calls second.calls (ShowBoth Claims slot one two) (ShowBoth Records slot three four) (λ image. ShowBoth Claims slot one two image × ShowBoth Records slot three four image)
    (λ x y same show. same_both Records slot three four x y (λ k. same.byte slot k) show) (λ image p q. (p, q)) first.done second.done in
    record {
      calls = both_read first.calls second.calls;
      done = λ now holds image was.
          let shown = both now holds image was in
          let long = slots_long slot c.args.sector sound c.requires.slots image (sound.held image was) in
          slots_say image slot long one two shown.0 three four shown.1 c.args.id
          c.claim_in-first_claim.result c.claim_in-second_claim.result c.record_in-first_record.result c.record_in-second_record.result
          c.claim_in-first_claim.ensures c.claim_in-second_claim.ensures c.record_in-first_record.ensures.said c.record_in-second_record.ensures.said
          _ _ _ c.epoch_in_both.ensures c.record_in_both.ensures (c.or-damage.ensures ∙ (λ i. option_or (c.damage_in.ensures i) (c.damage_in-2.ensures i)));
      cause = tt;
    }

pub returns-in_err-records-clause-call : goal.returns-in_err-records-clause-call
returns-in_err-records-clause-call g c =
    let first = c.in_ok-claims.ensures in
    let calls = both_read first.calls c.read_both-2.ensures.calls in
    search rules
