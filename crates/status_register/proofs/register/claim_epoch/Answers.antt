use Rattle.std.proofs.Common.{◌∙◌, ℕ, [], List, None, length, true, replicate, subst, arith}
use Rattle.bay.specs.Calls.{Calls}
use Rattle.asm_formats.specs.Claim.{Claim, claim_spelling}
use Rattle.status_register.specs.Answers.{Surveyed}
use Rattle.status_register.specs.Registered.{KeepsHistory, Registered, next_epoch, all_placed}
use Rattle.status_register.specs.Rows.{PutsRow, cost_of_puts}
use Rattle.status_register.specs.Slots.{claim_gate}
use Rattle.status_register.specs.Tallies.{IsSlotOf}
use Rattle.status_register.specs.declared.member.Member.{Member}
use Rattle.status_register.proofs.Answering.{claim_refused, claim_taken}
use Rattle.status_register.proofs.RowFits.{row_leaves, next_claim_allowed}
use Rattle.status_register.proofs.register.claim_epoch.Given.{Over}
use Rattle.status_register.proofs.register.claim_epoch.Goals.{After-put_on_all-took}
use Rattle.status_register.proofs.register.claim_epoch.Goals as goal

-- the claim is put on the members
calls : (g : Over) (c : After-put_on_all-took g)
    → Calls (IsSlotOf c.args.members) (PutsRow (claim_gate c.args.id) c.args.members (claim_spelling (record { id = c.args.id; epoch = next_epoch c.args.epoch })))
    (cost_of_puts (length c.args.members)) (g.B.Bay.state c.args.bay.now) (g.B.Bay.state c.put_on_all-took.new.bay)
calls g c =
    let s = g.B.Bay.state c.args.bay.now in
    let t = g.B.Bay.state c.put_on_all-took.new.bay in
    let claim : Claim = record { id = c.args.id; epoch = next_epoch c.args.epoch } in
    let bytes = c.encode_claim.ensures ∙ (λ i. claim_spelling (record { id = c.args.id; epoch = c.saturating_add.ensures i })) in
    subst (λ (l : List Member). Calls (IsSlotOf l) (PutsRow (claim_gate c.args.id) l (claim_spelling claim)) (cost_of_puts (length l)) s t) c.members.ensures.members
    (subst (λ (b : List ℕ). Calls (IsSlotOf c.members.result.now) (PutsRow (claim_gate c.args.id) c.members.result.now b) (cost_of_puts (length c.members.result.now)) s t) bytes
    c.put_on_all-took.ensures.row)

-- each image fits the history that it did
history : (g : Over) (c : After-put_on_all-took g)
    → KeepsHistory (record { id = c.args.id; members = c.args.members; read = []; value = c.args.value; epoch = c.args.epoch }) (g.B.Bay.state c.args.bay.now) (g.B.Bay.state c.put_on_all-took.new.bay)
history g c =
    let claim : Claim = record { id = c.args.id; epoch = next_epoch c.args.epoch } in
    λ slots completed begun below before. row_leaves slots c.args.id claim (next_claim_allowed c.args.id c.args.epoch (omega (arith, c.ranges.id.fits))) c.args.members below completed begun (g.met.B.Bay.sound c.args.bay.now) c.requires.slots (calls g c).runs before

pub returns-in-Some : goal.returns-in-Some
returns-in-Some g c =
    let s = g.B.Bay.state c.args.bay.now in
    let t = g.B.Bay.state c.put_on_all-took.new.bay in
    let bytes = c.encode_claim.ensures ∙ (λ i. claim_spelling (record { id = c.args.id; epoch = c.saturating_add.ensures i })) in
    let survey : Surveyed = record { id = c.args.id; members = c.args.members; read = []; value = c.args.value; epoch = c.args.epoch } in
    let place = (goal.at.returns-in-Some g c).After-put_on_all-took in
    record {
      answer = claim_refused s t survey c.members.result.now c.put_on_all-took.result c.members-2.result.now _ c.missing.result c.put_on_all-took.ensures.took c.members.ensures.members c.put_on_all-took.ensures.done bytes
          c.missing.ensures c.members-2.ensures.members c.in-Some.seen c.in-Some.need c.in-Some.is;
      calls = calls g place;
      history = history g place;
      small = omega (arith, c.ranges.id.fits);
    }

pub returns-in-None : goal.returns-in-None
returns-in-None g c =
    let s = g.B.Bay.state c.args.bay.now in
    let t = g.B.Bay.state c.put_on_all-took.new.bay in
    let bytes = c.encode_claim.ensures ∙ (λ i. claim_spelling (record { id = c.args.id; epoch = c.saturating_add.ensures i })) in
    let survey : Surveyed = record { id = c.args.id; members = c.args.members; read = []; value = c.args.value; epoch = c.args.epoch } in
    let places = c.by_number.ensures.places ∙ (λ i. all_placed (c.entries.ensures.entries i) (replicate 64 None) (c.members-in-None.ensures.members i)) in
    let register : Registered = record { id = c.args.id; members = c.by_number.result; value = c.args.value; epoch = c.saturating_add.result; turn = 0; is_fresh = true } in
    let place = (goal.at.returns-in-None g c).After-put_on_all-took in
    record {
      answer = claim_taken s t survey c.members.result.now c.put_on_all-took.result c.members-2.result.now _ c.missing.result c.put_on_all-took.ensures.took c.members.ensures.members c.put_on_all-took.ensures.done bytes
          c.missing.ensures c.members-2.ensures.members register c.in-None.is
          (λ i. record { id = c.args.id; members = places i; value = c.args.value; epoch = c.saturating_add.ensures i; turn = 0; is_fresh = true });
      calls = calls g place;
      history = history g place;
      small = omega (arith, c.ranges.id.fits);
    }
