use Rattle.std.proofs.Common.{◌∙◌, ℕ, List, [], None, length, sym, subst, refl, arith}
use Rattle.bay.specs.Calls.{Calls}
use Rattle.asm_formats.specs.Claim.{Claim, claim_spelling}
use Rattle.status_register.specs.Rows.{PutsRow, cost_of_puts}
use Rattle.status_register.specs.Slots.{claim_gate}
use Rattle.status_register.specs.Tallies.{IsSlotOf}
use Rattle.status_register.proofs.Answered.{all_done, one_dead}
use Rattle.status_register.proofs.FirstClaims.{claims_leave, may_be_first}
use Rattle.status_register.proofs.RowFits.{claim_allowed}
use Rattle.status_register.specs.Keeping.{KeepsNoRecord}
use Rattle.status_register.proofs.claiming.claim_first.Given.{Over}
use Rattle.status_register.proofs.claiming.claim_first.Goals.{After-put_on_all-took}
use Rattle.status_register.proofs.claiming.claim_first.Goals as goal

-- the claim is put on the members
calls : (g : Over) (c : After-put_on_all-took g)
    → Calls (IsSlotOf c.args.members.now) (PutsRow (claim_gate c.args.id) c.args.members.now (claim_spelling (record { id = c.args.id; epoch = c.args.epoch })))
    (cost_of_puts (length c.args.members.now)) (g.B.Bay.state c.args.bay.now) (g.B.Bay.state c.put_on_all-took.new.bay)
calls g c =
    let s = g.B.Bay.state c.args.bay.now in
    let t = g.B.Bay.state c.put_on_all-took.new.bay in
    let ms = c.args.members.now in
    subst (λ (b : List ℕ). Calls (IsSlotOf ms) (PutsRow (claim_gate c.args.id) ms b) (cost_of_puts (length ms)) s t) c.encode_claim.ensures c.put_on_all-took.ensures.row

-- each image has no record of the group, as before
moments : (g : Over) (c : After-put_on_all-took g) → KeepsNoRecord c.args.id c.args.members.now (g.B.Bay.state c.args.bay.now) (g.B.Bay.state c.put_on_all-took.new.bay)
moments g c =
    let s = g.B.Bay.state c.args.bay.now in
    let t = g.B.Bay.state c.put_on_all-took.new.bay in
    let claim : Claim = record { id = c.args.id; epoch = c.args.epoch } in
    let allowed = claim_allowed c.args.id c.args.epoch (omega (arith, c.ranges.id.fits)) (omega (arith, c.ranges.epoch.fits)) in
    λ slots before. claims_leave s t (g.met.B.Bay.sound c.args.bay.now) c.args.id claim allowed c.args.members.now c.requires.slots (calls g c).runs slots None [] before

pub returns-in-Some : goal.returns-in-Some
returns-in-Some g c =
    let place = (goal.at.returns-in-Some g c).After-put_on_all-took in
    record {
      done = tt;
      cause = one_dead (g.B.Bay.state c.args.bay.now) (g.B.Bay.state c.put_on_all-took.new.bay) c.args.members.now c.put_on_all-took.result c.members.result.now
          c.put_on_all-took.ensures.took c.members.ensures.members c.in-Some.member (sym c.first_failed.ensures ∙ c.in-Some.is);
      calls = calls g place;
      moments = moments g place;
      kept = tt;
    }

pub returns-in-None : goal.returns-in-None
returns-in-None g c =
    let s = g.B.Bay.state c.args.bay.now in
    let t = g.B.Bay.state c.put_on_all-took.new.bay in
    let claim : Claim = record { id = c.args.id; epoch = c.args.epoch } in
    let place = (goal.at.returns-in-None g c).After-put_on_all-took in
    let allowed = claim_allowed c.args.id c.args.epoch (omega (arith, c.ranges.id.fits)) (omega (arith, c.ranges.epoch.fits)) in
    let done = all_done s t c.args.members.now c.put_on_all-took.result c.members.result.now
    c.put_on_all-took.ensures.took c.members.ensures.members 2 4 _ (claim_spelling claim) c.encode_claim.ensures c.put_on_all-took.ensures.done (sym c.first_failed.ensures ∙ c.in-None.is) in
    record {
      done = done;
      cause = tt;
      calls = calls g place;
      moments = moments g place;
      kept = λ slots r of_group of_epoch enough before.
          may_be_first s t (g.met.B.Bay.sound c.args.bay.now) c.args.id claim allowed c.args.members.now c.requires.slots (calls g place).runs refl done slots r of_group of_epoch enough before;
    }
