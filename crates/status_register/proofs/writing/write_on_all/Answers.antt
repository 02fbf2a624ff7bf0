use Rattle.std.proofs.Common.{◌∙◌, ℕ, List, sym, subst}
use Rattle.asm_formats.specs.Status.{status_spelling}
use Rattle.status_register.specs.Rows.{CallsInOrder}
use Rattle.status_register.specs.Slots.{status_gate}
use Rattle.status_register.proofs.Answered.{all_done, one_dead}
use Rattle.status_register.proofs.writing.write_on_all.Goals as goal

pub returns-in-Some : goal.returns-in-Some
returns-in-Some g c =
    let s = g.B.Bay.state c.args.bay.now in
    let t = g.B.Bay.state c.put_on_all-took.new.bay in
    record {
      done = tt;
      cause = one_dead s t c.args.holders.now c.put_on_all-took.result c.members.result.now
          c.put_on_all-took.ensures.took c.members.ensures.members c.in-Some.member (sym c.first_failed.ensures ∙ c.in-Some.is);
      calls = subst (λ (b : List ℕ). CallsInOrder (status_gate c.args.id) c.args.holders.now b s t) c.body_of-body.ensures c.put_on_all-took.ensures.calls;
    }

pub returns-in-None : goal.returns-in-None
returns-in-None g c =
    let s = g.B.Bay.state c.args.bay.now in
    let t = g.B.Bay.state c.put_on_all-took.new.bay in
    record {
      done = all_done s t c.args.holders.now c.put_on_all-took.result c.members.result.now
          c.put_on_all-took.ensures.took c.members.ensures.members 6 8 c.body_of-body.result.bytes (status_spelling c.args.status.now) c.body_of-body.ensures c.put_on_all-took.ensures.done
          (sym c.first_failed.ensures ∙ c.in-None.is);
      cause = tt;
      calls = subst (λ (b : List ℕ). CallsInOrder (status_gate c.args.id) c.args.holders.now b s t) c.body_of-body.ensures c.put_on_all-took.ensures.calls;
    }
