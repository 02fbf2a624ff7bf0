use Rattle.std.proofs.Common.{◌∙◌, sym, ap, length, ℕ, rules, arith}
use Rattle.std.proofs.lemmas.List.{length-replicate}
use Rattle.bay.proofs.OneCall.{of_parts}
use Rattle.status_register.proofs.Shown.{open_body}
use Rattle.status_register.proofs.Telling.{both_read}
use Rattle.status_register.proofs.bodies.read_body.Goals as goal

pub returns : goal.returns
returns g c =
    let s = g.B.Bay.state c.args.bay.now in
    let m = g.B.Bay.state c.is_open.new.bay in
    let t = g.B.Bay.state c.read.new.self in
    record {
      calls = both_read c.is_open.ensures.call.calls (of_parts 1 0 c.read.ensures.attached (omega arith) (omega arith) c.read.ensures.runs);
      done = open_body c.args.slot c.args.gate c.args.sector s m t c.read.new.buf _ (ap length c.zeros-block.ensures ∙ length-replicate {A = ℕ} 4096 0)
          (λ image was. sym c.if-not-branch.false ∙ (rw c.place_at.ensures at c.in_ok-is_open.ensures.call.done) image was)
          c.is_open.ensures.call.calls.runs c.read.ensures.runs c.in_ok-read.ensures.done;
      cause = tt;
    }

pub returns-in_err-read : goal.returns-in_err-read
returns-in_err-read g c =
    let calls = both_read c.is_open.ensures.call.calls (of_parts 1 0 c.read.ensures.attached (omega arith) (omega arith) c.read.ensures.runs) in
    search rules
