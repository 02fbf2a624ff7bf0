use Rattle.std.proofs.Common.{◌≤◌, ◌∙◌, ⊎_elim, ℕ, sym, subst, rules, arith}
use Rattle.std.specs.Option.{option_map}
use Rattle.bay.proofs.OneCall.{of_parts}
use Rattle.status_register.specs.Slots.{next_gate, other_gate}
use Rattle.status_register.proofs.Shown.{next_gate_is, same_next_gate}
use Rattle.status_register.proofs.Telling.{both_read, gate_found}
use Rattle.status_register.proofs.gates.next_gate.Goals as goal

pub returns-clause-small : goal.returns-clause-small
returns-clause-small g c = ⊎_elim
    (λ is. subst (λ (k : ℕ). k ≤ 8) (sym is) c.first_gate.ensures.small)
    (λ is. subst (λ (k : ℕ). k ≤ 8) (sym is) c.second_gate.ensures.small)
    c.other_gate.ensures.one

pub returns-clause-call : goal.returns-clause-call
returns-clause-call g c =
    let pair = c.args.pair in
    let id = c.args.id in
    let slot = c.args.slot in
    let synced = of_parts 1 0 c.sync.ensures.attached (omega arith) (omega arith) c.sync.ensures.runs in
    let calls = both_read synced c.read_both.ensures.calls in
    let one = option_map (λ b. b.bytes) c.in_ok-first.first in
    let other = option_map (λ b. b.bytes) c.in_ok-first.second in
    record {
      calls = calls;
      done = gate_found (g.B.Bay.state c.sync.new.self) (g.B.Bay.state c.read_both.new.bay) (next_gate pair id slot) c.other_gate.result (same_next_gate pair id slot) c.read_both.ensures.calls.runs
          (λ now holds image was. next_gate_is pair id slot image one other (c.in_ok-first.ensures.done now holds image was)
          ∙ (sym (λ i. other_gate (c.first_gate.ensures.gate i) (c.second_gate.ensures.gate i) (c.number_in.ensures i) (c.number_in-2.ensures i)) ∙ sym c.other_gate.ensures.gate))
          (g.met.B.Bay.sound c.read_both.new.bay) c.in_ok-sync.ensures.done calls.runs;
      cause = tt;
    }

pub returns-in_err-first-clause-call : goal.returns-in_err-first-clause-call
returns-in_err-first-clause-call g c =
    let synced = of_parts 1 0 c.sync.ensures.attached (omega arith) (omega arith) c.sync.ensures.runs in
    let calls = both_read synced c.read_both.ensures.calls in
    search rules
