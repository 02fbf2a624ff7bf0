use Rattle.std.specs.Option.{option_map}
use Rattle.asm_images.specs.Bridge.{shown_block}
use Rattle.std.proofs.Common.{◌≡◌, ◌∙◌, rules}
use Rattle.status_register.specs.Slots.{ShowBoth, first_gate, second_gate}
use Rattle.status_register.proofs.Shown.{same_shown}
use Rattle.status_register.proofs.Telling.{both_read, told_both}
use Rattle.status_register.proofs.bodies.read_both.Goals as goal

pub returns : goal.returns
returns g c =
    let first = rw c.first_gate.ensures.gate at c.in_ok-first.ensures in
    let second = rw c.second_gate.ensures.gate at c.in_ok-second.ensures in
    let one = option_map (λ b. b.bytes) c.in_ok-first.first in
    let other = option_map (λ b. b.bytes) c.in_ok-second.second in
    let pair = c.args.pair in
    let slot = c.args.slot in
    record {
      calls = both_read first.calls second.calls;
      done = told_both first.calls second.calls (λ image. one ≡ shown_block image slot (first_gate pair)) (λ image. other ≡ shown_block image slot (second_gate pair)) (ShowBoth pair slot one other)
          (λ x y same is. is ∙ same_shown slot (second_gate pair) x y (λ k. same.byte slot k)) (λ x p q. record { first = p; second = q }) first.done second.done;
      cause = tt;
    }

pub returns-in_err-second : goal.returns-in_err-second
returns-in_err-second g c =
    let first = rw c.first_gate.ensures.gate at c.in_ok-first.ensures in
    let calls = both_read first.calls c.read_body-2.ensures.calls in
    search rules
