use Rattle.std.proofs.Common.{sym, ◌∙◌, inl, inr, ap, arith}
use Rattle.std.specs.Option.{option_map}
use Rattle.asm_grammar.proofs.Times.{Cut, refused_count, given_time, refused_unit}
use Rattle.asm_grammar.proofs.words.minutes.Goals as goal

pub returns-then-len-eq0 : goal.returns-then-len-eq0
returns-then-len-eq0 c = refused_count c.args.place.rest.now _ _ _ _ _ c.split_run.ensures.rest c.split_run-2.ensures.front c.count_prefix-len.ensures.len
    (elim c.then-len-eq0.either [ inl e ↦ inl e | inr p ↦ inr p.1 ]) c.missed.ensures.left

pub returns-in-Some : goal.returns-in-Some
returns-in-Some c =
    let u : Cut c.args.place.rest.now c.split_run.result.1.now c.split_run-2.result.0.now c.split_run-2.result.1.now c.split_run-3.result.0.now c.split_run-3.result.1.now =
    record { text_is = c.split_run.ensures.rest; digits_is = c.split_run-2.ensures.front; after_is = c.split_run-2.ensures.rest; blanks_is = c.split_run-3.ensures.front; behind_is = c.split_run-3.ensures.rest } in
    let z = c.if-len-eq0.false in let all = c.if-len-digits.false in
    given_time _ _ _ _ _ _ _ _ _ _ _ u c.count_prefix-len.ensures.len c.count_prefix-len.ensures.value (omega arith) all
    (sym c.judge_unit-near.ensures.says ∙ ap (option_map _) c.in-Some.is)

pub returns-in-None : goal.returns-in-None
returns-in-None c =
    let u : Cut c.args.place.rest.now c.split_run.result.1.now c.split_run-2.result.0.now c.split_run-2.result.1.now c.split_run-3.result.0.now c.split_run-3.result.1.now =
    record { text_is = c.split_run.ensures.rest; digits_is = c.split_run-2.ensures.front; after_is = c.split_run-2.ensures.rest; blanks_is = c.split_run-3.ensures.front; behind_is = c.split_run-3.ensures.rest } in
    let z = c.if-len-eq0.false in let all = c.if-len-digits.false in
    refused_unit _ _ _ _ _ _ _ _ _ _ _ u c.count_prefix-len.ensures.len c.count_prefix-len.ensures.value (omega arith) all c.judge_unit-near.ensures.near
    (sym c.judge_unit-near.ensures.says ∙ ap (option_map _) c.in-None.is) c.missed-in-None.ensures.left
