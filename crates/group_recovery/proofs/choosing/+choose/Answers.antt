use Rattle.std.proofs.Common.{◌-◌, ◌++◌, ◌∙◌, ℕ, List, length, take, drop, get_or, sym, ap, subst, arith}
use Rattle.std.proofs.lemmas.List.{append_assoc}
use Rattle.bay.proofs.Calls.{goes_on, stops}
use Rattle.bay.proofs.Images.{same-trans}
use Rattle.group_recovery.specs.Verdicts.{Chooses, calls_to_survey}
use Rattle.group_recovery.proofs.Choices.{chooses_more, first_and_rest}
use Rattle.group_recovery.proofs.choosing.+choose.Goals as goal

pub returns-clause-calls : goal.returns-clause-calls
returns-clause-calls g t c = omega (
  arith,
  c.judge.ensures.calls,
  c.choose.ensures.calls,
  ap (calls_to_survey c.args.headed.now) (first_and_rest c.args.ids.now c.in-len1-up.len_at_least),
)

pub returns-clause-chosen : goal.returns-clause-chosen
returns-clause-chosen g t c =
    let s = g.B.Bay.state c.args.bay.now in
    let m = g.B.Bay.state c.judge.new.bay in
    let u = g.B.Bay.state c.choose.new.bay in
    let first : ℕ = get_or c.args.ids.now 0 0 in
    let rest = take (length c.args.ids.now - 1) (drop 1 c.args.ids.now) in
    let (own, grows, judged) = c.in_ok-verdict.ensures.judged in
    let (more, further, chooses) = c.in_ok-others.ensures.chosen in (
      own ++ more,
      further ∙ ap (λ (l : List ℕ). l ++ more) grows ∙ append_assoc c.args.unread.now.items own more,
      subst (λ (l : List ℕ). Chooses c.args.headed.now l c.with_verdict.result (own ++ more) s u) (sym (first_and_rest c.args.ids.now c.in-len1-up.len_at_least))
          (chooses_more s m u c.judge.ensures.runs c.choose.ensures.runs c.args.headed.now first rest c.in_ok-verdict.verdict own more c.in_ok-others.others c.with_verdict.result judged chooses c.with_verdict.ensures),
    )

pub returns-clause-runs : goal.returns-clause-runs
returns-clause-runs g t c = goes_on same-trans c.judge.ensures.runs (stops c.judge.ensures.runs) c.choose.ensures.runs
