use Rattle.std.proofs.Common.{◌∙◌, refl}
use Rattle.rebalance.proofs.Passing.{all_in_turn, both_none, none_on}
use Rattle.rebalance.proofs.next.all_said.Goals as goal

pub returns-clause-said : goal.returns-clause-said
returns-clause-said c =
    all_in_turn _ _ _ _ _ _ _ _ _ _ _ _ _ _ c.or_said-recopy.ensures.said c.or_said-fill.ensures.said c.or_said-shift.ensures.said c.or_tables-tables.ensures c.or_said-lost.ensures.said c.or_said-no_space.ensures.said
    c.or_said.ensures.said

pub returns-clause-gone_on : goal.returns-clause-gone_on
returns-clause-gone_on c = record {
  work = record {
    recopy = c.or_said-recopy.ensures.place refl;
    fill = λ r. c.or_said-fill.ensures.place (c.or_said-recopy.ensures.said ∙ r);
    shift = λ r f. c.or_said-shift.ensures.place (none_on _ _ _ c.or_said-fill.ensures.said (c.or_said-recopy.ensures.said ∙ r) f);
  };
  rest = λ w t.
      let r = both_none _ _ w in
      let f = both_none _ _ r.1 in
      let fill = none_on _ _ _ c.or_said-fill.ensures.said (c.or_said-recopy.ensures.said ∙ r.0) f.0 in
      let shift = none_on _ _ _ c.or_said-shift.ensures.said fill f.1 in
      let tables = none_on _ _ _ c.or_tables-tables.ensures shift t in
      record {
        lost = c.or_said-lost.ensures.place tables;
        no_space = λ l. c.or_said-no_space.ensures.place (none_on _ _ _ c.or_said-lost.ensures.said tables l);
        balance = λ l n. c.or_said.ensures.place (none_on _ _ _ c.or_said-no_space.ensures.said (none_on _ _ _ c.or_said-lost.ensures.said tables l) n);
      };
}
