use Rattle.asm_base.proofs.records.Records.remove.Goals as goal

pub returns-clause-updates : goal.returns-clause-updates
returns-clause-updates c = λ k. rw (← c.self.view_is) (c.remove.ensures.updates.0 k)
