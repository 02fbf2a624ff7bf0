use Rattle.asm_base.proofs.records.Records.insert.Goals as goal

pub returns-in-Ok-clause-updates : goal.returns-in-Ok-clause-updates
returns-in-Ok-clause-updates c = λ k. rw (← c.self.view_is) (c.in-Ok.ensures.updates.0 k)
