use Rattle.std.proofs.Common.{◌∙◌, ap}
use Rattle.asm_formats.specs.Status.{Status}
use Rattle.asm_formats.specs.Following.{sets}
use Rattle.store_tests.proofs.registers.trials.write.Goals as goal

pub write-requires-clause-group : goal.write-requires-clause-group
write-requires-clause-group g c = ap (λ (r : Status). r.id) c.with_births-next.ensures ∙ ap (λ (r : Status). r.id) c.value.ensures

pub write-requires-clause-follows : goal.write-requires-clause-follows
write-requires-clause-follows g c =
    c.same_sets_follow.ensures c.args.register.now.value c.with_births-next.result (ap sets c.with_births-next.ensures ∙ ap (λ (r : Status). sets r) c.value.ensures)

pub write-requires-clause-fresh : goal.write-requires-clause-fresh
write-requires-clause-fresh g c = λ fresh. ap sets c.with_births-next.ensures ∙ ap (λ (r : Status). sets r) c.value.ensures

pub write-requires-clause-majority : goal.write-requires-clause-majority
write-requires-clause-majority g c = c.reaches.ensures.0 c.if-not-reaches.false
