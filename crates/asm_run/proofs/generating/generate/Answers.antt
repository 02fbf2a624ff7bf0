use Rattle.std.proofs.Common.{◌∙◌, sym, inr, ap, map}
use Rattle.std.proofs.lemmas.List.{length-map}
use Rattle.std.specs.String.{string_bytes}
use Rattle.asm_world.specs.Generator.{generated_script}
use Rattle.serving.specs.session.Quiet.{quiet}
use Rattle.serving.specs.session.Sessions.{Knows}
use Rattle.serving.proofs.session.Below.{first_below}
use Rattle.serving.proofs.session.Knowing.{first_told}
use Rattle.asm_run.proofs.Reporting.{first_roster, generated-none, generated-of}
use Rattle.asm_run.proofs.Wording.{not_read_fault, not_usage}
use Rattle.asm_run.proofs.generating.generate.Goals as goal

pub returns-in-Ok-clause-transcript : goal.returns-in-Ok-clause-transcript
returns-in-Ok-clause-transcript g c = λ w first.
    let new = c.new-program.ensures in
    let knows : Knows c.new-program.result.desk.session w quiet = record { entries_are = rw new.session.0 first.no_entries; place_is = rw new.place first.at_top; below_is = first_below c.new-program.result.desk.session.entries c.new-program.result.desk.session.groups new.session.0; told = λ lengths. first_told w first.no_entries c.new-program.result.desk.session.groups } in
    let s = c.serve-outcome.ensures.serves w quiet 0 knows in
    let served = rw (new.marks, new.refused, new.manner, new.bay, new.sink, new.clock, new.paths) at s.serves in
    rw (c.ended.ensures.outside.0, c.ended.ensures.outside.1, c.ended.ensures.outside.2) (generated-of _ c.args.number _ c.serve-outcome.result _ _ _ _ _ _ _ _ _ _ _ _ _ _ _ _ _ _ c.serve-outcome.new.self.refused _ (g.met.B.Bay.sound c.args.bay) first.no_entries (first_roster c.new-program.result.desk.session new.groups new.session.1)
    c.ended.ensures.status c.ended.ensures.marks s.rests (length-map _ string_bytes ∙ c.requires.four) c.requires.unquoted
    (c.in-Ok.ensures ∙ ap (λ images. generated_script c.args.number (map string_bytes images)) c.deref.ensures.value) served)

pub returns-in-Ok-clause-taken : goal.returns-in-Ok-clause-taken
returns-in-Ok-clause-taken g c = (
  λ two. not_usage c.serve-outcome.result c.serve-outcome.new.self.refused (sym c.ended.ensures.status ∙ two),
  λ three. not_read_fault c.serve-outcome.result c.serve-outcome.new.self.refused c.serve-outcome.ensures.input.failed (sym c.ended.ensures.status ∙ three),
)

pub returns-in-Err-clause-transcript : goal.returns-in-Err-clause-transcript
returns-in-Err-clause-transcript g c = λ w first.
    let done = c.nothing_done.ensures in
    rw (done.outside.0, done.outside.1, done.outside.2) (generated-none _ c.args.number _ _ _ _ _ _ w (g.met.B.Bay.sound c.args.bay) first.no_entries (inr done.status) done.marks)
