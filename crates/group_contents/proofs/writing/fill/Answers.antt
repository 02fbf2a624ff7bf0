use Rattle.std.proofs.Common.{inl, inr, min, refl, replicate, ◌∙◌}
use Rattle.std.proofs.lemmas.List.{length-replicate}
use Rattle.refusal_lines.specs.declared.refusal.Refusal.TheVariants as cause
use Rattle.file_extents.proofs.Chains.{kept}
use Rattle.group_contents.proofs.Chains.{shut_writes, write_opened}
use Rattle.group_contents.proofs.Rounds.{all_alike}
use Rattle.group_contents.proofs.Written.{not_shut, nothing_written, span_written}
use Rattle.group_contents.proofs.writing.fill.Goals as goal

pub returns-in-Err-clause-keeps : goal.returns-in-Err-clause-keeps
returns-in-Err-clause-keeps g c = kept c.args.m.now (g.B.Bay.state c.args.bay.now) c.requires.takes

pub returns-in-Err-clause-cause : goal.returns-in-Err-clause-cause
returns-in-Err-clause-cause g c = inr (shut_writes c.args.m.now (g.B.Bay.state c.args.bay.now) c.in-Err.refusal c.in-Err.ensures.cause)

pub returns-in-Err-open_span-clause-keeps : goal.returns-in-Err-open_span-clause-keeps
returns-in-Err-open_span-clause-keeps g c = kept c.args.m.now (g.B.Bay.state c.args.bay.now) c.requires.takes

pub returns-in-Err-open_span-clause-cause : goal.returns-in-Err-open_span-clause-cause
returns-in-Err-open_span-clause-cause g c = inl c.in-Err-open_span.ensures.cause

pub returns-in-Ok-buffer-clause-cause : goal.returns-in-Ok-buffer-clause-cause
returns-in-Ok-buffer-clause-cause g c =
    write_opened c.args.m.now c.args.path.now.parts c.args.at c.args.len c.fill_span-answer.new.m (g.B.Bay.state c.args.bay.now) (g.B.Bay.state c.fill_span-answer.new.bay) c.fill_span-answer.result
    c.fill_span-answer.ensures.cause

pub returns-in-Err-buffer-clause-keeps : goal.returns-in-Err-buffer-clause-keeps
returns-in-Err-buffer-clause-keeps g c = kept c.args.m.now (g.B.Bay.state c.args.bay.now) c.requires.takes

pub returns-in-Err-clause-does : goal.returns-in-Err-clause-does
returns-in-Err-clause-does g c = λ mounted. absurd (not_shut c.args.m.now c.in-Err.refusal mounted c.in-Err.ensures.cause)

pub returns-in-Err-open_span-clause-does : goal.returns-in-Err-open_span-clause-does
returns-in-Err-open_span-clause-does g c = λ mounted.
    nothing_written c.args.m.now c.args.path.now.parts c.args.at c.args.len (replicate c.args.len c.args.byte) (length-replicate c.args.len c.args.byte) (g.B.Bay.state c.args.bay.now)
    c.in-Err-open_span.refusal (inl c.in-Err-open_span.ensures.cause)

pub returns-in-Err-buffer-clause-does : goal.returns-in-Err-buffer-clause-does
returns-in-Err-buffer-clause-does g c = λ mounted.
    nothing_written c.args.m.now c.args.path.now.parts c.args.at c.args.len (replicate c.args.len c.args.byte) (length-replicate c.args.len c.args.byte) (g.B.Bay.state c.args.bay.now) cause.NoMemory (inr refl)

pub returns-in-Ok-buffer-clause-does : goal.returns-in-Ok-buffer-clause-does
returns-in-Ok-buffer-clause-does g c = λ mounted.
    span_written c.args.m.now c.args.path.now.parts c.args.at c.args.len (replicate c.args.len c.args.byte) (length-replicate c.args.len c.args.byte) c.fill_span-answer.new.m
    (g.B.Bay.state c.args.bay.now) (g.B.Bay.state c.fill_span-answer.new.bay) c.in-Ok-open_span.file c.fill_span-answer.result c.in-Ok-open_span.ensures.opened c.in-Ok-open_span.ensures.span
    (c.fill_span-answer.ensures.held c.args.byte (all_alike (min c.args.len 1048576) c.args.byte c.deref.result.now (c.deref.ensures.value ∙ c.in-Ok-buffer.ensures))) c.fill_span-answer.ensures.cause
