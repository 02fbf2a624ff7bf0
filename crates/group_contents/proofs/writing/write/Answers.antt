use Rattle.std.proofs.Common.{inl, inr, length, refl}
use Rattle.file_extents.proofs.Chains.{kept}
use Rattle.group_contents.proofs.Chains.{shut_writes, write_opened}
use Rattle.group_contents.proofs.Written.{not_shut, nothing_written, span_written}
use Rattle.group_contents.proofs.writing.write.Goals as goal

pub returns-in-Err-clause-keeps : goal.returns-in-Err-clause-keeps
returns-in-Err-clause-keeps g c = kept c.args.m.now (g.B.Bay.state c.args.bay.now) c.requires.takes

pub returns-in-Err-clause-cause : goal.returns-in-Err-clause-cause
returns-in-Err-clause-cause g c = inr (shut_writes c.args.m.now (g.B.Bay.state c.args.bay.now) c.in-Err.refusal c.in-Err.ensures.cause)

pub returns-in-Ok-open_span-clause-cause : goal.returns-in-Ok-open_span-clause-cause
returns-in-Ok-open_span-clause-cause g c =
    write_opened c.args.m.now c.args.path.now.parts c.args.at (length c.args.bytes.now) c.write_span.new.m (g.B.Bay.state c.args.bay.now) (g.B.Bay.state c.write_span.new.bay) c.write_span.result c.write_span.ensures.cause

pub returns-in-Err-open_span-clause-keeps : goal.returns-in-Err-open_span-clause-keeps
returns-in-Err-open_span-clause-keeps g c = kept c.args.m.now (g.B.Bay.state c.args.bay.now) c.requires.takes

pub returns-in-Err-open_span-clause-cause : goal.returns-in-Err-open_span-clause-cause
returns-in-Err-open_span-clause-cause g c = inl c.in-Err-open_span.ensures.cause

pub returns-in-Err-clause-does : goal.returns-in-Err-clause-does
returns-in-Err-clause-does g c = λ mounted. absurd (not_shut c.args.m.now c.in-Err.refusal mounted c.in-Err.ensures.cause)

pub returns-in-Err-open_span-clause-does : goal.returns-in-Err-open_span-clause-does
returns-in-Err-open_span-clause-does g c = λ mounted.
    nothing_written c.args.m.now c.args.path.now.parts c.args.at (length c.args.bytes.now) c.args.bytes.now refl (g.B.Bay.state c.args.bay.now) c.in-Err-open_span.refusal (inl c.in-Err-open_span.ensures.cause)

pub returns-in-Ok-open_span-clause-does : goal.returns-in-Ok-open_span-clause-does
returns-in-Ok-open_span-clause-does g c = λ mounted.
    span_written c.args.m.now c.args.path.now.parts c.args.at (length c.args.bytes.now) c.args.bytes.now refl c.write_span.new.m (g.B.Bay.state c.args.bay.now) (g.B.Bay.state c.write_span.new.bay)
    c.in-Ok-open_span.file c.write_span.result c.in-Ok-open_span.ensures.opened c.in-Ok-open_span.ensures.span c.write_span.ensures.held c.write_span.ensures.cause
