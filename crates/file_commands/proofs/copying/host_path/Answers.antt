use Rattle.std.proofs.Common.{inl}
use Rattle.file_commands.proofs.copying.host_path.Goals as goal

pub returns-in-Err-clause-cause : goal.returns-in-Err-clause-cause
returns-in-Err-clause-cause c = λ s t. c.host_fault.ensures.cause s t (inl c.in-Err.ensures.cases.0)
