use Rattle.std.proofs.Common.{inr, sym, subst}
use Rattle.bay.specs.Counts.{Rose}
use Rattle.asm_group.specs.Names.{Bytes}
use Rattle.file_commands.specs.HostCauses.{HostFaultCause, IsAt}
use Rattle.file_commands.proofs.copying.host_refusal.Goals as goal

pub returns-in-Fault : goal.returns-in-Fault
returns-in-Fault c = record {
  cause = λ s t rose. subst (λ (p : Bytes). HostFaultCause (IsAt p) s t c.host_fault.result) c.as_bytes.ensures.value (c.host_fault.ensures.cause s t (inr (subst (λ (p : Bytes). Rose (s p) (t p)) (sym c.as_bytes.ensures.value) (rose c.in-Fault.is))));
}
