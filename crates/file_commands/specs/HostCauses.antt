-- Why cp is refused as HostFault.
use Rattle.std.specs.Prelude.{◌≡◌, ◌⊎◌, ⊤, ℕ, ◌≤◌, true}
use Rattle.std.specs.Str.{IsUtf8}
use Rattle.bay.specs.Counts.{Rose}
use Rattle.refusal_lines.specs.declared.refusal.Refusal.{Refusal}
use Rattle.refusal_lines.specs.declared.refusal.Refusal.TheVariants as cause
use Rattle.asm_group.specs.Names.{Bytes}
use Rattle.asm_world.specs.Paths.{is_host_path}
use Rattle.file_commands.specs.declared.copying.Source.{Source}
use Rattle.file_commands.specs.declared.copying.Source.TheVariants as source
use Rattle.session.specs.declared.reply.Reply.{Reply}
use Rattle.session.specs.declared.reply.Reply.TheVariants as reply

-- how often calls of the host failed on each path
abbrev pub Faults : Type 0
Faults = Bytes → ℕ

-- no count falls
abbrev pub NoneFalls : Faults → Faults → Type 0
NoneFalls s t = (path : Bytes) → s path ≤ t path

-- the path is no text, or a call of the host on it failed
abbrev pub FailsAt : Faults → Faults → Bytes → Type 0
FailsAt s t path = (IsUtf8 path → ⊥) ⊎ Rose (s path) (t path)

-- HostFault names a path of which P is true, and which is no text or failed. Every other refusal is free.
abbrev pub HostFaultCause : (Bytes → Type 0) → Faults → Faults → Refusal → Type 0
HostFaultCause P s t (cause.HostFault path) = P path × FailsAt s t path
HostFaultCause P s t other = ⊤

-- it is any other refusal
abbrev pub IsNoHostFault : Refusal → Type 0
IsNoHostFault (cause.HostFault path) = ⊥
IsNoHostFault other = ⊤

-- ---- the paths

-- it is this path
abbrev pub IsAt : Bytes → Bytes → Type 0
IsAt path at = at ≡ path

-- it is this path, which is one of the host
abbrev pub IsHostAt : Bytes → Bytes → Type 0
IsHostAt path at = (at ≡ path) × (is_host_path path ≡ true)

-- it is that of the source
abbrev pub IsOfSource : Source → Bytes → Type 0
IsOfSource (source.Host path) at = at ≡ path.now
IsOfSource (source.File group opened) at = ⊥

-- where the source is a file of the host, P is true of its path
abbrev pub WhereOfHost : (Bytes → Type 0) → Source → Type 0
WhereOfHost P (source.Host path) = P path.now
WhereOfHost P (source.File group opened) = ⊤

-- it is that of the source, or the target, which is one of the host
abbrev pub IsCopied : Source → Bytes → Bytes → Type 0
IsCopied from to at = IsOfSource from at ⊎ IsHostAt to at

-- it is one of the two operands, which is one of the host
abbrev pub IsHostOperand : Bytes → Bytes → Bytes → Type 0
IsHostOperand from to at = IsHostAt from at ⊎ IsHostAt to at

-- ---- the cause

-- HostFault comes only at an operand that is a path of the host, and is no text or failed in a call of the host.
abbrev pub HostCause : Bytes → Bytes → Faults → Faults → Refusal → Type 0
HostCause from to s t refusal = HostFaultCause (IsHostOperand from to) s t refusal

-- the same of what is answered
abbrev pub HostReply : Bytes → Bytes → Faults → Faults → Reply → Type 0
HostReply from to s t (reply.Done lines) = ⊤
HostReply from to s t (reply.Refused refusal) = HostCause from to s t refusal
HostReply from to s t (reply.RefusedAfter lines refusal) = HostCause from to s t refusal
