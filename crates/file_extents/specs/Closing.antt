-- How a call ends behind a commit.
use Rattle.std.specs.Prelude.{◌≡◌, Result, Err}
use Rattle.refusal_lines.specs.declared.refusal.Refusal.{Refusal}
use Rattle.refusal_lines.specs.declared.refusal.Refusal.TheVariants as cause
use Rattle.group_pieces.specs.group_engine.Making.{access_after_closing}
use Rattle.group_pieces.specs.group_engine.Mounts.{MountedGroup}

-- the group takes no more calls
abbrev pub shut_group : MountedGroup → MountedGroup
shut_group m = record m { access = access_after_closing m.access }

-- the group that a step with this answer leaves: after want of memory it takes no more calls
abbrev pub or_shut : Result (Unit {0}) Refusal → MountedGroup → MountedGroup
or_shut (Err cause.NoMemory) m = shut_group m
or_shut _ m = m

-- the answer stays, and after want of memory the group takes no more calls
abbrev pub IsOrShut : Result (Unit {0}) Refusal → MountedGroup → Result (Unit {0}) Refusal → MountedGroup → Type 0
IsOrShut answer old result new = (result ≡ answer) × (new ≡ or_shut answer old)
