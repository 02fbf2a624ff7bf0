-- Whether enough disks are attached for a record.
use Rattle.std.specs.Prelude.{◌≡◌, List, Option, Some, None}
use Rattle.asm_formats.specs.Following.{sets}
use Rattle.asm_formats.specs.Status.{Status}
use Rattle.status_register.specs.Holders.{attached_to}
use Rattle.status_register.specs.Surveys.{missing}
use Rattle.status_register.specs.declared.member.Member.{Member}

-- a majority of each set of the record is attached
abbrev pub Reaches : List (Option Member) → Status → Type 0
Reaches places r = missing (attached_to places r) (Some r) ≡ None

-- A record with the same sets is reached too.
abbrev pub SameSetsReach : Type 0
SameSetsReach = (places : List (Option Member)) (r s : Status) → sets s ≡ sets r → Reaches places r → Reaches places s
