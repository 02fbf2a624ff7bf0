-- What is ready to be written.
use Rattle.std.specs.Prelude.{◌≡◌, ℕ, ◌*◌, ◌≤◌, ⊤, Some}
use Rattle.bay.specs.State.{BayState}
use Rattle.bay.specs.Counts.{Rose}
use Rattle.asm_group.specs.Names.{Bytes}
use Rattle.asm_group.specs.Refusal as r
use Rattle.mounted_groups.specs.Found.{Counts}
use Rattle.mounted_groups.specs.Planned.{Plan, header_body, claim_body, status_body}
use Rattle.mounted_groups.specs.declared.new_group.Bodies.{Bodies}

-- the disk of the slot is attached, and has so many units of 1 MB
pub record HasRoom (slot units : ℕ) (state : BayState) : Type 0 where
  pub size : ℕ
  pub attached : state.attached slot ≡ Some size
  pub inside : units * 1048576 ≤ size

-- the bodies are those of the plan
pub record AreBodies (bodies : Bodies) (plan : Plan) : Type 0 where
  pub header : bodies.header.bytes ≡ header_body plan
  pub claim : bodies.claim.bytes ≡ claim_body plan
  pub status : bodies.status.bytes ≡ status_body plan

-- the disk failed, or there was no memory
abbrev pub IsFormFault : ℕ → Bytes → r.Refusal → Counts → Counts → Type 0
IsFormFault slot disk (r.WriteFault text) s t = (text ≡ disk) × Rose (s.faults slot) (t.faults slot)
IsFormFault slot disk r.NoMemory s t = ⊤
IsFormFault slot disk other s t = ⊥
