-- The header and the status record of a new group are allowed.
use Rattle.std.proofs.Common.{◌≡◌, true, false, sym, subst}
use Rattle.asm_group.specs.Names.{Bytes}
use Rattle.asm_formats.specs.Header.{Header, is_header}
use Rattle.mounted_groups.specs.Creating.{usual_shape}
use Rattle.mounted_groups.specs.Planned.{Plan, IsGroupPlan, header_of_plan}
use Rattle.mounted_groups.proofs.FirstBodies.{header_ok}

-- with copies of the names
pub header_right : (group disk failgroup : Bytes) (q plan : Plan) → q ≡ plan → group ≡ q.name → disk ≡ q.disk → failgroup ≡ q.disk → IsGroupPlan plan
    → is_header (record { group = group; id = q.id; number = 0; birth = 1; disk = disk; failgroup = failgroup; quorum = false; shape = usual_shape }) ≡ true
header_right group disk failgroup q plan same is_group is_disk is_failgroup is =
    subst (λ (h : Header). is_header h ≡ true) (sym all) (subst (λ (p : Plan). is_header (header_of_plan p) ≡ true) (sym same) (header_ok plan is))
  where
    all : record { group = group; id = q.id; number = 0; birth = 1; disk = disk; failgroup = failgroup; quorum = false; shape = usual_shape } ≡ header_of_plan q
    all = λ i. record { group = is_group i; id = q.id; number = 0; birth = 1; disk = is_disk i; failgroup = is_failgroup i; quorum = false; shape = usual_shape }
