-- Worked values of these definitions, which are computed.
use Rattle.std.specs.Prelude.{◌≡◌, ℕ, Bool, true, false, List, [], ◌∷◌, map, codes}
use Rattle.asm_group.specs.declared.GroupKind.TheVariants.{External, Normal, High}
use Rattle.asm_group.specs.Names.{is_name, is_part, is_same_name}
use Rattle.asm_group.specs.Group.{Template}
use Rattle.asm_group.specs.NewGroup.{system_templates}
use Rattle.asm_group.specs.Refusal.{NoSpace, TooSmall, TooMany, Groups, HoldsStatus, DiskTaken, refusal_line}

pub record NameRows : Type 0 where
  pub cases : is_same_name (codes "Data_1") (codes "DATA_1") ≡ true
  pub others : is_same_name (codes "data") (codes "datb") ≡ false
  pub thirty_bytes : is_name (codes "G23456789012345678901234567890") ≡ true
  pub thirty_one : is_name (codes "G234567890123456789012345678901") ≡ false
  pub digit_first : is_name (codes "1data") ≡ false
  pub part : is_part 80 (codes "u.256.1") ≡ true
  pub point_alone : is_part 80 (codes ".") ≡ false

pub record TemplateRows : Type 0 where
  pub copies_in_normal : map (λ (t : Template). t.copies) (system_templates Normal) ≡ 2 ∷ 2 ∷ 2 ∷ 2 ∷ 3 ∷ 2 ∷ 2 ∷ 2 ∷ 2 ∷ 2 ∷ 2 ∷ 2 ∷ 2 ∷ []
  pub copies_in_external : map (λ (t : Template). t.copies) (system_templates External) ≡ 1 ∷ 1 ∷ 1 ∷ 1 ∷ 1 ∷ 1 ∷ 1 ∷ 1 ∷ 1 ∷ 1 ∷ 1 ∷ 1 ∷ 1 ∷ []
  pub copies_in_high : map (λ (t : Template). t.copies) (system_templates High) ≡ 3 ∷ 3 ∷ 3 ∷ 3 ∷ 3 ∷ 3 ∷ 3 ∷ 3 ∷ 3 ∷ 3 ∷ 3 ∷ 3 ∷ 3 ∷ []

pub record RefusalRows : Type 0 where
  pub no_space : refusal_line (NoSpace 256 9) ≡ codes "error 25 NoSpace 256 9"
  pub too_small : refusal_line (TooSmall (codes "DATA_0000") 25) ≡ codes "error 8 TooSmall DATA_0000 25"
  pub too_many : refusal_line (TooMany Groups 8) ≡ codes "error 36 TooMany groups 8"
  pub taken : refusal_line (DiskTaken (codes "d0")) ≡ codes "error 6 DiskTaken d0"
  pub unused : refusal_line (HoldsStatus (codes "DATA_0000")) ≡ codes "error 35 HoldsStatus DATA_0000"
