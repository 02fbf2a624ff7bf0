-- How the disks of a set are tried.
use Rattle.std.proofs.Common.{◌≡◌, ℕ, zero, suc, ◌-◌, true, ◌&&◌, List, refl, arith}
use Rattle.std.specs.Prelude.{◌||◌, not}
use Rattle.asm_formats.specs.Sets.{has_bit}
use Rattle.mounted_groups.specs.group_recovery.declared.finding.Headed.{Headed}
use Rattle.new_groups.specs.Tests.{has_disk_number, have_disks}

pub none_left : (hs : List Headed) (set n : ℕ) → n ≡ 0 → true ≡ have_disks hs set n
none_left hs set zero none = refl
none_left hs set (suc n) none = absurd (omega (arith, none))

pub one_less : (hs : List Headed) (set n k : ℕ) → (n ≡ 0 → ⊥) → k ≡ n - 1 → ((not (has_bit set k) || has_disk_number hs k) && have_disks hs set k) ≡ have_disks hs set n
one_less hs set zero k some is = absurd (some refl)
one_less hs set (suc n) k some is = let e : k ≡ n = omega (arith, is) in rw e refl
