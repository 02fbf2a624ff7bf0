-- Sets of disks that have all directory copies.
use Rattle.std.specs.Prelude.{◌≡◌, ℕ, ◌<◌, true, false}
use Rattle.refusal_lines.specs.declared.refusal.DiskRef.{DiskRef}
use Rattle.refusal_lines.specs.declared.refusal.DiskRef.TheVariants as disk
use Rattle.refusal_lines.specs.declared.refusal.Refusal.{Refusal}
use Rattle.refusal_lines.specs.declared.refusal.Refusal.TheVariants as cause
use Rattle.asm_formats.specs.Sets.{has_bit}

-- each disk of the set is in the other
abbrev pub IsSubset : ℕ → ℕ → Type 0
IsSubset set all = (d : ℕ) → d < 64 → has_bit set d ≡ true → has_bit all d ≡ true

-- the disk is the least of the set
pub record IsLeastOfSet (set d : ℕ) : Type 0 where
  pub has : has_bit set d ≡ true
  pub first : (k : ℕ) → k < d → has_bit set k ≡ false

-- The disks have all directory copies, and this one is the least that has one.
pub record HasAllDirectories (directories disks : ℕ) (by : DiskRef) : Type 0 where
  pub all : IsSubset directories disks
  pub least : ℕ
  pub is_least : IsLeastOfSet directories least
  pub is : by ≡ disk.Number least

-- refused, since the disks have all directory copies
abbrev pub DirectoriesCause : ℕ → ℕ → Refusal → Type 0
DirectoriesCause directories disks (cause.HoldsDirectories by) = HasAllDirectories directories disks by
DirectoriesCause directories disks _ = ⊥

-- a disk that has a copy, and isn't one of those that lose theirs
pub record IsLeft (directories off : ℕ) : Type 0 where
  pub disk : ℕ
  pub small : disk < 64
  pub has : has_bit directories disk ≡ true
  pub stays : has_bit off disk ≡ false

-- where there are directory copies, one is left
abbrev pub LeavesCopy : ℕ → ℕ → Type 0
LeavesCopy directories off = (d : ℕ) → d < 64 → has_bit directories d ≡ true → IsLeft directories off
