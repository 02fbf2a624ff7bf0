-- Blocks are whole sectors.
use Rattle.std.proofs.Common.{◌≡◌, ⊎_elim, ℕ, ◌*◌, ◌%◌, ◌<◌, ◌≤◌, sym, subst, arith}
use Rattle.body_slot.specs.Slot.{IsSectorSize}

pub block_sectors : (n sector : ℕ) → IsSectorSize sector → (n * 4096) % sector ≡ 0
block_sectors n sector is = ⊎_elim (λ (e : sector ≡ 512). subst (λ (m : ℕ). (n * 4096) % m ≡ 0) (sym e) (omega arith)) (λ (e : sector ≡ 4096). subst (λ (m : ℕ). (n * 4096) % m ≡ 0) (sym e) (omega arith)) is

pub short_sector : (sector : ℕ) → IsSectorSize sector → sector ≤ 4096
short_sector sector is = ⊎_elim (λ (e : sector ≡ 512). omega arith) (λ (e : sector ≡ 4096). omega arith) is

pub some_sector : (sector : ℕ) → IsSectorSize sector → 0 < sector
some_sector sector is = ⊎_elim (λ (e : sector ≡ 512). omega arith) (λ (e : sector ≡ 4096). omega arith) is
