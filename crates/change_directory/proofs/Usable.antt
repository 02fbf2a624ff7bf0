-- The log slots of an attached copy may be used.
use Rattle.std.proofs.Common.{◌≡◌, ◌⊎◌, inl, ⊎_elim, ℕ, ◌+◌, ◌*◌, ◌%◌, ◌<◌, ◌≤◌, true, sym, subst, Option, arith}
use Rattle.std.specs.Prelude.{IsSome, unwrap_or, List, length}
use Rattle.bay.specs.State.{BayState, KeepsAttached, size_of}
use Rattle.body_slot.specs.Slot.{IsUsablePlace}
pub use Rattle.body_slot.proofs.Sectors.{block_sectors, short_sector, some_sector}
use Rattle.asm_base.specs.declared.block.Block.{Block}
use Rattle.asm_formats.specs.Bytes.{block_size}
use Rattle.asm_formats.specs.Regions.{region_end}
use Rattle.asm_formats.specs.Logs.{head_of_log, is_log_head}
use Rattle.asm_formats.proofs.LogReading.{log_head_len}
use Rattle.change_directory.specs.declared.copy.DirCopy.{DirCopy}
use Rattle.change_directory.specs.declared.copy.LogSlot.{LogSlot}
use Rattle.change_directory.specs.Places.{IsCopy, gate_of, log_place}
use Rattle.change_directory.specs.Logs.{log_of}
use Rattle.change_directory.proofs.Gathering.{pages_are_counted}
use Rattle.change_directory.proofs.Spares.{slot_inside}

-- whole blocks are whole sectors
pub usable_log : {state : BayState} {copy : DirCopy} (log : LogSlot) (blocks : ℕ) → IsCopy state copy → blocks ≤ 65 → IsUsablePlace state copy.slot (log_place copy log blocks)
usable_log {state} {copy} log blocks is few =
    let short : copy.sector ≤ 4096 = short_sector copy.sector is.sector_size in
    let region : (14 + 2 * copy.dir_blocks) * 4096 ≤ size_of state copy.slot = is.inside in
    let inside : gate_of copy log + 66 ≤ 14 + 2 * copy.dir_blocks = slot_inside copy log is.least in
    let gate_end : gate_of copy log * 4096 + copy.sector ≤ size_of state copy.slot = omega arith in
    let body_end : (gate_of copy log + 1) * 4096 + blocks * 4096 ≤ size_of state copy.slot = omega arith in
    let before : gate_of copy log * 4096 + copy.sector ≤ (gate_of copy log + 1) * 4096 = omega arith in
    record {
      attached = is.attached;
      sector = is.sector_size;
      gate_inside = gate_end;
      body_inside = body_end;
      gate_sectors = block_sectors (gate_of copy log) copy.sector is.sector_size;
      body_sectors = block_sectors (gate_of copy log + 1) copy.sector is.sector_size;
      len_sectors = block_sectors blocks copy.sector is.sector_size;
      apart = inl before;
    }

-- the copy stays attached
pub still_copy : {old new : BayState} {copy : DirCopy} → IsCopy old copy → KeepsAttached old new → IsCopy new copy
still_copy {old} {new} {copy} is keeps = record {
  attached = subst IsSome (sym (keeps.same copy.slot)) is.attached;
  sector_size = is.sector_size;
  least = is.least;
  most = is.most;
  inside = subst (λ (o : Option ℕ). region_end copy.dir_blocks * block_size ≤ unwrap_or o 0) (sym (keeps.same copy.slot)) is.inside;
}

-- a log has at most 64 pages
pub few_pages : (d number : ℕ) (pages : List (ℕ × Block)) → is_log_head d (head_of_log (log_of number pages)) ≡ true → length pages ≤ 64
few_pages d number pages ok = omega (arith, log_head_len d (head_of_log (log_of number pages)) ok, pages_are_counted number pages)
