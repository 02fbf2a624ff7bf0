-- The content while a copy is formatted.
use Rattle.std.proofs.Common.{◌≡◌, inl, inr, ⊎_elim, ℕ, ◌+◌, ◌*◌, ◌<◌, ◌≤◌, true, false, refl, sym, ap, subst, ◌∙◌, Some, None, arith}
use Rattle.std.specs.Prelude.{Result, Ok}
use Rattle.std.proofs.lemmas.Bool.{cases_Bool, cond-true, cond-false}
use Rattle.std.proofs.lemmas.Option.{none-some}
use Rattle.bay.specs.Image.{Image, Same, ChangesOnly, Range}
use Rattle.bay.specs.State.{BayState, IsSound}
use Rattle.bay.specs.Calls.{Call, ChangesEachImage, cost}
use Rattle.bay.proofs.Calls.{stops}
use Rattle.bay.proofs.OneCall.{Follows, afforded, wider}
use Rattle.bay.proofs.Images.{changes-within}
use Rattle.body_slot.specs.declared.place.Place.{Place}
use Rattle.body_slot.specs.Slot.{GateOf, MayClose, Closes, FromHeld, WaitsFor, shown_body, body_in}
use Rattle.body_slot.proofs.Steps.{shown-closed}
use Rattle.asm_group.specs.Names.{Bytes}
use Rattle.asm_formats.specs.Logs.{logs_decode}
use Rattle.asm_formats.specs.Bytes.{block_size, is_open}
use Rattle.asm_formats.specs.Regions.{region_start, region_end, first_log, second_log, log_blocks}
use Rattle.asm_formats.specs.Pages.{IsCheckpointed}
use Rattle.asm_formats.specs.Places.{SameElsewhere}
use Rattle.asm_formats.proofs.Blocks.{SameSlot, block_out, slot_before, slot_behind}
use Rattle.asm_formats.proofs.SameLogs.{SameLogs, closed_content}
use Rattle.asm_formats.proofs.Framing.{copy_same}
use Rattle.asm_formats.proofs.Committing.{closed_keeps}
use Rattle.asm_images.proofs.Bridges.{range_change}
use Rattle.change_directory.specs.declared.copy.DirCopy.{DirCopy}
use Rattle.change_directory.specs.declared.copy.LogSlot.{LogSlot}
use Rattle.change_directory.specs.declared.copy.LogSlot.TheVariants.{First, Second}
use Rattle.change_directory.specs.Places.{gate_of, other_of, log_place}
use Rattle.change_directory.specs.Logs.{is_open_at, spare_in}
use Rattle.change_directory.specs.Changes.{copy_disk_bytes, content_in, IsAtHome, DecodesIn}
use Rattle.change_directory.specs.Places.{HomesAt}
use Rattle.change_directory.specs.Formatting.{AreShut, HasShutSpare, HasShut, IsWholeCopy, Loses, Zeroes, HasFormatted, ShutsSafely, FormatsSafely}
use Rattle.change_directory.specs.Works.{ReadCall, TellsNow}
use Rattle.change_directory.proofs.Spares.{spare_same, gate_listed, may_close}
use Rattle.change_directory.proofs.Runs.{same_disk, same_content}
use Rattle.change_directory.proofs.Shutting.{either_log, stays_shut, still_shut, same_shut, shuts_from_held, shut_from_held, then_shuts, both_shut, erasing, erased}
use Rattle.change_directory.proofs.Works.{then_told}

module _ (copy : DirCopy) (least : 128 ≤ copy.dir_blocks) (short : copy.sector ≤ 4096) where
  -- without an open log slot there is no content
  pub shut_none : (x : Image) → region_end copy.dir_blocks * block_size ≤ x.size copy.slot → AreShut copy x → content_in copy x ≡ None
  shut_none x sized shut =
      closed_content copy.dir_blocks (copy_disk_bytes copy x) (gate_listed copy least x sized First ∙ shut First) (gate_listed copy least x sized Second ∙ shut Second)

  module _ (l : LogSlot) (x y : Image) (sized : region_end copy.dir_blocks * block_size ≤ x.size copy.slot) (close : MayClose (log_place copy l 65) copy.slot x y) where
    abbrev at : ℕ
    at = gate_of copy l * block_size

    same : SameElsewhere (copy_disk_bytes copy x) (copy_disk_bytes copy y) at copy.sector
    same = (range_change 0 copy.slot at copy.sector x y close.elsewhere).1

    in_slot : ChangesOnly (Range copy.slot at (log_blocks * block_size)) x y
    in_slot = changes-within (Range copy.slot at (log_blocks * block_size)) (GateOf (log_place copy l 65) copy.slot) x y (λ s k inside. (inside.0, inside.1, omega (arith, inside.2, short))) close.elsewhere

    pub sized_after : region_end copy.dir_blocks * block_size ≤ y.size copy.slot
    sized_after = omega (arith, sized, close.elsewhere.size copy.slot)

    was_open : is_open_at copy l y ≡ true → is_open_at copy l x ≡ true
    was_open opened = ⊎_elim
        (λ (before : shown_body (log_place copy l 65) copy.slot y ≡ shown_body (log_place copy l 65) copy.slot x). ⊎_elim (λ was. was)
        (λ shut. absurd (none-some _ (sym (cond-false (is_open_at copy l x) (Some (body_in (log_place copy l 65) copy.slot x)) None shut) ∙ sym before ∙ shows_now))) (cases_Bool (is_open_at copy l x)))
        (λ none. absurd (none-some _ (sym none ∙ shows_now)))
        close.shows
      where
        shows_now : shown_body (log_place copy l 65) copy.slot y ≡ Some (body_in (log_place copy l 65) copy.slot y)
        shows_now = cond-true (is_open_at copy l y) (Some (body_in (log_place copy l 65) copy.slot y)) None opened

    here : is_open_at copy l y ≡ true → SameSlot (copy_disk_bytes copy x) (copy_disk_bytes copy y) (gate_of copy l) log_blocks
    here opened = record {
      gate = gate_listed copy least y sized_after l ∙ opened ∙ sym (gate_listed copy least x sized l ∙ was_open opened);
      body = λ was j first last. block_out (copy_disk_bytes copy x) (copy_disk_bytes copy y) at copy.sector same j (inl (omega (arith, first, short)));
    }

    logs_same : is_open_at copy l y ≡ true → SameLogs copy.dir_blocks (copy_disk_bytes copy x) (copy_disk_bytes copy y)
    logs_same opened = go l refl
      where
        go : (m : LogSlot) → l ≡ m → SameLogs copy.dir_blocks (copy_disk_bytes copy x) (copy_disk_bytes copy y)
        go First is = record {
          first = subst (λ (k : ℕ). SameSlot (copy_disk_bytes copy x) (copy_disk_bytes copy y) k log_blocks) (ap (gate_of copy) is) (here opened);
          second = slot_behind (copy_disk_bytes copy x) (copy_disk_bytes copy y) at copy.sector same (second_log copy.dir_blocks) log_blocks (omega (arith, ap (gate_of copy) is, short));
        }
        go Second is = record {
          first = slot_before (copy_disk_bytes copy x) (copy_disk_bytes copy y) at copy.sector same (first_log copy.dir_blocks) log_blocks (omega (arith, ap (gate_of copy) is)) (omega arith);
          second = subst (λ (k : ℕ). SameSlot (copy_disk_bytes copy x) (copy_disk_bytes copy y) k log_blocks) (ap (gate_of copy) is) (here opened);
        }

    -- the gate reads open still
    pub open_keeps : is_open_at copy l y ≡ true → content_in copy y ≡ content_in copy x
    open_keeps opened =
        copy_same (copy_disk_bytes copy x) (copy_disk_bytes copy y) at copy.sector same copy.dir_blocks (logs_same opened)
        (λ page lt. block_out (copy_disk_bytes copy x) (copy_disk_bytes copy y) at copy.sector same (region_start + page) (inr (omega (arith, lt, behind l))))
      where
        behind : (m : LogSlot) → region_start + copy.dir_blocks ≤ gate_of copy m
        behind First = omega arith
        behind Second = omega arith

    -- the spare slot may be closed
    pub spare_keeps : l ≡ spare_in copy x → IsAtHome copy x → DecodesIn copy x → content_in copy y ≡ content_in copy x
    spare_keeps is home decodes = ⊎_elim open_keeps
        (λ shut. closed_keeps copy.dir_blocks (copy_disk_bytes copy x) (gate_of copy (spare_in copy x)) (gate_of copy (other_of (spare_in copy x))) (may_close copy least x sized home decodes)
        (copy_disk_bytes copy y) (same_slot is) (ap (λ (m : LogSlot). is_open (copy_disk_bytes copy y) (gate_of copy m)) (sym is) ∙ gate_listed copy least y sized_after l ∙ shut))
        (cases_Bool (is_open_at copy l y))
      where
        same_slot : l ≡ spare_in copy x → SameElsewhere (copy_disk_bytes copy x) (copy_disk_bytes copy y) (gate_of copy (spare_in copy x) * block_size) (log_blocks * block_size)
        same_slot e = subst (λ (k : ℕ). SameElsewhere (copy_disk_bytes copy x) (copy_disk_bytes copy y) (k * block_size) (log_blocks * block_size)) (ap (gate_of copy) e) ((range_change 0 copy.slot at (log_blocks * block_size) x y in_slot).1)

-- ---- step by step

whole_same : (copy : DirCopy) (x w : Image) → Same x w → IsWholeCopy copy x → IsWholeCopy copy w
whole_same copy x w same whole =
    let lists = sym (same_disk copy x w same) in
    record {
      sized = omega (arith, whole.sized, same.size copy.slot);
      home = subst (λ (bytes : Bytes). IsCheckpointed copy.dir_blocks bytes) lists whole.home;
      decodes = subst (λ (bytes : Bytes). logs_decode copy.dir_blocks bytes ≡ true) lists whole.decodes;
    }

pub same_loses : (copy : DirCopy) (x y : Image) → Same x y → Loses copy x y
same_loses copy x y same whole = inl (same_content copy x y same)

module _ (copy : DirCopy) (least : 128 ≤ copy.dir_blocks) (short : copy.sector ≤ 4096) (some : 0 < copy.sector) where
  -- the spare slot is being closed
  pub loses_from_held : {state : BayState} (held : Image) → state.holds ≡ Some held → (log : LogSlot) (place : Place) → log ≡ spare_in copy held → place ≡ log_place copy log 65
      → (x w y : Image) → Same x w → WaitsFor state copy.slot (MayClose place copy.slot) w y → Loses copy x y
  loses_from_held held holds log place is here_ x w y same (inl still) whole = inl (same_content copy w y still ∙ same_content copy x w same)
  loses_from_held held holds log place is here_ x w y same (inr from) whole =
      let close : MayClose (log_place copy log 65) copy.slot w y = subst (λ (p : Place). MayClose p copy.slot w y) here_ from.steps in
      let before = whole_same copy x w same whole in
      inl (spare_keeps copy least short log w y before.sized close (is ∙ sym (spare_same copy w held (from.disk held holds))) before.home before.decodes ∙ same_content copy x w same)

  -- the other slot is being closed
  pub other_loses : (log : LogSlot) (place : Place) → place ≡ log_place copy (other_of log) 65
      → (x y z : Image) → HasShutSpare copy log x y → MayClose place copy.slot y z → Loses copy x z
  other_loses log place there x y z first step whole =
      let close : MayClose (log_place copy (other_of log) 65) copy.slot y z = subst (λ (p : Place). MayClose p copy.slot y z) there step in
      let closing : MayClose (log_place copy log 65) copy.slot x y = record { shows = inr (shown-closed (log_place copy log 65) copy.slot y first.shut); elsewhere = first.elsewhere } in
      let sized : region_end copy.dir_blocks * block_size ≤ y.size copy.slot = omega (arith, whole.sized, first.elsewhere.size copy.slot) in
      let sized_end : region_end copy.dir_blocks * block_size ≤ z.size copy.slot = omega (arith, sized, close.elsewhere.size copy.slot) in
      let kept = spare_keeps copy least short log x y whole.sized closing first.is whole.home whole.decodes in
      ⊎_elim
      (λ opened. inl (open_keeps copy least short (other_of log) y z sized close opened ∙ kept))
      (λ shut. inr (shut_none copy least short z sized_end (either_log (λ (l : LogSlot). is_open_at copy l z ≡ false) log (stays_shut copy short some log place there y z first.shut close.elsewhere) shut)))
      (cases_Bool (is_open_at copy (other_of log) z))

  -- the pages are being zeroed
  pub erasing_loses : (x y z : Image) → HasShut copy x y → ChangesOnly (HomesAt copy) y z → Loses copy x z
  erasing_loses x y z shut step whole =
      let sized : region_end copy.dir_blocks * block_size ≤ z.size copy.slot = omega (arith, whole.sized, shut.elsewhere.size copy.slot, step.size copy.slot) in
      inr (shut_none copy least short z sized (still_shut copy short some y z shut.shut step))

  -- ---- with the order in which they are closed

  pub same_safely : (x y : Image) → Same x y → ShutsSafely copy x y
  same_safely x y same = record { shuts = same_shut copy short some x y same; loses = same_loses copy x y same }

  -- it was read which slot is the spare one, and that one is closed
  pub spare_shuts : {E F : Type 0} {result : Result (Unit {0}) E} (log : LogSlot) (place : Place) → place ≡ log_place copy log 65 → {a b c : BayState} → IsSound b
      → ReadCall {E = F} (Ok log) copy.slot (λ l. TellsNow (λ image. l ≡ spare_in copy image)) 4 a b
      → Call result copy.slot (WaitsFor b copy.slot (MayClose place copy.slot)) (ChangesEachImage (FromHeld b copy.slot (Closes place copy.slot))) (cost 4 place.sector) b c
      → Call result copy.slot (ShutsSafely copy) (ChangesEachImage (HasShutSpare copy log)) (cost 8 copy.sector) a c
  spare_shuts log place at sound read close =
      let sector : place.sector ≡ copy.sector = ap (λ (p : Place). p.sector) at in
      afforded (record { calls = omega arith; bytes = λ s. omega (arith, sector) })
      (then_told sound (wider same_safely read.reads.calls) (stops read.reads.calls.runs) close
      (λ held is x w y same waits. record {
        shuts = shuts_from_held copy short some held is log place (read.done held is) at x w y same waits;
        loses = loses_from_held held is log place (read.done held is) at x w y same waits;
      })
      (λ held is. shut_from_held copy short some held is log place (read.done held is) at))

  -- the other slot is closed behind it
  pub other_shuts : (log : LogSlot) (place : Place) → place ≡ log_place copy (other_of log) 65
      → Follows (ShutsSafely copy) (HasShutSpare copy log) (MayClose place copy.slot) (Closes place copy.slot) (ShutsSafely copy) (HasShut copy)
  other_shuts log place at = record {
    starts = λ x y step. step;
    goes = λ x y z first step. record { shuts = then_shuts copy short some log place at x y z first step; loses = other_loses log place at x y z first step };
    ends = both_shut copy short some log place at;
  }

  -- the pages are zeroed behind both
  pub then_erases : Follows (ShutsSafely copy) (HasShut copy) (ChangesOnly (HomesAt copy)) (Zeroes copy (copy.dir_blocks * 4096)) (FormatsSafely copy) (HasFormatted copy)
  then_erases = record {
    starts = λ x y step. record { formats = inl step.shuts; loses = step.loses };
    goes = λ x y z shut step. record { formats = erasing copy short some x y z shut step; loses = erasing_loses x y z shut step };
    ends = erased copy short some;
  }
