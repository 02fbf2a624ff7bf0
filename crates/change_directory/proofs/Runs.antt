-- What the putting of a log does to the content.
use Rattle.std.proofs.Common.{◌≡◌, ◌⊎◌, inl, inr, ⊎_elim, ℕ, ◌+◌, ◌-◌, ◌*◌, ◌<◌, ◌≤◌, Bool, true, false, cond, List, length, get_or, refl, sym, ap, ◌∙◌, Option, Some, None, arith}
use Rattle.std.specs.Prelude.{IsSome, unwrap_or, Result, Ok, Err, OnOk}
use Rattle.std.proofs.lemmas.Bool.{cases_lt, cases_Bool, cond-true, cond-false, le-leb, false≢true}
use Rattle.std.proofs.lemmas.Option.{same_Some, none-some}
use Rattle.std.proofs.lemmas.List.{length-map}
use Rattle.bay.specs.Image.{Image, Same, ChangesOnly, Range, window}
use Rattle.bay.specs.State.{BayState, IsSound}
use Rattle.bay.specs.Moments.{Runs, Ends, Joins}
use Rattle.bay.proofs.Calls.{goes_on, both_done}
use Rattle.bay.proofs.Images.{window-same, changes-within, changes-same, changes-trans, length-window, get_or-window}
use Rattle.body_slot.proofs.Steps.{shown-elsewhere}
use Rattle.body_slot.specs.declared.place.Place.{Place}
use Rattle.body_slot.specs.Slot.{PlaceOf, MayPut, HasPut, shown_body, body_in}
use Rattle.asm_base.specs.declared.block.Block.{Block}
use Rattle.asm_group.specs.Names.{Bytes}
use Rattle.asm_formats.specs.Bytes.{block_size, is_open}
use Rattle.asm_formats.specs.Regions.{region_end, log_blocks, has_region}
use Rattle.asm_formats.specs.Logs.{Log, PageImage, head_of_log}
use Rattle.asm_formats.specs.Pages.{copy_content}
use Rattle.asm_formats.specs.LogSlots.{IsLog, IsLogPut, LogMoment, log_as_before, log_closed, log_put}
use Rattle.asm_formats.specs.Commits.{HoldsLog}
use Rattle.asm_formats.proofs.LogReading.{log_head_len}
use Rattle.asm_images.proofs.Bridges.{bytes_are_listed, range_change}
use Rattle.change_directory.specs.declared.copy.DirCopy.{DirCopy}
use Rattle.change_directory.specs.declared.copy.LogSlot.{LogSlot}
use Rattle.change_directory.specs.Places.{IsCopy, gate_of, other_of, log_place}
use Rattle.change_directory.specs.Logs.{is_open_at, spare_in, log_of, log_body}
use Rattle.asm_base.specs.Blocks.{image_of_page}
use Rattle.change_directory.specs.Changes.{copy_disk_bytes, content_in, MayLog, HasLogged, MayCommit, HasCommitted}
use Rattle.change_directory.specs.Laws.{IsCopyReady}
use Rattle.change_directory.proofs.Bodies.{holds_body}
use Rattle.change_directory.proofs.Contents.{put_content, moment_content}
use Rattle.change_directory.proofs.Spares.{slot_inside, gate_listed, may_close, is_above}

-- a run with a larger step from such images as there may be
pub widened_from : {slots : ℕ → Type 0} {step whole : Image → Image → Type 0} {a b : BayState} (P : Image → Type 0) → IsSound a → ((image : Image) → a.leaves a.calls image → P image)
    → ((x y : Image) → P x → step x y → whole x y) → Runs slots step a b → Runs slots whole a b
widened_from {slots} {step} {whole} {a} {b} P sound all within run = record {
  later = run.later;
  faults = run.faults;
  other_faults = run.other_faults;
  other_written = run.other_written;
  tells = run.tells;
  held = λ image holds. let from = run.held image holds in (from.0, from.1, within from.0 image (all from.0 (sound.held from.0 from.1)) from.2);
  ended = run.ended;
  moments = λ m image low high left. let from = run.moments m image low high left in (from.0, from.1, within from.0 image (all from.0 from.1) from.2);
}

pub done_from : {done less : Image → Image → Type 0} {a b : BayState} (P : Image → Type 0) → IsSound a → ((image : Image) → a.leaves a.calls image → P image)
    → ((x y : Image) → P x → done x y → less x y) → Ends done a b → Ends less a b
done_from {done} {less} {a} {b} P sound all within ends = record {
  held = λ image holds. let from = ends.held image holds in (from.0, from.1, within from.0 image (all from.0 (sound.held from.0 from.1)) from.2);
  now = λ image left. let from = ends.now image left in (from.0, from.1, within from.0 image (all from.0 from.1) from.2);
}

-- a run that ended well goes on, by a step that follows where the bay tells what its disks hold
pub goes_on_told : {slots : ℕ → Type 0} {first step whole : Image → Image → Type 0} {a b c : BayState} → IsSound b
    → Runs slots whole a b → Ends first a b → Runs slots step b c → ((held : Image) → b.holds ≡ Some held → Joins first step whole) → Runs slots whole a c
goes_on_told {slots} {first} {step} {whole} {a} {b} {c} sound run ends next each = record {
  later = omega (arith, run.later, next.later);
  faults = λ s. omega (arith, run.faults s, next.faults s);
  other_faults = λ s other. next.other_faults s other ∙ run.other_faults s other;
  other_written = λ s other. next.other_written s other ∙ run.other_written s other;
  tells = λ told. next.tells (run.tells told);
  held = λ image holds. let from = next.held image holds in (goes_on (each from.0 from.1) run ends next).held image holds;
  ended = λ m image below.
      let far : m < b.calls = omega (arith, run.later) in
      let second = next.ended m image far in
      let one = run.ended m image below in
      ((λ left. one.0 (second.0 left)), (λ left. second.1 (one.1 left)));
  moments = λ m image low high left. ⊎_elim
      (λ (below : m < b.calls). run.moments m image low (omega arith) ((next.ended m image below).0 left))
      (λ (above : b.calls ≤ m).
      let from = next.moments m image above high left in
      let held = sound.told from.0 from.1 in
      (goes_on (each held.0 held.1) run ends next).moments m image low high left)
      (cases_lt m b.calls);
}

pub done_told : {first step whole : Image → Image → Type 0} {a b c : BayState} → IsSound b
    → Ends first a b → Ends step b c → ((held : Image) → b.holds ≡ Some held → Joins first step whole) → Ends whole a c
done_told {first} {step} {whole} {a} {b} {c} sound ends next each = record {
  held = λ image holds. let from = next.held image holds in (both_done (each from.0 from.1) ends next).held image holds;
  now = λ image left.
      let from = next.now image left in
      let held = sound.told from.0 from.1 in
      (both_done (each held.0 held.1) ends next).now image left;
}

-- what two clauses under Ok say together
pub on_ok_both : {T E P Q R : Type 0} (r : Result T E) → (P → Q → R) → OnOk r P → OnOk r Q → OnOk r R
on_ok_both (Ok x) f p q = f p q
on_ok_both (Err e) f p q = p

-- an image has the region of an attached copy
pub has_size : {state : BayState} {copy : DirCopy} → IsSound state → IsCopy state copy → (image : Image) → state.leaves state.calls image → region_end copy.dir_blocks * block_size ≤ image.size copy.slot
has_size {state} {copy} sound is image left = go (state.attached copy.slot) refl is.attached is.inside
  where
    go : (o : Option ℕ) → state.attached copy.slot ≡ o → IsSome o → region_end copy.dir_blocks * block_size ≤ unwrap_or o 0 → region_end copy.dir_blocks * block_size ≤ image.size copy.slot
    go None e some inside = absurd (false≢true some)
    go (Some size) e some inside = omega (arith, sound.sized copy.slot size image e left)

-- ---- steps of a put, as steps of a commit

module _ (copy : DirCopy) (number : ℕ) (pages : List (ℕ × Block)) where
  abbrev body_of : Bytes
  body_of = log_body (log_of number pages)

  abbrev place_of : LogSlot → Place
  place_of l = log_place copy l (length pages + 1)

  pub same_put : (some : 0 < copy.sector) (l : LogSlot) (x w y : Image) → Same x w → MayPut (place_of l) copy.slot body_of w y → MayPut (place_of l) copy.slot body_of x y
  same_put some l x w y same put =
      let shown_same : shown_body (place_of l) copy.slot w ≡ shown_body (place_of l) copy.slot x =
      shown-elsewhere (place_of l) copy.slot some (λ s k. ⊥) x w (λ k mine none. none) (changes-same (λ s k. ⊥) x w same) in
      record {
        shows = ⊎_elim (λ before. inl (before ∙ shown_same)) inr put.shows;
        elsewhere = changes-trans (PlaceOf (place_of l) copy.slot) x w y (changes-same (PlaceOf (place_of l) copy.slot) x w same) put.elsewhere;
      }

  pub same_has : (l : LogSlot) (x w y : Image) → Same x w → HasPut (place_of l) copy.slot body_of w y → HasPut (place_of l) copy.slot body_of x y
  same_has l x w y same put = record {
    shows = put.shows;
    elsewhere = changes-trans (PlaceOf (place_of l) copy.slot) x w y (changes-same (PlaceOf (place_of l) copy.slot) x w same) put.elsewhere;
  }

pub same_disk : (copy : DirCopy) (x y : Image) → Same x y → copy_disk_bytes copy y ≡ copy_disk_bytes copy x
same_disk copy x y same =
    ap (λ (n : ℕ). window (y.byte copy.slot) 0 n) (same.size copy.slot) ∙ window-same (x.byte copy.slot) (y.byte copy.slot) 0 (x.size copy.slot) (λ k low high. same.byte copy.slot k)

pub same_content : (copy : DirCopy) (x y : Image) → Same x y → content_in copy y ≡ content_in copy x
same_content copy x y same = ap (copy_content copy.dir_blocks) (same_disk copy x y same)

module _ (copy : DirCopy) (least : 128 ≤ copy.dir_blocks) (most : copy.dir_blocks ≤ 16384) (sector : copy.sector ≤ 4096) (number : ℕ) (pages : List (ℕ × Block))
    (ok : IsLog copy.dir_blocks (log_of number pages)) (x y : Image) (ready : IsCopyReady copy number x) where
  abbrev log : Log
  log = log_of number pages

  abbrev k : ℕ
  k = gate_of copy (spare_in copy x)

  abbrev other : ℕ
  other = gate_of copy (other_of (spare_in copy x))

  abbrev place : Place
  place = log_place copy (spare_in copy x) (length pages + 1)

  count : length log.images ≡ length pages
  count = length-map pages image_of_page

  few : length pages ≤ 64
  few = omega (arith, log_head_len copy.dir_blocks (head_of_log log) ok.0, length-map log.images (λ (i : PageImage). i.0), count)

  inside : k + 66 ≤ region_end copy.dir_blocks
  inside = slot_inside copy (spare_in copy x) least

  module _ (elsewhere : ChangesOnly (PlaceOf place copy.slot) x y) where
    sized_after : region_end copy.dir_blocks * block_size ≤ y.size copy.slot
    sized_after = omega (arith, ready.sized, elsewhere.size copy.slot)

    in_slot : ChangesOnly (Range copy.slot (k * block_size) (log_blocks * block_size)) x y
    in_slot = changes-within (Range copy.slot (k * block_size) (log_blocks * block_size)) (PlaceOf place copy.slot) x y within elsewhere
      where
        within : (s b : ℕ) → PlaceOf place copy.slot s b → Range copy.slot (k * block_size) (log_blocks * block_size) s b
        within s b (inl gate) = (gate.0, omega (arith, gate.1), omega (arith, gate.2, sector))
        within s b (inr body) = (body.0, omega (arith, body.1), omega (arith, body.2, few))

    is_put : LogMoment (copy_disk_bytes copy x) (copy_disk_bytes copy y) k log → IsLogPut copy.dir_blocks (copy_disk_bytes copy x) (copy_disk_bytes copy y) k other log
    is_put moment = record {
      may_close = may_close copy least x ready.sized ready.home ready.decodes;
      above = λ opened. is_above copy least x ready.sized number ready.above (other_of (spare_in copy x)) opened;
      is_log = ok;
      elsewhere = (range_change 0 copy.slot (k * block_size) (log_blocks * block_size) x y in_slot).1;
      moment = moment;
    }

    gate_after : is_open (copy_disk_bytes copy y) k ≡ is_open_at copy (spare_in copy x) y
    gate_after = gate_listed copy least y sized_after (spare_in copy x)

    whole : has_region copy.dir_blocks (length (copy_disk_bytes copy x)) ≡ true
    whole = le-leb (region_end copy.dir_blocks * block_size) (length (copy_disk_bytes copy x)) (omega (arith, ready.sized, (bytes_are_listed x copy.slot).0))

    -- the slot shows the log
    has_log : is_open_at copy (spare_in copy x) y ≡ true → body_in place copy.slot y ≡ log_body log → HoldsLog (copy_disk_bytes copy y) k log
    has_log opened body =
        let long : (length pages + 1) * 4096 ≡ length (log_body log) = sym (length-window (y.byte copy.slot) ((k + 1) * block_size) ((length pages + 1) * block_size)) ∙ ap length body in
        holds_body copy.dir_blocks y copy.slot k log ok (omega (arith, sized_after, inside, few, count)) (gate_after ∙ opened)
        (ap (λ (n : ℕ). window (y.byte copy.slot) ((k + 1) * block_size) n) (sym long) ∙ body)

    -- the slot is as before
    as_before : is_open_at copy (spare_in copy x) y ≡ true → is_open_at copy (spare_in copy x) x ≡ true → body_in place copy.slot y ≡ body_in place copy.slot x → LogMoment (copy_disk_bytes copy x) (copy_disk_bytes copy y) k log
    as_before opened was body = log_as_before (gate_after ∙ opened ∙ sym (gate_listed copy least x ready.sized (spare_in copy x) ∙ was))
        (λ j first last.
        let at : ℕ = j * block_size in
        (bytes_are_listed y copy.slot).2 (j * block_size) block_size (omega (arith, sized_after, inside, last))
        ∙ window-same (x.byte copy.slot) (y.byte copy.slot) (j * block_size) block_size (λ b low high. byte_same b (omega (arith, first, low)))
        ∙ sym ((bytes_are_listed x copy.slot).2 (j * block_size) block_size (omega (arith, ready.sized, inside, last))))
      where
        start : ℕ
        start = (k + 1) * 4096

        byte_same : (b : ℕ) → (k + 1) * 4096 ≤ b → y.byte copy.slot b ≡ x.byte copy.slot b
        byte_same b low = ⊎_elim
            (λ (under : b < (k + 1) * 4096 + (length pages + 1) * 4096).
            let i : ℕ = b - (k + 1) * 4096 in
            let here : b ≡ (k + 1) * 4096 + (b - (k + 1) * 4096) = omega arith in
            let lt : b - (k + 1) * 4096 < (length pages + 1) * 4096 = omega arith in
            ap (y.byte copy.slot) here ∙ sym (get_or-window (y.byte copy.slot) ((k + 1) * 4096) ((length pages + 1) * 4096) (b - (k + 1) * 4096) lt)
            ∙ ap (λ (l : List ℕ). get_or l (b - (k + 1) * 4096) 0) body
            ∙ get_or-window (x.byte copy.slot) ((k + 1) * 4096) ((length pages + 1) * 4096) (b - (k + 1) * 4096) lt ∙ ap (x.byte copy.slot) (sym here))
            (λ (above : (k + 1) * 4096 + (length pages + 1) * 4096 ≤ b). elsewhere.byte copy.slot b (outside above))
            (cases_lt b ((k + 1) * 4096 + (length pages + 1) * 4096))
          where
            outside : (k + 1) * 4096 + (length pages + 1) * 4096 ≤ b → PlaceOf place copy.slot copy.slot b → ⊥
            outside above (inl gate) = omega (arith, gate.2, sector)
            outside above (inr here) = omega (arith, here.2, above)

  moment_of : MayPut place copy.slot (log_body log) x y → LogMoment (copy_disk_bytes copy x) (copy_disk_bytes copy y) k log
  moment_of put = ⊎_elim
      (λ opened. go opened put.shows)
      (λ shut. log_closed (gate_after put.elsewhere ∙ shut))
      (cases_Bool (is_open_at copy (spare_in copy x) y))
    where
      shows_now : is_open_at copy (spare_in copy x) y ≡ true → shown_body place copy.slot y ≡ Some (body_in place copy.slot y)
      shows_now opened = cond-true (is_open_at copy (spare_in copy x) y) (Some (body_in place copy.slot y)) None opened

      before : is_open_at copy (spare_in copy x) y ≡ true → (b : Bool) → is_open_at copy (spare_in copy x) x ≡ b → Some (body_in place copy.slot y) ≡ cond b (Some (body_in place copy.slot x)) None
          → LogMoment (copy_disk_bytes copy x) (copy_disk_bytes copy y) k log
      before opened true was e = as_before put.elsewhere opened was (same_Some (body_in place copy.slot y) (body_in place copy.slot x) e)
      before opened false was e = absurd (none-some _ (sym e))

      go : is_open_at copy (spare_in copy x) y ≡ true
          → (shown_body place copy.slot y ≡ shown_body place copy.slot x) ⊎ ((shown_body place copy.slot y ≡ None) ⊎ (shown_body place copy.slot y ≡ Some (log_body log)))
          → LogMoment (copy_disk_bytes copy x) (copy_disk_bytes copy y) k log
      go opened (inl same) = before opened (is_open_at copy (spare_in copy x) x) refl (sym (shows_now opened) ∙ same)
      go opened (inr (inl none)) = absurd (none-some _ (sym none ∙ shows_now opened))
      go opened (inr (inr some)) =
          let held = has_log put.elsewhere opened (same_Some (body_in place copy.slot y) (log_body log) (sym (shows_now opened) ∙ some)) in
          log_put held.gate held.head held.images

  pub put_logging : MayPut place copy.slot (log_body log) x y → IsLogPut copy.dir_blocks (copy_disk_bytes copy x) (copy_disk_bytes copy y) k other log
  put_logging put = is_put put.elsewhere (moment_of put)

  pub may_commit : MayLog copy number pages x y → MayCommit copy log x y
  may_commit (inl same) = inl (same_content copy x y same)
  may_commit (inr put) =
      let moment = moment_of put in
      moment_content copy.dir_blocks (copy_disk_bytes copy x) (copy_disk_bytes copy y) k other log (omega arith) (is_put put.elsewhere moment) (whole put.elsewhere) moment

  pub holds_logged : HasLogged copy number pages x y → HoldsLog (copy_disk_bytes copy y) k log
  holds_logged put = ⊎_elim
      (λ opened.
      let shows_now : shown_body place copy.slot y ≡ Some (body_in place copy.slot y) = cond-true (is_open_at copy (spare_in copy x) y) (Some (body_in place copy.slot y)) None opened in
      has_log put.elsewhere opened (same_Some (body_in place copy.slot y) (log_body log) (sym shows_now ∙ put.shows)))
      (λ shut.
      let shows_none : shown_body place copy.slot y ≡ None = cond-false (is_open_at copy (spare_in copy x) y) (Some (body_in place copy.slot y)) None shut in
      absurd (none-some _ (sym shows_none ∙ put.shows)))
      (cases_Bool (is_open_at copy (spare_in copy x) y))

  pub put_logged : HasLogged copy number pages x y → IsLogPut copy.dir_blocks (copy_disk_bytes copy x) (copy_disk_bytes copy y) k other log
  put_logged put = let held = holds_logged put in is_put put.elsewhere (log_put held.gate held.head held.images)

  pub has_committed : HasLogged copy number pages x y → HasCommitted copy log x y
  has_committed put =
      put_content copy.dir_blocks (copy_disk_bytes copy x) (copy_disk_bytes copy y) k other log (omega arith) (put_logged put) (whole put.elsewhere) (holds_logged put)
