-- How the parts of a new disk come together.
use Rattle.std.proofs.Common.{◌≡◌, inl, inr, ⊎_elim, ℕ, ◌+◌, ◌≤◌, Option, Some, None, refl, sym, subst, ◌∙◌, arith, lit≤}
use Rattle.std.specs.Prelude.{IsSome, unwrap_or}
use Rattle.bay.specs.Image.{Image, ChangesOnly}
use Rattle.bay.specs.State.{BayState, IsSound, KeepsAttached, size_of}
use Rattle.bay.specs.Moments.{Runs, Ends, NowOnly, LeavesOnly}
use Rattle.bay.proofs.Calls.{goes_on, stops, leaves_only, now_only, both_done, widened}
use Rattle.bay.proofs.Images.{changes-within, changes-trans}
use Rattle.body_slot.specs.Slot.{PlaceOf, shown_body}
use Rattle.body_slot.proofs.Steps.{shown-elsewhere}
use Rattle.change_directory.specs.declared.copy.DirCopy.{DirCopy}
use Rattle.change_directory.specs.declared.copy.LogSlot.TheVariants.{First, Second}
use Rattle.change_directory.specs.Places.{IsCopy}
use Rattle.change_directory.specs.Changes.{content_in}
use Rattle.change_directory.specs.Formatting.{AreShut}
use Rattle.change_directory.specs.StoreLaws.{IsShaped, RegionOf}
use Rattle.change_directory.proofs.Elsewhere.{region_is_same}
use Rattle.disk_forming.specs.Places.{gated_slot_at}
use Rattle.disk_forming.specs.Gates as gates
use Rattle.disk_forming.specs.Forming as parts
use Rattle.disk_forming.specs.Forming.{ShowsBodies, LogsAreShut, MetaOf, MayGiveHeader, HasHeader, RecordsOf, MayGiveRecord, HasRecord, IsRecording}
use Rattle.mounted_groups.specs.Planned.{Plan, header_body, claim_body, status_body}
use Rattle.mounted_groups.specs.Ready.{HasRoom}
use Rattle.mounted_groups.specs.Stages.{first_copy, HasFirst, HasNoneOrFirst, IsForming, not_yet_formed, formed_to_header, formed_to_claim, fully_formed, HasAllParts, MayForm, HasFormed, IsHeaded}
use Rattle.mounted_groups.proofs.FirstCopy.{shut_is}

-- ---- runs, and what is known of their moments

module _ {step : Image → Image → Type 0} {P : Image → Type 0} {a b : BayState} (sound : IsSound b) where
  pub with_moments : {slots : ℕ → Type 0} → Runs slots step a b → LeavesOnly a b P → Runs slots (λ x y. step x y × P y) a b
  with_moments {slots} run only = record {
    later = run.later;
    faults = run.faults;
    other_faults = run.other_faults;
    other_written = run.other_written;
    tells = run.tells;
    held = λ image holds. let from = run.held image holds in (from.0, from.1, (from.2, only.each b.calls image only.later (omega arith) (sound.held image holds)));
    ended = run.ended;
    moments = λ m image low high left. let from = run.moments m image low high left in (from.0, from.1, (from.2, only.each m image low high left));
  }

  pub with_now : Ends step a b → NowOnly b P → Ends (λ x y. step x y × P y) a b
  with_now ends now = record {
    held = λ image holds. let from = ends.held image holds in (from.0, from.1, (from.2, now.now image (sound.held image holds)));
    now = λ image left. let from = ends.now image left in (from.0, from.1, (from.2, now.now image left));
  }

-- ---- an attached disk with room

module _ (slot units : ℕ) (some : 25 ≤ units) {s : BayState} (room : HasRoom slot units s) where
  attached_some : IsSome (s.attached slot)
  attached_some = subst IsSome (sym room.attached) refl

  long : 26214400 ≤ size_of s slot
  long = subst (λ (o : Option ℕ). 26214400 ≤ unwrap_or o 0) (sym room.attached) (omega (arith, room.inside, some))

  pub has_region : gates.HasAttachedRegion s slot 512 1024
  has_region = record { attached = attached_some; sector_size = inl refl; long = lit≤ tt; region = omega (arith, long) }

  pub is_copy : IsCopy s (first_copy slot)
  is_copy = record { attached = attached_some; sector_size = inl refl; least = lit≤ tt; most = lit≤ tt; inside = omega (arith, long) }

  pub still_room : {t : BayState} → KeepsAttached s t → HasRoom slot units t
  still_room {t} keeps = record { size = room.size; attached = keeps.same slot ∙ room.attached; inside = room.inside }

  pub room_now : IsSound s → NowOnly s (λ x. 26214400 ≤ x.size slot)
  room_now sound = record { now = λ x left. omega (arith, room.inside, some, sound.sized slot room.size x room.attached left) }

module _ (slot : ℕ) (plan : Plan) where
  abbrev pub copy : DirCopy
  copy = first_copy slot

  shape : IsShaped copy
  shape = record { sector = inl refl; least = lit≤ tt; most = lit≤ tt }

  are_shut : (x : Image) → LogsAreShut slot 512 1024 x → AreShut copy x
  are_shut x logs First = logs.first_log
  are_shut x logs Second = logs.second_log

  no_content : (x : Image) → 26214400 ≤ x.size slot → AreShut copy x → content_in copy x ≡ None
  no_content x room shut = (shut_is copy x shape (omega (arith, room)) shut).none

  -- ---- the header

  pub header_forms : (x y : Image) → 26214400 ≤ x.size slot → MayGiveHeader slot 512 1024 (header_body plan) x y → MayForm slot plan x y
  header_forms x y room step = ⊎_elim (λ closing. inl closing)
      (λ heads.
      let none = no_content y (omega (arith, room, heads.elsewhere.size slot)) (are_shut y heads.logs) in
      inr (record { is_forming = ⊎_elim (λ shows. not_yet_formed shows) (λ shows. formed_to_header shows (inl none)) heads.shows; elsewhere = heads.elsewhere }))
      step

  pub header_now : {a b : BayState} → NowOnly a (λ x. 26214400 ≤ x.size slot) → Ends (HasHeader slot 512 1024 (header_body plan)) a b → NowOnly b (IsHeaded slot plan)
  header_now {a} {b} room ends = now_only {P = λ x. 26214400 ≤ x.size slot} {Q = IsHeaded slot plan}
      (λ x y long has. record { shows = has.shows; shut = are_shut y has.logs; room = omega (arith, long, has.elsewhere.size slot) }) ends room

  -- ---- the directory copy

  slot_stays : (other : ℕ) → other + 2 ≤ 10 → (x y : Image) → ChangesOnly (RegionOf copy) x y → shown_body (gated_slot_at other 1 512) slot y ≡ shown_body (gated_slot_at other 1 512) slot x
  slot_stays other low x y step = shown-elsewhere (gated_slot_at other 1 512) slot (lit≤ tt) (RegionOf copy) x y meet step
    where
      meet : (k : ℕ) → PlaceOf (gated_slot_at other 1 512) slot slot k → RegionOf copy slot k → ⊥
      meet k here there = ⊎_elim (λ gate. absurd (omega (arith, gate.2, there.1, low))) (λ body. absurd (omega (arith, body.2, there.1, low))) here

  still_shows : (x y : Image) → ChangesOnly (RegionOf copy) x y → ShowsBodies slot 512 (Some (header_body plan)) None None x → ShowsBodies slot 512 (Some (header_body plan)) None None y
  still_shows x y step before = record {
    header_slot = slot_stays 0 (lit≤ tt) x y step ∙ before.header_slot;
    claim_slot = slot_stays 2 (lit≤ tt) x y step ∙ before.claim_slot;
    second_claim = slot_stays 4 (lit≤ tt) x y step ∙ before.second_claim;
    status_slot = slot_stays 6 (lit≤ tt) x y step ∙ before.status_slot;
    second_status = slot_stays 8 (lit≤ tt) x y step ∙ before.second_status;
  }

  -- the disk has its header and its directory copy
  pub record IsFilled (image : Image) : Type 0 where
    pub shows : ShowsBodies slot 512 (Some (header_body plan)) None None image
    pub content : HasFirst slot plan image
    pub room : 26214400 ≤ image.size slot

  module _ {slots : ℕ → Type 0} {a b : BayState} (now : NowOnly a (IsHeaded slot plan)) (run : Runs slots (ChangesOnly (RegionOf copy)) a b) where
    pub directory_moments : LeavesOnly a b (HasNoneOrFirst slot plan) → LeavesOnly a b (IsForming slot plan)
    directory_moments only = record {
      later = run.later;
      ended = run.ended;
      each = λ m image low high left.
          let from = run.moments m image low high left in
          formed_to_header (still_shows from.0 image from.2 (now.now from.0 from.1).shows) (only.each m image low high left);
    }

    pub filled_now : NowOnly b (HasFirst slot plan) → NowOnly b (IsFilled)
    filled_now first = record {
      now = λ image left.
          let from = (stops run).now image left in
          let before = now.now from.0 from.1 in
          record { shows = still_shows from.0 image from.2 before.shows; content = first.now image left; room = omega (arith, before.room, from.2.size slot) };
    }

  directory_inside : (x y : Image) → ChangesOnly (RegionOf copy) x y → ChangesOnly (MetaOf slot 1024) x y
  directory_inside x y step = changes-within (MetaOf slot 1024) (RegionOf copy) x y (λ s k inside. (inside.0, omega arith, omega (arith, inside.2))) step

  pub directory_run : {slots : ℕ → Type 0} {a b : BayState} → Runs slots (ChangesOnly (RegionOf copy)) a b → Runs slots (ChangesOnly (MetaOf slot 1024)) a b
  directory_run {slots} {a} {b} run = widened directory_inside run

  -- ---- the claim and the record

  content_stays : (x y : Image) → IsFilled x → ChangesOnly (RecordsOf slot) x y → HasFirst slot plan y
  content_stays x y before step =
      (region_is_same copy shape x y (omega (arith, before.room)) (record { size = step.size slot; bytes = λ k low high. step.byte slot k (λ inside. absurd (omega (arith, inside.2, low))) })).content ∙ before.content

  of_stage : (y : Image) → HasFirst slot plan y → IsRecording slot 512 (header_body plan) (claim_body plan) (status_body plan) y → IsForming slot plan y
  of_stage y content (parts.headed shows) = formed_to_header shows (inr content)
  of_stage y content (parts.claimed shows) = formed_to_claim shows content
  of_stage y content (parts.recorded shows) = fully_formed shows content

  pub record_moments : {slots : ℕ → Type 0} {a b : BayState} → NowOnly a IsFilled → Runs slots (MayGiveRecord slot 512 (claim_body plan) (status_body plan)) a b → LeavesOnly a b (IsForming slot plan)
  record_moments {slots} {a} {b} now run = leaves_only {P = IsFilled} {Q = IsForming slot plan}
      (λ x y before step. of_stage y (content_stays x y before step.elsewhere) (step.becomes (header_body plan) before.shows)) run now

  pub record_now : {a b : BayState} → NowOnly a IsFilled → Ends (HasRecord slot 512 (claim_body plan) (status_body plan)) a b → NowOnly b (HasAllParts slot plan)
  record_now {a} {b} now ends = now_only {P = IsFilled} {Q = HasAllParts slot plan}
      (λ x y before did. record { shows = did.becomes (header_body plan) before.shows; content = content_stays x y before did.elsewhere }) ends now

  record_inside : (x y : Image) → ChangesOnly (RecordsOf slot) x y → ChangesOnly (MetaOf slot 1024) x y
  record_inside x y step = changes-within (MetaOf slot 1024) (RecordsOf slot) x y (λ s k inside. (inside.0, omega arith, omega (arith, inside.2))) step

  pub record_run : {slots : ℕ → Type 0} {a b : BayState} → Runs slots (MayGiveRecord slot 512 (claim_body plan) (status_body plan)) a b → Runs slots (ChangesOnly (MetaOf slot 1024)) a b
  record_run {slots} {a} {b} run = widened (λ x y step. record_inside x y step.elsewhere) run

  -- ---- all together

  module _ {slots : ℕ → Type 0} {a b : BayState} (sound : IsSound a) (room : NowOnly a (λ x. 26214400 ≤ x.size slot))
      (first : Runs slots (MayGiveHeader slot 512 1024 (header_body plan)) a b) where
    pub header_run : Runs slots (MayForm slot plan) a b
    header_run = record {
      later = first.later;
      faults = first.faults;
      other_faults = first.other_faults;
      other_written = first.other_written;
      tells = first.tells;
      held = λ image holds. let from = first.held image holds in (from.0, from.1, header_forms from.0 image (room.now from.0 (sound.held from.0 from.1)) from.2);
      ended = first.ended;
      moments = λ m image low high left. let from = first.moments m image low high left in (from.0, from.1, header_forms from.0 image (room.now from.0 from.1) from.2);
    }

    module _ {c : BayState} (sound_then : IsSound c) (has : Ends (HasHeader slot 512 1024 (header_body plan)) a b) (next : Runs slots (ChangesOnly (MetaOf slot 1024)) b c) where
      pub parts_run : LeavesOnly b c (IsForming slot plan) → Runs slots (MayForm slot plan) a c
      parts_run only = goes_on {done = HasHeader slot 512 1024 (header_body plan)} {step = λ x y. ChangesOnly (MetaOf slot 1024) x y × IsForming slot plan y} {whole = MayForm slot plan}
          (λ x y z header step. inr (record { is_forming = step.1; elsewhere = changes-trans (MetaOf slot 1024) x y z header.elsewhere step.0 }))
          header_run has (with_moments {P = IsForming slot plan} sound_then next only)

      pub parts_done : NowOnly c (HasAllParts slot plan) → Ends (HasFormed slot plan) a c
      parts_done now = both_done {first = HasHeader slot 512 1024 (header_body plan)} {second = λ x y. ChangesOnly (MetaOf slot 1024) x y × HasAllParts slot plan y} {whole = HasFormed slot plan}
          (λ x y z header step. record { has_all = step.1; elsewhere = changes-trans (MetaOf slot 1024) x y z header.elsewhere step.0 })
          has (with_now {P = HasAllParts slot plan} sound_then (stops next) now)
