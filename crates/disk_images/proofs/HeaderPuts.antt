-- Disks whose gates are shut, and what they show once a header was put.
use Rattle.std.specs.Prelude.{IsSome, Option, unwrap_or}
use Rattle.std.proofs.Common.{◌≡◌, ◌≢◌, ◌⊎◌, inl, inr, ⊎_elim, ℕ, ◌+◌, ◌*◌, ◌<◌, ◌≤◌, true, false, List, [], ◌∷◌, length, get_or, refl, sym, ap, subst, ◌∙◌, None, Some, IsTrue, arith}
use Rattle.std.proofs.lemmas.Bool.{cases_eq, false≢true}
use Rattle.std.proofs.lemmas.Option.{same_Some, none-some}
use Rattle.bay.specs.Image as bay
use Rattle.bay.specs.Image.{Range, ChangesOnly}
use Rattle.bay.specs.State.{BayState, IsSound, size_of}
use Rattle.bay.proofs.Images.{changes-within}
use Rattle.body_slot.specs.Slot.{IsUsablePlace, PlaceOf, is_open_in, shown_body, MayPut}
use Rattle.body_slot.proofs.Steps.{shown-closed}
use Rattle.disk_forming.specs.Places.{gated_slot_at}
use Rattle.disk_forming.specs.Gates.{ClosesAll}
use Rattle.disk_forming.proofs.Steps.{has_put_header}
use Rattle.disk_forming.proofs.Shutting.{block_sectors, short_sector, some_sector}
use Rattle.asm_formats.specs.Bytes.{block_size, is_open}
use Rattle.asm_formats.specs.Regions.{least_size, region_end, header_gate}
use Rattle.asm_formats.specs.Header.{Header, is_header, header_spelling}
use Rattle.asm_formats.specs.Metadata.{header_of}
use Rattle.asm_formats.specs.Slots.{IsPut}
use Rattle.asm_formats.specs.Among.{IsAmong}
use Rattle.asm_images.specs.Members.{ImageBytes, Member, all_members, written, IsOutside}
use Rattle.asm_images.specs.Bridge.{disk_bytes, disks_in, ChangesSlot}
use Rattle.asm_images.specs.Kept.{header_in, IsMemberIn}
use Rattle.asm_images.specs.PutLaws.{bytes_of, OthersClosed}
use Rattle.asm_images.specs.Sound.{SoundBy}
use Rattle.asm_images.specs.Steps.{MayJoin}
use Rattle.asm_images.proofs.Members.{member_is}
use Rattle.asm_images.proofs.Bridges.{listed, disks_are_listed, bytes_are_listed, shown_is_put}
use Rattle.asm_images.proofs.PutKeeps.{header_put_keeps}
use Rattle.disk_images.specs.Headers.{HasHeaderSlot, IsBlank, gates_of_disk, History, IsSoundByHistory, KeepsSound, HeaderPuttingKeeps, FormattedDisksShow}
use Rattle.disk_images.proofs.Shapes.{header_sector, header_long}
use Rattle.disk_images.proofs.HeaderBytes.{same_gate, shut_header, nothing_shown, header_shown}
use Rattle.disk_images.proofs.Departing.{in_list, looked_at, leaves}

-- ---- all gates are shut

pub closed_is_blank : (slot sector dir_blocks : ℕ) (old new : bay.Image) → 128 ≤ dir_blocks → region_end dir_blocks * block_size ≤ old.size slot → ClosesAll slot sector dir_blocks old new → IsBlank slot dir_blocks new
closed_is_blank slot sector dir_blocks old new many long closed = record {
  long = omega (arith, long, closed.elsewhere.size slot);
  shut = λ gate among. shut gate among;
}
  where
    here : (gate : ℕ) → gate + 1 ≤ region_end dir_blocks → is_open_in (gated_slot_at gate 1 sector) slot new ≡ false → is_open (disk_bytes new slot) gate ≡ false
    here gate inside is = same_gate slot new gate sector (omega (arith, inside, long, closed.elsewhere.size slot)) ∙ is

    second : 76 + dir_blocks ≡ 10 + dir_blocks + 66
    second = omega arith

    shut : (gate : ℕ) → IsAmong (gates_of_disk dir_blocks) gate → is_open (disk_bytes new slot) gate ≡ false
    shut gate (inl e) = subst (λ (g : ℕ). is_open (disk_bytes new slot) g ≡ false) (sym e) (here 0 (omega arith) (closed.are_shut 0 (omega arith)))
    shut gate (inr (inl e)) = subst (λ (g : ℕ). is_open (disk_bytes new slot) g ≡ false) (sym e) (here 2 (omega arith) (closed.are_shut 1 (omega arith)))
    shut gate (inr (inr (inl e))) = subst (λ (g : ℕ). is_open (disk_bytes new slot) g ≡ false) (sym e) (here 4 (omega arith) (closed.are_shut 2 (omega arith)))
    shut gate (inr (inr (inr (inl e)))) = subst (λ (g : ℕ). is_open (disk_bytes new slot) g ≡ false) (sym e) (here 6 (omega arith) (closed.are_shut 3 (omega arith)))
    shut gate (inr (inr (inr (inr (inl e))))) = subst (λ (g : ℕ). is_open (disk_bytes new slot) g ≡ false) (sym e) (here 8 (omega arith) (closed.are_shut 4 (omega arith)))
    shut gate (inr (inr (inr (inr (inr (inl e)))))) = subst (λ (g : ℕ). is_open (disk_bytes new slot) g ≡ false) (sym e) (here (10 + dir_blocks) (omega (arith, many)) (closed.are_shut 5 (omega arith)))
    shut gate (inr (inr (inr (inr (inr (inr (inl e))))))) = subst (λ (g : ℕ). is_open (disk_bytes new slot) g ≡ false) (sym e)
        (subst (λ (g : ℕ). is_open (disk_bytes new slot) g ≡ false) second (here (76 + dir_blocks) (omega (arith, many)) (closed.are_shut 6 (omega arith))))
    shut gate (inr (inr (inr (inr (inr (inr (inr none))))))) = absurd none

-- at least the gates and the bodies below the directory region
blank_long : (slot dir_blocks : ℕ) (image : bay.Image) → IsBlank slot dir_blocks image → 57344 ≤ image.size slot
blank_long slot dir_blocks image blank = omega (arith, blank.long)

-- ---- the header

module _ (slot : ℕ) (h : Header) (old new : bay.Image) (ok : is_header h ≡ true) (blank : IsBlank slot h.shape.dir_blocks old)
    (put : MayPut (gated_slot_at 0 1 h.shape.sector) slot (header_spelling h) old new) where
  abbrev sector : ℕ
  sector = h.shape.sector

  short : sector ≤ 4096
  short = short_sector sector (header_sector h ok)

  long : 57344 ≤ old.size slot
  long = blank_long slot h.shape.dir_blocks old blank

  changes : ChangesSlot slot old new
  changes = record {
    size = λ s differ. put.elsewhere.size s;
    byte = λ s k differ. put.elsewhere.byte s k (λ inside. ⊎_elim (λ gate. differ gate.0) (λ body. differ body.0) inside);
  }

  in_blocks : ChangesOnly (Range slot 0 8192) old new
  in_blocks = changes-within (Range slot 0 8192) (PlaceOf (gated_slot_at 0 1 sector) slot) old new
      (λ s k inside. ⊎_elim (λ gate. (gate.0, omega arith, omega (arith, gate.2, short))) (λ body. (body.0, omega arith, omega (arith, body.2))) inside) put.elsewhere

  is_put : IsPut (disk_bytes old slot) (disk_bytes new slot) header_gate (header_spelling h)
  is_put = shown_is_put old new slot 0 (header_spelling h) (omega (arith, long)) in_blocks put.shows

  was_shut : is_open_in (gated_slot_at 0 1 sector) slot old ≡ false
  was_shut = sym (same_gate slot old 0 sector (omega (arith, long))) ∙ blank.shut 0 (inl refl)

  new_long : 40960 ≤ new.size slot
  new_long = omega (arith, long, put.elsewhere.size slot)

  -- there is no header, or this one
  header_after : (header_in new slot ≡ None) ⊎ (header_in new slot ≡ Some h)
  header_after = ⊎_elim
      (λ same. inl (nothing_shown slot new new_long sector (same ∙ shown-closed (gated_slot_at 0 1 sector) slot old was_shut)))
      (λ other. ⊎_elim (λ none. inl (nothing_shown slot new new_long sector none)) (λ there. inr (header_shown slot new new_long sector h ok there)) other)
      put.shows

  module _ (history : History) where
    -- an id that isn't the header's
    others_keep : h.id ≢ history.id → KeepsSound history old new
    others_keep apart = leaves history slot old new changes (λ is. ⊎_elim
        (λ none. none-some is.0 (sym none ∙ is.1))
        (λ there. apart (ap (λ (x : Header). x.id) (same_Some h is.0 (sym there ∙ is.1)) ∙ is.2))
        header_after)

    abbrev disks : ImageBytes
    disks = disks_in history.slots old

    outside : IsOutside (all_members history.id disks) slot
    outside m among at =
        let is = member_is history.id disks m among in
        let lt : slot < history.slots = omega (arith, is.slot, at, count) in
        let here : get_or disks m.slot [] ≡ disk_bytes old slot = ap (λ (k : ℕ). get_or disks k []) at ∙ (disks_are_listed history.slots slot old lt).1 in
        none-some m.header (sym (shut_header (disk_bytes old slot) (blank.shut 0 (inl refl))) ∙ ap header_of (sym here) ∙ is.header)
      where
        count : length disks ≡ history.slots
        count = listed history.slots old

    joins : MayJoin history.id (all_members history.id disks) history.groups history.completed history.begun h → KeepsSound history old new
    joins may_join sound = looked_at history slot old new changes (λ lt.
        let here : disk_bytes old slot ≡ bytes_of disks slot = sym (disks_are_listed history.slots slot old lt).1 in
        header_put_keeps history.id disks history.groups history.completed history.begun sound h slot (disk_bytes new slot) (in_list history slot old new changes lt)
        (subst (λ (l : List ℕ). least_size ≤ length l) here (omega (arith, long, (bytes_are_listed old slot).0)))
        ok
        (subst (λ (l : List ℕ). OthersClosed h l) here (λ k among. blank.shut k (inr among)))
        outside may_join
        (subst (λ (l : List ℕ). IsPut l (disk_bytes new slot) header_gate (header_spelling h)) here is_put)) sound

pub header_putting_keeps : HeaderPuttingKeeps
header_putting_keeps = λ history slot h old new ok blank may_join put. ⊎_elim
    (λ (same : h.id ≡ history.id). joins slot h old new ok blank put history (may_join same))
    (λ (apart : h.id ≢ history.id). others_keep slot h old new ok blank put history apart)
    (cases_eq h.id history.id)

pub formatted_disks_show : FormattedDisksShow
formatted_disks_show = λ slot h old closed new ok closes put.
    let sector = h.shape.sector in
    has_put_header slot sector (some_sector sector (header_sector h ok)) (short_sector sector (header_sector h ok)) h.shape.dir_blocks (header_long h ok) (header_spelling h) old closed new closes put

-- ---- where a call may be made

-- an attached disk is as long in each image
pub long_in : {s : BayState} (slot n : ℕ) → IsSound s → IsSome (s.attached slot) → n ≤ size_of s slot → (x : bay.Image) → s.leaves s.calls x → n ≤ x.size slot
long_in {s} slot n sound some le x left = by (s.attached slot) refl
  where
    by : (o : Option ℕ) → s.attached slot ≡ o → n ≤ x.size slot
    by None none = absurd (false≢true (subst IsSome none some))
    by (Some size) is =
        let long : n ≤ size = subst (λ (o : Option ℕ). n ≤ unwrap_or o 0) is le in
        omega (arith, long, sound.sized slot size x is left)

pub usable_header : {s : BayState} {slot sector : ℕ} → HasHeaderSlot s slot sector → IsUsablePlace s slot (gated_slot_at 0 1 sector)
usable_header {s} {slot} {sector} has =
    let short = short_sector sector has.sector_size in
    record {
      attached = has.attached;
      sector = has.sector_size;
      gate_inside = omega (arith, short, has.long);
      body_inside = omega (arith, has.long);
      gate_sectors = block_sectors 0 sector has.sector_size;
      body_sectors = block_sectors 1 sector has.sector_size;
      len_sectors = block_sectors 1 sector has.sector_size;
      apart = inl (omega (arith, short));
    }
