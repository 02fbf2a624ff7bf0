-- What is read of a disk that a sync has settled.
use Rattle.std.proofs.Common.{◌≡◌, ℕ, ◌<◌, ◌≤◌, true, false, Some, None, Option, sym, ap, subst, ◌∙◌, arith}
use Rattle.std.specs.Option.{ForSome}
use Rattle.std.proofs.lemmas.Option.{same_Some}
use Rattle.bay.specs.Image.{Image, Same, window}
use Rattle.bay.specs.State.{BayState, IsSound}
use Rattle.bay.specs.Moments.{Runs, Holds, Durable, NowOnly}
use Rattle.bay.proofs.Images.{window-same}
use Rattle.body_slot.specs.Slot.{is_open_in}
use Rattle.disk_forming.specs.Places.{gated_slot_at}
use Rattle.asm_formats.specs.Header.{Header, decoded_header}
use Rattle.asm_formats.specs.Metadata.{header_of}
use Rattle.asm_images.specs.Kept.{header_in}
use Rattle.asm_images.proofs.Bridges.{same_disk}
use Rattle.disk_images.specs.Looks.{HeaderIs}
use Rattle.disk_images.proofs.HeaderBytes.{same_header, short_none, gate_shut_none, open_header}

module _ {s : BayState} (slot size : ℕ) (sound : IsSound s) (attached : s.attached slot ≡ Some size) where
  sized : (image : Image) → s.holds ≡ Some image → image.size slot ≡ size
  sized image holds = sound.sized slot size image attached (sound.held image holds)

  pub read_short : size < 40960 → Holds (HeaderIs slot None) s s
  read_short short = record { held = λ image holds. (image, holds, short_none slot image (omega (arith, sized image holds, short))) }

  module _ (t : BayState) (long : 40960 ≤ size) where
    pub read_shut : {slots : ℕ → Type 0} → ForSome s.holds (λ image. false ≡ is_open_in (gated_slot_at 0 1 4096) slot image) → Runs slots Same s t → Holds (HeaderIs slot None) s t
    read_shut shut run = record {
      held = λ image holds.
          let from = run.held image holds in
          (from.0, from.1, same_header slot from.0 image from.2 ∙ gate_shut_none slot from.0 (omega (arith, sized from.0 from.1, long)) 4096 (shut from.0 from.1));
    }

    pub read_open : {m : BayState} {early later : ℕ → Type 0} (header : Option Header) → ForSome s.holds (λ image. true ≡ is_open_in (gated_slot_at 0 1 4096) slot image)
        → Runs early Same s m → Runs later Same m t → ForSome m.holds (λ image. header ≡ decoded_header (window (image.byte slot) 4096 4096))
        → Holds (HeaderIs slot header) s t
    read_open header gate first next read = record {
      held = λ image holds.
          let mid = next.held image holds in
          let start = first.held mid.0 mid.1 in
          let there : header_in start.0 slot ≡ header =
          open_header slot start.0 (omega (arith, sized start.0 start.1, long)) 4096 (gate start.0 start.1)
          ∙ (sym (ap decoded_header (window-same (start.0.byte slot) (mid.0.byte slot) 4096 4096 (λ k low high. start.2.byte slot k))) ∙ sym (read mid.0 mid.1)) in
          (start.0, start.1, same_header slot mid.0 image mid.2 ∙ same_header slot start.0 mid.0 start.2 ∙ there);
    }

-- what was read of a settled disk is so in each image that a stop may leave
pub settled : {m t : BayState} {slots : ℕ → Type 0} (slot size : ℕ) (o : Option Header) → IsSound m → IsSound t → m.attached slot ≡ Some size
    → Durable slot m → Runs slots Same m t → Holds (HeaderIs slot o) m t → NowOnly t (λ image. header_in image slot ≡ o)
settled {m} {t} slot size o before after attached durable run read = record {
  now = λ image left.
      let held = after.told image left in
      let first = run.held held.0 held.1 in
      let was = read.held held.0 held.1 in
      let from = run.moments t.calls image run.later (omega arith) left in
      let same_size : from.0.size slot ≡ first.0.size slot = before.sized slot size from.0 attached from.1 ∙ sym (before.sized slot size first.0 attached (before.held first.0 first.1)) in
      let settled_disk : header_in from.0 slot ≡ header_in first.0 slot = ap header_of (same_disk first.0 from.0 slot same_size (λ k. durable.byte from.0 first.0 k from.1 first.1)) in
      same_header slot from.0 image from.2 ∙ settled_disk ∙ sym (same_header slot first.0 held.0 first.2) ∙ was.2;
}

-- it stays so over calls that leave the disks
pub still : {m t : BayState} {slots : ℕ → Type 0} (slot : ℕ) (o : Option Header) → Runs slots Same m t
    → NowOnly m (λ image. header_in image slot ≡ o) → NowOnly t (λ image. header_in image slot ≡ o)
still {m} {t} slot o run now = record {
  now = λ image left.
      let from = run.moments t.calls image run.later (omega arith) left in
      same_header slot from.0 image from.2 ∙ now.now from.0 from.1;
}
