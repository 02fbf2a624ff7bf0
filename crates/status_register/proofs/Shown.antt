-- What the gates and bodies of slots show.
use Rattle.std.proofs.Common.{◌≡◌, ℕ, ◌+◌, ◌*◌, true, false, List, Option, Some, None, refl, sym, ap, subst, ◌∙◌}
use Rattle.std.specs.Prelude.{◌==◌, if◌then◌else◌}
use Rattle.std.specs.Option.{ForSome}
use Rattle.std.proofs.lemmas.Bool.{cond-true, cond-false}
use Rattle.std.proofs.lemmas.Option.{same_Some}
use Rattle.bay.specs.Image.{Image, Same, window}
use Rattle.bay.specs.State.{BayState}
use Rattle.bay.specs.Moments.{Runs}
use Rattle.bay.proofs.Images.{window-same}
use Rattle.body_slot.specs.Slot.{is_open_in}
use Rattle.asm_images.specs.Bridge.{shown_block}
use Rattle.status_register.specs.Places.{gated_block_at}
use Rattle.bay.specs.Told.{Told}
use Rattle.status_register.specs.Slots.{ShowBoth, claim_gate, first_gate, gate_by, next_gate, number_in, other_gate, second_gate, status_gate}
use Rattle.status_register.specs.declared.places.SlotPair.{SlotPair}
use Rattle.status_register.specs.declared.places.SlotPair.TheVariants.{Claims, Records}
use Rattle.status_register.proofs.Telling.{SameBytes}

-- disks with the same bytes show the same
pub same_shown : (slot gate : ℕ) (x y : Image) → SameBytes slot x y → shown_block y slot gate ≡ shown_block x slot gate
same_shown slot gate x y same = λ i. if same (gate * 4096) i == 165 then Some (body i) else None
  where
    body : window (y.byte slot) ((gate + 1) * 4096) 4096 ≡ window (x.byte slot) ((gate + 1) * 4096) 4096
    body = window-same (x.byte slot) (y.byte slot) ((gate + 1) * 4096) 4096 (λ k low high. same k)

module _ (slot gate sector : ℕ) where
  pub shut_body : (s t : BayState) → ForSome s.holds (λ image. false ≡ is_open_in (gated_block_at gate sector) slot image) → Told s t (λ image. None ≡ shown_block image slot gate)
  shut_body s t shut = λ now holds image was. sym (cond-false (image.byte slot (gate * 4096) == 165) (Some (window (image.byte slot) ((gate + 1) * 4096) 4096)) None (sym (shut image was)))

  pub open_body : (s m t : BayState) {early later : ℕ → Type 0} (bytes : List ℕ) (n : ℕ) → n ≡ 4096 → ForSome s.holds (λ image. true ≡ is_open_in (gated_block_at gate sector) slot image)
      → Runs early Same s m → Runs later Same m t → ForSome m.holds (λ image. bytes ≡ window (image.byte slot) ((gate + 1) * 4096) n)
      → Told s t (λ image. Some bytes ≡ shown_block image slot gate)
  open_body s m t bytes n len is_open first next read = λ now holds image was.
      let mid = next.held now holds in
      let start = first.held mid.0 mid.1 in
      let is : start.0 ≡ image = same_Some start.0 image (sym start.1 ∙ was) in
      let body : window (mid.0.byte slot) ((gate + 1) * 4096) 4096 ≡ window (start.0.byte slot) ((gate + 1) * 4096) 4096 =
      window-same (start.0.byte slot) (mid.0.byte slot) ((gate + 1) * 4096) 4096 (λ k low high. start.2.byte slot k) in
      let there : Some bytes ≡ shown_block start.0 slot gate =
      ap (λ (l : List ℕ). Some l) (read mid.0 mid.1 ∙ (ap (λ (k : ℕ). window (mid.0.byte slot) ((gate + 1) * 4096) k) len ∙ body))
      ∙ sym (cond-true (start.0.byte slot (gate * 4096) == 165) (Some (window (start.0.byte slot) ((gate + 1) * 4096) 4096)) None (sym (is_open start.0 start.1))) in
      subst (λ (i : Image). Some bytes ≡ shown_block i slot gate) is there

-- ---- the next gates

-- by the bodies in both slots
pub next_gate_by : (pair : SlotPair) (id slot : ℕ) (image : Image) → next_gate pair id slot image ≡ gate_by pair id slot image
unfolding claim_gate status_gate
next_gate_by Claims id slot image = refl
next_gate_by Records id slot image = refl

module _ (pair : SlotPair) (id slot : ℕ) where
  abbrev gate_of_bodies : Option (List ℕ) → Option (List ℕ) → ℕ
  gate_of_bodies one other = other_gate (first_gate pair) (second_gate pair) (number_in pair id one) (number_in pair id other)

  pub same_next_gate : (x y : Image) → SameBytes slot x y → next_gate pair id slot y ≡ next_gate pair id slot x
  same_next_gate x y same = next_gate_by pair id slot y
      ∙ ((λ i. gate_of_bodies (same_shown slot (first_gate pair) x y same i) (same_shown slot (second_gate pair) x y same i)) ∙ sym (next_gate_by pair id slot x))

  pub next_gate_is : (image : Image) (one other : Option (List ℕ)) → ShowBoth pair slot one other image
      → next_gate pair id slot image ≡ other_gate (first_gate pair) (second_gate pair) (number_in pair id one) (number_in pair id other)
  next_gate_is image one other show = next_gate_by pair id slot image ∙ sym (λ i. gate_of_bodies (show.first i) (show.second i))

-- bodies are shown as they were
pub same_both : (pair : SlotPair) (slot : ℕ) (one other : Option (List ℕ)) (x y : Image) → SameBytes slot x y → ShowBoth pair slot one other y → ShowBoth pair slot one other x
same_both pair slot one other x y same show = record {
  first = show.first ∙ same_shown slot (first_gate pair) x y same;
  second = show.second ∙ same_shown slot (second_gate pair) x y same;
}
