-- Ids without members, groups that are gone, and disks of other groups.
use Rattle.std.proofs.Common.{◌≡◌, ◌≢◌, ⊎_elim, ℕ, ◌<◌, true, List, [], length, get_or, sym, ap, subst, ◌∙◌, Some, None, arith}
use Rattle.std.proofs.lemmas.Bool.{false≢true}
use Rattle.std.proofs.lemmas.Option.{same_Some}
use Rattle.std.proofs.lemmas.List.{get_or-set_same, length-set}
use Rattle.asm_group.specs.Group.{Group}
use Rattle.asm_formats.specs.Header.{Header}
use Rattle.asm_formats.specs.Status.{Status}
use Rattle.asm_formats.specs.Metadata.{metadata, header_of}
use Rattle.asm_formats.specs.Among.{IsAmong}
use Rattle.asm_images.specs.Members.{ImageBytes, Member, written, all_members, IsOutside}
use Rattle.asm_images.specs.Register.{Fits}
use Rattle.asm_images.specs.Sound.{SoundBy}
use Rattle.asm_images.specs.Steps.{IsElsewhere}
use Rattle.asm_images.proofs.Members.{member_is}
use Rattle.asm_images.proofs.Zeros.{nothing_fits}
use Rattle.asm_images.proofs.Spans.{narrow_keeps}

pub memberless_is_sound : (id : ℕ) (image : ImageBytes) → all_members id image ≡ [] → SoundBy id image [] None []
memberless_is_sound id image none = record {
  fits = subst (λ (ms : List Member). Fits id ms None []) (sym none) (nothing_fits id);
  covered = λ r counts not_gone. absurd counts;
}

pub gone_holds_nothing : (id : ℕ) (image : ImageBytes) (groups : List Group) (r : Status) → SoundBy id image groups (Some r) [] → r.gone ≡ true → SoundBy id image [] (Some r) []
gone_holds_nothing id image groups r sound gone = narrow_keeps id image groups [] (Some r) [] sound (record {
  left = λ s c P counts alive found. ⊎_elim (λ (same : s ≡ r). absurd (false≢true (sym alive ∙ ap (λ (t : Status). t.gone) same ∙ gone))) (λ none. absurd none) counts;
})

pub member_is_outside_others : (id other : ℕ) (image : ImageBytes) (m : Member) → IsAmong (all_members id image) m → other ≢ id → IsOutside (all_members other image) m.slot
member_is_outside_others id other image m hm differ n hn at =
    let a = member_is id image m hm in
    let b = member_is other image n hn in
    let header : n.header ≡ m.header = same_Some n.header m.header (sym b.header ∙ ap (λ (k : ℕ). header_of (get_or image k [])) at ∙ a.header) in
    differ (sym b.group ∙ ap (λ (h : Header). h.id) header ∙ a.group)

pub other_header_is_elsewhere : (id : ℕ) (old : ImageBytes) (slot : ℕ) (bytes : List ℕ) → IsOutside (all_members id old) slot
    → ((h : Header) → (metadata bytes).header ≡ Some h → h.id ≢ id) → IsElsewhere id old slot bytes
unfolding metadata
other_header_is_elsewhere id old slot bytes outside other = record {
  before = outside;
  after = λ m hm at.
      let is = member_is id (written old slot bytes) m hm in
      let inside : slot < length old = omega (arith, is.slot, at, length-set old slot bytes) in
      let here : get_or (written old slot bytes) m.slot [] ≡ bytes = ap (λ (k : ℕ). get_or (written old slot bytes) k []) at ∙ get_or-set_same old slot bytes [] inside in
      other m.header (ap header_of (sym here) ∙ is.header) is.group;
}
