-- A copy that is on its way to another home.
use Rattle.std.proofs.Common.{◌≡◌, ⊎_elim, ℕ, ◌+◌, ◌-◌, ◌*◌, ◌<◌, ◌≤◌, List, length, get_or, slice_index, refl, sym, ap, subst, ◌∙◌, Some, None, arith, IsTrue}
use Rattle.std.proofs.lemmas.Bool.{cases_lt}
use Rattle.std.proofs.lemmas.List.{get_or_past}
use Rattle.bay.specs.Image as bay
use Rattle.bay.specs.Image.{Puts, Range}
use Rattle.bay.specs.State.{BayState, IsSound}
use Rattle.bay.proofs.Images.{get_or-window}
use Rattle.asm_group.specs.Group.{Group}
use Rattle.asm_group.specs.Shape.{Shape}
use Rattle.asm_formats.specs.Bytes.{block_size}
use Rattle.asm_formats.specs.Regions.{region_end}
use Rattle.asm_formats.specs.Header.{Header}
use Rattle.asm_formats.specs.Items.{Home}
use Rattle.asm_formats.specs.Status.{Status}
use Rattle.asm_images.specs.Bridge.{disks_in}
use Rattle.asm_images.specs.Copies.{is_kept}
use Rattle.asm_images.specs.Kept.{Kept}
use Rattle.asm_images.specs.Members.{Member, all_members, byte}
use Rattle.asm_formats.specs.Among.{IsAmong}
use Rattle.asm_images.proofs.Bridges.{bytes_are_listed, disks_are_listed}
use Rattle.status_register.specs.SurveyLaws.{IsMemberOn}
use Rattle.status_register.specs.Surveys.{disk_in}
use Rattle.group_engine.specs.Mounts.{MountedGroup, Mounts, slot_at}
use Rattle.group_engine.proofs.Calls.{image_of}
use Rattle.group_engine.proofs.Slots.{member_seen, member_there}
use Rattle.piece_laws.specs.Targets.{AgreesIn}
use Rattle.piece_laws.proofs.Kept.{kept_as}
use Rattle.flight_laws.specs.Agreeing.{AgreesBelow}
use Rattle.flight_laws.specs.Elsewhere.{IsUserHome, KeepsHeaders}
use Rattle.flight_laws.specs.Flying.{BeginningAgrees, CopyingGoesOn, FlightClearsOn, FlightLeadsOn, PutAgrees}
use Rattle.flight_laws.proofs.Elsewhere.{of_slot, place_stays, range_headers, was_member}
use Rattle.flight_laws.proofs.Leading.{move_leads_on, recopy_leads_on}

pub beginning_agrees : (s : BayState) → BeginningAgrees s
beginning_agrees = λ s m g f none. record { now = λ image left slots o b inner file k is_file cell lies lt among kept. absurd (omega (arith, none, lt)) }

-- a byte of a disk, in its list, also past its end, where there are zeros
pub byte_listed : (slots slot k : ℕ) (x : bay.Image) → slot < slots → (x.size slot ≤ k → x.byte slot k ≡ 0) → byte (disks_in slots x) slot k ≡ x.byte slot k
byte_listed slots slot k x lt past = ap (λ (l : List ℕ). slice_index l k) (disks_are_listed slots slot x lt).1 ∙ ⊎_elim
    (λ inside. (bytes_are_listed x slot).1 k inside)
    (λ le. get_or_past _ k 0 (omega (arith, (bytes_are_listed x slot).0, le)) ∙ sym (past le))
    (cases_lt k (x.size slot))

module _ (n : ℕ) (m : MountedGroup) (s : BayState) (g : Group) (kept : Kept) (mounts : Mounts n m s g kept) where
  abbrev id : ℕ
  id = m.register.id

  abbrev r : Status
  r = m.register.value

  -- A member that the record keeps as an attached disk is in the slot of that disk.
  pub kept_in_slot : (h : Home) (slot : ℕ) → slot_at m.disks h.disk ≡ Some slot → (x : bay.Image) → s.leaves s.calls x → (slots : ℕ) (k : Member) → IsAmong (all_members id (disks_in slots x)) k
      → IsTrue (is_kept r h.disk k.header) → k.slot ≡ slot
  kept_in_slot h slot at x left slots k among is_kept_ =
      let of = image_of n m s g kept mounts x left in
      let disk = of_slot (get_or m.register.members h.disk None) slot (sym (mounts.whole.disks h.disk) ∙ at) in
      let on : IsMemberOn n id x disk.0 = of.members h.disk disk.0 disk.1 in
      let as_kept = kept_as r h k.header is_kept_ in
      let seen = member_seen id slots x k among in
      let b = slots + n in
      let mine : Member = record { slot = k.slot; header = k.header; disk = disk_in x k.slot } in
      let other : Member = record { slot = disk.0.slot; header = on.header; disk = disk_in x disk.0.slot } in
      let there = member_there id b k.slot x k.header (omega (arith, seen.slot)) seen.header seen.group in
      let attached = member_there id b disk.0.slot x on.header (omega (arith, on.inside)) on.header_is on.group in
      let number : k.header.number ≡ on.header.number = as_kept.number ∙ sym (on.number ∙ mounts.whole.numbers h.disk disk.0 disk.1) in
      let birth : k.header.birth ≡ on.header.birth = as_kept.birth ∙ sym (on.birth ∙ mounts.whole.births h.disk disk.0 as_kept.entry disk.1 as_kept.entry_is) in
      (of.is_held.sound b).fits.distinct mine other there attached number birth ∙ disk.2

  -- ---- bytes more are put

  module _ (c : Group) (shape : c.shape ≡ g.shape) (f i : ℕ) (h : Home) (end slot : ℕ) (bytes : List ℕ) (at : slot_at m.disks h.disk ≡ Some slot) (user : IsUserHome m.catalog.shape h)
      (reads : AgreesIn c (record { file = f; index = i; from = end; len = length bytes }) bytes)
      (x y : bay.Image) (left : s.leaves s.calls x) (agrees : AgreesBelow id r c f i h end x) (puts : Puts slot (h.unit * m.catalog.shape.au + end) bytes x y)
      (past_end : (k : ℕ) → y.size slot ≤ k → y.byte slot k ≡ 0) where
    abbrev place : ℕ
    place = h.unit * c.shape.au + end

    same_shape : m.catalog.shape ≡ c.shape
    same_shape = sym mounts.represents.shape ∙ sym shape

    put_here : Puts slot place bytes x y
    put_here = subst (λ (z : Shape). Puts slot (h.unit * z.au + end) bytes x y) same_shape puts

    behind : region_end c.shape.dir_blocks * block_size ≤ h.unit * c.shape.au
    behind = subst (λ (z : Shape). IsUserHome z h) same_shape user

    headers : KeepsHeaders x y
    headers = range_headers slot place (length bytes) x y (omega (arith, behind)) put_here.elsewhere

    more_agree : AgreesBelow id r c f i h (end + length bytes) y
    more_agree slots o b inner file k is_file cell lies lt among is_kept_ =
        let w = was_member x y headers id slots k among in
        let kept_then = subst (λ (z : Header). IsTrue (is_kept r h.disk z)) (sym w.header) is_kept_ in
        ⊎_elim
        (λ early.
        place_stays x y headers id slots (h.unit * c.shape.au + inner) k w (put_here.elsewhere.byte w.was.slot (h.unit * c.shape.au + inner) (λ met. omega (arith, early, met.1)))
        ∙ agrees slots o b inner file w.was is_file cell lies early w.among kept_then)
        (λ late.
        let in_slot : k.slot ≡ slot = sym w.slot ∙ kept_in_slot h slot at x left slots w.was w.among kept_then in
        let inside : slot < slots = subst (λ (z : ℕ). z < slots) in_slot w.inside in
        let step : h.unit * c.shape.au + inner ≡ place + (inner - end) = omega (arith, late) in
        let few : inner - end < length bytes = omega (arith, late, lt) in
        ap (λ (z : ℕ). byte (disks_in slots y) z (h.unit * c.shape.au + inner)) in_slot ∙ byte_listed slots slot (h.unit * c.shape.au + inner) y inside (past_end (h.unit * c.shape.au + inner))
        ∙ ap (λ (z : ℕ). y.byte slot z) step ∙ sym (get_or-window (y.byte slot) place (length bytes) (inner - end) few) ∙ ap (λ (l : List ℕ). slice_index l (inner - end)) put_here.here
        ∙ reads file o b inner is_file cell lies late lt)
        (cases_lt inner end)

pub put_agrees : (s t : BayState) → IsSound t → PutAgrees s t
put_agrees = λ s t sound n m g c kept f i h end slot bytes mounts shape at user agrees reads ends. record {
  now = λ y left.
      let from = ends.now y left in
      more_agree n m s g kept mounts c shape f i h end slot bytes at user reads from.0 y from.1 (agrees.now from.0 from.1) from.2 (λ k le. sound.past_end slot k y left le);
}

pub copying_goes_on : (s t : BayState) → IsSound t → CopyingGoesOn s t
copying_goes_on = λ s t sound n m g kept f slot bytes mounts at user agrees reads ends.
    put_agrees s t sound n m g g kept f.x.file f.x.index f.to f.copied slot bytes mounts refl at user agrees reads ends

pub flight_leads_on : (s : BayState) → FlightLeadsOn s
flight_leads_on = λ s n m put gone g kept f mounts agrees whole plan regular turns.
    move_leads_on s n m put gone g kept f.x.file f.x.index f.copy f.to mounts plan regular
    (record { now = λ image left slots o b inner file k is_file cell lies lt among is_kept_. agrees.now image left slots o b inner file k is_file cell lies (omega (arith, lt, whole)) among is_kept_ })
    turns

pub flight_clears_on : (s : BayState) → FlightClearsOn s
flight_clears_on = λ s n m put gone g kept f mounts agrees whole plan home turns.
    recopy_leads_on s n m put gone g kept f.x.file f.x.index f.copy f.to mounts plan home
    (record { now = λ image left slots o b inner file k is_file cell lies lt among is_kept_. agrees.now image left slots o b inner file k is_file cell lies (omega (arith, lt, whole)) among is_kept_ })
    turns
