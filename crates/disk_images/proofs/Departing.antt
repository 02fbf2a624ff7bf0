-- A disk that is no member afterwards leaves first, and changes then.
use Rattle.std.proofs.Common.{◌≡◌, ◌≢◌, ⊎_elim, ℕ, zero, suc, ◌+◌, ◌*◌, ◌<◌, ◌≤◌, true, false, cond, List, [], ◌∷◌, length, set, get_or, slice_index, replicate, refl, sym, ap, subst, ◌∙◌, Option, None, Some, arith, inl, inr}
use Rattle.std.specs.Prelude.{nat_le, ◌&&◌, ◌==◌}
use Rattle.std.proofs.lemmas.Bool.{cases_lt, cases_Bool, false≢true}
use Rattle.std.proofs.lemmas.Option.{none-some}
use Rattle.std.proofs.lemmas.List.{get_or-set_same, get_or-set_other, length-set, get_or_past}
use Rattle.std.proofs.Math.Seq.{map-set_same}
use Rattle.bay.specs.Image as bay
use Rattle.bay.specs.Image.{Range, ChangesOnly, Makes, MayMake}
use Rattle.bay.proofs.Images.{window-same, changes-within}
use Rattle.body_slot.specs.Slot.{GateOf, is_open_in, shown_body, MayClose}
use Rattle.body_slot.proofs.Steps.{shown-closed, shown-shut}
use Rattle.disk_forming.specs.Places.{gated_slot_at}
use Rattle.disk_forming.specs.Gates.{MayCloseAll}
use Rattle.asm_formats.specs.Bytes.{block_size, is_open, block}
use Rattle.asm_formats.specs.Regions.{least_size, header_gate}
use Rattle.asm_formats.specs.Header.{Header, decoded_header}
use Rattle.asm_formats.specs.Pages.{decodes_in}
use Rattle.asm_formats.specs.Metadata.{Metadata, metadata, header_of, content_of}
use Rattle.asm_formats.specs.Places.{SameElsewhere, SameButBlocks}
use Rattle.asm_formats.proofs.Framing.{header_write, content_behind}
use Rattle.asm_formats.specs.Among.{IsAmong}
use Rattle.asm_images.specs.Members.{ImageBytes, Member, metadata_of, all_members, written, IsOutside}
use Rattle.asm_images.specs.Bridge.{disk_bytes, disks_in, ChangesSlot}
use Rattle.asm_images.specs.Kept.{header_in, IsMemberIn}
use Rattle.asm_images.specs.Sound.{SoundBy}
use Rattle.asm_images.proofs.Members.{member_is}
use Rattle.asm_images.proofs.Joining.{leave_keeps, outside_keeps}
use Rattle.asm_images.proofs.Describing.{spare_keeps}
use Rattle.asm_images.proofs.Outsiders.{other_header_is_elsewhere}
use Rattle.asm_images.proofs.UserBytes.{metadata_write_keeps_copies}
use Rattle.asm_images.proofs.Bridges.{disks_are_listed, bytes_are_listed, slot_change, beyond_is_unseen, range_change}
use Rattle.disk_images.specs.Headers.{History, IsSoundByHistory, KeepsSound, LeavingKeeps, MakingKeeps, IsRoom, HeaderClosingKeeps, GatesClosingKeeps}
use Rattle.disk_images.proofs.HeaderBytes.{shut_header, same_gate, same_block, gate_shut_none}

set_twice : {A : Type 0} (xs : List A) (i : ℕ) (y z : A) → set (set xs i y) i z ≡ set xs i z
set_twice [] i y z = refl
set_twice (x ∷ xs) zero y z = refl
set_twice {A} (x ∷ xs) (suc i) y z = ap (λ (l : List A). x ∷ l) (set_twice xs i y z)

-- a change of the header's blocks that keeps gate and header keeps what the disk says
same_says : (old new : List ℕ) → SameButBlocks old new header_gate 2 → is_open new header_gate ≡ is_open old header_gate → block new 1 ≡ block old 1 → metadata new ≡ metadata old
unfolding metadata
same_says old new same gate body =
    let header : header_of new ≡ header_of old = λ i. cond (nat_le least_size (same.size i) && gate i) (decoded_header (body i)) None in
    let content : content_of (header_of new) new ≡ content_of (header_of old) old = ap (λ (o : Option Header). content_of o new) header
    ∙ content_behind old new (header_gate * block_size) (2 * block_size) same (omega arith) (header_of old) in
    header_write old new (header_gate * block_size) (2 * block_size) same (omega arith, omega arith)
    ∙ (λ i. record (metadata old) { header = header i; content = content i; decodes = decodes_in (content i) })

-- ---- of lists of bytes

module _ (id : ℕ) (old : ImageBytes) (h : History) (sound : SoundBy id old h.groups h.completed h.begun) (slot : ℕ) (inside : slot < length old) where
  abbrev before : List ℕ
  before = get_or old slot []

  -- with the gate of its header shut
  abbrev shut : List ℕ
  shut = set before 0 0

  is_shut : (l : List ℕ) → is_open (set l 0 0) header_gate ≡ false
  is_shut [] = refl
  is_shut (b ∷ bs) = refl

  only_gate : SameElsewhere before shut 0 1
  only_gate = record {
    size = length-set before 0 0;
    before = λ k lt. absurd (omega arith);
    behind = λ k le. get_or-set_other before 0 k 0 0 (λ e. omega (arith, e, le));
  }

  without_header : (metadata shut).header ≡ None
  unfolding metadata
  without_header = shut_header shut (is_shut before)

  outside_then : IsOutside (all_members id (written old slot shut)) slot
  outside_then m among at =
      let is = member_is id (written old slot shut) m among in
      let here : get_or (written old slot shut) m.slot [] ≡ shut = ap (λ (k : ℕ). get_or (written old slot shut) k []) at ∙ get_or-set_same old slot shut [] inside in
      none-some m.header (sym (shut_header shut (is_shut before)) ∙ ap header_of (sym here) ∙ is.header)

  pub departs : (bytes : List ℕ) → ((x : Header) → header_of bytes ≡ Some x → x.id ≢ id) → SoundBy id (written old slot bytes) h.groups h.completed h.begun
  unfolding metadata
  departs bytes other =
      let left : SoundBy id (written old slot shut) h.groups h.completed h.begun = leave_keeps id old h.groups h.completed h.begun sound slot shut (record {
        inside = inside;
        closed = without_header;
        copies = metadata_write_keeps_copies id old h.groups h.completed h.begun sound slot shut 0 1 inside only_gate (λ m among at. omega arith);
      }) in
      let after : SoundBy id (written (written old slot shut) slot bytes) h.groups h.completed h.begun =
      outside_keeps id (written old slot shut) h.groups h.completed h.begun left slot bytes (other_header_is_elsewhere id (written old slot shut) slot bytes outside_then other) in
      subst (λ (image : ImageBytes). SoundBy id image h.groups h.completed h.begun) (set_twice old slot shut bytes) after

  pub spares : (bytes : List ℕ) → metadata bytes ≡ metadata before → SameButBlocks before bytes header_gate 2 → SoundBy id (written old slot bytes) h.groups h.completed h.begun
  spares bytes same change = spare_keeps id old (written old slot bytes) h.groups h.completed h.begun sound (record {
    metadata = map-set_same metadata old slot bytes [] same;
    bytes = metadata_write_keeps_copies id old h.groups h.completed h.begun sound slot bytes (header_gate * block_size) (2 * block_size) inside change (λ m among at. omega arith);
  })

-- ---- of images of all disks

module _ (h : History) (slot : ℕ) (old new : bay.Image) (changes : ChangesSlot slot old new) where
  pub in_list : slot < h.slots → slot < length (disks_in h.slots old)
  in_list lt = omega (arith, lt, (disks_are_listed h.slots slot old lt).0)

  -- by whether the slot is looked at
  pub looked_at : (slot < h.slots → SoundBy h.id (written (disks_in h.slots old) slot (disk_bytes new slot)) h.groups h.completed h.begun) → KeepsSound h old new
  looked_at seen sound = ⊎_elim
      (λ (lt : slot < h.slots). subst (λ (image : ImageBytes). SoundBy h.id image h.groups h.completed h.begun) (sym (slot_change h.slots slot old new changes)) (seen lt))
      (λ (le : h.slots ≤ slot). subst (λ (image : ImageBytes). SoundBy h.id image h.groups h.completed h.begun) (sym (beyond_is_unseen h.slots slot old new le changes)) sound)
      (cases_lt slot h.slots)

  pub leaves : (IsMemberIn h.id new slot → ⊥) → KeepsSound h old new
  leaves none sound = looked_at (λ lt. departs h.id (disks_in h.slots old) h sound slot (in_list lt) (disk_bytes new slot) (λ x found same. none (x, found, same))) sound

  pub headless : header_in new slot ≡ None → KeepsSound h old new
  headless none = leaves (λ is. none-some is.0 (sym none ∙ is.1))

  pub says_the_same : metadata (disk_bytes new slot) ≡ metadata (disk_bytes old slot) → SameButBlocks (disk_bytes old slot) (disk_bytes new slot) header_gate 2 → KeepsSound h old new
  says_the_same same change sound = looked_at (λ lt.
      let here : get_or (disks_in h.slots old) slot [] ≡ disk_bytes old slot = (disks_are_listed h.slots slot old lt).1 in
      spares h.id (disks_in h.slots old) h sound slot (in_list lt) (disk_bytes new slot) (same ∙ ap metadata (sym here))
      (subst (λ (l : List ℕ). SameButBlocks l (disk_bytes new slot) header_gate 2) (sym here) change)) sound

pub leaving_keeps : LeavingKeeps
leaving_keeps = λ history slot old new changes none. leaves history slot old new changes none

-- ---- an image that is made

zeros_shut : (slot n : ℕ) (old new : bay.Image) → Makes slot n old new → is_open (disk_bytes new slot) header_gate ≡ false
zeros_shut slot n old new made = ap (λ (b : ℕ). b == 165) (⊎_elim
    (λ (some : 0 < new.size slot). (bytes_are_listed new slot).1 0 some ∙ made.zeros 0)
    (λ (none : new.size slot ≤ 0). get_or_past (disk_bytes new slot) 0 0 (omega (arith, none, (bytes_are_listed new slot).0)))
    (cases_lt 0 (new.size slot)))

same_changes : (slot : ℕ) (old new : bay.Image) → bay.Same old new → ChangesSlot slot old new
same_changes slot old new same = record { size = λ s differ. same.size s; byte = λ s k differ. same.byte s k }

pub making_keeps : MakingKeeps
making_keeps = λ history slot old new may. ⊎_elim
    (λ same. says_the_same history slot old new (same_changes slot old new same) (ap metadata (same_list slot old new same)) (unchanged slot old new same))
    (λ made. headless history slot old new (record { size = λ s differ. made.1.other_size s differ; byte = λ s k differ. made.1.other_byte s k differ })
    (shut_header (disk_bytes new slot) (zeros_shut slot made.0 old new made.1)))
    may
  where
    same_list : (slot : ℕ) (old new : bay.Image) → bay.Same old new → disk_bytes new slot ≡ disk_bytes old slot
    same_list slot old new same = ap (λ (n : ℕ). bay.window (new.byte slot) 0 n) (same.size slot) ∙ window-same (old.byte slot) (new.byte slot) 0 (old.size slot) (λ k low high. same.byte slot k)

    unchanged : (slot : ℕ) (old new : bay.Image) → bay.Same old new → SameButBlocks (disk_bytes old slot) (disk_bytes new slot) header_gate 2
    unchanged slot old new same = (range_change 0 slot 0 8192 old new (record { size = same.size; byte = λ s k outside. same.byte s k })).1

-- ---- gates that are closed

module _ (h : History) (slot sector : ℕ) (old new : bay.Image) (room : IsRoom slot sector old) where
  module _ (changes : ChangesSlot slot old new) (size : new.size slot ≡ old.size slot) where
    pub shut_keeps : is_open_in (gated_slot_at 0 1 sector) slot new ≡ false → KeepsSound h old new
    shut_keeps closed = headless h slot old new changes (gate_shut_none slot new (omega (arith, room.1, size)) sector (sym closed))

  module _ (may : MayClose (gated_slot_at 0 1 sector) slot old new) where
    gate_change : ChangesSlot slot old new
    gate_change = record { size = λ s differ. may.elsewhere.size s; byte = λ s k differ. may.elsewhere.byte s k (λ inside. differ inside.0) }

    blocks_change : SameButBlocks (disk_bytes old slot) (disk_bytes new slot) header_gate 2
    blocks_change = (range_change 0 slot 0 8192 old new (changes-within (Range slot 0 8192) (GateOf (gated_slot_at 0 1 sector) slot) old new (λ s k inside. (inside.0, omega arith, omega (arith, inside.2, room.0))) may.elsewhere)).1

    -- the gate's sector was written, and shows what it did
    module _ (same : shown_body (gated_slot_at 0 1 sector) slot new ≡ shown_body (gated_slot_at 0 1 sector) slot old) (opened : is_open_in (gated_slot_at 0 1 sector) slot new ≡ true) where
      was_open : is_open_in (gated_slot_at 0 1 sector) slot old ≡ true
      was_open = ⊎_elim (λ yes. yes)
          (λ no. absurd (false≢true (sym (shown-shut (gated_slot_at 0 1 sector) slot new (same ∙ shown-closed (gated_slot_at 0 1 sector) slot old no)) ∙ opened)))
          (cases_Bool (is_open_in (gated_slot_at 0 1 sector) slot old))

      says : metadata (disk_bytes new slot) ≡ metadata (disk_bytes old slot)
      says =
          let here : 40960 ≤ new.size slot = omega (arith, room.1, may.elsewhere.size slot) in
          same_says (disk_bytes old slot) (disk_bytes new slot) blocks_change
          (same_gate slot new 0 sector (omega (arith, here)) ∙ opened ∙ sym was_open ∙ sym (same_gate slot old 0 sector (omega (arith, room.1))))
          (same_block slot new 1 (omega (arith, here))
          ∙ window-same (old.byte slot) (new.byte slot) 4096 4096 (λ k low high. may.elsewhere.byte slot k (λ inside. absurd (omega (arith, inside.2, low, room.0))))
          ∙ sym (same_block slot old 1 (omega (arith, room.1))))

    pub closing : KeepsSound h old new
    closing = ⊎_elim
        (λ same. ⊎_elim (λ yes. says_the_same h slot old new gate_change (says same yes) blocks_change)
        (λ no. shut_keeps gate_change (may.elsewhere.size slot) no)
        (cases_Bool (is_open_in (gated_slot_at 0 1 sector) slot new)))
        (λ none. shut_keeps gate_change (may.elsewhere.size slot) (shown-shut (gated_slot_at 0 1 sector) slot new none))
        may.shows

  pub closing_all : (dir_blocks : ℕ) → MayCloseAll slot sector dir_blocks old new → KeepsSound h old new
  closing_all dir_blocks step = ⊎_elim (λ may. closing may)
      (λ closed. shut_keeps (record { size = λ s differ. step.elsewhere.size s; byte = λ s k differ. step.elsewhere.byte s k (λ inside. differ inside.2.0) }) (step.elsewhere.size slot) closed)
      step.order

pub header_closing_keeps : HeaderClosingKeeps
header_closing_keeps = λ history slot sector old new room may. closing history slot sector old new room may

pub gates_closing_keeps : GatesClosingKeeps
gates_closing_keeps = λ history slot sector dir_blocks old new room step. closing_all history slot sector old new room dir_blocks step
