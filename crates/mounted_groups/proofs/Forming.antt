-- A disk that is given the parts of a new group creates it, or touches nothing.
use Rattle.std.proofs.Common.{◌≡◌, ◌≢◌, ⊎_elim, ℕ, ◌*◌, ◌<◌, ◌≤◌, true, false, cond, List, [], ◌∷◌, length, sym, ap, ◌∙◌, Option, Some, None, arith}
use Rattle.std.specs.Prelude.{nat_le, ◌&&◌}
use Rattle.std.proofs.lemmas.Bool.{cases_Bool, false≢true}
use Rattle.std.proofs.lemmas.Option.{same_Some, none-some}
use Rattle.bay.specs.Image.{Image, ChangesOnly}
use Rattle.bay.proofs.Images.{window-same}
use Rattle.body_slot.specs.Slot.{is_open_in, shown_body, MayClose}
use Rattle.body_slot.proofs.Steps.{shown-closed, shown-shut}
use Rattle.disk_forming.specs.Places.{gated_slot_at}
use Rattle.disk_forming.specs.Gates.{MayCloseAll}
use Rattle.disk_forming.specs.Forming.{MetaOf}
use Rattle.asm_formats.specs.Bytes.{block_size, is_open, block}
use Rattle.asm_formats.specs.Regions.{least_size, header_gate}
use Rattle.asm_formats.specs.Header.{Header, decoded_header}
use Rattle.asm_formats.specs.Pages.{decodes_in}
use Rattle.asm_formats.specs.Metadata.{Metadata, metadata, header_of, content_of}
use Rattle.asm_formats.specs.Places.{SameElsewhere, SameButBlocks}
use Rattle.asm_formats.proofs.Framing.{header_write, content_behind}
use Rattle.asm_formats.proofs.Writings.{write_widens}
use Rattle.asm_images.specs.Bridge.{disk_bytes, ChangesSlot}
use Rattle.asm_images.proofs.Bridges.{range_change}
use Rattle.mounted_groups.specs.Creating.{HasMember, CreatesGroupOn, Founds, made_group}
use Rattle.group_recovery.specs.Mounting.{Allows}
use Rattle.mounted_groups.specs.Planned.{Plan, IsGroupPlan, header_of_plan, header_body, kept_of_plan}
use Rattle.mounted_groups.specs.Stages.{IsForming, not_yet_formed, formed_to_header, formed_to_claim, fully_formed, HasAllParts}
use Rattle.mounted_groups.specs.CreateLaws.{FormingCreates, FormedIsHeld}
use Rattle.mounted_groups.proofs.Outsiders.{no_member_allows}
use Rattle.mounted_groups.proofs.Departing.{shut_header, NamesOther, other_sound, other_member, same_sound, same_member}
use Rattle.mounted_groups.proofs.Shown.{same_gate, same_block, is_shut}
use Rattle.mounted_groups.proofs.FirstMember.{unrecorded_allows, recorded_allows, recorded_founds}
use Rattle.mounted_groups.proofs.FirstDisk.{header_there, no_statuses, all_there}

-- a change in front of the header that keeps gate and header keeps what the disk says
same_header : (old new : List ℕ) → SameElsewhere old new 0 512 → is_open new header_gate ≡ is_open old header_gate → block new 1 ≡ block old 1 → metadata new ≡ metadata old
unfolding metadata
same_header old new change gate body =
    let same : SameButBlocks old new header_gate 2 = write_widens old new 0 512 (header_gate * block_size) (2 * block_size) change (omega arith) (omega arith) in
    let header : header_of new ≡ header_of old = λ i. cond (nat_le least_size (length_same i) && gate i) (decoded_header (body i)) None in
    let content : content_of (header_of new) new ≡ content_of (header_of old) old = ap (λ (o : Option Header). content_of o new) header
    ∙ content_behind old new (header_gate * block_size) (2 * block_size) same (omega arith) (header_of old) in
    header_write old new (header_gate * block_size) (2 * block_size) same (omega arith, omega arith)
    ∙ (λ i. record (metadata old) { header = header i; content = content i; decodes = decodes_in (content i) })
  where
    length_same : length new ≡ length old
    length_same = change.size

-- another id than one is one that it isn't
other_id : {a b : ℕ} → a ≢ b → b ≢ a
other_id apart same = apart (sym same)

module _ (slot : ℕ) (plan : Plan) (old new : Image) (is : IsGroupPlan plan) (long : plan.units * 1048576 ≤ old.size slot) where
  abbrev now : List ℕ
  now = disk_bytes new slot

  -- ---- a disk without a header

  module _ (changes : ChangesSlot slot old new) where
    headless_creates : header_of now ≡ None → CreatesGroupOn slot plan.id (made_group plan.name) old new
    headless_creates none = record {
      others = λ other slots groups completed begun apart sound. other_sound other slot old new changes slots groups completed begun (names_none other) sound;
      members = λ other apart has. other_member other slot old new changes (names_none other) has;
      own = λ no. no_member_allows plan.id (made_group plan.name ∷ []) new (λ has. no (other_member plan.id slot old new changes (names_none plan.id) has));
      elsewhere = changes;
      joins = λ other apart has. absurd (none-some has.0 (sym none ∙ has.1));
    }
      where
        names_none : (other : ℕ) → NamesOther other now
        names_none other h found = absurd (none-some h (sym none ∙ found))

    -- with the header of the new group
    headed_creates : header_of now ≡ Some (header_of_plan plan) → ((HasMember plan.id old → ⊥) → Allows plan.id (made_group plan.name ∷ []) new) → CreatesGroupOn slot plan.id (made_group plan.name) old new
    headed_creates there own = record {
      others = λ other slots groups completed begun apart sound. other_sound other slot old new changes slots groups completed begun (names_new other apart) sound;
      members = λ other apart has. other_member other slot old new changes (names_new other apart) has;
      own = own;
      elsewhere = changes;
      joins = λ other apart has. absurd (names_new other apart has.0 has.1 has.2);
    }
      where
        names_new : (other : ℕ) → other ≢ plan.id → NamesOther other now
        names_new other apart h found same = apart (sym same ∙ ap (λ (x : Header). x.id) (same_Some h (header_of_plan plan) (sym found ∙ there)))

  -- ---- while the gates are closed

  module _ (step : MayCloseAll slot 512 1024 old new) where
    gates_change : ChangesSlot slot old new
    gates_change = record { size = λ s differ. step.elsewhere.size s; byte = λ s k differ. step.elsewhere.byte s k (λ inside. differ inside.2.0) }

    room : 26214400 ≤ new.size slot
    room = omega (arith, long, is.least, step.elsewhere.size slot)

    shut_creates : is_open_in (gated_slot_at 0 1 512) slot new ≡ false → CreatesGroupOn slot plan.id (made_group plan.name) old new
    shut_creates closed = headless_creates gates_change (shut_header now (same_gate slot new 0 (omega (arith, room)) ∙ closed))

    -- the header's gate sector was written, and shows what it did
    module _ (may : MayClose (gated_slot_at 0 1 512) slot old new) (same : shown_body (gated_slot_at 0 1 512) slot new ≡ shown_body (gated_slot_at 0 1 512) slot old) (opened : is_open_in (gated_slot_at 0 1 512) slot new ≡ true) where
      was_open : is_open_in (gated_slot_at 0 1 512) slot old ≡ true
      was_open = ⊎_elim (λ yes. yes)
          (λ no. absurd (false≢true (sym (shown-shut (gated_slot_at 0 1 512) slot new (same ∙ shown-closed (gated_slot_at 0 1 512) slot old no)) ∙ opened)))
          (cases_Bool (is_open_in (gated_slot_at 0 1 512) slot old))

      says_the_same : metadata now ≡ metadata (disk_bytes old slot)
      says_the_same =
          let here : 26214400 ≤ old.size slot = omega (arith, long, is.least) in
          same_header (disk_bytes old slot) now (range_change 0 slot 0 512 old new may.elsewhere).1
          (same_gate slot new 0 (omega (arith, room)) ∙ opened ∙ sym was_open ∙ sym (same_gate slot old 0 (omega (arith, here))))
          (same_block slot new 1 (omega (arith, room)) ∙ window-same (old.byte slot) (new.byte slot) 4096 4096 (λ k low high. may.elsewhere.byte slot k (λ inside. absurd (omega (arith, inside.2, low))))
          ∙ sym (same_block slot old 1 (omega (arith, here))))

      header_stays : header_of now ≡ header_of (disk_bytes old slot)
      unfolding metadata
      header_stays = ap (λ (d : Metadata). d.header) says_the_same

      kept_creates : CreatesGroupOn slot plan.id (made_group plan.name) old new
      kept_creates = record {
        others = λ other slots groups completed begun apart sound. same_sound other slot old new gates_change says_the_same slots groups completed begun (range_change 0 slot 0 512 old new may.elsewhere).1 sound;
        members = λ other apart has. same_member other slot old new gates_change says_the_same has;
        own = λ no. no_member_allows plan.id (made_group plan.name ∷ []) new (λ has. no (same_member plan.id slot old new gates_change says_the_same has));
        elsewhere = gates_change;
        joins = λ other apart has. (has.0, sym header_stays ∙ has.1, has.2);
      }

    closing_creates : CreatesGroupOn slot plan.id (made_group plan.name) old new
    closing_creates = ⊎_elim
        (λ may. ⊎_elim
        (λ same. ⊎_elim (λ yes. kept_creates may same yes) (λ no. shut_creates no) (cases_Bool (is_open_in (gated_slot_at 0 1 512) slot new)))
        (λ none. shut_creates (shown-shut (gated_slot_at 0 1 512) slot new none))
        may.shows)
        (λ closed. shut_creates closed)
        step.order

  -- ---- while the parts come

  module _ (elsewhere : ChangesOnly (MetaOf slot 1024) old new) where
    parts_change : ChangesSlot slot old new
    parts_change = record { size = λ s differ. elsewhere.size s; byte = λ s k differ. elsewhere.byte s k (λ inside. differ inside.0) }

    space : 26214400 ≤ new.size slot
    space = omega (arith, long, is.least, elsewhere.size slot)

    units_there : plan.units * 1048576 ≤ new.size slot
    units_there = omega (arith, long, elsewhere.size slot)

    -- with a header and no record
    unrecorded_creates : shown_body (gated_slot_at 0 1 512) slot new ≡ Some (header_body plan) → shown_body (gated_slot_at 6 1 512) slot new ≡ None → shown_body (gated_slot_at 8 1 512) slot new ≡ None
        → CreatesGroupOn slot plan.id (made_group plan.name) old new
    unrecorded_creates header first second = headed_creates parts_change (header_there slot plan is new space header)
        (λ no. unrecorded_allows plan.id slot old new parts_change no (made_group plan.name ∷ []) (no_statuses slot plan is new space first second))

    stage_creates : IsForming slot plan new → CreatesGroupOn slot plan.id (made_group plan.name) old new
    stage_creates (not_yet_formed shows) = headless_creates parts_change (shut_header now (is_shut slot new 0 (omega (arith, space)) shows.header_slot))
    stage_creates (formed_to_header shows content) = unrecorded_creates shows.header_slot shows.status_slot shows.second_status
    stage_creates (formed_to_claim shows content) = unrecorded_creates shows.header_slot shows.status_slot shows.second_status
    stage_creates (fully_formed shows content) = headed_creates parts_change (header_there slot plan is new space shows.header_slot)
        (λ no. recorded_allows slot plan old new parts_change no (all_there slot plan is new space (record { shows = shows; content = content })) is units_there)

    whole_founds : HasAllParts slot plan new → (slots : ℕ) → slot < slots → Founds slots plan.id (made_group plan.name) (kept_of_plan slot plan) old new
    whole_founds has slots lt = recorded_founds slot plan old new parts_change (all_there slot plan is new space has) is units_there slots lt

pub forming_creates : FormingCreates
forming_creates = λ slot plan old new is long step. ⊎_elim
    (λ closing. closing_creates slot plan old new is long closing)
    (λ forming. stage_creates slot plan old new is long forming.elsewhere forming.is_forming)
    step

pub formed_is_held : FormedIsHeld
formed_is_held = λ slot slots plan old new is long formed lt. whole_founds slot plan old new is long formed.elsewhere formed.has_all slots lt
