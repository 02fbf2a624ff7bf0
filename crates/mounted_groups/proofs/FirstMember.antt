-- A disk that is the only member of its id, before and after its record stands.
use Rattle.std.proofs.Common.{◌≡◌, ◌≢◌, ⊎_elim, ℕ, zero, suc, ◌+◌, ◌*◌, ◌<◌, ◌≤◌, true, List, [], ◌∷◌, length, get_or, refl, sym, ap, subst, ◌∙◌, Option, Some, None, arith, ◌==◌}
use Rattle.std.proofs.lemmas.Bool.{cond-true, cond-false, eq-eqb, eqb-true, ne_eqb, cases_eq, cases_lt}
use Rattle.std.proofs.lemmas.Option.{none-some}
use Rattle.std.proofs.lemmas.List.{get_or-map, length-map}
use Rattle.std.proofs.lemmas.List.FromFn.{length-map-range_with_len}
use Rattle.bay.specs.Image as bay
use Rattle.asm_group.specs.Group.{Group}
use Rattle.asm_formats.specs.Header.{Header}
use Rattle.asm_formats.specs.Status.{Status}
use Rattle.asm_formats.specs.Metadata.{Metadata, metadata}
use Rattle.asm_formats.specs.Among.{IsAmong}
use Rattle.asm_images.specs.Members.{ImageBytes, Member, with_member, members_from, members, metadata_of, all_members, within, of_group, statuses}
use Rattle.asm_images.specs.Bridge.{disk_bytes, disks_in, ChangesSlot}
use Rattle.asm_images.specs.Sound.{Sound}
use Rattle.asm_images.specs.Stands.{Standing}
use Rattle.asm_images.specs.Kept.{header_in, IsMemberIn, IsHeld}
use Rattle.asm_images.proofs.Membership.{among_flat_map}
use Rattle.asm_images.proofs.History.{greatest_is, among_statuses}
use Rattle.asm_images.proofs.Members.{member_is, among_members}
use Rattle.asm_images.proofs.Bridges.{disks_are_listed, beyond_is_unseen}
use Rattle.mounted_groups.specs.Creating.{HasMember, Founds, made_group}
use Rattle.group_recovery.specs.Mounting.{Allows}
use Rattle.mounted_groups.specs.Planned.{Plan, IsGroupPlan, header_of_plan, record_of_plan, kept_of_plan, metadata_of_plan}
use Rattle.mounted_groups.proofs.Outsiders.{nothing_among, no_member_allows}
use Rattle.mounted_groups.proofs.Departing.{elsewhere_member}
use Rattle.mounted_groups.proofs.FirstGroup.{only, only_is_sound, none_is_sound, only_is_standing}

-- ---- the list of members

not_first : (id slot : ℕ) (disk : Metadata) (o : Option Header) (ms : List Member) → ((h : Header) → o ≡ Some h → h.id ≢ id) → with_member id slot disk o ms ≡ ms
not_first id slot disk None ms other = refl
not_first id slot disk (Some h) ms other = cond-false (h.id == id) (record { slot = slot; header = h; disk = disk } ∷ ms) ms (ne_eqb h.id id (other h refl))

none_from : (id slot : ℕ) (disks : List Metadata) (e : Metadata) → ((j : ℕ) → j < length disks → (h : Header) → (get_or disks j e).header ≡ Some h → h.id ≢ id) → members_from id slot disks ≡ []
none_from id slot [] e other = refl
none_from id slot (disk ∷ disks) e other =
    not_first id slot disk disk.header (members_from id (suc slot) disks) (λ h is. other 0 (omega arith) h is)
    ∙ none_from id (suc slot) disks e (λ j lt. other (suc j) (omega (arith, lt)))

-- the disk in one place names the id, and no other does
one_from : (id slot k n : ℕ) (disks : List Metadata) (e : Metadata) (h : Header) → n ≡ k + slot → k < length disks → (get_or disks k e).header ≡ Some h → h.id ≡ id
    → ((j : ℕ) → j < length disks → j ≢ k → (x : Header) → (get_or disks j e).header ≡ Some x → x.id ≢ id)
    → members_from id slot disks ≡ record { slot = n; header = h; disk = get_or disks k e } ∷ []
one_from id slot k n [] e h is lt there group other = absurd (omega arith)
one_from id slot zero n (disk ∷ disks) e h is lt there group other =
    let rest : List Member = members_from id (suc slot) disks in
    let none : members_from id (suc slot) disks ≡ [] = none_from id (suc slot) disks e (λ j below. other (suc j) (omega (arith, below)) (λ (e : suc j ≡ 0). absurd (omega (arith, e)))) in
    let at : slot ≡ n = omega arith in
    ap (λ (o : Option Header). with_member id slot disk o rest) there
    ∙ cond-true (h.id == id) (record { slot = slot; header = h; disk = disk } ∷ rest) rest (eq-eqb h.id id group)
    ∙ (λ i. record { slot = at i; header = h; disk = disk } ∷ none i)
one_from id slot (suc k) n (disk ∷ disks) e h is lt there group other =
    not_first id slot disk disk.header (members_from id (suc slot) disks) (λ x found. other 0 (omega arith) (λ (e : 0 ≡ suc k). absurd (omega (arith, e))) x found)
    ∙ one_from id (suc slot) k n disks e h (omega arith) (omega (arith, lt)) there group (λ j below apart. other (suc j) (omega (arith, below)) (λ (e : suc j ≡ suc k). apart (omega (arith, e))))

-- ---- before the record stands

-- where the members are one disk at most, and none holds a record, any groups may stand
no_record_is_sound : (id : ℕ) (image : ImageBytes) (groups : List Group) → ((m n : Member) → IsAmong (all_members id image) m → IsAmong (all_members id image) n → m.slot ≡ n.slot)
    → ((r : Status) → IsAmong (statuses id (all_members id image)) r → ⊥) → Sound id image groups
no_record_is_sound id image groups one none = record {
  completed = None;
  begun = [];
  holds = record {
    fits = record {
      distinct = λ m n hm hn number birth. one m n hm hn;
      greater = λ v r is h. absurd h;
      slots = λ r h. absurd (none r h);
      numbers = λ r s h k same. absurd (none r h);
      follow = λ v r is h. absurd h;
      surveyed = λ P g is enough. absurd (none g (among_statuses id P (all_members id image) g (greatest_is (statuses id (within P (all_members id image))) g is).among));
      completed_found = λ P v is enough. absurd (none-some v is);
      claimed = λ P r s h k enough. absurd h;
    };
    covered = λ r counts not_gone. absurd counts;
  };
}

count : (slots : ℕ) (image : bay.Image) → length (disks_in slots image) ≡ slots
unfolding disks_in
count slots image = length-map-range_with_len (disk_bytes image) 0 slots

module _ (id slot : ℕ) (old new : bay.Image) (changes : ChangesSlot slot old new) (none : HasMember id old → ⊥) where
  at_slot : (slots : ℕ) (m : Member) → IsAmong (all_members id (disks_in slots new)) m → m.slot ≡ slot
  at_slot slots m h = ⊎_elim (λ e. e) (λ apart. absurd (none (elsewhere_member id slot old new changes (record { slots = slots; member = m; is = h }) apart))) (cases_eq m.slot slot)

  -- what the disk of a member says
  says : (slots : ℕ) (m : Member) → IsAmong (all_members id (disks_in slots new)) m → m.disk ≡ metadata (disk_bytes new slot)
  says slots m h =
      let is = member_is id (disks_in slots new) m h in
      let at : m.slot ≡ slot = at_slot slots m h in
      let below : slot < slots = omega (arith, is.slot, at, count slots new) in
      is.disk ∙ ap (λ (k : ℕ). metadata (get_or (disks_in slots new) k [])) at ∙ ap metadata (disks_are_listed slots slot new below).1

  pub unrecorded_allows : (groups : List Group) → (metadata (disk_bytes new slot)).statuses ≡ [] → Allows id groups new
  unfolding statuses
  unrecorded_allows groups empty = λ slots. no_record_is_sound id (disks_in slots new) groups
      (λ m n hm hn. at_slot slots m hm ∙ sym (at_slot slots n hn))
      (λ r h. let m = among_flat_map (λ (m : Member). of_group id m.disk.statuses) (all_members id (disks_in slots new)) r h in
      subst (λ (l : List (Option Status)). IsAmong (of_group id l) r) (ap (λ (d : Metadata). d.statuses) (says slots m.0 m.1) ∙ empty) m.2)

-- ---- the record stands

module _ (slot : ℕ) (plan : Plan) (old new : bay.Image) (changes : ChangesSlot slot old new) (none : HasMember plan.id old → ⊥)
    (all : metadata (disk_bytes new slot) ≡ metadata_of_plan plan (new.size slot)) where
  abbrev the_only : Member
  the_only = only slot (new.size slot) plan

  pub only_member : (slots : ℕ) → slot < slots → all_members plan.id (disks_in slots new) ≡ the_only ∷ []
  unfolding members metadata
  only_member slots lt =
      let image : ImageBytes = disks_in slots new in
      let here : get_or (metadata_of image) slot (metadata []) ≡ metadata_of_plan plan (new.size slot) =
      get_or-map metadata image slot [] (metadata []) (omega (arith, lt, count slots new)) ∙ ap metadata (disks_are_listed slots slot new lt).1 ∙ all in
      let other : (j : ℕ) → j < length (metadata_of image) → j ≢ slot → (x : Header) → (get_or (metadata_of image) j (metadata [])).header ≡ Some x → x.id ≢ plan.id =
      λ j below apart x found same.
      let m : Member = record { slot = j; header = x; disk = get_or (metadata_of image) j (metadata []) } in
      none (elsewhere_member plan.id slot old new changes (record { slots = slots; member = m; is = among_members plan.id 0 j j (metadata_of image) (metadata []) x (omega arith) below found same }) apart) in
      one_from plan.id 0 slot slot (metadata_of image) (metadata []) (header_of_plan plan) (omega arith) (omega (arith, lt, count slots new, length-map image metadata)) (ap (λ (d : Metadata). d.header) here) refl other
      ∙ ap (λ (d : Metadata). record { slot = slot; header = header_of_plan plan; disk = d } ∷ []) here

  -- the disk isn't among the first slots
  no_member : (slots : ℕ) → slots ≤ slot → all_members plan.id (disks_in slots new) ≡ []
  no_member slots le = nothing_among (all_members plan.id (disks_in slots new)) (λ m h.
      let below : m.slot < slots = omega (arith, (member_is plan.id (disks_in slots new) m h).slot, count slots new) in
      none (elsewhere_member plan.id slot old new changes (record { slots = slots; member = m; is = h }) (λ (at : m.slot ≡ slot). omega (arith, at, below, le))))

  -- an open header makes a member of a disk
  has_member : (s : ℕ) → IsMemberIn plan.id new s → (m : Member) × (m.slot ≡ s) × IsAmong (all_members plan.id (disks_in (suc s) new)) m
  unfolding members metadata
  has_member s (h, found, named) =
      let image : ImageBytes = disks_in (suc s) new in
      let lt : s < suc s = omega arith in
      let here : (get_or (metadata_of image) s (metadata [])).header ≡ Some h =
      ap (λ (d : Metadata). d.header) (get_or-map metadata image s [] (metadata []) (omega (arith, lt, count (suc s) new)) ∙ ap metadata (disks_are_listed (suc s) s new lt).1) ∙ found in (
        record { slot = s; header = h; disk = get_or (metadata_of image) s (metadata []) },
        refl,
        among_members plan.id 0 s s (metadata_of image) (metadata []) h (omega arith) (omega (arith, lt, count (suc s) new, length-map image metadata)) here named,
      )

  pub only_here : (s : ℕ) → IsMemberIn plan.id new s → (s == slot) ≡ true
  only_here s has = ⊎_elim (λ (at : s ≡ slot). eq-eqb s slot at)
      (λ (apart : s ≢ slot). let m = has_member s has in
      absurd (none (elsewhere_member plan.id slot old new changes (record { slots = suc s; member = m.0; is = m.2 }) (λ (at : m.0.slot ≡ slot). apart (sym m.1 ∙ at)))))
      (cases_eq s slot)

  member_there : (s : ℕ) → (s == slot) ≡ true → IsMemberIn plan.id new s
  unfolding metadata
  member_there s at = (header_of_plan plan, ap (λ (k : ℕ). header_in new k) (eqb-true s slot at) ∙ ap (λ (d : Metadata). d.header) all, refl)

  module _ (is : IsGroupPlan plan) (long : plan.units * 1048576 ≤ new.size slot) where
    pub recorded_allows : Allows plan.id (made_group plan.name ∷ []) new
    recorded_allows = λ slots. ⊎_elim
        (λ (lt : slot < slots). sound slots lt)
        (λ (le : slots ≤ slot). subst (λ (image : ImageBytes). Sound plan.id image (made_group plan.name ∷ [])) (sym (beyond_is_unseen slots slot old new le changes)) (before slots))
        (cases_lt slot slots)
      where
        sound : (slots : ℕ) → slot < slots → Sound plan.id (disks_in slots new) (made_group plan.name ∷ [])
        sound slots lt = record {
          completed = Some (record_of_plan plan);
          begun = [];
          holds = only_is_sound slot (new.size slot) plan is long (disks_in slots new) (only_member slots lt);
        }

        before : (slots : ℕ) → Sound plan.id (disks_in slots old) (made_group plan.name ∷ [])
        before slots = no_member_allows plan.id (made_group plan.name ∷ []) old none slots

    recorded_stands : (slots : ℕ) → slot < slots → Standing plan.id (disks_in slots new) (kept_of_plan slot plan).slots
    recorded_stands slots lt = only_is_standing slot (new.size slot) plan is long (disks_in slots new) (kept_of_plan slot plan).slots (only_member slots lt) (eq-eqb slot slot refl)

    pub recorded_is_held : (n : ℕ) → slot < n → IsHeld n plan.id (made_group plan.name ∷ []) (kept_of_plan slot plan) new
    recorded_is_held n lt = record {
      sound = λ slots. ⊎_elim
          (λ (seen : slot < slots). only_is_sound slot (new.size slot) plan is long (disks_in slots new) (only_member slots seen))
          (λ (le : slots ≤ slot). none_is_sound slot (new.size slot) plan is long (disks_in slots new) (no_member slots le))
          (cases_lt slot slots);
      standing = recorded_stands n lt;
      there = member_there;
    }

-- all parts of the disk found the group
pub recorded_founds : (slot : ℕ) (plan : Plan) (old new : bay.Image) → ChangesSlot slot old new → metadata (disk_bytes new slot) ≡ metadata_of_plan plan (new.size slot) → IsGroupPlan plan → plan.units * 1048576 ≤ new.size slot
    → (n : ℕ) → slot < n → Founds n plan.id (made_group plan.name) (kept_of_plan slot plan) old new
recorded_founds slot plan old new changes all is long n lt = record {
  is_held = λ none. recorded_is_held slot plan old new changes none all is long n lt;
  here = λ none s has. only_here slot plan old new changes none all s has;
}
