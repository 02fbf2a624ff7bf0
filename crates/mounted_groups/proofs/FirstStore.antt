-- The records of the first change are the items of a new group.
use Rattle.std.proofs.Common.{◌≡◌, inl, inr, ⊎_elim, ℕ, ◌+◌, ◌<◌, ◌≤◌, Bool, true, false, List, [], ◌∷◌, length, map, refl, sym, ap, subst, ◌∙◌, Option, Some, None, arith}
use Rattle.std.specs.Prelude.{nat_le, ◌&&◌, cond, not, is_some}
use Rattle.std.proofs.lemmas.Bool.{and_parts, leb-true, cond_both, false≢true}
use Rattle.std.proofs.lemmas.Option.{same_Some, none-some}
use Rattle.bay.specs.Image.{Image, ChangesOnly}
use Rattle.bay.specs.State.{BayState, IsSlot, KeepsAttached}
use Rattle.bay.specs.Counts.{Rose}
use Rattle.bay.specs.Moments.{Runs, NowOnly, LeavesOnly}
use Rattle.bay.proofs.Calls.{on_more, widened, leaves_less}
use Rattle.bay.proofs.Images.{changes-within}
use Rattle.asm_base.specs.Records.{DirectoryRecord, is_key, record_at}
use Rattle.asm_formats.specs.Among.{IsAmong}
use Rattle.asm_formats.specs.Status.{ascends_from}
use Rattle.asm_formats.specs.Items.{Item, Key, item_key, key_rank, is_item}
use Rattle.asm_formats.specs.Values.{value}
use Rattle.asm_formats.specs.Records.{Frame, frame_of, frame_spelling, decoded_record}
use Rattle.asm_formats.proofs.RecordReading.{record_again}
use Rattle.asm_formats.proofs.RecordLists.{one_list}
use Rattle.page_map.specs.Changes.{is_put}
use Rattle.page_map.specs.Tables.{PageTable, place_at, one_if, is_new, new_in, room}
use Rattle.page_map.specs.Contents.{AreRecords, IsItemOf}
use Rattle.page_map.proofs.Keys.{same_key, key_itself}
use Rattle.group_recovery.specs.directory_store.Contents.{HasCopyRecords, ArePutItems}
use Rattle.group_recovery.specs.directory_store.declared.error.StoreError.{StoreError}
use Rattle.group_recovery.specs.directory_store.declared.error.StoreError.TheVariants.{Full, Gone}
use Rattle.group_recovery.specs.directory_store.Answers.{IsFirstRefusal}
use Rattle.group_recovery.specs.directory_store.Copies.{AllAreShut, AreCopiesApart, AreNamedCopies, IsFailedSlot, IsNamedCopy, IsSlotOfCopy, RegionsOf}
use Rattle.group_recovery.specs.directory_store.Stores.{AreFirst, IsEmpty, HaveNoneOrFirst, HaveOneSize, HaveRecords, Keeps, Stored}
use Rattle.group_recovery.proofs.directory_store.Storing.{keeps_elsewhere}
use Rattle.change_directory.specs.declared.copy.DirCopy.{DirCopy}
use Rattle.change_directory.specs.Places.{IsCopy}
use Rattle.change_directory.specs.Formatting.{AreShut}
use Rattle.change_directory.specs.StoreLaws.{RegionOf, SameRegion}
use Rattle.disk_forming.specs.Forming.{RecordsOf}
use Rattle.mounted_groups.specs.Planned.{Plan, IsGroupPlan, disk_of_plan, items_of_plan, first_entries}
use Rattle.asm_images.specs.Created.{first_templates, first_settings}
use Rattle.mounted_groups.specs.FirstParts.{IsFirstStore}
use Rattle.mounted_groups.specs.Stages.{first_copy, HasFirst, HasNoneOrFirst}
use Rattle.mounted_groups.proofs.FirstBodies.{disk_ok, templates_ok, settings_ok}

abbrev rank : Item → ℕ
rank i = key_rank (item_key i)

above : (xs : List Item) (least : ℕ) → ascends_from least (map (λ (i : Item). key_rank (item_key i)) xs) ≡ true → (i : Item) → IsAmong xs i → least ≤ rank i
above [] least ok i h = absurd h
above (x ∷ xs) least ok i (inl e) = omega (arith, ap rank e, leb-true least (rank x) (and_parts (nat_le least (rank x)) (ascends_from (rank x + 1) (map (λ (i : Item). key_rank (item_key i)) xs)) ok).0)
above (x ∷ xs) least ok i (inr h) =
    let p = and_parts (nat_le least (rank x)) (ascends_from (rank x + 1) (map (λ (i : Item). key_rank (item_key i)) xs)) ok in
    omega (arith, above xs (rank x + 1) p.1 i h, leb-true least (rank x) p.0)

-- items in order of one key are one
one_of : (xs : List Item) (least : ℕ) → ascends_from least (map (λ (i : Item). key_rank (item_key i)) xs) ≡ true → (i j : Item) → IsAmong xs i → IsAmong xs j → rank i ≡ rank j → i ≡ j
one_of [] least ok i j a b same = absurd a
one_of (x ∷ xs) least ok i j a b same =
    let rest = (and_parts (nat_le least (rank x)) (ascends_from (rank x + 1) (map (λ (i : Item). key_rank (item_key i)) xs)) ok).1 in
    ⊎_elim
    (λ (here : i ≡ x). ⊎_elim (λ (there : j ≡ x). here ∙ sym there) (λ (behind : IsAmong xs j). absurd (omega (arith, above xs (rank x + 1) rest j behind, ap rank here, same))) b)
    (λ (mine : IsAmong xs i). ⊎_elim (λ (there : j ≡ x). absurd (omega (arith, above xs (rank x + 1) rest i mine, ap rank there, same))) (λ (behind : IsAmong xs j). one_of xs (rank x + 1) rest i j mine behind same) b)
    a

-- items of one key and one value are one
same_item : (i j : Item) → is_item i ≡ true → is_item j ≡ true → item_key i ≡ item_key j → value i ≡ value j → i ≡ j
same_item i j ok_i ok_j same_keys same_values =
    same_Some i j (sym (record_again i ok_i) ∙ ap (λ (f : Frame). decoded_record (frame_spelling f)) frames ∙ record_again j ok_j)
  where
    frames : frame_of i ≡ frame_of j
    frames = λ t. record { key = same_keys t; value = same_values t }

module _ (plan : Plan) (is : IsGroupPlan plan) where
  -- each record of the first change is an item
  pub put_items : ArePutItems (first_entries plan)
  put_items e among = ⊎_elim (of (disk_of_plan plan) (disk_ok plan is) e)
      (⊎_elim (of first_templates templates_ok e) (⊎_elim (of first_settings settings_ok e) (λ none. absurd none))) among
    where
      of : (i : Item) → is_item i ≡ true → (e : DirectoryRecord) → e ≡ (item_key i, value i) → (j : Item) × IsItemOf e.0 e.1 j
      of i ok e same = (i, record { is = ok; key = sym (ap (λ (x : DirectoryRecord). x.0) same); value = sym (ap (λ (x : DirectoryRecord). x.1) same) })

  module _ (table : PageTable) (first : AreFirst (first_entries plan) [] table) (items : List Item) (are : AreRecords table items) where
    item_ok : (i : Item) → IsAmong items i → is_item i ≡ true
    item_ok i among =
        let j = are.from_record (item_key i) (value i) (are.to_record i among) in
        subst (λ (x : Item). is_item x ≡ true) (one_of items 0 are.in_order j.0 i j.1 among (ap key_rank j.2.key)) j.2.is

    to_plan : (i : Item) → IsAmong items i → IsAmong (items_of_plan plan) i
    to_plan i among =
        let k : Key = item_key i in
        let ok = item_ok i among in
        let a : Item = disk_of_plan plan in
        let b : Item = first_templates in
        let d : Item = first_settings in
        cond_both (is_key (item_key d) k) (Some (value d)) (cond (is_key (item_key b) k) (Some (value b)) (cond (is_key (item_key a) k) (Some (value a)) None))
        (λ (o : Option (List ℕ)). o ≡ Some (value i) → IsAmong (items_of_plan plan) i)
        (λ yes e. inr (inr (inl (same_item i d ok settings_ok (sym (same_key (item_key d) k yes)) (sym (same_Some (value d) (value i) e))))))
        (λ no. cond_both (is_key (item_key b) k) (Some (value b)) (cond (is_key (item_key a) k) (Some (value a)) None) (λ (o : Option (List ℕ)). o ≡ Some (value i) → IsAmong (items_of_plan plan) i)
        (λ yes e. inr (inl (same_item i b ok templates_ok (sym (same_key (item_key b) k yes)) (sym (same_Some (value b) (value i) e)))))
        (λ other. cond_both (is_key (item_key a) k) (Some (value a)) None (λ (o : Option (List ℕ)). o ≡ Some (value i) → IsAmong (items_of_plan plan) i)
        (λ yes e. inl (same_item i a ok (disk_ok plan is) (sym (same_key (item_key a) k yes)) (sym (same_Some (value a) (value i) e))))
        (λ last e. absurd (none-some (value i) e))))
        (sym (first k) ∙ are.to_record i among)

    there : (x : Item) → is_item x ≡ true → record_at table.records (item_key x) ≡ Some (value x) → IsAmong items x
    there x ok at =
        let j = are.from_record (item_key x) (value x) at in
        subst (λ (y : Item). IsAmong items y) (same_item j.0 x j.2.is ok j.2.key j.2.value) j.1

    from_plan : (i : Item) → IsAmong (items_of_plan plan) i → IsAmong items i
    from_plan i among = ⊎_elim (λ same. back same (there (disk_of_plan plan) (disk_ok plan is) (first (item_key (disk_of_plan plan)))))
        (⊎_elim (λ same. back same (there first_templates templates_ok (first (item_key first_templates))))
        (⊎_elim (λ same. back same (there first_settings settings_ok (first (item_key first_settings)))) (λ none. absurd none))) among
      where
        back : {x : Item} → i ≡ x → IsAmong items x → IsAmong items i
        back {x} same h = subst (λ (y : Item). IsAmong items y) (sym same) h

    items_are : items ≡ items_of_plan plan
    items_are = one_list items (items_of_plan plan) 0 are.in_order refl to_plan from_plan

  -- a copy with the records of the first change has the content of the new group
  pub has_first : (slot : ℕ) (table : PageTable) (x : Image) → AreFirst (first_entries plan) [] table → HasCopyRecords table 1 (first_copy slot) x → HasFirst slot plan x
  has_first slot table x first has =
      let content = has.has in
      let same : items_same (has.content.items) = content.decoded ∙ ap (λ (l : List Item). Some l) (items_are table first content.items content.records) in
      has.is ∙ (λ i. Some (record { commit = content.commit i; items = same i }))
    where
      items_same : Option (List Item) → Type 0
      items_same o = o ≡ Some (items_of_plan plan)

-- ---- there is room

no_places : (places : List (Key × ℕ)) → ((k : Key) → is_some (place_at places k) ≡ false) → length places ≡ 0
no_places [] none = refl
no_places (x ∷ rest) none = absurd (false≢true (sym (none x.0) ∙ ap (λ (b : Bool). is_some (cond b (Some x.1) (place_at rest x.0))) (key_itself x.0)))

one_at_most : (b : Bool) → one_if b ≤ 1
one_at_most true = omega arith
one_at_most false = omega arith

few_new : (table : PageTable) (put : List DirectoryRecord) → new_in table put ≤ length put
few_new table [] = omega arith
few_new table (p ∷ ps) = omega (arith, few_new table ps, one_at_most (is_new table p.0 && not (is_put ps p.0)))

-- a copy of 1,024 pages has room for three records
has_room_for : (plan : Plan) (table : PageTable) (need free : ℕ) → IsEmpty table 1024 → need ≡ new_in table (first_entries plan) → free ≡ room table → free < need → ⊥
has_room_for plan table need free empty is_need is_free less =
    let none : length table.places ≡ 0 = no_places table.places (λ k. sym (empty.is_table.same k) ∙ ap is_some (empty.none k)) in
    omega (arith, less, is_need, is_free, none, empty.units, few_new table (first_entries plan))

-- ---- a store of one copy

module _ (slot : ℕ) where
  abbrev pub only : List DirCopy
  only = first_copy slot ∷ []

  is_only : (c : DirCopy) → IsAmong only c → c ≡ first_copy slot
  is_only c among = ⊎_elim (λ e. e) (λ none. absurd none) among

  pub only_named : {s : BayState} → IsCopy s (first_copy slot) → AreNamedCopies only [] s
  only_named {s} is c among = subst (λ (d : DirCopy). IsNamedCopy [] s d) (sym (is_only c among)) (record { copy_is = is; number = omega arith; due = refl })

  pub only_apart : AreCopiesApart only
  only_apart = (λ c among. absurd among, tt)

  pub only_size : HaveOneSize only
  only_size c d a b = ap (λ (x : DirCopy). x.dir_blocks) (is_only c a ∙ sym (is_only d b))

  pub only_shut : {s : BayState} → NowOnly s (AreShut (first_copy slot)) → NowOnly s (AllAreShut only)
  only_shut {s} shut = record { now = λ x left c among. subst (λ (d : DirCopy). AreShut d x) (sym (is_only c among)) (shut.now x left) }

  pub only_run : {a b : BayState} → Runs (IsSlotOfCopy only) (ChangesOnly (RegionsOf only)) a b → Runs (IsSlot slot) (ChangesOnly (RegionOf (first_copy slot))) a b
  only_run {a} {b} run =
      on_more (λ s is. is.2 ∙ ap (λ (x : DirCopy). x.slot) (is_only is.0 is.1))
      (widened (λ x y h. changes-within (RegionOf (first_copy slot)) (RegionsOf only) x y (λ s k inside. subst (λ (d : DirCopy). RegionOf d s k) (is_only inside.0 inside.1) inside.2) h) run)

  only_failed : (s t : BayState) (k : ℕ) → IsFailedSlot only s t k → Rose (s.faults slot) (t.faults slot)
  only_failed s t k failed = subst (λ (n : ℕ). Rose (s.faults n) (t.faults n)) (failed.0.2 ∙ ap (λ (x : DirCopy). x.slot) (is_only failed.0.0 failed.0.1)) failed.1

  pub gone_cause : (s t : BayState) (put : List DirectoryRecord) (e : StoreError) (k : ℕ) → e ≡ Gone k → IsFirstRefusal only 1024 put s t e → Rose (s.faults slot) (t.faults slot)
  gone_cause s t put e k same why = only_failed s t k (subst (λ (x : StoreError). IsFirstRefusal only 1024 put s t x) same why)

  pub never_full : (plan : Plan) (s t : BayState) (put : List DirectoryRecord) (e : StoreError) (need free : ℕ) → e ≡ Full need free → put ≡ first_entries plan → IsFirstRefusal only 1024 put s t e → ⊥
  never_full plan s t put e need free same first why =
      let full = (subst (λ (x : StoreError). IsFirstRefusal only 1024 put s t x) same why).0 in
      has_room_for plan full.0 need free full.1 (full.2 ∙ ap (λ (l : List DirectoryRecord). new_in full.0 l) first) full.3 full.4

  module _ (plan : Plan) (is : IsGroupPlan plan) where
    pub first_moments : {a b : BayState} → LeavesOnly a b (HaveNoneOrFirst only (first_entries plan) []) → LeavesOnly a b (HasNoneOrFirst slot plan)
    first_moments {a} {b} leaves = leaves_less {P = HaveNoneOrFirst only (first_entries plan) []} {Q = HasNoneOrFirst slot plan}
        (λ x have. ⊎_elim (λ none. inl none) (λ some. inr (has_first plan is slot some.0 x some.1 some.2)) (have (first_copy slot) (inl refl))) leaves

    pub first_now : {b : BayState} (store : Stored) → store.copies ≡ only → store.number ≡ 1 → AreFirst (first_entries plan) [] store.table → NowOnly b (HaveRecords store) → NowOnly b (HasFirst slot plan)
    first_now {b} store copies number first now = record {
      now = λ x left. has_first plan is slot store.table x first
          (subst (λ (n : ℕ). HasCopyRecords store.table n (first_copy slot) x) number (now.now x left (first_copy slot) (subst (λ (l : List DirCopy). IsAmong l (first_copy slot)) (sym copies) (inl refl))));
    }

    -- what was made is the store of the plan
    pub first_store : (store : Stored) (state : BayState) → store.copies ≡ only → AreFirst (first_entries plan) [] store.table → Keeps store state → IsFirstStore slot plan store state
    first_store store state copies first keeps = record { records = first; copies = copies; keeps = keeps }

    -- it stays over calls that leave the directory region of its disk
    pub store_stays : {slots : ℕ → Type 0} {step : Image → Image → Type 0} {a b : BayState} (store : Stored) → ((x y : Image) → step x y → ChangesOnly (RecordsOf slot) x y)
        → KeepsAttached a b → Runs slots step a b → IsFirstStore slot plan store a → IsFirstStore slot plan store b
    store_stays {slots} {step} {a} {b} store inside attached run first = record {
      records = first.records;
      copies = first.copies;
      keeps = keeps_elsewhere store (λ x y c among is. same x y c (subst (λ (l : List DirCopy). IsAmong l c) first.copies among) (inside x y is)) attached run first.keeps;
    }
      where
        same : (x y : Image) (c : DirCopy) → IsAmong only c → ChangesOnly (RecordsOf slot) x y → SameRegion c x y
        same x y c among change = subst (λ (d : DirCopy). SameRegion d x y) (sym (is_only c among))
            (record { size = change.size slot; bytes = λ k low high. change.byte slot k (λ inside. absurd (omega (arith, inside.2, low))) })
