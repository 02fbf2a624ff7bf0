-- A new group that has all its parts takes calls.
use Rattle.std.proofs.Common.{◌≡◌, inl, ⊎_elim, ℕ, zero, suc, ◌<◌, true, false, List, [], ◌∷◌, get_or, replicate, refl, sym, ap, subst, ◌∙◌, Option, Some, None, arith}
use Rattle.std.specs.Prelude.{IsTrue}
use Rattle.std.specs.Option.{option_map}
use Rattle.std.proofs.lemmas.Option.{none-some, same_Some}
use Rattle.bay.specs.State.{BayState}
use Rattle.asm_group.specs.Names.{Bytes}
use Rattle.asm_group.specs.Shape.{Shape, is_shape}
use Rattle.asm_formats.specs.Following.{disks_of, sets_of}
use Rattle.asm_formats.specs.Sets.{elements, has_bit}
use Rattle.asm_formats.specs.Status.{Entry, Status, entry_of}
use Rattle.asm_formats.specs.Among.{IsAmong}
use Rattle.group_recovery.specs.catalog_tables.Faults.{IsCatalogOf}
use Rattle.group_recovery.specs.catalog_tables.Tables.{Catalogued}
use Rattle.group_engine.proofs.catalog_laws.ToldRecords.{records_told}
use Rattle.change_directory.specs.Places.{IsCopy}
use Rattle.change_directory.specs.declared.copy.DirCopy.{DirCopy}
use Rattle.group_recovery.specs.directory_store.Stores.{Stored}
use Rattle.group_engine.specs.Making.{group_of_parts}
use Rattle.group_engine.specs.Mounts.{AreCopiesOf, IsCopyOf, IsOwn, IsWhole, MountedGroup, slot_at}
use Rattle.group_engine.specs.declared.attached.Attached.{Attached}
use Rattle.status_register.specs.Holders.{is_of}
use Rattle.status_register.specs.Keeping as registers
use Rattle.status_register.specs.Places.{HasSlots}
use Rattle.status_register.specs.Reaching.{Reaches}
use Rattle.status_register.specs.Registered.{AreNumbered, Registered, all_placed}
use Rattle.status_register.specs.Rows.{HaveOwnSlots}
use Rattle.status_register.specs.Surveys.{missing, seen_of}
use Rattle.status_register.specs.Tallies.{HaveSlots}
use Rattle.status_register.specs.Writes.{first_register}
use Rattle.status_register.specs.declared.member.Member.{Member}
use Rattle.mounted_groups.specs.Creating.{usual_shape}
use Rattle.mounted_groups.specs.FirstParts.{IsFirstStore, IsMountedOnSlot, first_disks, first_member}
use Rattle.mounted_groups.proofs.FirstItems.{first_items}
use Rattle.mounted_groups.specs.Planned.{Plan, IsGroupPlan, record_of_plan}
use Rattle.mounted_groups.specs.Stages.{first_copy}
use Rattle.mounted_groups.proofs.Births.{birth_of}
use Rattle.mounted_groups.proofs.FirstBodies.{status_ok}

abbrev nothing : (A : Type 0) → Option A
nothing A = None

none_at : (A : Type 0) (n i : ℕ) → get_or (replicate n (nothing A)) i (nothing A) ≡ nothing A
none_at A zero i = refl
none_at A (suc n) zero = refl
none_at A (suc n) (suc i) = none_at A n i

module _ (slot : ℕ) where
  -- the disk in the place of its number
  abbrev places : List (Option Member)
  places = Some (first_member slot) ∷ replicate 63 None

  pub place_at : (i : ℕ) (x : Member) → get_or places i None ≡ Some x → (i ≡ 0) × (x ≡ first_member slot)
  place_at zero x at = (refl, sym (same_Some (first_member slot) x at))
  place_at (suc i) x at = absurd (none-some x (sym (none_at Member 63 i) ∙ at))

  -- ---- the conditions of the register

  pub first_apart : HaveOwnSlots (first_member slot ∷ [])
  first_apart i j d low too same = omega (arith, low, too)

  pub first_numbered : AreNumbered (first_member slot ∷ [])
  first_numbered m among = ⊎_elim (λ (e : m ≡ first_member slot). subst (λ (k : Member). k.number < 64) (sym e) (omega arith)) (λ none. absurd none) among

  pub first_slots : (plan : Plan) (store : Stored) (state : BayState) → IsFirstStore slot plan store state → HaveSlots state (first_member slot ∷ [])
  first_slots plan store state first m among = ⊎_elim
      (λ (e : m ≡ first_member slot). subst (λ (k : Member). HasSlots state k.slot k.sector) (sym e) (record { attached = copy.attached; sector_size = inl refl; long = omega (arith, copy.inside) }))
      (λ none. absurd none) among
    where
      copy : IsCopy state (first_copy slot)
      copy = (first.keeps.named (first_copy slot) (subst (λ (l : List DirCopy). IsAmong l (first_copy slot)) (sym first.copies) (inl refl))).copy_is

  module _ (plan : Plan) where
    abbrev value : Status
    value = record_of_plan plan

    pub first_enough : missing (first_member slot ∷ []) (Some (record_of_plan plan)) ≡ None
    unfolding seen_of sets_of disks_of entry_of elements has_bit
    first_enough = refl

    placed : all_placed (record_of_plan plan).entries (replicate 64 None) (first_member slot ∷ []) ≡ places
    unfolding entry_of
    placed = refl

    abbrev register : Registered
    register = record { id = plan.id; members = places; value = record_of_plan plan; epoch = 1; turn = 1; is_fresh = false }

    register_is : first_register (record_of_plan plan) (first_member slot ∷ []) ≡ register
    register_is = ap (λ (l : List (Option Member)). record { id = plan.id; members = l; value = record_of_plan plan; epoch = 1; turn = 1; is_fresh = false }) placed

    -- the register as it was made
    pub is_register : (r : Status) (made_of : Registered) → r ≡ record_of_plan plan → made_of ≡ first_register r (first_member slot ∷ []) → made_of ≡ first_register (record_of_plan plan) (first_member slot ∷ [])
    is_register r made_of same is = is ∙ ap (λ (q : Status). first_register q (first_member slot ∷ [])) same

    pub stands : (r : Status) (made_of : Registered) → r ≡ record_of_plan plan → (missing (first_member slot ∷ []) (Some r) ≡ None → Reaches made_of.members made_of.value) → Reaches made_of.members made_of.value
    stands r made_of same reaches = reaches (ap (λ (q : Status). missing (first_member slot ∷ []) (Some q)) same ∙ first_enough)

    is_copy : IsCopyOf (record_of_plan plan) places usual_shape (first_copy slot)
    unfolding elements has_bit entry_of
    is_copy = record { named = inl refl; member = first_member slot; attached = refl; slot = refl; entry = refl; pages = refl; sector = refl }

    only_named : (d : ℕ) → IsAmong (elements 1) d → 0 ≡ d
    unfolding elements has_bit
    only_named d named = ⊎_elim (λ (e : d ≡ 0). sym e) (λ none. absurd none) named

    is_disk : is_of (record_of_plan plan).entries (first_member slot) ≡ true
    unfolding entry_of
    is_disk = refl

    births : (d : ℕ) (x : Member) (e : Entry) → get_or places d None ≡ Some x → entry_of (record_of_plan plan).entries d ≡ Some e → x.birth ≡ e.birth
    births d x e at is =
        let p = place_at d x at in
        birth_of (record_of_plan plan).entries d x e (subst (λ (m : Member). is_of (record_of_plan plan).entries m ≡ true) (sym p.1) is_disk) (ap (λ (m : Member). m.number) p.1 ∙ sym p.0) is

    copies_are : (copies : List DirCopy) → copies ≡ first_copy slot ∷ [] → AreCopiesOf (record_of_plan plan) places usual_shape copies
    copies_are copies same = record {
      each = λ c among. ⊎_elim (λ (e : c ≡ first_copy slot). subst (λ (k : DirCopy). IsCopyOf (record_of_plan plan) places usual_shape k) (sym e) is_copy) (λ none. absurd none)
          (subst (λ (l : List DirCopy). IsAmong l c) same among);
      all = λ d named. (first_copy slot, subst (λ (l : List DirCopy). IsAmong l (first_copy slot)) (sym same) (inl refl), only_named d named);
    }

    module _ (size : ℕ) (name : Bytes) (store : Stored) (cat : Catalogued) (state : BayState) (is : IsGroupPlan plan) (first : IsFirstStore slot plan store state)
        (catalog : IsCatalogOf store.table.records (record_of_plan plan).entries cat) (usual : cat.shape ≡ usual_shape) where
      abbrev disks : List (Option Attached)
      disks = first_disks (record { slot = slot; size = size })

      slots_are : (d : ℕ) → slot_at disks d ≡ option_map (λ (x : Member). x.slot) (get_or places d None)
      slots_are zero = refl
      slots_are (suc d) = ap (option_map (λ (a : Attached). a.slot)) (none_at Attached 63 d) ∙ sym (ap (option_map (λ (x : Member). x.slot)) (none_at Member 63 d))

      sizes : state.attached slot ≡ Some size → (d : ℕ) (a : Attached) → get_or disks d None ≡ Some a → state.attached a.slot ≡ Some a.size
      sizes attached zero a at = subst (λ (x : Attached). state.attached x.slot ≡ Some x.size) (same_Some _ a at) attached
      sizes attached (suc d) a at = absurd (none-some a (sym (none_at Attached 63 d) ∙ at))

      is_usual : IsTrue (is_shape cat.shape)
      unfolding is_shape
      is_usual = subst (λ (s : Shape). IsTrue (is_shape s)) (sym usual) refl

      whole_at : Reaches places (record_of_plan plan) → IsWhole (group_of_parts name cat store register disks)
      whole_at reached = record {
        are_tables = catalog.rules.tables;
        tables = records_told store.table.records cat.tables catalog.rules.tables catalog.records;
        units = catalog.units;
        status = status_ok plan is;
        alive = refl;
        written = refl;
        group = refl;
        reached = reached;
        numbers = λ i x at. let p = place_at i x at in ap (λ (m : Member). m.number) p.1 ∙ sym p.0;
        copies = subst (λ (s : Shape). AreCopiesOf (record_of_plan plan) places s store.copies) (sym usual) (copies_are store.copies first.copies);
        disks = slots_are;
        shape = is_usual;
        births = births;
      }

      own_at : (s : ℕ) → IsOwn (group_of_parts name cat store register disks) s → s ≡ slot
      own_at s is_own = is_own.3 ∙ ap (λ (m : Member). m.slot) (place_at is_own.0 is_own.1 is_own.2).1

      -- the parts as the code has them
      module _ (r : Registered) (ds : List (Option Attached)) (is_first : r ≡ first_register (record_of_plan plan) (first_member slot ∷ [])) (are : ds ≡ disks)
          (reached : Reaches r.members r.value) where
        pub first_whole : IsWhole (group_of_parts name cat store r ds)
        first_whole =
            let same : r ≡ register = is_first ∙ register_is in
            subst (λ (l : List (Option Attached)). IsWhole (group_of_parts name cat store r l)) (sym are)
            (subst (λ (q : Registered). IsWhole (group_of_parts name cat store q disks)) (sym same) (whole_at (subst (λ (q : Registered). Reaches q.members q.value) same reached)))

        pub first_mounted : (m : MountedGroup) → m ≡ group_of_parts name cat store r ds → name ≡ plan.name → state.attached slot ≡ Some size → registers.IsRegisterReady r state → registers.KeepsStanding r state → IsMountedOnSlot slot plan m state
        first_mounted m is_made named attached ready history =
            let same : r ≡ register = is_first ∙ register_is in
            let all : m ≡ group_of_parts name cat store register disks = is_made ∙ (λ i. group_of_parts name cat store (same i) (are i)) in
            subst (λ (g : MountedGroup). IsMountedOnSlot slot plan g state) (sym all) (record {
              mounted = refl;
              name = named;
              id = refl;
              value = refl;
              shape = usual;
              still = refl;
              own = own_at;
              has = (0, first_member slot, refl, refl);
              whole = whole_at (subst (λ (q : Registered). Reaches q.members q.value) same reached);
              ready = record { store = first.keeps; register = subst (λ (q : Registered). registers.IsRegisterReady q state) same ready; sizes = sizes attached };
              register = refl;
              copies = first.copies;
              items = first_items plan is store.table first.records cat.tables catalog.rules.tables catalog.records;
              history = subst (λ (q : Registered). registers.KeepsStanding q state) same history;
            })
