-- A mounted group gets another status record.
use Rattle.std.proofs.Common.{◌≡◌, ⊎_elim, ℕ, List, [], ◌∷◌, ◌++◌, true, false, get_or, refl, sym, ap, subst, ◌∙◌, Some, None, Result, Ok, arith, IsTrue}
use Rattle.std.specs.Option.{option_map}
use Rattle.std.proofs.lemmas.Bool.{cases_Bool, false≢true}
use Rattle.std.specs.Prelude.{MatchResult, OnOk}
use Rattle.bay.specs.State.{BayState, IsSound}
use Rattle.bay.specs.Moments.{Runs, NowOnly, LeavesOnly}
use Rattle.asm_group.specs.Group.{Group}
use Rattle.asm_group.specs.Shape.{Shape, is_shape}
use Rattle.asm_formats.specs.Sets.{has_bit, elements}
use Rattle.asm_formats.specs.Status.{Status, status_spelling}
use Rattle.asm_images.specs.Kept.{Kept, IsHeld}
use Rattle.rebalance.specs.catalog_tables.Items.{AreItemsOf}
use Rattle.rebalance.specs.catalog_tables.Placing.{HasUnits}
use Rattle.rebalance.specs.catalog_tables.Tables.{AreTables, Catalogued, Tables, records_of}
use Rattle.rebalance.proofs.catalog_tables.TableItems.{from_map}
use Rattle.directory_store.specs.change_directory.declared.copy.DirCopy.{DirCopy}
use Rattle.directory_store.specs.Stores.{Stored}
use Rattle.directory_store.specs.Stores as stores
use Rattle.directory_store.specs.page_map.Tables.{PageTable}
use Rattle.asm_base.specs.Records.{record_at}
use Rattle.asm_formats.specs.Among.{IsAmong}
use Rattle.status_register.specs.Holders.{attached_to, next_turn, with_next_number}
use Rattle.status_register.specs.Keeping as registers
use Rattle.status_register.specs.Reaching.{Reaches}
use Rattle.status_register.specs.Registered.{Registered}
use Rattle.status_register.specs.Rows.{PutsRow}
use Rattle.status_register.specs.Slots.{status_gate}
use Rattle.status_register.specs.Tallies as tallies
use Rattle.status_register.specs.Writes.{after_write}
use Rattle.status_register.specs.declared.error.Dead.{Dead}
use Rattle.status_register.specs.declared.member.Member.{Member}
use Rattle.status_register.proofs.Holding.{have_slots}
use Rattle.status_register.proofs.Ordering.{row_runs}
use Rattle.status_register.proofs.RowFits.{AreLong}
use Rattle.status_register.proofs.Telling.{slots_long}
use Rattle.group_engine.specs.Commits.{StandsIn}
use Rattle.status_register.specs.RegisterCalls.{HasWritten}
use Rattle.group_engine.specs.Forgetting.{IsUnnamed, KeepsNamed}
use Rattle.group_engine.specs.Mounts.{MountedGroup, AreCopiesOf, IsReady, IsWhole, Mounts, slot_at}
use Rattle.group_engine.specs.Recorded.{MayBeWritten, MayGet}
use Rattle.group_engine.specs.Statuses.{IsNextOf, NamesCopies}
use Rattle.group_engine.proofs.Calls.{kept_is}
use Rattle.group_engine.proofs.Sets.{bit_element, element_bit, element_small}
use Rattle.group_engine.proofs.Mounting.{entries_describe, shaped_copy, still_ready}
use Rattle.group_engine.proofs.Recording.{history_wide, record_done, record_moments}

-- ---- the group's parts, on every bay

-- the copies that are left are those that the record names
left_copies : (m : MountedGroup) (s : BayState) (whole : IsWhole m) (ready : IsReady m s) (next : Status) (names : NamesCopies m next) (new : Stored) → KeepsNamed m.store new m.disks next.directories 64
    → AreCopiesOf next m.register.members m.catalog.shape new.copies
left_copies m s whole ready next names new left = record {
  each = λ c among. let was = (left.copies c).0 among in names.each c was.0 (stays_named c was.0 was.1);
  all = λ d named. let c = names.all d named in (c.0, (left.copies c.0).1 (c.1, still_there c.0 d c.1 c.2 named), c.2);
}
  where
    slot_is : (c : DirCopy) → IsAmong m.store.copies c → slot_at m.disks c.number ≡ Some c.slot
    slot_is c among =
        let k = whole.copies.each c among in
        whole.disks c.number ∙ ap (option_map (λ (x : Member). x.slot)) k.attached ∙ ap (λ (n : ℕ). Some n) k.slot

    stays_named : (c : DirCopy) → IsAmong m.store.copies c → (IsUnnamed m.disks next.directories 64 c → ⊥) → IsAmong (elements next.directories) c.number
    stays_named c among kept =
        let was = (whole.copies.each c among).named in
        ⊎_elim
        (λ (bit : has_bit next.directories c.number ≡ true). bit_element m.register.value.directories next.directories c.number was bit)
        (λ (out : has_bit next.directories c.number ≡ false). absurd (kept (c.number, element_small m.register.value.directories c.number was, out, slot_is c among)))
        (cases_Bool (has_bit next.directories c.number))

    still_there : (c : DirCopy) (d : ℕ) → IsAmong m.store.copies c → c.number ≡ d → IsAmong (elements next.directories) d → IsUnnamed m.disks next.directories 64 c → ⊥
    still_there c d among number named un =
        let k = whole.copies.each c among in
        let other = from_map (λ (x : Member). x.slot) (get_or m.register.members un.0 None) c.slot (sym (whole.disks un.0) ∙ un.3) in
        let same : un.0 ≡ c.number = ready.register.apart un.0 c.number other.0 k.member other.1 k.attached (other.2 ∙ sym k.slot) in
        false≢true (sym un.2 ∙ ap (has_bit next.directories) (same ∙ number) ∙ element_bit next.directories d named)

pub status_whole : (m : MountedGroup) (whole : IsWhole m) (next : Status) (is_next : IsNextOf m next) (s t : BayState) (ready : IsReady m s) (answer : Result ℕ Dead) (reg : Registered)
    (written : HasWritten m.register next answer reg s t) (taken : ℕ) → answer ≡ Ok taken → (cat : Catalogued) → cat.tables ≡ m.catalog.tables → cat.shape ≡ m.catalog.shape
    → HasUnits cat.shape next.entries cat.tables cat.units → (new : Stored) → KeepsNamed m.store new m.disks next.directories 64 → IsWhole (record m { catalog = cat; store = new; register = reg })
status_whole m w next is_next s t ready answer reg written taken is_ok cat tables shape units new left =
    let later : Registered = record m.register { value = with_next_number m.register next; turn = next_turn m.register.turn; is_fresh = false } in
    let is : reg ≡ later = written.register ∙ ap (λ (a : Result ℕ Dead). after_write m.register next a) is_ok in
    let reaches : Reaches reg.members reg.value = subst (λ (a : Result ℕ Dead). OnOk a (Reaches reg.members reg.value)) is_ok written.reaches in
    let copies = left_copies m s w ready next is_next.copies new left in
    subst (λ (x : Registered). IsWhole (record m { catalog = cat; store = new; register = x })) (sym is) (record {
      are_tables = subst (λ (u : Tables). AreTables u) (sym tables) w.are_tables;
      tables = λ k. ap (λ (u : Tables). records_of u k) tables ∙ w.tables k ∙ ap (λ (x : PageTable). record_at x.records k) (sym left.table);
      shape = subst (λ (x : Shape). IsTrue (is_shape x)) (sym shape) w.shape;
      units = units;
      status = written.allowed;
      alive = is_next.alive;
      written = refl;
      group = is_next.group ∙ w.group;
      reached = subst (λ (x : Registered). Reaches x.members x.value) is reaches;
      numbers = w.numbers;
      births = is_next.births;
      copies = record { each = λ c among. let of = copies.each c among in shaped_copy refl shape of.named of; all = copies.all };
      disks = w.disks;
    })

-- ---- what each image is held for

module _ (n : ℕ) (m : MountedGroup) (next : Status) (s t : BayState) (sound : IsSound s) (g : Group) (kept : Kept) (gets : MayGet n m next s g kept)
    (answer : Result ℕ Dead) (reg : Registered) (written : HasWritten m.register next answer reg s t) where
  abbrev mounts : Mounts n m s g kept
  mounts = gets.mounts

  abbrev r : Status
  r = m.register.value

  abbrev id : ℕ
  id = m.register.id

  abbrev ms : List Member
  ms = attached_to m.register.members next

  abbrev first : Kept
  first = record { completed = r; begun = []; slots = kept.slots }

  stand : NowOnly s (IsHeld n id (g ∷ []) first)
  stand = record { now = λ y left. subst (λ (k : Kept). IsHeld n id (g ∷ []) k y) (sym (kept_is n m s g kept mounts)) (mounts.now.now y left) }

  may : NowOnly s (MayBeWritten n id (g ∷ []) first (with_next_number m.register next))
  may = record { now = λ y left. subst (λ (k : Kept). MayBeWritten n id (g ∷ []) k (with_next_number m.register next) y) (sym (kept_is n m s g kept mounts)) (gets.may.now y left) }

  long : NowOnly s (AreLong ms)
  long = record { now = λ image left k among. slots_long k.slot k.sector sound (have_slots s m.register.members next mounts.ready.register.slots k among) image left }

  run : Runs (tallies.IsSlotOf ms) (PutsRow (status_gate id) ms (status_spelling (with_next_number m.register next))) s t
  run = row_runs (status_gate id) ms (status_spelling (with_next_number m.register next)) s t written.calls.runs

  -- While the record is put, each image is held for the group.
  pub status_moments : LeavesOnly s t (StandsIn n id (g ∷ []) kept)
  status_moments = subst (λ (k : Kept). LeavesOnly s t (StandsIn n id (g ∷ []) k)) (kept_is n m s g kept mounts)
      (record_moments n (g ∷ []) kept.slots m.register reg next answer s t sound gets.turns written.allowed mounts.register stand long run written.history may)

  -- Once it is complete, the group is mounted with it.
  pub status_done : (taken : ℕ) → answer ≡ Ok taken → (cat : Catalogued) → cat.tables ≡ m.catalog.tables → cat.shape ≡ m.catalog.shape
      → (new : Stored) → stores.Keeps new t → IsWhole (record m { catalog = cat; store = new; register = reg })
      → (k : Kept) × (k.slots ≡ kept.slots) × Mounts n (record m { catalog = cat; store = new; register = reg }) t g k
  status_done taken is_ok cat tables shape new keeps whole =
      let later : Registered = record m.register { value = with_next_number m.register next; turn = next_turn m.register.turn; is_fresh = false } in
      let is : reg ≡ later = written.register ∙ ap (λ (a : Result ℕ Dead). after_write m.register next a) is_ok in
      let kept_later : Kept = record { completed = later.value; begun = []; slots = kept.slots } in
      let after : registers.FitsRegister n reg (Some reg.value) [] t = subst
      (λ (a : Result ℕ Dead). MatchResult a (λ f. registers.FitsRegister n reg (Some reg.value) [] t) (λ dead. registers.FitsRegister n reg (Some r) ([] ++ with_next_number m.register next ∷ []) t)) is_ok
      (history_wide n (g ∷ []) kept.slots m.register reg next answer s t sound gets.turns written.allowed mounts.register stand long run written.history n (omega arith)).after in
      let done = record_done n (g ∷ []) kept.slots m.register reg next answer s t sound gets.turns written.allowed mounts.register stand long run written.history
      taken is_ok (ap (λ (x : Registered). x.value) is) (ap (λ (x : Registered). x.id) is) (g ∷ []) may in
      let now_later : MountedGroup = record m { catalog = cat; store = new; register = later } in (
        kept_later,
        refl,
        subst (λ (x : Registered). Mounts n (record m { catalog = cat; store = new; register = x }) t g kept_later) (sym is) (record {
          whole = subst (λ (x : Registered). IsWhole (record m { catalog = cat; store = new; register = x })) is whole;
          ready = still_ready m now_later s t refl refl keeps written.calls.attached mounts.ready;
          represents = record {
            name = mounts.represents.name;
            shape = mounts.represents.shape ∙ sym shape;
            describes = λ items are. entries_describe next (with_next_number m.register next) items g refl (gets.describes items (subst (λ (u : Tables). AreItemsOf u items) tables are));
          };
          own = mounts.own;
          completed = refl;
          begun = refl;
          register = subst (λ (x : Registered). registers.FitsRegister n x (Some x.value) [] t) is after;
          now = done;
        }),
      )
