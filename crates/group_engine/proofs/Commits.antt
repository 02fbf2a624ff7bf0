-- What a commit of a mounted group does, on each way through it.
use Rattle.std.proofs.Common.{◌≡◌, inl, ⊎_elim, ℕ, ◌<◌, Bool, true, false, not, List, [], ◌∷◌, ◌++◌, length, refl, sym, ap, subst, ◌∙◌, Some, Result, Ok, arith, IsTrue}
use Rattle.std.proofs.lemmas.Bool.{cond-true}
use Rattle.bay.specs.Image as bay
use Rattle.bay.specs.State.{BayState, IsSound}
use Rattle.bay.specs.Moments.{Runs, NowOnly, LeavesOnly}
use Rattle.bay.proofs.Calls.{attached-trans, leaves_less, leaves_on, now_of}
use Rattle.asm_group.specs.Group.{Group}
use Rattle.asm_formats.specs.Items.{Key}
use Rattle.asm_formats.specs.Sets.{has_bit, elements}
use Rattle.asm_formats.specs.Status.{Status, is_status, status_spelling}
use Rattle.asm_base.specs.Records.{DirectoryRecord}
use Rattle.directory_store.specs.page_map.Changes.{value_after}
use Rattle.asm_formats.specs.Among.{IsAmong}
use Rattle.asm_images.specs.Kept.{Kept, IsHeld}
use Rattle.rebalance.specs.catalog_tables.Changing.{IsAfter}
use Rattle.rebalance.specs.catalog_tables.Placing.{HasUnits}
use Rattle.rebalance.specs.catalog_tables.Tables.{Catalogued, Tables}
use Rattle.directory_store.specs.change_directory.declared.copy.DirCopy.{DirCopy}
use Rattle.directory_store.specs.change_directory.StoreLaws.{SameRegion}
use Rattle.directory_store.specs.Stores.{Stored, others}
use Rattle.directory_store.specs.Stores as stores
use Rattle.directory_store.specs.declared.error.StoreError.{StoreError}
use Rattle.directory_store.proofs.Storing.{keeps_elsewhere}
use Rattle.status_register.specs.Holders.{attached_to, next_turn, with_next_number}
use Rattle.status_register.specs.Keeping as registers
use Rattle.status_register.specs.Reaching.{Reaches}
use Rattle.status_register.specs.Registered.{Registered}
use Rattle.status_register.specs.Rows.{PutsRow, no_put, one_put}
use Rattle.status_register.specs.Slots.{status_gate}
use Rattle.status_register.specs.Tallies as tallies
use Rattle.status_register.specs.declared.error.Dead.{Dead}
use Rattle.status_register.specs.declared.member.Member.{Member}
use Rattle.std.specs.Prelude.{◌||◌}
use Rattle.status_register.proofs.Losing.{empty_failed}
use Rattle.status_register.proofs.Holding.{have_slots}
use Rattle.status_register.proofs.Ordering.{row_runs}
use Rattle.status_register.proofs.RowFits.{AreLong}
use Rattle.status_register.proofs.Taking.{status_gate_either}
use Rattle.status_register.proofs.Telling.{slots_long}
use Rattle.group_engine.specs.Becoming.{LeadsToGroup}
use Rattle.directory_store.specs.StoreCalls.{AreAfter, CommitsRecords}
use Rattle.group_engine.specs.Changes.{AppliesChange}
use Rattle.group_engine.specs.Commits.{LeadsTo, StandsIn}
use Rattle.status_register.specs.RegisterCalls.{HasWritten}
use Rattle.group_engine.specs.Dropping.{WritesFewer}
use Rattle.group_engine.specs.Mounts.{MountedGroup, IsWhole, Mounts}
use Rattle.std.specs.Prelude.{MatchResult, OnOk}
use Rattle.status_register.specs.Writes.{after_write}
use Rattle.group_engine.proofs.Calls.{IsTried, kept_is, both_now, one_now, store_done, store_moments}
use Rattle.group_engine.proofs.Mounting.{left_among, register_stays, represents_after, some_left, still_ready, whole_all, whole_fewer}
use Rattle.group_engine.proofs.Recording.{record_done, record_moments, history_wide}
use Rattle.group_engine.proofs.Sets.{bits_less}
use Rattle.group_engine.proofs.Standings.{stands_at_rest}

-- ---- puts of a record change nothing in a directory region

pub row_region : (id : ℕ) (ms : List Member) (body : List ℕ) (x y : bay.Image) (c : DirCopy) → PutsRow (status_gate id) ms body x y → SameRegion c x y
row_region id ms body x y c (no_put a b same) = record { size = same.size c.slot; bytes = λ k low high. same.byte c.slot k }
row_region id ms body x z c (one_put a y b m among row step) =
    let before = row_region id ms body a y c row in
    record {
      size = step.elsewhere.size c.slot ∙ before.size;
      bytes = λ k low high. step.elsewhere.byte c.slot k (λ inside. ⊎_elim (λ is. omega (arith, is, low, inside.2)) (λ is. omega (arith, is, low, inside.2)) (status_gate_either id m.slot y)) ∙ before.bytes k low high;
    }

-- what the catalog and the store are after a commit that was tried
pub tried_by : (m : MountedGroup) (whole : IsWhole m) (new : Stored) (put : List DirectoryRecord) (gone : List Key) (u : Tables) → IsAfter m.catalog.tables put gone u → AreAfter m.store new put gone → IsTried m new u
tried_by m whole new put gone u after stored = record {
  are = after.tables;
  tables = λ k. after.records k ∙ ap (value_after put gone k) (whole.tables k) ∙ sym (stored.records k);
  number = stored.number;
}

-- ---- the group's parts, on every bay

module _ (m : MountedGroup) (whole : IsWhole m) (put : List DirectoryRecord) (gone : List Key) (s t : BayState) (new : Stored) (failed : ℕ)
    (commits : CommitsRecords m.store new put gone (Ok failed) s t) (cat : Catalogued) (applies : AppliesChange m.catalog cat put gone) where
  now_after : IsTried m new cat.tables
  now_after = tried_by m whole new put gone cat.tables applies.after commits.after

  abbrev now_units : HasUnits cat.shape m.register.value.entries cat.tables cat.units
  now_units = applies.units m.register.value.entries whole.units

  -- each copy took the change
  pub all_whole : new.copies ≡ m.store.copies → IsWhole (record m { catalog = cat; store = new })
  all_whole copies = whole_all m whole cat new now_after applies.shape now_units copies

  -- a record without the copies that failed was written
  pub fewer_whole : (w : BayState) (answer : Result ℕ Dead) (reg : Registered) (writes : WritesFewer m.register failed answer reg t w) (taken : ℕ) → answer ≡ Ok taken
      → IsWhole (record m { catalog = cat; store = new; register = reg })
  fewer_whole w answer reg writes taken ok =
      let next : Status = record m.register.value { directories = writes.fewer } in
      let later : Registered = record m.register { value = with_next_number m.register next; turn = next_turn m.register.turn; is_fresh = false } in
      let is : reg ≡ later = writes.written.register ∙ ap (λ (a : Result ℕ Dead). after_write m.register next a) ok in
      let reaches : Reaches reg.members reg.value = subst (λ (a : Result ℕ Dead). OnOk a (Reaches reg.members reg.value)) ok writes.written.reaches in
      subst (λ (x : Registered). IsWhole (record m { catalog = cat; store = new; register = x })) (sym is)
      (whole_fewer m whole cat new now_after applies.shape now_units failed writes.fewer writes.small writes.without commits.copies writes.written.allowed
      (subst (λ (x : Registered). Reaches x.members x.value) is reaches))

-- puts of a record leave the copies of a store
pub keeps_over_row : (m : MountedGroup) (new : Stored) (next : Status) (t w : BayState) (answer : Result ℕ Dead) (reg : Registered) → HasWritten m.register next answer reg t w → stores.Keeps new t → stores.Keeps new w
keeps_over_row m new next t w answer reg written keeps =
    let ms = attached_to m.register.members next in
    let body = status_spelling (with_next_number m.register next) in
    keeps_elsewhere new (λ x y c among row. row_region m.register.id ms body x y c row) written.calls.attached (row_runs (status_gate m.register.id) ms body t w written.calls.runs) keeps

-- ---- what each image is held for

module _ (m : MountedGroup) (put : List DirectoryRecord) (gone : List Key) (n : ℕ) (s : BayState) (g h : Group) (kept : Kept) (to : LeadsTo n m put gone s g h kept) (t : BayState)
    (new : Stored) (answer : Result ℕ StoreError) (commits : CommitsRecords m.store new put gone answer s t) (after : AreAfter m.store new put gone) where
  abbrev r : Status
  r = m.register.value

  abbrev id : ℕ
  id = m.register.id

  abbrev mounts : Mounts n m s g kept
  mounts = to.mounts

  abbrev tried : IsTried m new to.tables
  tried = tried_by m to.mounts.whole new put gone to.tables to.after after

  on_its_way : LeavesOnly s t (IsHeld n id (g ∷ h ∷ []) kept)
  on_its_way = store_moments n m s g kept mounts t commits.runs new commits.moments to.tables tried h to.leads to.holds

  -- over the store's calls
  pub stored_moments : LeavesOnly s t (StandsIn n id (g ∷ h ∷ []) kept)
  stored_moments = leaves_less (λ x is. stands_at_rest n id (g ∷ h ∷ []) kept x mounts.begun is) on_its_way

  module _ (cat : Catalogued) (applies : AppliesChange m.catalog cat put gone) (same : cat.tables ≡ to.tables) where
    now_leads : LeadsToGroup r cat.tables g h
    now_leads = subst (λ (u : Tables). LeadsToGroup r u g h) (sym same) to.leads

    -- each copy took the change
    pub all_done : new.copies ≡ m.store.copies → IsWhole (record m { catalog = cat; store = new }) → Mounts n (record m { catalog = cat; store = new }) t h kept
    all_done copies whole = record {
      whole = whole;
      ready = still_ready m (record m { catalog = cat; store = new }) s t refl refl commits.kept commits.attached mounts.ready;
      represents = represents_after cat new m.register mounts.represents now_leads applies.shape refl;
      own = mounts.own;
      completed = mounts.completed;
      begun = mounts.begun;
      register = register_stays n m commits.runs mounts.register;
      now = store_done n m s g kept mounts t commits.runs new commits.moments to.tables tried h to.leads to.holds (λ c among. subst (λ (l : List DirCopy). IsAmong l c) (sym copies) among) commits.done;
    }

  -- ---- some copies failed, and a record without them was written

  module _ (failed : ℕ) (copies : new.copies ≡ others failed m.store.copies) (first : (c : DirCopy) × IsAmong new.copies c) (w : BayState) (sound : IsSound t) (answer_2 : Result ℕ Dead) (reg : Registered)
      (writes : WritesFewer m.register failed answer_2 reg t w) (cat : Catalogued) (applies : AppliesChange m.catalog cat put gone) (same : cat.tables ≡ to.tables) where
    abbrev fewer : ℕ
    fewer = writes.fewer

    abbrev next : Status
    next = record r { directories = fewer }

    abbrev ms : List Member
    ms = attached_to m.register.members next

    abbrev the_tried : IsTried m new cat.tables
    the_tried = subst (λ (u : Tables). IsTried m new u) (sym same) tried

    abbrev the_units : HasUnits cat.shape r.entries cat.tables cat.units
    the_units = applies.units r.entries mounts.whole.units

    less : (d : ℕ) → has_bit fewer d ≡ true → has_bit r.directories d ≡ true
    less = bits_less fewer r.directories failed writes.small writes.without

    left_are : (c : DirCopy) → IsAmong m.store.copies c → IsAmong (elements fewer) c.number → IsAmong new.copies c
    left_are = left_among m mounts.whole cat new the_tried applies.shape the_units failed fewer writes.small writes.without copies

    one_left : (d : DirCopy) × IsAmong m.store.copies d × IsAmong (elements fewer) d.number
    one_left = some_left m mounts.whole cat new the_tried applies.shape the_units failed fewer writes.small writes.without copies first.0 first.1

    abbrev allowed : IsTrue (is_status (with_next_number m.register next))
    allowed = writes.written.allowed

    both_are : NowOnly t (IsHeld n id (g ∷ h ∷ []) (record { completed = r; begun = []; slots = kept.slots }))
    both_are = record { now = λ y left. subst (λ (k : Kept). IsHeld n id (g ∷ h ∷ []) k y) (sym (kept_is n m s g kept mounts)) ((now_of on_its_way).now y left) }

    register_keeps : registers.FitsRegister n m.register (Some r) [] t
    register_keeps = register_stays n m commits.runs mounts.register

    long : NowOnly t (AreLong ms)
    long = record {
      now = λ image left k among. slots_long k.slot k.sector sound
          (have_slots t m.register.members next (still_ready m (record m { store = new }) s t refl refl commits.kept commits.attached mounts.ready).register.slots k among) image left;
    }

    run : Runs (tallies.IsSlotOf ms) (PutsRow (status_gate id) ms (status_spelling (with_next_number m.register next))) t w
    run = row_runs (status_gate id) ms (status_spelling (with_next_number m.register next)) t w writes.written.calls.runs

    the_moments : LeavesOnly t w (StandsIn n id (g ∷ h ∷ []) (record { completed = r; begun = []; slots = kept.slots }))
    the_moments = record_moments n (g ∷ h ∷ []) kept.slots m.register reg next answer_2 t w sound to.turns allowed register_keeps both_are long run writes.written.history
        (both_now n m s g kept mounts t commits.runs new commits.moments to.tables tried h to.leads to.holds commits.done fewer less left_are one_left)

    pub dropped_moments : LeavesOnly s w (StandsIn n id (g ∷ h ∷ []) kept)
    dropped_moments = leaves_on stored_moments (subst (λ (k : Kept). LeavesOnly t w (StandsIn n id (g ∷ h ∷ []) k)) (kept_is n m s g kept mounts) the_moments)

    pub dropped_done : (taken : ℕ) → answer_2 ≡ Ok taken → IsWhole (record m { catalog = cat; store = new; register = reg })
        → (k : Kept) × (k.slots ≡ kept.slots) × Mounts n (record m { catalog = cat; store = new; register = reg }) w h k
    dropped_done taken ok whole =
        let later : Registered = record m.register { value = with_next_number m.register next; turn = next_turn m.register.turn; is_fresh = false } in
        let is : reg ≡ later = writes.written.register ∙ ap (λ (a : Result ℕ Dead). after_write m.register next a) ok in
        let kept_later : Kept = record { completed = later.value; begun = []; slots = kept.slots } in
        let after_it : registers.FitsRegister n reg (Some reg.value) [] w = subst
        (λ (a : Result ℕ Dead). MatchResult a (λ f. registers.FitsRegister n reg (Some reg.value) [] w) (λ dead. registers.FitsRegister n reg (Some r) ([] ++ with_next_number m.register next ∷ []) w)) ok
        (history_wide n (g ∷ h ∷ []) kept.slots m.register reg next answer_2 t w sound to.turns allowed register_keeps both_are long run writes.written.history n (omega arith)).after in
        let done = record_done n (g ∷ h ∷ []) kept.slots m.register reg next answer_2 t w sound to.turns allowed register_keeps both_are long run writes.written.history
        taken ok (ap (λ (x : Registered). x.value) is) (ap (λ (x : Registered). x.id) is) (h ∷ [])
        (one_now n m s g kept mounts t commits.runs new commits.moments to.tables tried h to.leads to.holds commits.done fewer less left_are one_left) in
        let keeps : stores.Keeps new w = keeps_over_row m new next t w answer_2 reg writes.written commits.kept in
        let now_later : MountedGroup = record m { catalog = cat; store = new; register = later } in (
          kept_later,
          refl,
          subst (λ (x : Registered). Mounts n (record m { catalog = cat; store = new; register = x }) w h kept_later) (sym is) (record {
            whole = subst (λ (x : Registered). IsWhole (record m { catalog = cat; store = new; register = x })) is whole;
            ready = still_ready m now_later s w refl refl keeps (attached-trans commits.attached writes.written.calls.attached) mounts.ready;
            represents = represents_after cat new later mounts.represents (now_leads cat applies same) applies.shape refl;
            own = mounts.own;
            completed = refl;
            begun = refl;
            register = subst (λ (x : Registered). registers.FitsRegister n x (Some x.value) [] w) is after_it;
            now = done;
          }),
        )

-- ---- small facts

no_bits : (failed k : ℕ) → failed ≡ 0 → has_bit failed k ≡ false
no_bits failed k is = or_none (has_bit failed k) (empty_failed failed false k is)
  where
    or_none : (b : Bool) → (b || false) ≡ false → b ≡ false
    or_none true e = e
    or_none false e = refl

pub others_none : (failed : ℕ) (copies : List DirCopy) → failed ≡ 0 → others failed copies ≡ copies
others_none failed [] is = refl
others_none failed (c ∷ copies) is = cond-true (not (has_bit failed c.number)) (c ∷ others failed copies) (others failed copies) (ap not (no_bits failed c.number is))
    ∙ ap (λ (l : List DirCopy). c ∷ l) (others_none failed copies is)

pub one_of : (copies : List DirCopy) → 0 < length copies → (c : DirCopy) × IsAmong copies c
one_of [] some = absurd (omega arith)
one_of (c ∷ copies) some = (c, inl refl)
