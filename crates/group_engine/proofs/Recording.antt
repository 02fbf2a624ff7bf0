-- While a record is put on the disks of a group, what was covered stays so, and Status and directories are there.
use Rattle.std.proofs.Common.{◌≡◌, inl, ⊎_elim, ℕ, suc, ◌+◌, ◌*◌, ◌<◌, ◌≤◌, ◌^◌, Bool, List, [], ◌∷◌, ◌++◌, length, map, refl, sym, ap, subst, ◌∙◌, Some, Result, Ok, arith, IsTrue}
use Rattle.std.specs.Prelude.{MatchResult}
use Rattle.std.proofs.lemmas.Bool.{cases_eq, cases_lt}
use Rattle.bay.specs.Image as bay
use Rattle.bay.specs.State.{BayState, IsSound}
use Rattle.bay.specs.Moments.{Runs, NowOnly, LeavesOnly}
use Rattle.asm_group.specs.Group.{Group}
use Rattle.asm_formats.specs.Bytes.{block_size}
use Rattle.asm_formats.specs.Metadata.{Metadata, metadata, header_of}
use Rattle.asm_formats.specs.Places.{SameElsewhere}
use Rattle.asm_formats.specs.Status.{Status, Entry, is_status, status_spelling}
use Rattle.asm_formats.specs.Among.{IsAmong}
use Rattle.asm_images.specs.Bridge.{disk_bytes, disks_in}
use Rattle.asm_images.specs.Kept.{Kept, header_in, IsHeld}
use Rattle.asm_images.specs.Members.{ImageBytes, Member, all_members, within, written, disk_of}
use Rattle.asm_images.specs.PutLaws.{bytes_of}
use Rattle.asm_images.specs.Sound.{IsCovered}
use Rattle.asm_images.specs.Steps.{RaisesRecords}
use Rattle.asm_images.proofs.Bridges.{beyond_is_unseen, disks_are_listed, range_change, same_disk, same_is_same}
use Rattle.asm_images.proofs.Claiming.{at_change}
use Rattle.asm_images.proofs.Membership.{among_within}
use Rattle.asm_images.proofs.Slots.{fewer_slots_are_sound}
use Rattle.asm_images.proofs.Replacing.{replaced, replaced_keeps, members_replaced, within_map}
use Rattle.status_register.specs.History.{FitsHistory}
use Rattle.status_register.specs.Holders.{attached_to, with_next_number}
use Rattle.status_register.specs.Keeping.{EpochStands, KeepsOn, KeepsWritten}
use Rattle.status_register.specs.Keeping as registers
use Rattle.status_register.specs.Registered.{Registered}
use Rattle.status_register.specs.Rows.{PutsRow, no_put, one_put}
use Rattle.status_register.specs.Slots.{MayPutNext, status_gate}
use Rattle.status_register.specs.SurveyLaws.{IsMemberOn}
use Rattle.status_register.specs.Surveys.{disk_in}
use Rattle.status_register.specs.declared.error.Dead.{Dead}
use Rattle.status_register.specs.declared.member.Member.{Member as Disk}
use Rattle.status_register.proofs.RaisingRecords.{raises}
use Rattle.status_register.proofs.RowFits.{AreLong, row_sizes}
use Rattle.status_register.proofs.Taking.{status_gate_either}
use Rattle.group_engine.proofs.Covering.{record_covers}
pub use Rattle.group_engine.specs.Recorded.{MayBeWritten}
use Rattle.group_engine.specs.Commits.{StandsIn}
use Rattle.group_engine.proofs.Standings.{IsThere, stands_beside, stands_by, there_by, there_over}

record_there : (id : ℕ) (some : ℕ → Bool) (old : ImageBytes) (r s : Status) (slot : ℕ) (bytes : List ℕ) → slot < length old → RaisesRecords id (disk_of old slot) (metadata bytes) s
    → IsThere (within some (all_members id old)) r → IsThere (within some (all_members id (written old slot bytes))) r
record_there id some old r s slot bytes inside raised is =
    let d = metadata bytes in
    let own = within some (all_members id old) in
    let others : (m : Member) → m.disk ≡ disk_of old slot → d ≡ record m.disk { statuses = d.statuses } = λ m e. raised.others ∙ ap (λ (y : Metadata). record y { statuses = d.statuses }) (sym e) in
    let same : within some (all_members id (written old slot bytes)) ≡ map (replaced slot d) own =
    ap (within some) (members_replaced id old slot bytes inside (ap (λ (x : Metadata). x.header) raised.others)) ∙ within_map (replaced slot d) (replaced_keeps slot d) some (all_members id old) in
    subst (λ (l : List Member). IsThere l r) (sym same)
    (there_over (replaced slot d) (replaced_keeps slot d) own
    (λ m h. at_change id old slot d (λ a b. b.disk.content ≡ a.disk.content) (λ a e. ap (λ (x : Metadata). x.content) (others a e)) (λ a. refl) m (among_within some (all_members id old) m h)) r is)

module _ (id : ℕ) (s : Status) (allowed : IsTrue (is_status s)) where
  -- ---- one put

  module _ (slot : ℕ) (x y : bay.Image) (long : 40960 ≤ x.size slot) (step : MayPutNext (status_gate id) slot (status_spelling s) x y) where
    raised : RaisesRecords id (disk_in x slot) (disk_in y slot) s
    raised = raises (suc slot) id slot s allowed (omega arith) x y long step

    gate_low : status_gate id slot x * block_size + 2 * block_size ≤ 14 * block_size
    gate_low = ⊎_elim (λ is. omega (arith, is)) (λ is. omega (arith, is)) (status_gate_either id slot x)

    put_header : (k : ℕ) → header_in y k ≡ header_in x k
    unfolding metadata
    put_header k = ⊎_elim
        (λ (same : k ≡ slot). subst (λ (j : ℕ). header_in y j ≡ header_in x j) (sym same) (ap (λ (d : Metadata). d.header) raised.others))
        (λ differ. ap header_of (same_disk x y k (step.elsewhere.size k) (λ j. step.elsewhere.byte k j (λ inside. differ inside.0))))
        (cases_eq k slot)

    -- what a view that has the slot, or hasn't, keeps
    put_view : (P : ImageBytes → Type 0) (slots : ℕ)
        → ((old : ImageBytes) → old ≡ disks_in slots x → slot < length old → RaisesRecords id (disk_of old slot) (metadata (disk_bytes y slot)) s
        → SameElsewhere (bytes_of old slot) (disk_bytes y slot) (status_gate id slot x * block_size) (2 * block_size) → P (written old slot (disk_bytes y slot)))
        → (slots ≤ slot → P (disks_in slots x)) → P (disks_in slots y)
    put_view P slots seen unseen = ⊎_elim
        (λ (lt : slot < slots).
        let there = disks_are_listed slots slot x lt in
        let change = range_change slots slot (status_gate id slot x * block_size) (2 * block_size) x y step.elsewhere in
        subst P (sym change.0) (seen (disks_in slots x) refl (omega (arith, lt, there.0))
        (subst (λ (bytes : List ℕ). RaisesRecords id (metadata bytes) (metadata (disk_bytes y slot)) s) (sym there.1) raised)
        (subst (λ (bytes : List ℕ). SameElsewhere bytes (disk_bytes y slot) (status_gate id slot x * block_size) (2 * block_size)) (sym there.1) change.1)))
        (λ le. subst P (sym (beyond_is_unseen slots slot x y le (record { size = λ k differ. step.elsewhere.size k; byte = λ k j differ. step.elsewhere.byte k j (λ inside. differ inside.0) }))) (unseen le))
        (cases_lt slot slots)

    put_covers : (slots : ℕ) (groups : List Group) (r : Status) → ((e : Entry) → IsAmong s.entries e → e.birth ≤ r.births)
        → IsCovered id (disks_in slots x) (all_members id (disks_in slots x)) groups r → IsCovered id (disks_in slots y) (all_members id (disks_in slots y)) groups r
    put_covers slots groups r births before = put_view (λ image. IsCovered id image (all_members id image) groups r) slots
        (λ old is inside raise same. record_covers id old groups r s slot (disk_bytes y slot) (status_gate id slot x * block_size) (2 * block_size) inside raise same gate_low births
        (subst (λ (image : ImageBytes). IsCovered id image (all_members id image) groups r) (sym is) before))
        (λ le. before)

    put_there : (some : ℕ → Bool) (slots : ℕ) (r : Status) → IsThere (within some (all_members id (disks_in slots x))) r → IsThere (within some (all_members id (disks_in slots y))) r
    put_there some slots r before = put_view (λ image. IsThere (within some (all_members id image)) r) slots
        (λ old is inside raise same. record_there id some old r s slot (disk_bytes y slot) inside raise (subst (λ (image : ImageBytes). IsThere (within some (all_members id image)) r) (sym is) before))
        (λ le. before)

  -- ---- a row of puts

  module _ (ms : List Disk) where
    row_header : (x y : bay.Image) → AreLong ms x → PutsRow (status_gate id) ms (status_spelling s) x y → (k : ℕ) → header_in y k ≡ header_in x k
    row_header x y long (no_put a b same) k = ap header_of (same_disk a b k (same.size k) (λ j. same.byte k j))
    row_header x z long (one_put a y b m among row step) k =
        put_header m.slot y b (omega (arith, long m among, row_sizes (status_gate id) ms (status_spelling s) a y row m.slot)) step k ∙ row_header a y long row k

    row_covers : (x y : bay.Image) → AreLong ms x → PutsRow (status_gate id) ms (status_spelling s) x y
        → (slots : ℕ) (groups : List Group) (r : Status) → ((e : Entry) → IsAmong s.entries e → e.birth ≤ r.births)
        → IsCovered id (disks_in slots x) (all_members id (disks_in slots x)) groups r → IsCovered id (disks_in slots y) (all_members id (disks_in slots y)) groups r
    row_covers x y long (no_put a b same) slots groups r births before =
        subst (λ (image : ImageBytes). IsCovered id image (all_members id image) groups r) (sym (same_is_same slots a b same)) before
    row_covers x z long (one_put a y b m among row step) slots groups r births before =
        put_covers m.slot y b (omega (arith, long m among, row_sizes (status_gate id) ms (status_spelling s) a y row m.slot)) step slots groups r births
        (row_covers a y long row slots groups r births before)

    row_there : (x y : bay.Image) → AreLong ms x → PutsRow (status_gate id) ms (status_spelling s) x y
        → (some : ℕ → Bool) (slots : ℕ) (r : Status) → IsThere (within some (all_members id (disks_in slots x))) r → IsThere (within some (all_members id (disks_in slots y))) r
    row_there x y long (no_put a b same) some slots r before = subst (λ (image : ImageBytes). IsThere (within some (all_members id image)) r) (sym (same_is_same slots a b same)) before
    row_there x z long (one_put a y b m among row step) some slots r before =
        put_there m.slot y b (omega (arith, long m among, row_sizes (status_gate id) ms (status_spelling s) a y row m.slot)) step some slots r (row_there a y long row some slots r before)

-- ---- one image

module _ (n id : ℕ) (groups : List Group) (slots_of : ℕ → Bool) (v next : Status) (allowed : IsTrue (is_status next)) (ms : List Disk) (x y : bay.Image)
    (is : IsHeld n id groups (record { completed = v; begun = []; slots = slots_of }) x) (long : AreLong ms x)
    (row : PutsRow (status_gate id) ms (status_spelling next) x y) where
  header_same : (k : ℕ) → header_in y k ≡ header_in x k
  header_same k = row_header id next allowed ms x y long row k

  v_there : IsThere (within slots_of (all_members id (disks_in n x))) v
  v_there = there_by id (disks_in n x) slots_of v (is.sound n).fits is.standing

  abbrev before : Kept
  before = record { completed = v; begun = []; slots = slots_of }

  -- While the record is put, it and the one before are there with the attached disks.
  both_there : MayBeWritten n id groups before next x → (t : Status) → IsAmong (v ∷ next ∷ []) t → IsThere (within slots_of (all_members id (disks_in n y))) t
  both_there may t counts = ⊎_elim
      (λ (same : t ≡ v). subst (λ (u : Status). IsThere (within slots_of (all_members id (disks_in n y))) u) (sym same) (row_there id next allowed ms x y long row slots_of n v v_there))
      (λ later. ⊎_elim
      (λ (same : t ≡ next). subst (λ (u : Status). IsThere (within slots_of (all_members id (disks_in n y))) u) (sym same) (row_there id next allowed ms x y long row slots_of n next may.there))
      (λ none. absurd none) later) counts

  -- The image is held for the groups, with the record begun.
  being_written : MayBeWritten n id groups before next x → ((b : ℕ) → n ≤ b → FitsHistory b id (Some v) (next ∷ []) y)
      → IsHeld n id groups (record { completed = v; begun = next ∷ []; slots = slots_of }) y
  being_written may wide = record {
    sound = λ few. let slots = few + n in fewer_slots_are_sound id few slots y groups (Some v) (next ∷ []) (omega arith) (record {
      fits = wide slots (omega arith);
      covered = λ t counts alive. ⊎_elim
          (λ (same : t ≡ v). subst (λ (u : Status). IsCovered id (disks_in slots y) (all_members id (disks_in slots y)) groups u) (sym same)
          (row_covers id next allowed ms x y long row slots groups v may.births ((is.sound slots).covered v (inl refl) v_there.alive)))
          (λ later. ⊎_elim
          (λ (same : t ≡ next). subst (λ (u : Status). IsCovered id (disks_in slots y) (all_members id (disks_in slots y)) groups u) (sym same)
          (row_covers id next allowed ms x y long row slots groups next may.own_births (may.covers slots)))
          (λ none. absurd none) later) counts;
    });
    standing = stands_by id (disks_in n y) slots_of v (next ∷ []) (wide n (omega arith)) (both_there may);
    there = λ slot has. let h = is.there slot has in (h.0, header_same slot ∙ h.1, h.2);
  }

  -- So it stands for them, with the attached disks and any others.
  pub stands_written : MayBeWritten n id groups before next x → ((b : ℕ) → n ≤ b → FitsHistory b id (Some v) (next ∷ []) y) → StandsIn n id groups before y
  stands_written may wide = record {
    by = record { completed = v; begun = next ∷ []; slots = slots_of };
    slots = refl;
    is = being_written may wide;
    beside = λ slots more. stands_beside id (disks_in n y) slots_of slots v (next ∷ []) (wide n (omega arith)) more (both_there may);
  }

  -- Once it is complete, the image is held for the groups that the record covers.
  pub is_written : (later : List Group) → MayBeWritten n id later before next x → ((b : ℕ) → n ≤ b → FitsHistory b id (Some next) [] y)
      → IsHeld n id later (record { completed = next; begun = []; slots = slots_of }) y
  is_written later may wide = record {
    sound = λ few. let slots = few + n in fewer_slots_are_sound id few slots y later (Some next) [] (omega arith) (record {
      fits = wide slots (omega arith);
      covered = λ t counts alive. ⊎_elim
          (λ (same : t ≡ next). subst (λ (u : Status). IsCovered id (disks_in slots y) (all_members id (disks_in slots y)) later u) (sym same)
          (row_covers id next allowed ms x y long row slots later next may.own_births (may.covers slots)))
          (λ none. absurd none) counts;
    });
    standing = stands_by id (disks_in n y) slots_of next [] (wide n (omega arith)) (λ t counts. ⊎_elim
        (λ (same : t ≡ next). subst (λ (u : Status). IsThere (within slots_of (all_members id (disks_in n y))) u) (sym same) (row_there id next allowed ms x y long row slots_of n next may.there))
        (λ none. absurd none) counts);
    there = λ slot has. let h = is.there slot has in (h.0, header_same slot ∙ h.1, h.2);
  }

-- ---- a call

-- a member among the first slots is one among more
wider_member : (n b id : ℕ) (image : bay.Image) (m : Disk) → n ≤ b → IsMemberOn n id image m → IsMemberOn b id image m
wider_member n b id image m le on = record { inside = omega (arith, le, on.inside); header = on.header; header_is = on.header_is; group = on.group; number = on.number; birth = on.birth }

wider_stands : (n b id epoch : ℕ) (g : Status) (image : bay.Image) → n ≤ b → EpochStands n id epoch g image → EpochStands b id epoch g image
wider_stands n b id epoch g image le stands = record { on = stands.on; members = λ m h. wider_member n b id image m le (stands.members m h); shown = stands.shown; enough = stands.enough }

module _ (n : ℕ) (groups : List Group) (slots_of : ℕ → Bool) (register later : Registered) (next : Status) (answer : Result ℕ Dead) (s t : BayState) (sound : IsSound s)
    (room : register.turn + 1 < 2 ^ 64) (allowed : IsTrue (is_status (with_next_number register next)))
    (keeps : registers.FitsRegister n register (Some register.value) [] s)
    (now : NowOnly s (IsHeld n register.id groups (record { completed = register.value; begun = []; slots = slots_of })))
    (long : NowOnly s (AreLong (attached_to register.members next))) {on : ℕ → Type 0}
    (run : Runs on (PutsRow (status_gate register.id) (attached_to register.members next) (status_spelling (with_next_number register next))) s t)
    (history : KeepsWritten register next answer later s t) where
  abbrev id : ℕ
  id = register.id

  abbrev v : Status
  v = register.value

  abbrev r : Status
  r = with_next_number register next

  -- the register keeps the history in any wide view
  keeps_wide : (b : ℕ) → n ≤ b → registers.FitsRegister b register (Some v) [] s
  keeps_wide b le = record {
    continues = keeps.continues;
    now = record {
      now = λ image left.
          let has = keeps.now.now image left in
          record {
            fits = ((now.now image left).sound b).fits;
            members = λ i m is. wider_member n b id image m le (has.members i m is);
            claimed = wider_stands n b id register.epoch v image le has.claimed;
          };
    };
  }

  pub history_wide : (b : ℕ) → n ≤ b → KeepsOn register next answer later s t b (Some v) []
  history_wide b le = history b (Some v) [] room (keeps_wide b le)

  abbrev first : Kept
  first = record { completed = v; begun = []; slots = slots_of }

  pub record_moments : NowOnly s (MayBeWritten n id groups first r) → LeavesOnly s t (StandsIn n id groups first)
  record_moments may = record {
    later = run.later;
    ended = run.ended;
    each = λ k y low high left.
        let from = run.moments k y low high left in
        stands_written n id groups slots_of v r allowed (attached_to register.members next) from.0 y (now.now from.0 from.1) (long.now from.0 from.1) from.2 (may.now from.0 from.1)
        (λ b le. ((history_wide b le).moments.each k y low high left).fits);
  }

  pub record_done : (failed : ℕ) → answer ≡ Ok failed → later.value ≡ r → later.id ≡ id → (left : List Group) → NowOnly s (MayBeWritten n id left first r)
      → NowOnly t (IsHeld n id left (record { completed = r; begun = []; slots = slots_of }))
  record_done failed is_ok value_is id_is left may = record {
    now = λ y there.
        let from = run.moments t.calls y run.later (omega arith) there in
        is_written n id groups slots_of v r allowed (attached_to register.members next) from.0 y (now.now from.0 from.1) (long.now from.0 from.1) from.2 left (may.now from.0 from.1)
        (λ b le.
        let after : registers.FitsRegister b later (Some later.value) [] t = subst (λ (a : Result ℕ Dead). MatchResult a (λ failed. registers.FitsRegister b later (Some later.value) [] t) (λ dead. registers.FitsRegister b later (Some v) ([] ++ r ∷ []) t)) is_ok (history_wide b le).after in
        let fits : FitsHistory b later.id (Some later.value) [] y = (after.now.now y there).fits in
        subst (λ (u : Status). FitsHistory b id (Some u) [] y) value_is (subst (λ (j : ℕ). FitsHistory b j (Some later.value) [] y) id_is fits));
  }
