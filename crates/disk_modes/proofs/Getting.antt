-- A mounted group may get the record with new modes.
use Rattle.std.proofs.Common.{◌≡◌, ℕ, ◌+◌, ◌<◌, ◌≤◌, ◌^◌, Bool, true, false, cond, not, ◌&&◌, List, [], ◌∷◌, map, Result, Ok, Err, None, Some, refl, sym, ap, subst, ◌∙◌, arith, IsTrue}
use Rattle.std.specs.Prelude.{OnErr, OnOk}
use Rattle.std.proofs.lemmas.Bool.{true≢false}
use Rattle.bay.specs.Image as bay
use Rattle.bay.specs.Moments.{LeavesOnly}
use Rattle.bay.specs.State.{BayState}
use Rattle.asm_group.specs.declared.Mode.{Mode}
use Rattle.asm_group.specs.declared.Mode.TheVariants as mode
use Rattle.asm_group.specs.Group.{Group}
use Rattle.refusal_lines.specs.declared.refusal.Refusal.{Refusal}
use Rattle.asm_formats.specs.Among.{IsAmong}
use Rattle.asm_formats.specs.Sets.{elements, has_bit}
use Rattle.asm_formats.specs.Status.{Entry, Status, entry_of, is_entry, is_status}
use Rattle.asm_placement.specs.Modes as modes_of
use Rattle.asm_placement.specs.Modes.{is_dropping, is_forced, is_online}
use Rattle.asm_placement.specs.Partners.{HasPartners, partner_set}
use Rattle.asm_placement.proofs.Membership.{map_among}
use Rattle.asm_images.specs.Kept.{Kept}
use Rattle.asm_images.specs.RecordLaws.{bare}
use Rattle.asm_images.proofs.UserBytes.{all_of_list}
use Rattle.record_laws.specs.group_engine.Commits.{KeepsRecord, StandsIn, turns_at_most}
use Rattle.record_laws.specs.group_engine.Mounts.{IsMounted, MountedGroup, Mounts}
use Rattle.record_laws.specs.group_engine.Pending.{HasTurns}
use Rattle.record_laws.specs.group_engine.Recorded.{MayGet}
use Rattle.record_laws.specs.group_engine.Statuses.{IsNextOf}
use Rattle.record_laws.proofs.group_engine.Including.{element_of}
use Rattle.record_laws.proofs.group_engine.Mounting.{entries_describe}
use Rattle.record_laws.proofs.group_engine.NextRecords.{same_disks_are_next}
use Rattle.record_laws.proofs.group_engine.Records.{record_parts}
use Rattle.record_laws.proofs.group_engine.Sets.{element_bit, element_small}
use Rattle.record_laws.specs.Changing.{KeepsDisk, KeepsPlace}
use Rattle.record_laws.specs.Getting.{ChangesModesAlone, NamesFewer}
use Rattle.record_laws.proofs.Changing.{modes_join, modes_of_each}
use Rattle.record_laws.proofs.Fewer.{fewer_copies_may_be_got}
use Rattle.record_laws.proofs.Getting.{some_copy}
use Rattle.record_laws.proofs.Modes.{mounted_has_partners, same_disks_may_be_got}
use Rattle.record_laws.proofs.Partners.{table_is_made, table_stays}
use Rattle.disk_modes.specs.declared.changing.Changes.{Changes}
use Rattle.disk_modes.specs.declared.changing.Changes.TheVariants as changes
use Rattle.disk_modes.specs.declared.records.Becomes.{Becomes}
use Rattle.disk_modes.specs.declared.records.Becomes.TheVariants as becomes
use Rattle.disk_modes.specs.declared.records.NewModes.{NewModes}
use Rattle.disk_modes.specs.declared.records.NewModes.TheVariants as modes
use Rattle.disk_modes.specs.Effects.{has_dropping, undropping}
use Rattle.disk_modes.specs.Records.{IsChanged, IsUnder, change_of, entries_after, entry_after, entry_as, taken_off}
use Rattle.disk_modes.specs.Stops.{AreModesAllowed, MayMakeChanges, MayPutModes, StaysHeld}
use Rattle.disk_modes.proofs.Naming.{no_bit, small}
use Rattle.disk_modes.proofs.NextRecords.{changed_is_next}

-- ---- modes

online_not_forced : (m : Mode) → is_online m ≡ true → is_forced m ≡ true → ⊥
online_not_forced mode.Online on forced = absurd cc
online_not_forced mode.Offline on forced = absurd cc
online_not_forced mode.Syncing on forced = absurd cc
online_not_forced mode.Dropping on forced = absurd cc
online_not_forced mode.Forced on forced = absurd cc

dropping_not_forced : (m : Mode) → is_dropping m ≡ true → is_forced m ≡ true → ⊥
dropping_not_forced mode.Online on forced = absurd cc
dropping_not_forced mode.Offline on forced = absurd cc
dropping_not_forced mode.Syncing on forced = absurd cc
dropping_not_forced mode.Dropping on forced = absurd cc
dropping_not_forced mode.Forced on forced = absurd cc

online_stays : (m : Mode) → is_online m ≡ true → modes_of.stays m ≡ true
online_stays mode.Online on = refl
online_stays mode.Offline on = refl
online_stays mode.Syncing on = refl
online_stays mode.Dropping on = absurd cc
online_stays mode.Forced on = absurd cc

not_both : (b : Bool) → b ≡ false → b ≡ true → ⊥
not_both b is_not is = true≢false (sym is ∙ is_not)

-- ---- the entry of a disk is that of the disk still, and Forced where it was

same_bare : (b : Becomes) (e : Entry) → bare (entry_as b e) ≡ bare e
same_bare becomes.Same e = refl
same_bare (becomes.Offline since repair) e = refl
same_bare (becomes.InMode m) e = refl

still_forced : (to : NewModes) (es : List Entry) → AreModesAllowed to es → (e : Entry) → IsAmong es e → is_forced e.mode ≡ true → is_forced (entry_after to e).mode ≡ true
still_forced (modes.Offline disks since repair) es taken e among forced = go (has_bit disks e.number) (taken e among)
  where
    go : (b : Bool) → (b ≡ true → is_online e.mode ≡ true) → is_forced (entry_as (cond b (becomes.Offline since repair) becomes.Same) e).mode ≡ true
    go true on = absurd (online_not_forced e.mode (on refl) forced)
    go false on = forced
still_forced (modes.Dropped dropping forced_set) es taken e among forced = go (has_bit forced_set e.number) (has_bit dropping e.number) (taken e among)
  where
    go : (a b : Bool) → (a ≡ false → b ≡ true → is_forced e.mode ≡ false)
        → is_forced (entry_as (cond a (becomes.InMode mode.Forced) (cond b (becomes.InMode mode.Dropping) becomes.Same)) e).mode ≡ true
    go true b out = refl
    go false true out = absurd (not_both (is_forced e.mode) (out refl refl) forced)
    go false false out = forced
still_forced modes.Undropped es taken e among forced = go (is_dropping e.mode) refl
  where
    go : (b : Bool) → is_dropping e.mode ≡ b → is_forced (entry_as (cond b (becomes.InMode mode.Online) becomes.Same) e).mode ≡ true
    go true on = absurd (dropping_not_forced e.mode on forced)
    go false on = forced

each_kept : (to : NewModes) (es : List Entry) → AreModesAllowed to es → (e : Entry) → IsAmong es e → KeepsDisk e (entry_after to e)
each_kept to es taken e among = record { disk = same_bare (change_of to e) e; forced = λ forced. still_forced to es taken e among forced }

-- ---- so it is with the partners of the record

abbrev as_after : NewModes → Status → Status
as_after to r = record r { entries = map (entry_after to) r.entries }

abbrev made_anew : List Entry → Entry → Entry
made_anew es e = record e { partners = partner_set es e.number }

with_new : (to : NewModes) (r : Status) → AreModesAllowed to r.entries → ChangesModesAlone r (record r { entries = map (made_anew (map (entry_after to) r.entries)) (map (entry_after to) r.entries) })
with_new to r taken =
    modes_join r (as_after to r) (record r { entries = map (made_anew (map (entry_after to) r.entries)) (map (entry_after to) r.entries) })
    (modes_of_each r (entry_after to) (each_kept to r.entries taken))
    (modes_of_each (as_after to r) (made_anew (map (entry_after to) r.entries)) (λ e among. record { disk = refl; forced = λ forced. forced }))

modes_alone : (to : NewModes) (r : Status) → AreModesAllowed to r.entries → ChangesModesAlone r (record r { entries = entries_after to r.entries })
modes_alone (modes.Offline disks since repair) r taken = modes_of_each r (entry_after (modes.Offline disks since repair)) (each_kept (modes.Offline disks since repair) r.entries taken)
modes_alone (modes.Dropped dropping forced) r taken = with_new (modes.Dropped dropping forced) r taken
modes_alone modes.Undropped r taken = with_new modes.Undropped r taken

-- ---- partners

same_number : (b : Becomes) (e : Entry) → (entry_as b e).number ≡ e.number
same_number becomes.Same e = refl
same_number (becomes.Offline since repair) e = refl
same_number (becomes.InMode m) e = refl

small_after : (to : NewModes) (r : Status) → IsTrue (is_status r) → (e : Entry) → IsAmong (map (entry_after to) r.entries) e → e.number < 64
small_after to r allowed e among =
    let x = map_among (entry_after to) r.entries e among in
    subst (λ (n : ℕ). n < 64) (sym (ap (λ (y : Entry). y.number) x.2 ∙ same_number (change_of to x.0) x.0))
    (small x.0 (all_of_list is_entry r.entries x.0 (record_parts r allowed).entries x.1))

offline_place : (disks since repair : ℕ) (es : List Entry) → AreModesAllowed (modes.Offline disks since repair) es → (e : Entry) → IsAmong es e → KeepsPlace e (entry_after (modes.Offline disks since repair) e)
offline_place disks since repair es taken e among = go (has_bit disks e.number) (taken e among)
  where
    go : (b : Bool) → (b ≡ true → is_online e.mode ≡ true) → KeepsPlace e (entry_as (cond b (becomes.Offline since repair) becomes.Same) e)
    go true on = record { number = refl; failgroup = refl; quorum = refl; partners = refl; stays = sym (online_stays e.mode (on refl)) }
    go false on = record { number = refl; failgroup = refl; quorum = refl; partners = refl; stays = refl }

partners_after : (to : NewModes) (r : Status) → IsTrue (is_status r) → AreModesAllowed to r.entries → HasPartners r.entries → HasPartners (entries_after to r.entries)
partners_after (modes.Offline disks since repair) r allowed taken has =
    table_stays r.entries (entry_after (modes.Offline disks since repair)) (offline_place disks since repair r.entries taken) has
partners_after (modes.Dropped dropping forced) r allowed taken has =
    table_is_made (map (entry_after (modes.Dropped dropping forced)) r.entries) (small_after (modes.Dropped dropping forced) r allowed)
partners_after modes.Undropped r allowed taken has = table_is_made (map (entry_after modes.Undropped) r.entries) (small_after modes.Undropped r allowed)

-- ---- the record

module _ (s : BayState) (m : MountedGroup) (to : NewModes) (next : Status) (allowed : IsTrue (is_status next)) (is : IsChanged m.register.value next) (under : IsUnder to m.register.value next) (may : MayPutModes to m.register.value)
    (n : ℕ) (g : Group) (kept : Kept) (mounts : Mounts n m s g kept) (turns : m.register.turn + 1 < 2 ^ 64) where
  abbrev r : Status
  r = m.register.value

  entries_are : is.named.entries ≡ entries_after to r.entries
  entries_are = ap (λ (x : Status). x.entries) (sym is.fewer.same) ∙ under.entries

  named_alone : ChangesModesAlone r is.named
  named_alone = record {
    disks = is.disks;
    births = omega (arith, is.births);
    forced = λ d e f was now forced.
        (modes_alone to r may.taken).forced d e f was (subst (λ (es : List Entry). entry_of es d ≡ Some f) entries_are now) forced;
  }

  named_got : MayGet n m is.named s g kept
  named_got = same_disks_may_be_got s n m is.named g kept mounts turns is.allowed named_alone
      (subst (λ (es : List Entry). HasPartners es) (sym entries_are) (partners_after to r mounts.whole.status may.taken (mounted_has_partners s n m g kept mounts)))

  is_named : IsNextOf m is.named
  is_named = same_disks_are_next m is.named mounts.whole is.allowed is.disks

  is_next : IsNextOf m next
  is_next = changed_is_next m next mounts.whole allowed is

  bit_left : (k : ℕ) → k < 64 → has_bit r.directories k ≡ true → has_bit (taken_off to) k ≡ false → has_bit next.directories k ≡ true
  bit_left k lt has stays = under.copies k lt ∙ (λ i. has i && not (stays i))

  -- a copy that the record names is left
  some_left : (x : bay.Image) → s.leaves s.calls x → (d : ℕ) × IsAmong (elements next.directories) d
  some_left x left =
      let c = some_copy n m s g kept mounts x left in
      let k = may.left c.0 (element_small r.directories c.0 c.1) (element_bit r.directories c.0 c.1) in
      (k.disk, element_of next.directories k.disk k.small (bit_left k.disk k.small k.has k.stays))

  names : (d : ℕ) × IsAmong (elements next.directories) d → NamesFewer is.named next
  names some = record {
    births = ap (λ (x : Status). x.births) is.fewer.same;
    entries = ap (λ (x : Status). x.entries) is.fewer.same;
    fewer = is.fewer.fewer;
    some = some;
  }

  pub modes_got : MayGet n m next s g kept
  modes_got = record {
    mounts = mounts;
    may = record { now = λ x left. (fewer_copies_may_be_got s n m is.named next g kept named_got is_named is_next (names (some_left x left))).may.now x left };
    describes = λ l are. entries_describe is.named next l g (ap (λ (x : Status). x.entries) (sym is.fewer.same)) (named_got.describes l are);
    turns = turns;
  }

-- ---- a record is written that the group may get

-- whichever group is mounted, it may get the record
abbrev pub MayBePut : MountedGroup → Status → BayState → Type 0
MayBePut m next s = (n : ℕ) (g : Group) (kept : Kept) → Mounts n m s g kept → m.register.turn + 1 < 2 ^ 64 → MayGet n m next s g kept

module _ (a b : MountedGroup) (next : Status) (s t : BayState) (gets : MayBePut a next s) where
  one_turn : HasTurns a → a.register.turn + 1 < 2 ^ 64
  one_turn turns = omega (arith, turns)

  pub record_held : (r : Result (Unit {0}) Refusal) → ((n : ℕ) (g : Group) (kept : Kept) → MayGet n a next s g kept → LeavesOnly s t (StandsIn n a.register.id (g ∷ []) kept))
      → OnOk r ((n : ℕ) (g : Group) (kept : Kept) → MayGet n a next s g kept → (later : Kept) × (later.slots ≡ kept.slots) × Mounts n b t g later)
      → (IsMounted b → OnErr r ((n : ℕ) (g : Group) (kept : Kept) → Mounts n a s g kept → Mounts n b t g kept)) → turns_at_most b ≤ turns_at_most a + 1 → StaysHeld a b s t
  record_held (Ok done) moments stays refused fewer = record {
    moments = λ n g kept mounts turns. moments n g kept (gets n g kept mounts (one_turn turns));
    stays = λ takes n g kept mounts turns. stays n g kept (gets n g kept mounts (one_turn turns));
    turns = fewer;
  }
  record_held (Err e) moments stays refused fewer = record {
    moments = λ n g kept mounts turns. moments n g kept (gets n g kept mounts (one_turn turns));
    stays = λ takes n g kept mounts turns. (kept, refl, refused takes n g kept mounts);
    turns = fewer;
  }

-- ---- behind the commit of a rebalance

-- no copy is taken off, whichever the commit lost
pub put_behind : (to : NewModes) (a b : MountedGroup) → KeepsRecord a.register.value b.register.value → AreModesAllowed to a.register.value.entries × (taken_off to ≡ 0) → MayPutModes to b.register.value
put_behind to a b kept may = record {
  taken = subst (λ (es : List Entry). AreModesAllowed to es) (sym kept.entries) may.0;
  left = λ d lt has. record { disk = d; small = lt; has = has; stays = ap (λ (n : ℕ). has_bit n d) may.1 ∙ no_bit d };
}

-- ---- the move that is on its way was given up

pub may_behind : (of : Changes) (to : NewModes) (a b : MountedGroup) → b ≡ record a { flight = None } → MayMakeChanges of to a → MayMakeChanges of to b
may_behind of to a b is may = subst (λ (v : MountedGroup). MayMakeChanges of to v) (sym is) (go of may)
  where
    go : (x : Changes) → MayMakeChanges x to a → MayMakeChanges x to (record a { flight = None })
    go changes.Modes it = it
    go (changes.Rebalance power) it = it
    go (changes.RebalanceThenModes power) it = it
    go (changes.ModesThenRebalance power) it = it

-- ---- UNDROP takes no disk that it may not take, and no copy

pub may_undrop : (m : MountedGroup) (es : List Entry) (of : Changes) → of ≡ undropping es → MayMakeChanges of modes.Undropped m
may_undrop m es of is = subst (λ (x : Changes). MayMakeChanges x modes.Undropped m) (sym is) (go (has_dropping es))
  where
    go : (b : Bool) → MayMakeChanges (cond b (changes.RebalanceThenModes 1) (changes.Rebalance 1)) modes.Undropped m
    go true = (tt, refl)
    go false = tt
