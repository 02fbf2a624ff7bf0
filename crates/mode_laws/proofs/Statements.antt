-- What statements on disks do to modes.
use Rattle.std.proofs.Common.{◌≡◌, inl, inr, ℕ, Bool, true, false, cond, not, List, map, refl, sym, ap, subst, Option, Some, None}
use Rattle.std.specs.Option.{option_map}
use Rattle.asm_group.specs.declared.Mode.{Mode}
use Rattle.asm_group.specs.declared.Mode.TheVariants as mode
use Rattle.asm_formats.specs.Sets.{has_bit}
use Rattle.asm_formats.specs.Status.{Entry}
use Rattle.asm_placement.specs.Modes.{is_dropping, is_forced, is_online}
use Rattle.group_pieces.specs.group_engine.Mounts.{MountedGroup}
use Rattle.disk_modes.specs.declared.checking.Statement.{Statement}
use Rattle.disk_modes.specs.declared.checking.Statement.TheVariants as statement
use Rattle.disk_modes.specs.declared.dropping.DropDisk.{DropDisk}
use Rattle.disk_modes.specs.declared.records.Becomes.{Becomes}
use Rattle.disk_modes.specs.declared.records.Becomes.TheVariants as becomes
use Rattle.disk_modes.specs.declared.records.NewModes.TheVariants as modes
use Rattle.disk_modes.specs.Effects.{drop_to, entry_dropped, has_dropping, drop_option_of}
use Rattle.disk_modes.specs.Modes.{drop_as, takes}
use Rattle.disk_modes.specs.Records.{entries_after, entry_after, entry_as}
use Rattle.disk_modes.specs.Sizes.{entry_resized, units_asked}
use Rattle.mode_laws.specs.Events.{EntryChange, ModeChange, ModeEvent, by_drop, by_force, by_offline, by_undrop, mode_after, times_after, offline_times, mode_if}
use Rattle.mode_laws.specs.Statements.{DropChanges, DropNames, NoEvent, OfflineChanges, OfflineNames, RebalanceChanges, ResizeChanges, ResizeNames, UndropChanges, UndropNames, group_entries, named_drop, named_offline, repair_in}
use Rattle.mode_laws.proofs.Mapped.{all_changed, kept_entry, none_changed, partners_anew}

-- it is to come
pub it_comes : (b : Bool) (m : Mode) → b ≡ true → mode_if b m ≡ Some m
it_comes b m is = ap (λ (x : Bool). mode_if x m) is

-- the entry in another mode, where an event that happened gave it this and times
pub moded : (happens : ℕ → ModeEvent → Type 0) (v : ModeEvent) (e : Entry) (m : Mode) (since repair : ℕ) → happens e.number v
    → mode_after v e.mode ≡ Some m → (since, repair) ≡ times_after v (offline_times e) → EntryChange happens e (record e { mode = m; since = since; repair = repair })
moded happens v e m since repair h is times = record {
  number = refl;
  birth = refl;
  failgroup = refl;
  quorum = refl;
  mode = inr (v, h, record { mode = is; times = times });
  units = inl refl;
}

-- ---- OFFLINE

one_offline : (disks now repair : ℕ) (e : Entry) → ((s : Statement) → named_offline disks e.number ≡ Some s → takes s e.mode ≡ true)
    → EntryChange (OfflineNames disks now repair) e (entry_after (modes.Offline disks now repair) e)
one_offline disks now repair e taken = go (has_bit disks e.number) refl
  where
    go : (b : Bool) → b ≡ has_bit disks e.number → EntryChange (OfflineNames disks now repair) e (entry_as (cond b (becomes.Offline now repair) becomes.Same) e)
    go true is =
        moded (OfflineNames disks now repair) (by_offline now repair) e mode.Offline now repair (sym is, refl)
        (it_comes (is_online e.mode) mode.Offline (taken statement.Offline (ap (λ (x : Bool). cond x (Some statement.Offline) None) (sym is)))) refl
    go false is = kept_entry (OfflineNames disks now repair) e

same_number : (b : Becomes) (e : Entry) → (entry_as b e).number ≡ e.number
same_number becomes.Same e = refl
same_number (becomes.Offline since repair) e = refl
same_number (becomes.InMode m) e = refl

pub offline_changes : OfflineChanges
offline_changes disks now said old new taken done =
    let repair = repair_in old said in
    let happens = OfflineNames disks now repair in
    let change = entry_after (modes.Offline disks now repair) in
    subst (ModeChange happens (group_entries old)) (sym done.under.entries)
    (all_changed happens (group_entries old) change (λ e. same_number (cond (has_bit disks e.number) (becomes.Offline now repair) becomes.Same) e)
    (λ e at among. one_offline disks now repair e (λ s. taken e s among)))

-- ---- DROP

one_dropped : (disks : List DropDisk) (e : Entry) → ((s : Statement) → named_drop disks e.number ≡ Some s → takes s e.mode ≡ true) → EntryChange (DropNames disks) e (entry_dropped disks e)
one_dropped disks e taken = go (drop_option_of disks e.number) refl
  where
    go : (o : Option Bool) → o ≡ drop_option_of disks e.number → EntryChange (DropNames disks) e (entry_as (drop_to o) e)
    go None is = kept_entry (DropNames disks) e
    go (Some true) is =
        moded (DropNames disks) by_force e mode.Forced e.since e.repair (true, sym is, refl)
        (it_comes (not (is_forced e.mode)) mode.Forced (taken statement.Force (ap (option_map drop_as) (sym is)))) refl
    go (Some false) is =
        moded (DropNames disks) by_drop e mode.Dropping e.since e.repair (false, sym is, refl)
        (it_comes (is_online e.mode) mode.Dropping (taken statement.Drop (ap (option_map drop_as) (sym is)))) refl

pub drop_changes : DropChanges
drop_changes disks power old new taken done =
    subst (ModeChange (DropNames disks) (group_entries old)) (sym done.entries)
    (partners_anew (DropNames disks) (group_entries old) (map (entry_dropped disks) (group_entries old))
    (all_changed (DropNames disks) (group_entries old) (entry_dropped disks) (λ e. same_number (drop_to (drop_option_of disks e.number)) e)
    (λ e at among. one_dropped disks e (λ s. taken e s among))))

-- ---- UNDROP

one_undropped : (e : Entry) → EntryChange UndropNames e (entry_after modes.Undropped e)
one_undropped e = go (is_dropping e.mode) refl
  where
    go : (b : Bool) → b ≡ is_dropping e.mode → EntryChange UndropNames e (entry_as (cond b (becomes.InMode mode.Online) becomes.Same) e)
    go true is = moded UndropNames by_undrop e mode.Online e.since e.repair refl (it_comes (is_dropping e.mode) mode.Online (sym is)) refl
    go false is = kept_entry UndropNames e

all_undropped : (es : List Entry) → ModeChange UndropNames es (entries_after modes.Undropped es)
all_undropped es = partners_anew UndropNames es (map (entry_after modes.Undropped) es)
    (all_changed UndropNames es (entry_after modes.Undropped) (λ e. same_number (cond (is_dropping e.mode) (becomes.InMode mode.Online) becomes.Same) e) (λ e at among. one_undropped e))

pub undrop_changes : UndropChanges
undrop_changes old new done = subst (ModeChange UndropNames (group_entries old)) (sym done.entries) (go (has_dropping (group_entries old)))
  where
    go : (b : Bool) → ModeChange UndropNames (group_entries old) (cond b (entries_after modes.Undropped (group_entries old)) (group_entries old))
    go true = all_undropped (group_entries old)
    go false = none_changed UndropNames (group_entries old)

-- ---- RESIZE and REBALANCE

module _ (m : MountedGroup) (disks : ℕ) (size : Option ℕ) where
  abbrev pub resized : Entry → Entry
  resized = entry_resized m.catalog.shape m.disks (record { disks = disks; size = size })

  abbrev with_units : Bool → Entry → Entry
  with_units b e = cond b (record e { units = units_asked m.catalog.shape m.disks size e.number }) e

  one_resized : (e : Entry) (b : Bool) → b ≡ has_bit disks e.number → EntryChange (ResizeNames m disks size) e (with_units b e)
  one_resized e true is = record {
    number = refl;
    birth = refl;
    failgroup = refl;
    quorum = refl;
    mode = inl (record { mode = refl; times = refl });
    units = inr (sym is, refl);
  }
  one_resized e false is = kept_entry (ResizeNames m disks size) e

  resized_number : (e : Entry) (b : Bool) → (with_units b e).number ≡ e.number
  resized_number e true = refl
  resized_number e false = refl

  pub all_resized : ModeChange (ResizeNames m disks size) (group_entries m) (map resized (group_entries m))
  all_resized =
      all_changed (ResizeNames m disks size) (group_entries m) resized (λ e. resized_number e (has_bit disks e.number)) (λ e at among. one_resized e (has_bit disks e.number) refl)

pub resize_changes : ResizeChanges
resize_changes disks size power old new done = subst (ModeChange (ResizeNames old disks size) (group_entries old)) (sym done.entries) (all_resized old disks size)

pub rebalance_changes : RebalanceChanges
rebalance_changes power old new done = subst (ModeChange NoEvent (group_entries old)) (sym done.kept.entries) (none_changed NoEvent (group_entries old))
