-- A mounted group where nothing was done.
use Rattle.std.proofs.Common.{inl, ⊎_elim, ℕ, List, [], ◌∷◌, refl, sym, ap, subst, ◌∙◌, Some, arith, IsTrue}
use Rattle.bay.specs.Image as bay
use Rattle.bay.specs.Image.{Same}
use Rattle.bay.specs.State.{BayState, KeepsAttached}
use Rattle.bay.specs.Moments.{Runs, NowOnly, LeavesOnly}
use Rattle.asm_group.specs.Group.{Group}
use Rattle.asm_group.specs.Shape.{Shape, is_shape}
use Rattle.rebalance.specs.allocator.UnitMaps.{UnitMap}
use Rattle.asm_formats.specs.Among.{IsAmong}
use Rattle.asm_images.specs.Bridge.{disks_in}
use Rattle.asm_images.specs.Kept.{Kept, IsHeld}
use Rattle.asm_images.proofs.Held.{same_is_held}
use Rattle.asm_images.proofs.Spans.{widen_keeps}
use Rattle.rebalance.specs.catalog_tables.Items.{AreItemsOf}
use Rattle.rebalance.specs.catalog_tables.Placing.{HasUnits}
use Rattle.rebalance.specs.catalog_tables.Tables.{AreTables, Catalogued, Tables, records_of}
use Rattle.directory_store.specs.change_directory.declared.copy.DirCopy.{DirCopy}
use Rattle.directory_store.specs.Answers.{IsUnchanged}
use Rattle.directory_store.specs.Stores.{Stored}
use Rattle.directory_store.specs.Stores as stores
use Rattle.status_register.specs.Elsewhere.{LeavesRegister}
use Rattle.status_register.proofs.Elsewhere as register_proofs
use Rattle.group_engine.specs.Changes.{IsAsBefore}
use Rattle.group_engine.specs.Commits.{StandsIn}
use Rattle.group_engine.specs.Mounts.{MountedGroup, IsWhole, Mounts}
use Rattle.group_engine.proofs.Mounting.{shaped_copy, still_ready}
use Rattle.group_engine.proofs.Standings.{stands_at_rest}

-- more groups may be
pub widen_held : (n id : ℕ) (g h : Group) (kept : Kept) (x : bay.Image) → IsHeld n id (g ∷ []) kept x → IsHeld n id (g ∷ h ∷ []) kept x
widen_held n id g h kept x is = record {
  sound = λ slots. widen_keeps id (disks_in slots x) (g ∷ []) (g ∷ h ∷ []) (Some kept.completed) kept.begun (is.sound slots) (λ k among. ⊎_elim (λ e. inl e) (λ none. absurd none) among);
  standing = is.standing;
  there = is.there;
}

same_front : (slots id : ℕ) (x y : bay.Image) → Same x y → LeavesRegister slots id x y
same_front slots id x y same slot lt = inl (record { size = same.size slot; byte = λ k below. same.byte slot k })

-- the group's parts agree as before
pub same_whole : (m : MountedGroup) (s t : BayState) (cat : Catalogued) (new : Stored) → IsAsBefore m.catalog cat → IsUnchanged m.store new s t → IsWhole m → IsWhole (record m { catalog = cat; store = new })
same_whole m s t cat new before unchanged w = record {
  are_tables = subst (λ (u : Tables). AreTables u) (sym before.tables) w.are_tables;
  tables = λ k. ap (λ (u : Tables). records_of u k) before.tables ∙ w.tables k ∙ sym (unchanged.table.records k);
  shape = subst (λ (x : Shape). IsTrue (is_shape x)) (sym before.shape) w.shape;
  units = subst (λ (x : Shape). HasUnits x m.register.value.entries cat.tables cat.units) (sym before.shape)
      (subst (λ (u : Tables). HasUnits m.catalog.shape m.register.value.entries u cat.units) (sym before.tables)
      (subst (λ (us : List UnitMap). HasUnits m.catalog.shape m.register.value.entries m.catalog.tables us) (sym before.units) w.units));
  status = w.status;
  alive = w.alive;
  written = w.written;
  group = w.group;
  reached = w.reached;
  numbers = w.numbers;
  births = w.births;
  copies = record {
    each = λ c among. let is = w.copies.each c (subst (λ (l : List DirCopy). IsAmong l c) unchanged.copies among) in shaped_copy refl before.shape is.named is;
    all = λ d named. let c = w.copies.all d named in (c.0, subst (λ (l : List DirCopy). IsAmong l c.0) (sym unchanged.copies) c.1, c.2);
  };
  disks = w.disks;
}

module _ (n : ℕ) (m : MountedGroup) (s t : BayState) (g : Group) (kept : Kept) (mounts : Mounts n m s g kept) {on : ℕ → Type 0} (run : Runs on Same s t) where
  -- Over calls that change nothing each image is held for the group, and so for it or another.
  pub same_moments : (h : Group) → LeavesOnly s t (StandsIn n m.register.id (g ∷ h ∷ []) kept)
  same_moments h = record {
    later = run.later;
    ended = run.ended;
    each = λ k y low high left.
        let from = run.moments k y low high left in
        stands_at_rest n m.register.id (g ∷ h ∷ []) kept y mounts.begun (widen_held n m.register.id g h kept y (same_is_held n m.register.id (g ∷ []) kept from.0 y from.2 (mounts.now.now from.0 from.1)));
  }

  pub same_now : NowOnly t (IsHeld n m.register.id (g ∷ []) kept)
  same_now = record { now = λ y left. let from = run.moments t.calls y run.later (omega arith) left in same_is_held n m.register.id (g ∷ []) kept from.0 y from.2 (mounts.now.now from.0 from.1) }

  -- The group is mounted still.
  pub same_mounts : (cat : Catalogued) (new : Stored) → IsAsBefore m.catalog cat → IsUnchanged m.store new s t → stores.Keeps new t → KeepsAttached s t → Mounts n (record m { catalog = cat; store = new }) t g kept
  same_mounts cat new before unchanged keeps attached = record {
    whole = same_whole m s t cat new before unchanged mounts.whole;
    ready = still_ready m (record m { catalog = cat; store = new }) s t refl refl keeps attached mounts.ready;
    represents = record {
      name = mounts.represents.name;
      shape = mounts.represents.shape ∙ sym before.shape;
      describes = λ items are. mounts.represents.describes items (subst (λ (u : Tables). AreItemsOf u items) before.tables are);
    };
    own = mounts.own;
    completed = mounts.completed;
    begun = mounts.begun;
    register = register_proofs.keeps_elsewhere n m.register (Some m.register.value) [] (same_front n m.register.id) run mounts.register;
    now = same_now;
  }
