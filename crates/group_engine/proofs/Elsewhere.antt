-- A mounted group stays mounted over the calls of others.
use Rattle.std.proofs.Common.{◌≡◌, ⊎_elim, ℕ, ◌*◌, ◌≤◌, List, [], ◌∷◌, get_or, inl, inr, refl, sym, ap, subst, ◌∙◌, Option, Some, None, arith}
use Rattle.std.specs.Option.{option_map}
use Rattle.std.specs.Prelude.{IsSome, unwrap_or}
use Rattle.std.proofs.lemmas.Bool.{true≢false}
use Rattle.bay.specs.Image as bay
use Rattle.bay.specs.Image.{SameDisk}
use Rattle.bay.specs.State.{BayState, IsSound, KeepsAttached}
use Rattle.bay.specs.Moments.{Runs}
use Rattle.asm_group.specs.Group.{Group}
use Rattle.asm_formats.specs.Metadata.{header_of}
use Rattle.asm_formats.specs.Among.{IsAmong}
use Rattle.asm_images.specs.Directories.{directories}
use Rattle.asm_images.specs.Kept.{Kept, IsHeld}
use Rattle.asm_images.specs.Members.{Member, members, within}
use Rattle.asm_images.specs.Register.{status}
use Rattle.asm_formats.specs.Bytes.{block_size}
use Rattle.asm_formats.specs.Regions.{least_size, region_end}
use Rattle.rebalance.proofs.catalog_tables.TableItems.{from_map}
use Rattle.directory_store.specs.Stores as stores
use Rattle.directory_store.proofs.Storing.{keeps_elsewhere}
use Rattle.directory_store.specs.change_directory.Places.{IsCopy}
use Rattle.directory_store.specs.change_directory.declared.copy.DirCopy.{DirCopy}
use Rattle.directory_store.specs.change_directory.StoreLaws.{SameRegion}
use Rattle.status_register.specs.Elsewhere.{LeavesRegister}
use Rattle.status_register.specs.Places.{HasSlots}
use Rattle.status_register.specs.declared.member.Member.{Member as Disk}
use Rattle.status_register.specs.SurveyLaws.{IsMemberOn}
use Rattle.status_register.proofs.Elsewhere as register_proofs
use Rattle.group_engine.specs.Frames.{KeepsOwn, SparesDisks, SparesGroup, StaysAttached}
use Rattle.group_engine.specs.Mounts.{MountedGroup, IsOwn, IsReady, IsWhole, Mounts, slot_at}
use Rattle.group_engine.specs.declared.attached.Attached.{Attached}
use Rattle.group_engine.proofs.Spared.{all_stay, member_spared, same_bytes, sound_stays}

module _ (n id : ℕ) (groups : List Group) (kept : Kept) (x y : bay.Image) (spares : SparesGroup id x y) (is : IsHeld n id groups kept x) where
  pub spared : IsHeld n id groups kept y
  spared = record {
    sound = λ b. sound_stays id x y spares groups (Some kept.completed) kept.begun b (is.sound b);
    standing = let s = is.standing in record {
      record_ = s.record_;
      content = s.content;
      status_is = ap (λ (ms : List Member). status id (within kept.slots ms)) (all_stay id x y spares n) ∙ s.status_is;
      directories_is = ap (λ (ms : List Member). directories s.record_ (within kept.slots ms)) (all_stay id x y spares n) ∙ s.directories_is;
    };
    there = λ s own. let h = is.there s own in (h.0, ap header_of (same_bytes x y s (member_spared id x y spares s h.0 h.1 h.2)) ∙ h.1, h.2);
  }

pub spared_is_held : (n id : ℕ) (groups : List Group) (kept : Kept) (old new : bay.Image) → SparesGroup id old new → IsHeld n id groups kept old → IsHeld n id groups kept new
spared_is_held n id groups kept old new spares is = spared n id groups kept old new spares is

spared_register : (slots id : ℕ) (x y : bay.Image) → SparesGroup id x y → LeavesRegister slots id x y
spared_register slots id x y spares slot lt = ⊎_elim (λ (same : SameDisk slot x y). inl (record { size = same.size; byte = λ k below. same.byte k })) (λ none. inr none) (spares slot)

same_region : (c : DirCopy) (x y : bay.Image) → SameDisk c.slot x y → SameRegion c x y
same_region c x y same = record { size = same.size; bytes = λ j low high. same.byte j }

-- ---- more disks may be attached

pub stays_attached : {s t : BayState} → KeepsAttached s t → StaysAttached s t
stays_attached keeps = record { stays = λ slot size is. keeps.same slot ∙ is }

pub stays_own : (m : MountedGroup) {s t : BayState} → StaysAttached s t → KeepsOwn m s t
stays_own m stays = record { stays = λ slot size own is. stays.stays slot size is }

some_size : (o : Option ℕ) → IsSome o → (n : ℕ) × (o ≡ Some n)
some_size None e = absurd (true≢false (sym e))
some_size (Some n) e = (n, refl)

module _ (m : MountedGroup) (whole : IsWhole m) {s t : BayState} (stays : KeepsOwn m s t) where
  -- as the calls end, but for what was attached by them
  abbrev fewer : BayState
  fewer = record t { attached = s.attached }

  same_size : (slot : ℕ) → IsOwn m slot → IsSome (s.attached slot) → t.attached slot ≡ s.attached slot
  same_size slot own some = let size = some_size (s.attached slot) some in stays.stays slot size.0 own size.1 ∙ sym size.1

  own_copy : (c : DirCopy) → IsAmong m.store.copies c → IsOwn m c.slot
  own_copy c among = let k = whole.copies.each c among in (c.number, k.member, k.attached, sym k.slot)

  copy_stays : (c : DirCopy) → IsAmong m.store.copies c → IsCopy s c → IsCopy t c
  copy_stays c among is =
      let same = same_size c.slot (own_copy c among) is.attached in
      record {
        attached = subst (λ (o : Option ℕ). IsSome o) (sym same) is.attached;
        sector_size = is.sector_size;
        least = is.least;
        most = is.most;
        inside = subst (λ (o : Option ℕ). region_end c.dir_blocks * block_size ≤ unwrap_or o 0) (sym same) is.inside;
      }

  slots_stay : (slot sector : ℕ) → IsOwn m slot → HasSlots s slot sector → HasSlots t slot sector
  slots_stay slot sector own has =
      let same = same_size slot own has.attached in
      record {
        attached = subst (λ (o : Option ℕ). IsSome o) (sym same) has.attached;
        sector_size = has.sector_size;
        long = subst (λ (o : Option ℕ). least_size ≤ unwrap_or o 0) (sym same) has.long;
      }

  -- the store takes commits where its copies' regions stay
  store_stays : {on : ℕ → Type 0} {step : bay.Image → bay.Image → Type 0} → ((x y : bay.Image) (c : DirCopy) → IsAmong m.store.copies c → step x y → SameRegion c x y)
      → Runs on step s t → stores.Keeps m.store s → stores.Keeps m.store t
  store_stays {on} {step} same run keeps =
      let run_fewer : Runs on step s fewer = record {
        later = run.later;
        faults = run.faults;
        other_faults = run.other_faults;
        other_written = run.other_written;
        tells = run.tells;
        held = run.held;
        ended = run.ended;
        moments = run.moments;
      } in
      let kept : stores.Keeps m.store fewer = keeps_elsewhere {slots = on} {step = step} {s = s} {t = fewer} m.store same (record { same = λ k. refl }) run_fewer keeps in
      record {
        table = kept.table;
        items = kept.items;
        named = λ c among. let is = keeps.named c among in record { copy_is = copy_stays c among is.copy_is; number = is.number; due = is.due };
        pages = kept.pages;
        apart = kept.apart;
        page = kept.page;
        shows = kept.shows;
        now = record { now = kept.now.now };
        logs = λ settled c among. record { as_held = (kept.logs settled c among).as_held };
      }

  ready_stays : {on : ℕ → Type 0} {step : bay.Image → bay.Image → Type 0} → ((x y : bay.Image) (c : DirCopy) → IsAmong m.store.copies c → step x y → SameRegion c x y)
      → Runs on step s t → IsReady m s → IsReady m t
  ready_stays {on} {step} same run ready = record {
    store = store_stays {on = on} {step = step} same run ready.store;
    register = record { slots = λ i k is. slots_stay k.slot k.sector (i, k, is, refl) (ready.register.slots i k is); apart = ready.register.apart };
    sizes = λ d a is.
        let there : slot_at m.disks d ≡ Some a.slot = ap (option_map (λ (x : Attached). x.slot)) is in
        let k = from_map (λ (x : Disk). x.slot) (get_or m.register.members d None) a.slot (sym (whole.disks d) ∙ there) in
        stays.stays a.slot a.size (d, k.0, k.1, sym k.2) (ready.sizes d a is);
  }

-- ---- a group that takes calls, on every bay

pub ready_with_own : (m : MountedGroup) {s t : BayState} {on : ℕ → Type 0} {step : bay.Image → bay.Image → Type 0} → IsWhole m → IsReady m s → KeepsOwn m s t → Runs on step s t
    → ((x y : bay.Image) → step x y → SparesDisks m x y) → IsReady m t
ready_with_own m {s} {t} {on} {step} whole ready own run spares = ready_stays m whole own {on = on} {step = step}
    (λ x y c among from. let k = whole.copies.each c among in same_region c x y (spares x y from c.slot (c.number, k.member, k.attached, sym k.slot)))
    run ready

pub ready_elsewhere : (m : MountedGroup) {s t : BayState} {on : ℕ → Type 0} {step : bay.Image → bay.Image → Type 0} → IsWhole m → IsReady m s → StaysAttached s t → Runs on step s t
    → ((x y : bay.Image) → step x y → SparesDisks m x y) → IsReady m t
ready_elsewhere m {s} {t} {on} {step} whole ready attached run spares = ready_with_own m {s = s} {t = t} {on = on} {step = step} whole ready (stays_own m attached) run spares

-- ---- a mounted group

module _ (n : ℕ) (m : MountedGroup) (s t : BayState) (g : Group) (kept : Kept) (sound : IsSound s) (mounts : Mounts n m s g kept) (attached : KeepsOwn m s t) {on : ℕ → Type 0} {step : bay.Image → bay.Image → Type 0}
    (run : Runs on step s t) (spares : (x y : bay.Image) → step x y → SparesGroup m.register.id x y) where
  abbrev FromNow : bay.Image → bay.Image → Type 0
  FromNow x y = step x y × s.leaves s.calls x

  run_now : Runs on FromNow s t
  run_now = record {
    later = run.later;
    faults = run.faults;
    other_faults = run.other_faults;
    other_written = run.other_written;
    tells = run.tells;
    held = λ image is. let from = run.held image is in (from.0, from.1, (from.2, sound.held from.0 from.1));
    ended = run.ended;
    moments = λ k image low high left. let from = run.moments k image low high left in (from.0, from.1, (from.2, from.1));
  }

  copy_region : (x y : bay.Image) (c : DirCopy) → IsAmong m.store.copies c → FromNow x y → SameRegion c x y
  copy_region x y c among from =
      let k = mounts.whole.copies.each c among in
      let on_x : IsMemberOn n m.register.id x k.member = (mounts.register.now.now x from.1).members c.number k.member k.attached in
      same_region c x y (subst (λ (slot : ℕ). SameDisk slot x y) k.slot (member_spared m.register.id x y (spares x y from.0) k.member.slot on_x.header on_x.header_is on_x.group))

  -- Over calls that leave the disks of its members, a mounted group stays mounted.
  pub mounts_with_own : Mounts n m t g kept
  mounts_with_own = record {
    whole = mounts.whole;
    ready = ready_stays m mounts.whole attached {on = on} {step = FromNow} copy_region run_now mounts.ready;
    represents = mounts.represents;
    own = mounts.own;
    completed = mounts.completed;
    begun = mounts.begun;
    register = register_proofs.keeps_elsewhere n m.register (Some m.register.value) [] (λ x y from. spared_register n m.register.id x y (spares x y from)) run mounts.register;
    now = record { now = λ y there. let from = run.moments t.calls y run.later (omega arith) there in spared n m.register.id (g ∷ []) kept from.0 y (spares from.0 y from.2) (mounts.now.now from.0 from.1) };
  }

pub mounts_elsewhere : (n : ℕ) (m : MountedGroup) (s t : BayState) (g : Group) (kept : Kept) → IsSound s → Mounts n m s g kept → StaysAttached s t → {on : ℕ → Type 0} {step : bay.Image → bay.Image → Type 0}
    → Runs on step s t → ((x y : bay.Image) → step x y → SparesGroup m.register.id x y) → Mounts n m t g kept
mounts_elsewhere n m s t g kept sound mounts attached {on} {step} run spares = mounts_with_own n m s t g kept sound mounts (stays_own m attached) {on = on} {step = step} run spares
