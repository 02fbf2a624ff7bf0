-- While the record of a group is put marked gone, each image stands for the group or for nothing; once it is complete, for nothing.
use Rattle.std.proofs.Common.{◌≡◌, ⊎_elim, ℕ, suc, ◌+◌, ◌*◌, ◌<◌, ◌≤◌, ◌^◌, Bool, true, List, [], ◌∷◌, refl, sym, ap, subst, ◌∙◌, Some, Ok, arith, IsTrue}
use Rattle.std.proofs.lemmas.Bool.{cases_lt, false≢true}
use Rattle.bay.specs.Image as bay
use Rattle.bay.specs.State.{BayState, IsSound}
use Rattle.bay.specs.Moments.{Runs, NowOnly}
use Rattle.asm_group.specs.Group.{Group}
use Rattle.asm_formats.specs.Among.{IsAmong}
use Rattle.asm_formats.specs.Bytes.{block_size}
use Rattle.asm_formats.specs.Metadata.{metadata}
use Rattle.asm_formats.specs.Places.{SameElsewhere}
use Rattle.asm_formats.specs.Status.{Entry, Status, is_status, status_spelling}
use Rattle.asm_images.specs.Bridge.{disk_bytes, disks_in}
use Rattle.asm_images.specs.Kept.{Kept, IsHeld}
use Rattle.asm_images.specs.Members.{ImageBytes, all_members}
use Rattle.asm_images.specs.Sound.{IsCovered, SoundBy}
use Rattle.asm_images.specs.Stands.{Standing}
use Rattle.asm_images.specs.Steps.{RaisesRecords}
use Rattle.asm_images.proofs.Bridges.{beyond_is_unseen, disks_are_listed, range_change, same_is_same}
use Rattle.asm_images.proofs.History.{status_counts, status_parts}
use Rattle.asm_images.proofs.Slots.{fewer_slots_are_sound}
use Rattle.status_register.specs.History.{FitsHistory}
use Rattle.status_register.specs.Holders.{attached_to}
use Rattle.status_register.specs.Keeping.{KeepsOn}
use Rattle.status_register.specs.Registered.{Registered}
use Rattle.status_register.specs.Rows.{PutsRow, no_put, one_put}
use Rattle.status_register.specs.Slots.{MayPutNext, status_gate}
use Rattle.status_register.specs.Tallies as tallies
use Rattle.status_register.specs.Writes.{after_write}
use Rattle.status_register.specs.declared.member.Member.{Member as Disk}
use Rattle.status_register.proofs.Holding.{have_slots}
use Rattle.status_register.proofs.Ordering.{row_runs}
use Rattle.status_register.proofs.RaisingRecords.{raises}
use Rattle.status_register.proofs.RowFits.{AreLong, row_sizes}
use Rattle.status_register.proofs.Taking.{status_gate_either}
use Rattle.status_register.proofs.Telling.{slots_long}
use Rattle.group_engine.specs.Gone.{IsGone, gone_of}
use Rattle.group_engine.specs.Mounts.{MountedGroup, Mounts}
use Rattle.group_engine.proofs.Covering.{record_covers}
use Rattle.group_engine.proofs.Recording.{history_wide}
use Rattle.record_laws.specs.Gone.{GoneLeavesNothing, GoesAway, IsGoing, gone_next}
use Rattle.record_laws.proofs.Getting.{births_now, covers_now, is_held}

-- ---- what stays covered while a record is put

module _ (id : ℕ) (s : Status) (allowed : IsTrue (is_status s)) (groups : List Group) (r : Status) (births : (e : Entry) → IsAmong s.entries e → e.birth ≤ r.births) where
  -- on one disk
  put_covers : (slot : ℕ) (x y : bay.Image) → 40960 ≤ x.size slot → MayPutNext (status_gate id) slot (status_spelling s) x y
      → (slots : ℕ) → IsCovered id (disks_in slots x) (all_members id (disks_in slots x)) groups r → IsCovered id (disks_in slots y) (all_members id (disks_in slots y)) groups r
  put_covers slot x y long step slots before = ⊎_elim
      (λ (lt : slot < slots).
      let there = disks_are_listed slots slot x lt in
      let change = range_change slots slot (status_gate id slot x * block_size) (2 * block_size) x y step.elsewhere in
      subst (λ (image : ImageBytes). IsCovered id image (all_members id image) groups r) (sym change.0)
      (record_covers id (disks_in slots x) groups r s slot (disk_bytes y slot) (status_gate id slot x * block_size) (2 * block_size) (omega (arith, lt, there.0))
      (subst (λ (bytes : List ℕ). RaisesRecords id (metadata bytes) (metadata (disk_bytes y slot)) s) (sym there.1) (raises (suc slot) id slot s allowed (omega arith) x y long step))
      (subst (λ (bytes : List ℕ). SameElsewhere bytes (disk_bytes y slot) (status_gate id slot x * block_size) (2 * block_size)) (sym there.1) change.1)
      (⊎_elim (λ is. omega (arith, is)) (λ is. omega (arith, is)) (status_gate_either id slot x)) births before))
      (λ le. subst (λ (image : ImageBytes). IsCovered id image (all_members id image) groups r)
      (sym (beyond_is_unseen slots slot x y le (record { size = λ k differ. step.elsewhere.size k; byte = λ k j differ. step.elsewhere.byte k j (λ inside. differ inside.0) }))) before)
      (cases_lt slot slots)

  -- on several
  row_covers : (ms : List Disk) (x y : bay.Image) → AreLong ms x → PutsRow (status_gate id) ms (status_spelling s) x y
      → (slots : ℕ) → IsCovered id (disks_in slots x) (all_members id (disks_in slots x)) groups r → IsCovered id (disks_in slots y) (all_members id (disks_in slots y)) groups r
  row_covers ms x y long (no_put a b same) slots before = subst (λ (image : ImageBytes). IsCovered id image (all_members id image) groups r) (sym (same_is_same slots a b same)) before
  row_covers ms x z long (one_put a y b m among row step) slots before =
      put_covers m.slot y b (omega (arith, long m among, row_sizes (status_gate id) ms (status_spelling s) a y row m.slot)) step slots (row_covers ms a y long row slots before)

-- ---- nothing stands by a record that is gone

gone_has_none : (id : ℕ) (image : ImageBytes) (q : Status) (readable : ℕ → Bool) → q.gone ≡ true → SoundBy id image [] (Some q) [] → Standing id image readable → ⊥
gone_has_none id image q readable gone sound stands =
    let same : stands.record_ ≡ q = ⊎_elim (λ e. e) (λ none. absurd none) (status_counts id (all_members id image) (Some q) [] readable stands.record_ sound.fits stands.status_is) in
    let p = status_parts id _ stands.record_ stands.status_is in
    false≢true (sym p.not_gone ∙ ap (λ (r : Status). r.gone) same ∙ gone)

-- ---- the call

module _ (s t : BayState) (sound : IsSound s) (n : ℕ) (old new : MountedGroup) (g : Group) (kept : Kept) (mounts : Mounts n old s g kept) (turns : old.register.turn + 1 < 2 ^ 64) (gone : IsGone old new s t) where
  abbrev r : Status
  r = old.register.value

  abbrev next : Status
  next = gone_of r

  abbrev q : Status
  q = gone_next old

  abbrev id : ℕ
  id = old.register.id

  abbrev ms : List Disk
  ms = attached_to old.register.members next

  stand : NowOnly s (IsHeld n id (g ∷ []) (record { completed = r; begun = []; slots = kept.slots }))
  stand = record { now = λ x left. is_held n old s g kept mounts x left }

  long : NowOnly s (AreLong ms)
  long = record { now = λ x left k among. slots_long k.slot k.sector sound (have_slots s old.register.members next mounts.ready.register.slots k among) x left }

  run : Runs (tallies.IsSlotOf ms) (PutsRow (status_gate id) ms (status_spelling q)) s t
  run = row_runs (status_gate id) ms (status_spelling q) s t gone.written.calls.runs

  wide : (b : ℕ) → n ≤ b → KeepsOn old.register next (Ok gone.failed) new.register s t b (Some r) []
  wide b le = history_wide n (g ∷ []) kept.slots old.register new.register next (Ok gone.failed) s t sound turns gone.written.allowed mounts.register stand long run gone.written.history b le

  later : Registered
  later = after_write old.register next (Ok gone.failed)

  going : (k : ℕ) (y : bay.Image) → s.calls ≤ k → k ≤ t.calls → t.leaves k y → IsGoing old g y
  going k y low high left few =
      let from = run.moments k y low high left in
      let b = few + n in
      fewer_slots_are_sound id few b y (g ∷ []) (Some r) (q ∷ []) (omega arith) (record {
        fits = ((wide b (omega arith)).moments.each k y low high left).fits;
        covered = λ u counts alive. ⊎_elim
            (λ (same : u ≡ r). subst (λ (v : Status). IsCovered id (disks_in b y) (all_members id (disks_in b y)) (g ∷ []) v) (sym same)
            (row_covers id q gone.written.allowed (g ∷ []) r (births_now n old s g kept mounts from.0 from.1) ms from.0 y (long.now from.0 from.1) from.2 b (covers_now n old s g kept mounts from.0 from.1 b)))
            (λ begun. ⊎_elim (λ (same : u ≡ q). absurd (false≢true (sym alive ∙ ap (λ (v : Status). v.gone) same))) (λ none. absurd none) begun) counts;
      })

  fits_now : (b : ℕ) (y : bay.Image) → n ≤ b → t.leaves t.calls y → FitsHistory b id (Some q) [] y
  fits_now b y le left = subst (λ (x : Registered). FitsHistory b x.id (Some x.value) [] y) gone.written.register ((wide b le).after.now.now y left).fits

  gone_from : (y : bay.Image) → t.leaves t.calls y → (few : ℕ) → SoundBy id (disks_in few y) [] (Some q) []
  gone_from y left few =
      let b = few + n in
      fewer_slots_are_sound id few b y [] (Some q) [] (omega arith) (record {
        fits = fits_now b y (omega arith) left;
        covered = λ u counts alive. ⊎_elim (λ (same : u ≡ q). absurd (false≢true (sym alive ∙ ap (λ (v : Status). v.gone) same))) (λ none. absurd none) counts;
      })

  pub goes_away : GoesAway old g s t
  goes_away = record {
    moments = record { later = run.later; ended = run.ended; each = going };
    done = record {
      now = λ y left. record {
        sound = gone_from y left;
        nothing = λ slots readable stands. gone_has_none id (disks_in slots y) q readable refl (gone_from y left slots) stands;
      };
    };
  }

pub gone_leaves_nothing : (s t : BayState) → IsSound s → GoneLeavesNothing s t
gone_leaves_nothing s t sound = λ n old new g kept mounts turns gone. goes_away s t sound n old new g kept mounts turns gone
