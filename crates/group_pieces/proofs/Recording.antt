-- What the disks hold of a group while what failed in a write is recorded.
use Rattle.std.proofs.Common.{◌≡◌, inl, inr, ⊎_elim, ℕ, ◌+◌, ◌≤◌, List, [], ◌∷◌, length, Result, Ok, Err, Some, refl, sym, ap, subst, ◌∙◌, arith, IsTrue}
use Rattle.std.specs.Prelude.{OnOk}
use Rattle.bay.specs.Image as bay
use Rattle.bay.specs.Moments.{LeavesOnly}
use Rattle.bay.specs.State.{BayState, IsSound}
use Rattle.bay.proofs.Calls.{leaves_begin, leaves_less, leaves_on}
use Rattle.asm_group.specs.Group.{Group}
use Rattle.asm_group.specs.Names.{Bytes}
use Rattle.asm_group.specs.Shape.{Shape}
use Rattle.asm_base.specs.Records.{DirectoryRecord}
use Rattle.asm_base.specs.declared.kinds.ExtentId.{ExtentId}
use Rattle.refusal_lines.specs.declared.refusal.Refusal.{Refusal}
use Rattle.asm_formats.specs.Among.{IsAmong}
use Rattle.asm_formats.specs.Items.{Key}
use Rattle.asm_formats.specs.Status as status
use Rattle.asm_formats.specs.Status.{is_status, Status}
use Rattle.asm_images.specs.Bridge.{disks_in}
use Rattle.asm_images.specs.Kept.{Kept, IsHeld}
use Rattle.asm_images.specs.Describing.{extent_size}
use Rattle.asm_images.specs.Spans.{FitsIn, Span, freed}
use Rattle.asm_images.proofs.Spans.{piece_keeps, widen_keeps}
use Rattle.record_laws.specs.catalog.ExtentPlans.{with_marks_changed}
use Rattle.record_laws.specs.catalog.Plans.{IsPlan}
use Rattle.piece_laws.proofs.Again.{put_again}
use Rattle.record_laws.proofs.Modes.{mounted_has_partners, same_disks_may_be_got}
use Rattle.record_laws.specs.group_engine.Commits.{CommitsPlan, StandsIn, turns_at_most}
use Rattle.record_laws.specs.group_engine.Mounts.{IsMounted, MountedGroup, Mounts}
use Rattle.record_laws.specs.group_engine.Pending.{HasTurns}
use Rattle.record_laws.specs.group_engine.Recorded.{MayGet}
use Rattle.group_pieces.specs.Usable.{FitsExtent, piece_of}
use Rattle.group_pieces.proofs.Rewritten.{rewritten_shape}
use Rattle.group_pieces.specs.Failing.{AreServing, FailsModes}
use Rattle.group_pieces.specs.Held.{FailedHeld, IsWritten, RecordsHeld, piece_freed, piece_written}
use Rattle.group_pieces.specs.Marking.{left_of}
use Rattle.record_laws.proofs.group_engine.Endings.{kept_before}
use Rattle.record_laws.proofs.group_engine.Standings.{stands_at_rest}
use Rattle.group_pieces.proofs.Holding.{mounted_written}
use Rattle.group_pieces.proofs.MarksLead.{marks_lead, settled_rewrites}
use Rattle.group_pieces.proofs.Steps.{on_ok}

-- an image that is held for some groups is so for more
pub held_more : (n id : ℕ) (groups more : List Group) (kept : Kept) (x : bay.Image) → ((k : Group) → IsAmong groups k → IsAmong more k) → IsHeld n id groups kept x → IsHeld n id more kept x
held_more n id groups more kept x all is = record {
  sound = λ slots. widen_keeps id (disks_in slots x) groups more (Some kept.completed) kept.begun (is.sound slots) all;
  standing = is.standing;
  there = is.there;
}

-- a group that is mounted stands
pub stands_now : (n : ℕ) (m : MountedGroup) (s : BayState) (g : Group) (kept : Kept) → Mounts n m s g kept → LeavesOnly s s (StandsIn n m.register.id (g ∷ []) kept)
stands_now n m s g kept mounts = leaves_begin (record { now = λ x left. stands_at_rest n m.register.id (g ∷ []) kept x mounts.begun (mounts.now.now x left) })

abbrev pub second_of : (g h k : Group) → IsAmong (h ∷ []) k → IsAmong (g ∷ h ∷ []) k
second_of g h k among = ⊎_elim (λ e. inr (inl e)) (λ none. absurd none) among

-- ---- what is held for the group with the piece Free or with the bytes is held for the first

module _ (n : ℕ) (m : MountedGroup) (s : BayState) (g : Group) (kept : Kept) (x : ExtentId) (inner : ℕ) (bytes : Bytes) (mounts : Mounts n m s (piece_freed x inner (length bytes) g) kept)
    (piece : FitsExtent m.catalog.shape x.index inner (length bytes)) where
  abbrev span : Span
  span = piece_of x inner (length bytes)

  abbrev h : Group
  h = piece_freed x inner (length bytes) g

  abbrev w : Group
  w = piece_written x inner bytes g

  fits_both : FitsIn (h ∷ w ∷ []) span
  fits_both k among =
      let shape : k.shape ≡ m.catalog.shape = ⊎_elim
      (λ (e : k ≡ h). ap (λ (q : Group). q.shape) e ∙ mounts.represents.shape)
      (λ more. ⊎_elim (λ (e : k ≡ w). ap (λ (q : Group). q.shape) e ∙ rewritten_shape h w (settled_rewrites x inner bytes g) ∙ mounts.represents.shape) (λ none. absurd none) more) among in
      subst (λ (z : Shape). inner + length bytes ≤ extent_size z x.index) (sym shape) piece.inside

  pub freed_again : (id : ℕ) (by : Kept) (y : bay.Image) → IsHeld n id (h ∷ w ∷ []) by y → IsHeld n id (h ∷ []) by y
  freed_again id by y is = record {
    sound = λ slots. widen_keeps id (disks_in slots y) (freed span h ∷ freed span w ∷ []) (h ∷ []) (Some by.completed) by.begun
        (piece_keeps id (disks_in slots y) (disks_in slots y) (h ∷ w ∷ []) (Some by.completed) by.begun (is.sound slots) span
        (record { fits = fits_both; metadata = refl; bytes = λ r items f i copy q home k is_open among current lt out. refl }))
        (λ k among. ⊎_elim (λ (e : k ≡ freed span h). inl (e ∙ put_again span _ _ g))
        (λ more. ⊎_elim (λ (e : k ≡ freed span w). inl (e ∙ put_again span _ _ g)) (λ none. absurd none) more) among);
    standing = is.standing;
    there = is.there;
  }

  pub freed_stands : (id : ℕ) (groups : List Group) (later : Kept) (y : bay.Image) → ((k : Group) → IsAmong groups k → IsAmong (h ∷ w ∷ []) k) → StandsIn n id groups later y → StandsIn n id (h ∷ []) later y
  freed_stands id groups later y all stands = record { by = stands.by; slots = stands.slots; is = freed_again id stands.by y (held_more n id groups (h ∷ w ∷ []) stands.by y all stands.is); beside = stands.beside }

module _ (m : MountedGroup) (s : BayState) (sound : IsSound s) (x : ExtentId) (inner failed : ℕ) where
  -- no call is made
  still_moments : (n : ℕ) (g : Group) (kept : Kept) (bytes : Bytes) → IsWritten m x inner failed s n g kept bytes → LeavesOnly s s (StandsIn n m.register.id (piece_freed x inner (length bytes) g ∷ []) kept)
  still_moments n g kept bytes is = stands_now n m s (piece_freed x inner (length bytes) g) kept is.mounts

  -- nothing is to be marked
  pub held_none : left_of m x inner failed ≡ 0 → RecordsHeld m x inner failed (Ok tt) m s s
  held_none none = record {
    moments = still_moments;
    done = λ n g kept bytes is. (kept, refl, mounted_written n m s g kept sound x inner bytes is.mounts is.piece failed is.has none);
  }

  pub held_without : (e : Refusal) → RecordsHeld m x inner failed (Err e) m s s
  held_without e = record { moments = still_moments; done = tt }

  -- the marks are committed
  pub held_commit : (new : MountedGroup) (t : BayState) (put : List DirectoryRecord) (gone : List Key) (answer : Result (Unit {0}) Refusal) → IsMounted m
      → IsPlan m.catalog put gone (with_marks_changed m.catalog.tables x.file x.index (left_of m x inner failed) 0) → CommitsPlan m put gone answer new s t → RecordsHeld m x inner failed answer new s t
  held_commit new t put gone answer mounted plan commits =
      let did = commits.held mounted in
      record {
        moments = λ n g kept bytes is. leaves_less (λ y stands. freed_stands n m s g kept x inner bytes is.mounts is.piece m.register.id (piece_freed x inner (length bytes) g ∷ piece_written x inner bytes g ∷ []) kept y (λ k among. among) stands)
            (did.moments n (piece_freed x inner (length bytes) g) (piece_written x inner bytes g) kept
            (marks_lead n m s g kept sound x inner bytes is.mounts is.piece failed is.has put gone plan (omega (arith, is.turns))));
        done = on_ok answer
            (λ step n g kept bytes is. step n (piece_freed x inner (length bytes) g) (piece_written x inner bytes g) kept
            (marks_lead n m s g kept sound x inner bytes is.mounts is.piece failed is.has put gone plan (omega (arith, is.turns)))) did.done;
      }

-- ---- disks are taken Offline

module _ (m : MountedGroup) (s : BayState) (failed : ℕ) where
  pub offline_none : FailedHeld m failed (Ok tt) m s s
  offline_none = record { moments = λ n g kept mounts serving turns. stands_now n m s g kept mounts; done = λ n g kept mounts serving turns. (kept, refl, mounts) }

  pub offline_without : (e : Refusal) → FailedHeld m failed (Err e) m s s
  offline_without e = record { moments = λ n g kept mounts serving turns. stands_now n m s g kept mounts; done = tt }

  module _ (next : Status) (allowed : IsTrue (is_status next)) (fails : FailsModes m.register.value failed next) where
    may_get : (n : ℕ) (g : Group) (kept : Kept) → Mounts n m s g kept → AreServing m.register.value.entries failed → HasTurns m → MayGet n m next s g kept
    may_get n g kept mounts serving turns =
        let both = fails serving (mounted_has_partners s n m g kept mounts) in
        same_disks_may_be_got s n m next g kept mounts (omega (arith, turns)) allowed both.0 both.1

    pub offline_set : (new : MountedGroup) (t : BayState) (answer : Result (Unit {0}) Refusal)
        → ((n : ℕ) (g : Group) (kept : Kept) → MayGet n m next s g kept → LeavesOnly s t (StandsIn n m.register.id (g ∷ []) kept))
        → OnOk answer ((n : ℕ) (g : Group) (kept : Kept) → MayGet n m next s g kept → (later : Kept) × (later.slots ≡ kept.slots) × Mounts n new t g later)
        → FailedHeld m failed answer new s t
    offline_set new t answer moments done = record {
      moments = λ n g kept mounts serving turns. moments n g kept (may_get n g kept mounts serving turns);
      done = on_ok answer (λ step n g kept mounts serving turns. step n g kept (may_get n g kept mounts serving turns)) done;
    }

-- ---- one after the other

module _ (m mid : MountedGroup) (s t : BayState) (x : ExtentId) (inner failed : ℕ) (marked : RecordsHeld m x inner failed (Ok tt) mid s t) (same : mid.register.id ≡ m.register.id)
    (entries : mid.register.value.entries ≡ m.register.value.entries) (turns : turns_at_most mid ≤ turns_at_most m) where
  still_serving : AreServing m.register.value.entries failed → AreServing mid.register.value.entries failed
  still_serving serving = subst (λ (es : List status.Entry). AreServing es failed) (sym entries) serving

  pub held_on : (new : MountedGroup) (u : BayState) (answer : Result (Unit {0}) Refusal) → FailedHeld mid failed answer new t u → RecordsHeld m x inner failed answer new s u
  held_on new u answer off = record {
    moments = λ n g kept bytes is.
        let h = piece_freed x inner (length bytes) g in
        let w = piece_written x inner bytes g in
        let middle = marked.done n g kept bytes is in
        leaves_on (marked.moments n g kept bytes is)
        (leaves_less (λ y stands. freed_stands n m s g kept x inner bytes is.mounts is.piece m.register.id (w ∷ []) kept y (λ k among. second_of h w k among)
        (kept_before n m.register.id mid.register.id (w ∷ []) kept middle.0 y same middle.1 stands))
        (off.moments n w middle.0 middle.2 (still_serving is.serving) (omega (arith, turns, is.turns))));
    done = on_ok answer
        (λ step n g kept bytes is.
        let middle = marked.done n g kept bytes is in
        let end = step n (piece_written x inner bytes g) middle.0 middle.2 (still_serving is.serving) (omega (arith, turns, is.turns)) in
        (end.0, end.1 ∙ middle.1, end.2)) off.done;
  }

-- it was refused
pub held_refused : (m : MountedGroup) (s t : BayState) (x : ExtentId) (inner failed : ℕ) (a : Result (Unit {0}) Refusal) (mid new : MountedGroup) (e : Refusal) → RecordsHeld m x inner failed a mid s t
    → RecordsHeld m x inner failed (Err e) new s t
held_refused m s t x inner failed a mid new e held = record { moments = held.moments; done = tt }
