-- The worked run and its lines.
use Rattle.std.proofs.Common.{◌≡◌, ℕ, ◌≤◌, Bool, true, false, List, [], ◌∷◌, ◌++◌, Some, None, refl, sym, ◌∙◌, ap, subst, arith, inl, inr}
use Rattle.std.specs.Prelude.{codes, get_or}
use Rattle.std.specs.Fmt.{digits}
use Rattle.std.specs.Str.{bytes_eq}
use Rattle.std.proofs.lemmas.Bool.{false≢true}
use Rattle.asm_group.specs.Names.{Bytes}
use Rattle.asm_group.specs.Refusal as r
use Rattle.asm_world.specs.Language.{command_of}
use Rattle.asm_world.specs.Reply.{Event, Moved, Rebalanced, OutOfSpace, LostExtent, MovesLeft, Finished, MoveFault, MoveEnds}
use Rattle.asm_world.specs.Run.{State, Phase, Resting, Expiring, Slicing, Stopped, Slice, Expiry, DueSlice, SessionMove, Starts, Expires, Answers, Slices, Rests, Stops, Does, IsMove, IsExpiry, IsDueSlice, next_expiry, next_slice}
use Rattle.asm_world.specs.RunRows.{untold_outside, Never, RunRows, WaitsAreOwed, IncarnationRows, at_rest, started, dropped, answered, resynced, moved, all_moved, standing_at, answers, expires, resyncs, moves, moves_logs, data_name, logs_name}
use Rattle.asm_world.specs.Text.{event_line}
use Rattle.asm_world.specs.Causes.{session_causes}
use Rattle.asm_world.specs.Waits.{EndsBy, printed_name}
use Rattle.asm_world.specs.World.{World, entry_in, mounted_entry}

-- ---- what a phase still has

abbrev groups_of_phase : Phase → List Bytes
groups_of_phase Resting = []
groups_of_phase (Expiring groups) = groups
groups_of_phase (Slicing slices) = []
groups_of_phase Stopped = []

abbrev slices_of_phase : Phase → List Slice
slices_of_phase Resting = []
slices_of_phase (Expiring groups) = []
slices_of_phase (Slicing slices) = slices
slices_of_phase Stopped = []

abbrev kind_of : Phase → ℕ
kind_of Resting = 0
kind_of (Expiring groups) = 1
kind_of (Slicing slices) = 2
kind_of Stopped = 3

none-some : {A : Type 0} (x : A) → Some x ≡ None → ⊥
none-some x e = absurd cc

-- ---- moves that come

pub one_move : (s : State (Unit {0})) (move : SessionMove) (t : State (Unit {0})) → s.calls ≤ t.calls → Does command_of s move t → IsMove untold_outside s move t
one_move s move t calls does = record {
  does = does;
  caused = tt;
  calls = calls;
  images = λ m image from to left. absurd left;
  there = λ m image from to left. absurd left;
}

-- ---- moves that don't

-- an expiry is due
pub no_answer : (s : State (Unit {0})) (groups : List Bytes) (x : Expiry) → s.phase ≡ Expiring groups → next_expiry s.world s.below groups ≡ Some x → Never s answers
no_answer s groups x phase due t d =
    let same : groups ≡ d.groups = ap groups_of_phase (sym phase ∙ d.before) in
    let P : List Bytes → Type 0 = λ names. next_expiry s.world s.below names ≡ None in
    none-some x (sym due ∙ subst P (sym same) d.none_expires)

-- another expiry is due, or none
pub no_expiry : (s : State (Unit {0})) (groups : List Bytes) (event : Event) → s.phase ≡ Expiring groups
    → ((t : State (Unit {0})) → IsExpiry (next_expiry s.world s.below groups) event s.world t.phase t.world → ⊥) → Never s (Expires event)
no_expiry s groups event phase never t d =
    let same : groups ≡ d.groups = ap groups_of_phase (sym phase ∙ d.before) in
    let P : List Bytes → Type 0 = λ names. IsExpiry (next_expiry s.world s.below names) event s.world t.phase t.world in
    never t (subst P (sym same) d.is_expiry)

-- another slice is due, or none
pub no_slice : (s : State (Unit {0})) (slices : List Slice) (event : Event) → s.phase ≡ Slicing slices
    → ((t : State (Unit {0})) → IsDueSlice (next_slice s.world s.below slices) event s.world t.phase t.world → ⊥) → Never s (Slices event)
no_slice s slices event phase never t d =
    let same : slices ≡ d.slices = ap slices_of_phase (sym phase ∙ d.before) in
    let P : List Slice → Type 0 = λ others. IsDueSlice (next_slice s.world s.below others) event s.world t.phase t.world in
    never t (subst P (sym same) d.is_slice)

-- a slice is due
pub no_rest : (s : State (Unit {0})) (slices : List Slice) (x : DueSlice) → s.phase ≡ Slicing slices → next_slice s.world s.below slices ≡ Some x → Never s Rests
no_rest s slices x phase due t d =
    let same : slices ≡ d.slices = ap slices_of_phase (sym phase ∙ d.before) in
    let P : List Slice → Type 0 = λ others. next_slice s.world s.below others ≡ None in
    none-some x (sym due ∙ subst P (sym same) d.none_due)

other_bytes : (x y : Bytes) → bytes_eq x x ≡ true → bytes_eq x y ≡ false → x ≡ y → ⊥
other_bytes x y is isn't same = false≢true (sym isn't ∙ ap (λ (z : Bytes). bytes_eq x z) (sym same) ∙ is)

-- nothing comes after the end
pub nothing_after : (move : SessionMove) → Never (standing_at None 7 Stopped) move
nothing_after (Starts time) t d = let e : 3 ≡ 0 = ap kind_of d.before in absurd (omega (arith, e))
nothing_after (Expires event) t d = let e : 3 ≡ 1 = ap kind_of d.before in absurd (omega (arith, e))
nothing_after (Answers found text reply) t d = let e : 3 ≡ 1 = ap kind_of d.before in absurd (omega (arith, e))
nothing_after (Slices event) t d = let e : 3 ≡ 2 = ap kind_of d.before in absurd (omega (arith, e))
nothing_after Rests t d = let e : 3 ≡ 2 = ap kind_of d.before in absurd (omega (arith, e))
nothing_after Stops t d = false≢true d.due

pub rows : RunRows
unfolding digits
rows = record {
  runs = (
    one_move at_rest (Starts 7) started (omega arith) (record { before = refl; after = refl; world = refl; time_is = refl }),
    (
      one_move started (expires (codes "DATA_0002")) dropped (omega arith) (record { groups = data_name ∷ logs_name ∷ []; before = refl; is_expiry = (refl, refl, refl, refl); time = refl }),
      (
        one_move dropped answers answered (omega arith) (record { groups = data_name ∷ logs_name ∷ []; before = refl; none_expires = refl; step = (refl, refl); cause = refl; lines = tt; after = refl; time = refl }),
        (
          one_move answered resyncs resynced (omega arith) (record { slices = slices_of_phase answered.phase; before = refl; is_slice = ((refl, refl, refl), refl); time = refl }),
          (
            one_move resynced moves moved (omega arith) (record { slices = slices_of_phase resynced.phase; before = refl; is_slice = ((refl, refl), refl); time = refl }),
            (
              one_move moved moves_logs all_moved (omega arith) (record { slices = slices_of_phase moved.phase; before = refl; is_slice = ((refl, refl), refl); time = refl }),
              (one_move all_moved Rests (standing_at None 7 Resting) (omega arith) (record { slices = []; before = refl; none_due = refl; after = refl; world = refl; time = refl }), tt),
            ),
          ),
        ),
      ),
    ),
  );
  prints = refl;
  early_answer = no_answer started (data_name ∷ logs_name ∷ []) _ refl refl;
  early_slice = λ t d. let e : 1 ≡ 2 = ap kind_of d.before in absurd (omega (arith, e));
  other_disk = no_expiry started (data_name ∷ logs_name ∷ []) _ refl (λ t h. other_bytes (codes "DATA_0001") (codes "DATA_0002") refl refl h.1);
  twice_dropped = no_expiry dropped (data_name ∷ logs_name ∷ []) _ refl (λ t h. h);
  early_rebalance = no_slice answered _ _ refl (λ t h. h.0);
  early_group = no_slice resynced _ _ refl (λ t h. other_bytes logs_name data_name refl refl h.0.0);
  twice_resynced = no_slice resynced _ _ refl (λ t h. h.0);
  early_rest = no_rest moved _ _ refl refl;
  short_expiry = record { due = refl; after = refl; world = refl; time = refl };
  short_slice = record { due = refl; after = refl; world = refl; time = refl };
  short_at_rest = λ t d. false≢true d.due;
  short_command = λ t d. false≢true d.due;
  short_of_nothing = λ t d. false≢true d.due;
  after_the_end = nothing_after;
}

-- ---- lines under WAIT

abbrev is_empty : List Bytes → Bool
is_empty [] = true
is_empty (line ∷ lines) = false

owes : {line : Bytes} {lines : List Bytes} → [] ≡ line ∷ lines → ⊥
owes none = false≢true (sym (ap is_empty none))

no_last : (xs : List Bytes) (x : Bytes) → [] ≡ xs ++ x ∷ [] → ⊥
no_last [] x none = owes none
no_last (y ∷ xs) x none = owes none

-- a byte of the first line
abbrev byte_at : ℕ → List Bytes → ℕ
byte_at n lines = get_or (get_or lines 0 []) n 0

lost_line : (how : Rebalanced) → EndsBy how (r.NoSpace 256 9) → codes "rebal DATA lost 4 256 9" ∷ [] ≡ event_line (Moved data_name how) ∷ [] → ⊥
lost_line (MovesLeft steps) ends e = absurd ends
lost_line (Finished steps) ends e = absurd ends
lost_line (OutOfSpace steps file index) ends e = let other : 108 ≡ 110 = ap (byte_at 11) e in absurd (omega (arith, other))
lost_line (LostExtent steps file index) ends e = absurd ends
lost_line (MoveFault steps disk) ends e = absurd ends
lost_line (MoveEnds disk) ends e = absurd ends

printed : (w : World) → entry_in w data_name ≡ Some (mounted_entry data_name 65536) → printed_name w data_name ≡ data_name
printed w there = rw (there, printed_name) refl

pub wait_rows : WaitsAreOwed
unfolding digits
wait_rows below w g there is = record {
  line = record { how = OutOfSpace 4 256 9; ends = (refl, refl); lines_are = rw (there, printed_name) refl };
  no_line = λ h. owes h.lines_are;
  other_line = λ h.
      let P : Bytes → Type 0 = λ name. codes "rebal DATA lost 4 256 9" ∷ [] ≡ event_line (Moved name h.how) ∷ [] in
      lost_line h.how h.ends (subst P (printed w there) h.lines_are);
  lost_owes = λ h. owes h.lines_are;
  fault_owes = λ h. owes h.lines_are;
  no_wait = λ h. owes (sym h);
  resync_owes = λ h. no_last h.first _ h.lines_are;
  waited = rw (is, there, session_causes) (inr (inl refl));
  unwaited = λ h. let k = rw (is, there, session_causes) at h in elim k [ inl e ↦ absurd (omega (arith, e)) | inr none ↦ none ];
  resync_fault = rw (is, there, session_causes) (inr (inr (inl refl)));
  unwaited_fault = λ h. let k = rw (is, there, session_causes) at h in elim k [ inl e ↦ absurd (omega (arith, e)) | inr l ↦ elim l [ inl e ↦ absurd (omega (arith, e)) | inr none ↦ none ] ];
  never_lost = λ lines h. let k = rw (is, there, session_causes) at h in elim k [
    | inl e ↦ absurd (omega (arith, e))
    | inr l ↦ elim l [
      | inl e ↦ absurd (omega (arith, e))
      | inr m ↦ elim m [ inl e ↦ absurd (omega (arith, e)) | inr n ↦ elim n [ inl e ↦ absurd (omega (arith, e)) | inr none ↦ none ] ]
    ]
  ];
}

-- ---- incarnations

pub incarnations : IncarnationRows
incarnations = record { one_more = λ g name n f e. rw e refl; stays = λ g name n f e. rw e refl }
