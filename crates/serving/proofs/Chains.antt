-- What parts of the program do, one after another.
use Rattle.std.proofs.Common.{◌≡◌, ◌||◌, ℕ, ◌<◌, ◌≤◌, Bool, true, false, MatchBool, List, [], ◌∷◌, ◌++◌, inl, inr, refl, sym, ◌∙◌, ap, subst, append_assoc, length, arith}
use Rattle.std.proofs.lemmas.Bool.{false≢true}
use Rattle.std.proofs.lemmas.List.{append-nil}
use Rattle.std.proofs.lemmas.List.Concat.{flat_map-append}
use Rattle.std.specs.Str.{bytes_eq}
use Rattle.std.specs.Io.KnownBytes.{Appends}
use Rattle.bay.specs.Image.{Image}
use Rattle.bay.specs.Readings.{Readings}
use Rattle.bay.proofs.Known.{Appends-none, Appends-more}
use Rattle.asm_group.specs.Names.{Bytes}
use Rattle.asm_world.specs.Run.{State, PrintedMove, SessionMove, AllMoves, IsMove, end_of, entry_text, text_of, IsPrinted, IsPrintedToCut, output_of, commands_at, answered, times_at, times_of, marks_at, marks_in_history, refuses, has_refusal}
use Rattle.asm_world.proofs.Histories.{end_append, rise_calls, rise_joined}
use Rattle.disk_commands.specs.mounted_groups.Found.{Counts}
use Rattle.disk_commands.specs.session.Claims.{outside_with_counts, held_outside, IsProvedApartIn}
use Rattle.serving.specs.declared.manner.Manner.{Manner}
use Rattle.disk_commands.specs.session.Effects.{Past}
use Rattle.serving.specs.Manners.{AreTold, after_move, after_moves, style_of}
use Rattle.disk_commands.specs.session.Proved.{IsProved, IsProvedIn, IsProvedOnDisks, is_proved_move, is_proved_move_on_disks}
use Rattle.serving.specs.Acts.{Scene, scene_state, Acts}
use Rattle.group_commands.specs.session_claims.Claims.{StandsFor}
use Rattle.world_steps.specs.Runs.{AllFrom}
use Rattle.world_steps.proofs.Runs.{joins, premises_join, stays}

told-append : (manner : Manner) (h k : List (PrintedMove Counts)) → AreTold manner h → AreTold (after_moves manner h) k → AreTold manner (h ++ k)
told-append manner [] k p q = q
told-append manner (e ∷ h) k p q = (p.0, told-append (after_move manner e.move) h k p.1 q)

after-append : (manner : Manner) (h k : List (PrintedMove Counts)) → after_moves manner (h ++ k) ≡ after_moves (after_moves manner h) k
after-append manner [] k = refl
after-append manner (e ∷ h) k = after-append (after_move manner e.move) h k

printed-append : (h k : List (PrintedMove Counts)) → IsPrinted h → IsPrinted k → IsPrinted (h ++ k)
printed-append [] k p q = q
printed-append (e ∷ h) k p q = (p.0, printed-append h k p.1 q)

printed-cut : (h k : List (PrintedMove Counts)) → IsPrinted h → IsPrintedToCut k → IsPrintedToCut (h ++ k)
printed-cut [] k p q = q
printed-cut (e ∷ h) k p q = inl (p.0, printed-cut h k p.1 q)

cut-from_printed : (h : List (PrintedMove Counts)) → IsPrinted h → IsPrintedToCut h
cut-from_printed [] p = tt
cut-from_printed (e ∷ h) p = inl (p.0, cut-from_printed h p.1)

either-append : (whole : Bool) (h k : List (PrintedMove Counts)) → IsPrinted h → MatchBool whole (IsPrinted k) (IsPrintedToCut k) →
    MatchBool whole (IsPrinted (h ++ k)) (IsPrintedToCut (h ++ k))
either-append true h k p q = printed-append h k p q
either-append false h k p q = printed-cut h k p q

readings-append : {C : Type 0} (gives : C → ℕ → C → Type 0) (a b c : C) (ts us : List ℕ) →
    Readings gives a ts b → Readings gives b us c → Readings gives a (ts ++ us) c
readings-append gives a b c [] us p q = let P : _ → Type 0 = λ x. Readings gives x us c in subst P p q
readings-append gives a b c (t ∷ ts) us p q = (p.0, p.1, readings-append gives p.0 b c ts us p.2 q)

or-assoc : (a b c : Bool) → ((a || b) || c) ≡ (a || (b || c))
or-assoc true b c = refl
or-assoc false b c = refl

pub or-false : (b : Bool) → (b || false) ≡ b
or-false true = refl
or-false false = refl

refusal-append : (h k : List (PrintedMove Counts)) → has_refusal (h ++ k) ≡ (has_refusal h || has_refusal k)
refusal-append [] k = refl
refusal-append (e ∷ h) k = ap (λ b. refuses e.move || b) (refusal-append h k) ∙ sym (or-assoc (refuses e.move) (has_refusal h) (has_refusal k))

-- nothing is done
pub acts-none : {C : Type 0} (gives : C → ℕ → C → Type 0) (paths : List Bytes) (a : Scene C) → Acts gives paths true [] a a
acts-none gives paths a = record {
  history = [];
  run = tt;
  calls_rise = tt;
  ends = refl;
  commands_are = refl;
  past = λ m image before left. left;
  holds = λ known stands. record { held = tt; now = λ all. stands };
  told = tt;
  manner_is = refl;
  printed = tt;
  written = Appends-none a.taken;
  readings = refl;
  marks_grow = sym (append-nil a.marks);
  refusal = sym (or-false a.refused);
}

pub acts-then : {C : Type 0} (gives : C → ℕ → C → Type 0) (paths : List Bytes) (whole : Bool) (xs ys : List Bytes) (a b c : Scene C) →
    Acts gives paths true xs a b → Acts gives paths whole ys b c → Acts gives paths whole (xs ++ ys) a c
acts-then gives paths whole xs ys a b c p q =
    let until : (end_of (scene_state a) p.history).calls ≡ b.bay.calls = ap (λ (s : State Counts). s.calls) p.ends in
    let past : (m : ℕ) (image : Image) → m < (end_of (scene_state a) p.history).calls → c.bay.leaves m image → b.bay.leaves m image = λ m image before. q.past m image (omega arith) in
    let reaches : a.bay.calls ≤ b.bay.calls = omega (arith, rise_calls (scene_state a) p.history p.calls_rise) in
    record {
      history = p.history ++ q.history;
      run = (joins (outside_with_counts paths c.bay.leaves) IsProvedIn (scene_state a) p.history q.history).0
          (stays (outside_with_counts paths b.bay.leaves) IsProvedIn c.bay.leaves (scene_state a) p.history past p.calls_rise p.run, λ all. rw p.ends q.run);
      calls_rise = rise_joined (scene_state a) p.history q.history p.calls_rise (rw p.ends q.calls_rise);
      ends = end_append (scene_state a) p.history q.history ∙ ap (λ s. end_of s q.history) p.ends ∙ q.ends;
      commands_are = flat_map-append (λ e. commands_at e.move) p.history q.history ∙ ap (λ zs. zs ++ answered q.history) p.commands_are ∙ ap (λ zs. xs ++ zs) q.commands_are;
      past = λ m image before left. p.past m image before (q.past m image (omega arith) left);
      holds = λ known stands.
          let first = p.holds known stands in
          record {
            held = (joins (held_outside paths c.bay.leaves) (IsProvedApartIn known) (scene_state a) p.history q.history).0
                (stays (held_outside paths b.bay.leaves) (IsProvedApartIn known) c.bay.leaves (scene_state a) p.history past p.calls_rise first.held, λ all. rw p.ends (q.holds known (first.now all)).held);
            now = λ all.
                let split = (premises_join (held_outside paths c.bay.leaves) (IsProvedApartIn known) (scene_state a) p.history q.history).1 all in
                (q.holds known (first.now split.0)).now (subst (λ (s : State Counts). AllFrom (IsProvedApartIn known) s q.history) p.ends split.1);
          };
      told = let T : Manner → Type 0 = λ manner. AreTold manner q.history in told-append a.manner p.history q.history p.told (subst T p.manner_is q.told);
      manner_is = q.manner_is ∙ ap (λ manner. after_moves manner q.history) p.manner_is ∙ sym (after-append a.manner p.history q.history);
      printed = either-append whole p.history q.history p.printed q.printed;
      written = rw flat_map-append (Appends-more a.taken b.taken c.taken (output_of p.history) (output_of q.history) p.written q.written);
      readings = rw flat_map-append (readings-append gives a.clock b.clock c.clock (times_of p.history) (times_of q.history) p.readings q.readings);
      marks_grow = q.marks_grow ∙ ap (λ zs. zs ++ marks_in_history q.history) p.marks_grow ∙ append_assoc a.marks (marks_in_history p.history) (marks_in_history q.history)
          ∙ ap (λ zs. a.marks ++ zs) (sym (flat_map-append (λ e. marks_at e.move (bytes_eq e.printed (entry_text e)) e.after.calls) p.history q.history));
      refusal = q.refusal ∙ ap (λ v. v || has_refusal q.history) p.refusal ∙ or-assoc a.refused (has_refusal p.history) (has_refusal q.history)
          ∙ ap (λ v. a.refused || v) (sym (refusal-append p.history q.history));
    }

pub acts-cut : {C : Type 0} (gives : C → ℕ → C → Type 0) (paths : List Bytes) (xs : List Bytes) (a b : Scene C) → Acts gives paths true xs a b → Acts gives paths false xs a b
acts-cut gives paths xs a b p = record {
  history = p.history;
  run = p.run;
  calls_rise = p.calls_rise;
  ends = p.ends;
  commands_are = p.commands_are;
  past = p.past;
  holds = p.holds;
  told = p.told;
  manner_is = p.manner_is;
  printed = cut-from_printed p.history p.printed;
  written = p.written;
  readings = p.readings;
  marks_grow = p.marks_grow;
  refusal = p.refusal;
}

-- the entry of a move
abbrev pub entry : Manner → SessionMove → List ℕ → State Counts → PrintedMove Counts
entry manner move printed after = record { move = move; style = style_of manner move; printed = printed; after = after }

pub one-printed : (whole : Bool) (manner : Manner) (move : SessionMove) (printed : List ℕ) (after : State Counts) →
    let e = entry manner move printed after in
    MatchBool whole (printed ≡ entry_text e) ((rest : List ℕ) × (entry_text e ≡ printed ++ rest)) → MatchBool whole (IsPrinted (e ∷ [])) (IsPrintedToCut (e ∷ []))
one-printed true manner move printed after e = (e, tt)
one-printed false manner move printed after e = inr (e.0, e.1, refl)

-- what one move needs to be one of a part of the program
pub record OneMove {C : Type 0} (gives : C → ℕ → C → Type 0) (paths : List Bytes) (whole : Bool) (move : SessionMove) (text : List ℕ) (old new : Scene C) : Type 0 where
  pub does : IsProvedIn (scene_state old) move → IsMove (outside_with_counts paths new.bay.leaves) (scene_state old) move (scene_state new)
  pub calls : old.bay.calls ≤ new.bay.calls
  pub past : Past old.bay new.bay
  pub holds : (known : ℕ → Bool) → StandsFor (length paths) known old.roster.given old.bay old.world old.roster.groups → IsProvedApartIn known (scene_state old) move
      → IsMove (held_outside paths new.bay.leaves) (scene_state old) move (scene_state new) × StandsFor (length paths) known new.roster.given new.bay new.world new.roster.groups
  pub texts : MatchBool whole (text ≡ entry_text (entry old.manner move text (scene_state new))) ((rest : List ℕ) × (entry_text (entry old.manner move text (scene_state new)) ≡ text ++ rest))
  pub written : Appends old.taken new.taken text
  pub readings : Readings gives old.clock (times_at move) new.clock
  pub marks_grow : new.marks ≡ old.marks ++ marks_at move (bytes_eq text (entry_text (entry old.manner move text (scene_state new)))) new.bay.calls
  pub refusal : new.refused ≡ (old.refused || refuses move)
  pub manner_is : new.manner ≡ after_move old.manner move

pub acts-one : {C : Type 0} (gives : C → ℕ → C → Type 0) (paths : List Bytes) (whole : Bool) (move : SessionMove) (text : List ℕ) (old new : Scene C) →
    OneMove gives paths whole move text old new → Acts gives paths whole (commands_at move) old new
acts-one gives paths whole move text old new one = record {
  history = entry old.manner move text (scene_state new) ∷ [];
  run = λ met. (one.does met, tt);
  calls_rise = (one.calls, tt);
  ends = refl;
  commands_are = append-nil (commands_at move);
  past = one.past;
  holds = λ known stands. record { held = λ meets. ((one.holds known stands meets).0, tt); now = λ all. (one.holds known stands all.0).1 };
  told = (refl, tt);
  manner_is = one.manner_is;
  printed = one-printed whole old.manner move text (scene_state new) one.texts;
  written = rw append-nil one.written;
  readings = rw append-nil one.readings;
  marks_grow = one.marks_grow ∙ ap (λ ms. old.marks ++ ms) (sym (append-nil (marks_at move (bytes_eq text (entry_text (entry old.manner move text (scene_state new)))) new.bay.calls)));
  refusal = one.refusal ∙ ap (λ b. old.refused || b) (sym (or-false (refuses move)));
}

-- ---- moves of which nothing is proved

-- the move is no answer, gives no time and no mark, leaves the manner, and nothing is proved of it, whatever the disks stand for
pub record IsSilent (move : SessionMove) : Type 0 where
  pub unproved : is_proved_move move ≡ false
  pub unproved_on_disks : is_proved_move_on_disks move ≡ false
  pub commands : commands_at move ≡ []
  pub times : times_at move ≡ []
  pub marks : (whole : Bool) (calls : ℕ) → marks_at move whole calls ≡ []
  pub refuses_none : refuses move ≡ false
  pub stays : (manner : Manner) → after_move manner move ≡ manner

pub acts-silent : {C : Type 0} (gives : C → ℕ → C → Type 0) (paths : List Bytes) (whole : Bool) (move : SessionMove) (text : List ℕ) (old new : Scene C) → IsSilent move
    → old.bay.calls ≤ new.bay.calls → Past old.bay new.bay → MatchBool whole (text ≡ text_of (style_of old.manner move) move) ((rest : List ℕ) × (text_of (style_of old.manner move) move ≡ text ++ rest)) → Appends old.taken new.taken text
    → new.clock ≡ old.clock → new.marks ≡ old.marks → new.refused ≡ old.refused → new.manner ≡ old.manner → Acts gives paths whole [] old new
acts-silent gives paths whole move text old new is calls past texts written clock marks refused manner =
    let never : IsProved move → ⊥ = λ proved. false≢true (sym is.unproved ∙ proved) in
    let never_on_disks : IsProvedOnDisks move → ⊥ = λ proved. false≢true (sym is.unproved_on_disks ∙ proved) in
    record {
      history = entry old.manner move text (scene_state new) ∷ [];
      run = λ met. absurd (never met.0);
      calls_rise = (calls, tt);
      ends = refl;
      commands_are = append-nil (commands_at move) ∙ is.commands;
      past = past;
      holds = λ known stands. record { held = λ meets. absurd (never_on_disks meets.0.0); now = λ all. absurd (never_on_disks all.0.0.0) };
      told = (refl, tt);
      manner_is = manner ∙ sym (is.stays old.manner);
      printed = one-printed whole old.manner move text (scene_state new) texts;
      written = rw append-nil written;
      readings = rw (append-nil, is.times) clock;
      marks_grow = marks ∙ sym (append-nil old.marks) ∙ ap (λ ms. old.marks ++ ms) (sym (append-nil (marks_at move (bytes_eq text (entry_text (entry old.manner move text (scene_state new)))) new.bay.calls) ∙ is.marks _ _));
      refusal = refused ∙ sym (or-false old.refused) ∙ ap (λ b. old.refused || b) (sym (or-false (refuses move) ∙ is.refuses_none));
    }

-- ---- which moves they are

moves-append : (P : SessionMove → Type 0) (h k : List (PrintedMove Counts)) → AllMoves P h → AllMoves P k → AllMoves P (h ++ k)
moves-append P [] k p q = q
moves-append P (e ∷ h) k p q = (p.0, moves-append P h k p.1 q)

pub none-moves : (P : SessionMove → Type 0) {C : Type 0} (gives : C → ℕ → C → Type 0) (paths : List Bytes) (a : Scene C) → AllMoves P (acts-none gives paths a).history
unfolding acts-none
none-moves P gives paths a = tt

pub then-moves : (P : SessionMove → Type 0) {C : Type 0} (gives : C → ℕ → C → Type 0) (paths : List Bytes) (whole : Bool) (xs ys : List Bytes) (a b c : Scene C)
    (p : Acts gives paths true xs a b) (q : Acts gives paths whole ys b c) → AllMoves P p.history → AllMoves P q.history → AllMoves P (acts-then gives paths whole xs ys a b c p q).history
unfolding acts-then
then-moves P gives paths whole xs ys a b c p q first rest = moves-append P p.history q.history first rest

pub silent-moves : (P : SessionMove → Type 0) {C : Type 0} (gives : C → ℕ → C → Type 0) (paths : List Bytes) (whole : Bool) (move : SessionMove) (text : List ℕ) (old new : Scene C) (is : IsSilent move)
    (calls : old.bay.calls ≤ new.bay.calls) (past : Past old.bay new.bay) (texts : MatchBool whole (text ≡ text_of (style_of old.manner move) move) ((rest : List ℕ) × (text_of (style_of old.manner move) move ≡ text ++ rest))) (written : Appends old.taken new.taken text)
    (clock : new.clock ≡ old.clock) (marks : new.marks ≡ old.marks) (refused : new.refused ≡ old.refused) (manner : new.manner ≡ old.manner) → P move → AllMoves P (acts-silent gives paths whole move text old new is calls past texts written clock marks refused manner).history
unfolding acts-silent
silent-moves P gives paths whole move text old new is calls past texts written clock marks refused manner p = (p, tt)
