-- The moves of one command.
use Rattle.std.proofs.Common.{◌≡◌, ◌||◌, ℕ, ◌<◌, Bool, true, false, MatchBool, List, [], ◌∷◌, ◌++◌, Option, Some, None, Result, Ok, Err, is_ok, IsOk, inl, inr, refl, sym, ◌∙◌, ap, subst, length, arith}
use Rattle.std.specs.Prelude.{if◌then◌else◌, OnOk}
use Rattle.std.specs.Str.{bytes_eq}
use Rattle.std.specs.Io.KnownBytes.{Appends}
use Rattle.std.proofs.lemmas.List.{append-nil, length-append}
use Rattle.std.proofs.lemmas.Slice.Eq.{bytes_eq-Decides}
use Rattle.bay.specs.State.{BayState}
use Rattle.bay.specs.declared.disk.Bay as Bay
use Rattle.bay.specs.declared.host.Host as Host
use Rattle.bay.specs.declared.stream.Sink as Sink
use Rattle.bay.specs.declared.stream.Clock as Clock
use Rattle.bay.specs.Readings.{Readings}
use Rattle.bay.proofs.Known.{Appends-none}
use Rattle.asm_group.specs.Names.{Bytes}
use Rattle.asm_group.specs.Refusal as r
use Rattle.asm_world.specs.Below.{Found, GroupBelow}
use Rattle.asm_world.specs.Reply.{Reply, Refused}
use Rattle.asm_world.specs.World.{World, SessionEntry, entry_in, is_mounted}
use Rattle.asm_world.specs.Run.{Phase, Resting, Expiring, Slicing, Starts, Answers, Rests, AnswersAt, next_expiry, next_slice, below_of_entry, expiring_of, due_resync, due_rebalance, DueRebalance, DueResync, slices_of, mounted_groups, phase_after, is_refusal, reply_in, times_of}
use Rattle.serving.specs.Acts.{scene, scene_state, Acts}
use Rattle.asm_world.specs.Waits.{HasLines}
use Rattle.disk_commands.specs.mounted_groups.Found.{Counts, counts_of}
use Rattle.disk_commands.specs.session.Meaning.{meaning}
use Rattle.disk_commands.specs.session.Effects.{HasEffect, IsProvedOn, IsServed, anywhere, below_with, on_disks}
use Rattle.disk_commands.specs.session.Families.{changes_group}
use Rattle.serving.specs.Manners.{after_reply, reply_style}
use Rattle.disk_commands.specs.session.Desks.{paths_on}
use Rattle.serving.specs.Programs.{scene_of, AnswersOne, RunsOne, TellsEvents}
use Rattle.disk_commands.specs.session.Sessions.{Roster, roster_of}
use Rattle.serving.specs.Stops.{IsReplyOrNoMemory}
use Rattle.disk_commands.specs.group_turns.Turns.{AfterReply, BeforeText}
use Rattle.serving.specs.declared.manner.Manner.{Manner}
use Rattle.serving.specs.declared.program.Program.{Program}
use Rattle.serving.specs.declared.stop.Stop.{Stop}
use Rattle.serving.proofs.Chains.{acts-none, acts-one, acts-then, acts-cut, or-false}
use Rattle.disk_commands.proofs.session.Below.{IsStill, still_below}
use Rattle.disk_commands.proofs.session.Languages.{short_is_no_change, short_is_proved}
use Rattle.serving.proofs.Pieces.{at-paths, at-phase}
use Rattle.asm_world.proofs.Memory.{no_lines}

-- ---- nothing is due

module _ (w : World) (below : ℕ → GroupBelow) (still : (id : ℕ) → IsStill (below id)) where
  -- what is below a group that is mounted, or nothing
  below_if : (t : Bool) (id : ℕ) → (expiring_of (if t then Some (below id) else None) ≡ None) × ((name : Bytes) → (due_resync name (if t then Some (below id) else None) ≡ None) × (due_rebalance name (if t then Some (below id) else None) ≡ None))
  below_if true id = ((still id).expires, λ name. (ap (λ (o : Option Bytes). elim o [ None ↦ None | Some disk ↦ Some (DueResync name disk) ]) (still id).syncs, ap (λ (t : Bool). if t then Some (DueRebalance name) else None) (still id).moves))
  below_if false id = (refl, λ name. (refl, refl))

  none_below : (o : Option SessionEntry) → (expiring_of (below_of_entry below o) ≡ None) × ((name : Bytes) → (due_resync name (below_of_entry below o) ≡ None) × (due_rebalance name (below_of_entry below o) ≡ None))
  none_below None = (refl, λ name. (refl, refl))
  none_below (Some e) = below_if (is_mounted e) e.id

  pub none_expires : (names : List Bytes) → next_expiry w below names ≡ None
  none_expires [] = refl
  none_expires (name ∷ names) = rw ((none_below (entry_in w name)).0, next_expiry) (none_expires names)

  pub none_due : (names : List Bytes) → next_slice w below (slices_of names) ≡ None
  none_due [] = refl
  none_due (name ∷ names) =
      let due = (none_below (entry_in w name)).1 name in
      rw (due.0, due.1, next_slice, slices_of) (none_due names)

-- ---- marks

pub same-bytes : (xs : List ℕ) → bytes_eq xs xs ≡ true
same-bytes xs = (bytes_eq-Decides xs xs).1 refl

other-by : (xs ys rest : List ℕ) (t : Bool) → bytes_eq xs ys ≡ t → ys ≡ xs ++ rest → 0 < length rest → bytes_eq xs ys ≡ false
other-by xs ys rest true is e more =
    let same : xs ≡ ys = (bytes_eq-Decides xs ys).0 is in
    absurd (omega (arith, ap length (same ∙ e), length-append xs rest))
other-by xs ys rest false is e more = is

-- the marks of a reply that was printed whole, or not
pub mark-whole : (text : List ℕ) (marks marks' : List ℕ) (calls : ℕ) → marks' ≡ marks ++ calls ∷ [] → marks' ≡ marks ++ (if bytes_eq text text then calls ∷ [] else [])
mark-whole text marks marks' calls e = rw same-bytes e

pub mark-cut : (printed text rest marks : List ℕ) (calls : ℕ) → text ≡ printed ++ rest → 0 < length rest → marks ≡ marks ++ (if bytes_eq printed text then calls ∷ [] else [])
mark-cut printed text rest marks calls e more = let other = other-by printed text rest (bytes_eq printed text) refl e more in rw other (sym (append-nil marks))

-- a push for which there was room
pub pushed : {E : Type 0} (marks marks' : List ℕ) (x calls : ℕ) (result : Result (Unit {0}) E) →
    marks' ≡ (if is_ok result then marks ++ x ∷ [] else marks) → IsOk result → x ≡ calls → marks' ≡ marks ++ calls ∷ []
pushed marks marks' x calls (Ok u) e ok is = e ∙ ap (λ y. marks ++ y ∷ []) is
pushed marks marks' x calls (Err y) e ok is = absurd cc

-- ---- the moves

pub acts-starts : {C : Type 0} (gives : C → ℕ → C → Type 0) (paths : List Bytes) (w : World) (below : ℕ → GroupBelow) (time time' : ℕ) (roster : Roster) (bay : BayState) (taken : Option (List ℕ)) (clock clock' : C) (marks : List ℕ) (refused : Bool) (manner : Manner)
    → gives clock time' clock' → Acts gives paths true [] (scene w below Resting time roster bay taken clock marks refused manner) (scene w below (Expiring (mounted_groups w.session)) time' roster bay taken clock' marks refused manner)
acts-starts gives paths w below time time' roster bay taken clock clock' marks refused manner g = acts-one gives paths true (Starts time') []
    (scene w below Resting time roster bay taken clock marks refused manner) (scene w below (Expiring (mounted_groups w.session)) time' roster bay taken clock' marks refused manner) (record {
      does = λ _. record { does = record { before = refl; after = refl; world = refl; time_is = refl }; caused = tt; calls = omega arith; images = λ m image from before left id. tt; there = λ m image from before left id was is. tt };
      calls = omega arith;
      past = λ m image before left. left;
      holds = λ known stands apart. (record { does = record { before = refl; after = refl; world = refl; time_is = refl }; caused = tt; calls = omega arith; images = λ m image from before left id. absurd (omega (arith, from, before)); there = λ m image from before left id was is. absurd (omega (arith, from, before)) }, stands);
      texts = refl;
      written = Appends-none taken;
      readings = (clock', g, refl);
      marks_grow = sym (append-nil marks);
      refusal = sym (or-false refused);
      manner_is = refl;
    })

pub acts-rests : {C : Type 0} (gives : C → ℕ → C → Type 0) (paths : List Bytes) (w : World) (below : ℕ → GroupBelow) (time : ℕ) (roster : Roster) (bay : BayState) (taken : Option (List ℕ)) (clock : C) (marks : List ℕ) (refused : Bool) (manner : Manner)
    → next_slice w below (slices_of (mounted_groups w.session)) ≡ None → Acts gives paths true [] (scene w below (Slicing (slices_of (mounted_groups w.session))) time roster bay taken clock marks refused manner) (scene w below Resting time roster bay taken clock marks refused manner)
acts-rests gives paths w below time roster bay taken clock marks refused manner due = acts-one gives paths true Rests []
    (scene w below (Slicing (slices_of (mounted_groups w.session))) time roster bay taken clock marks refused manner) (scene w below Resting time roster bay taken clock marks refused manner) (record {
      does = λ _. record { does = record { slices = slices_of (mounted_groups w.session); before = refl; none_due = due; after = refl; world = refl; time = refl }; caused = tt; calls = omega arith; images = λ m image from before left id. tt; there = λ m image from before left id was is. tt };
      calls = omega arith;
      past = λ m image before left. left;
      holds = λ known stands apart. (record { does = record { slices = slices_of (mounted_groups w.session); before = refl; none_due = due; after = refl; world = refl; time = refl }; caused = tt; calls = omega arith; images = λ m image from before left id. absurd (omega (arith, from, before)); there = λ m image from before left id was is. absurd (omega (arith, from, before)) }, stands);
      texts = refl;
      written = Appends-none taken;
      readings = refl;
      marks_grow = sym (append-nil marks);
      refusal = sym (or-false refused);
      manner_is = refl;
    })

pub acts-answers : {C : Type 0} (gives : C → ℕ → C → Type 0) (paths : List Bytes) (whole : Bool) (found : Found) (text : Bytes) (reply : Reply) (sent : Bytes) (w w' : World) (below below' : ℕ → GroupBelow) (time : ℕ) (was now : Roster) (old new : BayState)
    (taken taken' : Option (List ℕ)) (clock : C) (marks marks' : List ℕ) (refused refused' : Bool) (manner manner' : Manner) → next_expiry w below (mounted_groups w.session) ≡ None → IsServed paths found text reply was now old new below w w' → Appends taken taken' sent
    → marks' ≡ marks ++ (if bytes_eq sent (reply_in (reply_style manner) reply) then new.calls ∷ [] else []) → refused' ≡ (refused || is_refusal reply) → manner' ≡ after_reply manner
    → MatchBool whole (sent ≡ reply_in (reply_style manner) reply) ((rest : List ℕ) × (reply_in (reply_style manner) reply ≡ sent ++ rest))
    → Acts gives paths whole (text ∷ []) (scene w below (Expiring (mounted_groups w.session)) time was old taken clock marks refused manner) (scene w' below' (phase_after reply w') time now new taken' clock marks' refused' manner')
acts-answers gives paths whole found text reply sent w w' below below' time was now old new taken taken' clock marks marks' refused refused' manner manner' none served written marked refusal told texts =
    let move = Answers found text reply in
    let answers : HasEffect paths found text reply was now old new below w w' → AnswersAt meaning found text reply (scene_state (scene w below (Expiring (mounted_groups w.session)) time was old taken clock marks refused manner)) (scene_state (scene w' below' (phase_after reply w') time now new taken' clock marks' refused' manner')) = λ effect. record { groups = mounted_groups w.session; before = refl; none_expires = none; step = effect.step; cause = effect.cause; lines = effect.lines; after = refl; time = refl } in
    acts-one gives paths whole move sent (scene w below (Expiring (mounted_groups w.session)) time was old taken clock marks refused manner) (scene w' below' (phase_after reply w') time now new taken' clock marks' refused' manner') (record {
      does = λ met. let effect = served.effect (anywhere met.0) met.1 in
          record { does = answers effect; caused = (effect.ids_read, effect.made, effect.counted, effect.worked); calls = served.calls; images = λ m image from before left id. tt; there = λ m image from before left id was is. tt };
      calls = served.calls;
      past = served.past;
      holds = λ known stands meets. let effect = served.effect (on_disks known meets.0.0 stands meets.2) meets.1 in let keeps = effect.keeps known stands meets.0.1 in
          (record { does = answers effect; caused = (effect.ids_read, effect.made, effect.counted, effect.worked); calls = served.calls; images = λ m image from before left id. keeps.held m image id from before left; there = λ m image from before left id was is. keeps.there m image id from before left was is }, keeps.now);
      texts = texts;
      written = written;
      readings = refl;
      marks_grow = marked;
      refusal = refusal;
      manner_is = told;
    })

-- want of memory in place of a refusal
short-effect : (paths : List Bytes) (found : Found) (text : Bytes) (reply : Reply) (was now : Roster) (old new : BayState) {below : ℕ → GroupBelow} (w w' : World) → is_refusal reply ≡ true → changes_group (meaning text) ≡ false
    → HasEffect paths found text reply was now old new below w w' → HasEffect paths found text (Refused [] r.NoMemory) was now old new below w w'
short-effect paths found text reply was now old new {below = below} w w' refuses other effect = record {
  step = effect.no_memory refuses other;
  no_memory = λ is same. effect.no_memory refuses other;
  cause = tt;
  lines = no_lines (below_with below found) w (meaning text);
  ids_read = effect.ids_read;
  made = effect.made;
  counted = tt;
  worked = tt;
  calls = effect.calls;
  past = effect.past;
  keeps = effect.keeps;
}

-- the reply that was printed, where it isn't the one that the command was given
pub effect-printed : (paths : List Bytes) (found : Found) (text : Bytes) (reply printed : Reply) (was now : Roster) (old new : BayState) {below : ℕ → GroupBelow} (w w' : World) → IsReplyOrNoMemory reply printed
    → IsServed paths found text reply was now old new below w w' → IsServed paths found text printed was now old new below w w'
effect-printed paths found text reply printed was now old new w w' (inl e) served = rw e served
effect-printed paths found text reply printed was now old new w w' (inr (refuses, e)) served = record {
  calls = served.calls;
  past = served.past;
  effect = λ proved met.
      let short = subst (λ (p : Reply). IsProvedOn paths was old w (meaning text) p) e proved in
      rw e (short-effect paths found text reply was now old new w w' refuses (short_is_no_change paths was old w (meaning text) short) (served.effect (short_is_proved paths was old w (meaning text) reply short) met));
}

-- ---- a whole command

-- nothing was done, and the marks are the same
pub acts-unmarked : {C : Type 0} (gives : C → ℕ → C → Type 0) (paths : List Bytes) (w : World) (below : ℕ → GroupBelow) (phase : Phase) (time : ℕ) (roster : Roster) (bay : BayState) (taken : Option (List ℕ)) (clock : C) (marks marks' : List ℕ) (refused : Bool) (manner : Manner)
    → marks' ≡ marks → Acts gives paths false [] (scene w below phase time roster bay taken clock marks refused manner) (scene w below phase time roster bay taken clock marks' refused manner)
acts-unmarked gives paths w below phase time roster bay taken clock marks marks' refused manner same =
    let P : List ℕ → Type 0 = λ ms. Acts gives paths false [] (scene w below phase time roster bay taken clock marks refused manner) (scene w below phase time roster bay taken clock ms refused manner) in
    subst P (sym same) (acts-cut gives paths [] _ _ (acts-none gives paths (scene w below phase time roster bay taken clock marks refused manner)))

-- A command and the moves around it. The clock was read, which leads from the program as it was to the one that begins.
module _ {B H K C : Type 0} {bay : Bay.Ghosts B} {host : Host.Ghosts H} {sink : Sink.Ghosts K} {clock : Clock.Ghosts C} (text : Bytes) (w : World) (below : ℕ → GroupBelow) (time time' : ℕ) (old start : Program B H K C bay host sink clock)
    (g : clock.gives old.clock time' start.clock) (paths : paths_on start.desk ≡ paths_on old.desk) (roster : roster_of start.desk.session ≡ roster_of old.desk.session) (at_bay : bay.state start.desk.bay ≡ bay.state old.desk.bay)
    (at_sink : sink.taken start.sink ≡ sink.taken old.sink) (marks : start.marks.items ≡ old.marks.items) (refused : start.refused ≡ old.refused) (manner : start.manner ≡ old.manner) where
  started : Acts clock.gives (paths_on old.desk) true [] (scene_of w below Resting time old) (scene_of w below (Expiring (mounted_groups w.session)) time' start)
  started =
      let P : Roster → Type 0 = λ x. Acts clock.gives (paths_on old.desk) true [] (scene_of w below Resting time old)
      (scene w below (Expiring (mounted_groups w.session)) time' x (bay.state start.desk.bay) (sink.taken start.sink) start.clock start.marks.items start.refused start.manner) in
      subst P (sym roster) (rw (at_bay, at_sink, marks, refused, manner)
      (acts-starts clock.gives (paths_on old.desk) w below time time' (roster_of old.desk.session) (bay.state old.desk.bay) (sink.taken old.sink) old.clock start.clock old.marks.items old.refused old.manner g))

  -- the program stopped before the text
  pub ends-expiring : (stop : Stop) (new : Program B H K C bay host sink clock) → TellsEvents {T = Unit {0}} (Err stop) BeforeText start new w below time' → RunsOne (Err stop) text old new w below time
  ends-expiring stop new e = record {
    w' = e.w';
    below' = e.below';
    phase = e.phase;
    time' = time';
    commands = [];
    knows = e.knows;
    rests = tt;
    part = inl refl;
    acts = acts-then clock.gives (paths_on old.desk) false [] [] _ _ _ started (at-paths clock.gives _ _ false [] _ _ paths e.acts);
  }

  -- expired disks were dropped before the text
  module _ (mid : Program B H K C bay host sink clock) (e : TellsEvents {T = Unit {0}} (Ok tt) BeforeText start mid w below time') (mid_paths : paths_on mid.desk ≡ paths_on start.desk) where
    expired : Acts clock.gives (paths_on old.desk) true [] (scene_of w below Resting time old) (scene_of e.w' e.below' (Expiring (mounted_groups e.w'.session)) time' mid)
    expired = acts-then clock.gives (paths_on old.desk) true [] [] _ _ _ started (at-paths clock.gives _ _ true [] _ _ paths (at-phase clock.gives _ true [] _ _ _ _ _ _ _ _ _ _ _ _ _ e.rests e.acts))

    -- the program stopped at the reply
    pub ends-answering : (stop : Stop) (new : Program B H K C bay host sink clock) → AnswersOne (Err stop) text mid new e.w' e.below' time' → RunsOne (Err stop) text old new w below time
    ends-answering stop new a = record {
      w' = a.w';
      below' = a.below';
      phase = a.phase;
      time' = time';
      commands = text ∷ [];
      knows = a.knows;
      rests = tt;
      part = inr refl;
      acts = acts-then clock.gives (paths_on old.desk) false [] (text ∷ []) _ _ _ expired (at-paths clock.gives _ _ false (text ∷ []) _ _ (mid_paths ∙ paths) a.acts);
    }

    -- the text was answered
    module _ (late : Program B H K C bay host sink clock) (a : AnswersOne (Ok tt) text mid late e.w' e.below' time') (late_paths : paths_on late.desk ≡ paths_on mid.desk) where
      answered : Acts clock.gives (paths_on old.desk) true (text ∷ []) (scene_of w below Resting time old) (scene_of a.w' a.below' (Slicing (slices_of (mounted_groups a.w'.session))) time' late)
      answered = acts-then clock.gives (paths_on old.desk) true [] (text ∷ []) _ _ _ expired
          (at-paths clock.gives _ _ true (text ∷ []) _ _ (mid_paths ∙ paths) (at-phase clock.gives _ true (text ∷ []) _ _ _ _ _ _ _ _ _ _ _ _ _ a.rests a.acts))

      -- slices ran behind the reply, and nothing more is due, or the program stopped there
      pub ends-slicing : (result : Result (Unit {0}) Stop) (new : Program B H K C bay host sink clock) → TellsEvents result AfterReply late new a.w' a.below' time' → RunsOne result text old new w below time
      ends-slicing (Ok done) new s =
          let all = acts-then clock.gives (paths_on old.desk) true (text ∷ []) [] _ _ _ answered
          (at-paths clock.gives _ _ true [] _ _ (late_paths ∙ mid_paths ∙ paths) (at-phase clock.gives _ true [] _ _ _ _ _ _ _ _ _ _ _ _ _ s.rests s.acts)) in
          let rest = acts-rests clock.gives (paths_on old.desk) s.w' s.below' time' (roster_of new.desk.session) (bay.state new.desk.bay) (sink.taken new.sink) new.clock new.marks.items new.refused new.manner (none_due s.w' s.below' (still_below s.knows) (mounted_groups s.w'.session)) in
          record {
            w' = s.w';
            below' = s.below';
            phase = Resting;
            time' = time';
            commands = text ∷ [];
            knows = s.knows;
            rests = refl;
            part = refl;
            acts = acts-then clock.gives (paths_on old.desk) true (text ∷ []) [] _ _ _ all rest;
          }
      ends-slicing (Err stop) new s = record {
        w' = s.w';
        below' = s.below';
        phase = s.phase;
        time' = time';
        commands = text ∷ [];
        knows = s.knows;
        rests = tt;
        part = inr refl;
        acts = acts-then clock.gives (paths_on old.desk) false (text ∷ []) [] _ _ _ answered (at-paths clock.gives _ _ false [] _ _ (late_paths ∙ mid_paths ∙ paths) s.acts);
      }
