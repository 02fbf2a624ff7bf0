-- Turns of groups, as the program takes them.
use Rattle.std.proofs.Common.{◌≡◌, ℕ, ◌≤◌, Bool, true, false, MatchBool, List, [], ◌++◌, Option, Result, Ok, Err, is_ok, refl, sym, ◌∙◌, ap, subst, arith, Vec, Global}
use Rattle.std.specs.Prelude.{OnOk}
use Rattle.std.specs.FinMap as maps
use Rattle.std.specs.Io.KnownBytes.{Appends}
use Rattle.bay.specs.declared.disk.Bay as Bay
use Rattle.bay.specs.declared.host.Host as Host
use Rattle.bay.specs.declared.stream.Sink as Sink
use Rattle.bay.specs.declared.stream.Clock as Clock
use Rattle.bay.specs.State.{BayState}
use Rattle.bay.proofs.Known.{Appends-none}
use Rattle.asm_group.specs.Names.{Bytes}
use Rattle.asm_world.specs.Below.{GroupBelow}
use Rattle.asm_world.specs.Reply.{Event}
use Rattle.asm_world.specs.Run.{SessionMove, Phase, Stops, AllMoves, text_of}
use Rattle.asm_world.specs.Text.{event_text}
use Rattle.asm_world.specs.World.{World}
use Rattle.serving.specs.Acts.{Acts, Scene, scene}
use Rattle.disk_commands.specs.session.Desks.{paths_on}
use Rattle.serving.specs.Manners.{line_in, style_of}
use Rattle.disk_commands.specs.session.Naming.{CarriesOn}
use Rattle.serving.specs.Programs.{TellsTurns, scene_of}
use Rattle.disk_commands.specs.session.Sessions.{AreReady, Knows, Roster, groups_below, roster_of}
use Rattle.serving.specs.Stops.{IsOutputStop, StopsByOutput}
use Rattle.disk_commands.specs.group_turns.Turns.{AfterReply, BeforeText, HasLine, IsTurnMove, TurnMoment, move_at, phase_at}
use Rattle.serving.specs.declared.manner.Manner.{Manner}
use Rattle.serving.specs.declared.manner.Manner.TheVariants.{InFull, InShort}
use Rattle.serving.specs.declared.program.Program.{Program}
use Rattle.serving.specs.declared.stop.Stop.{Stop}
use Rattle.serving.specs.declared.stop.Stop.TheVariants.{ReadFault, WriteFault, NoMemory, TooLong}
use Rattle.disk_commands.proofs.session.Knowing.{none_told}
use Rattle.serving.proofs.Chains.{IsSilent, acts-none, acts-silent, acts-then, none-moves, silent-moves, then-moves}

-- ---- the moves

event_silent : (when : TurnMoment) (event : Event) → IsSilent (move_at when event)
event_silent BeforeText event = record { unproved = refl; unproved_on_disks = refl; commands = refl; times = refl; marks = λ whole calls. refl; refuses_none = refl; stays = λ manner. refl }
event_silent AfterReply event = record { unproved = refl; unproved_on_disks = refl; commands = refl; times = refl; marks = λ whole calls. refl; refuses_none = refl; stays = λ manner. refl }

stop_silent : IsSilent Stops
stop_silent = record { unproved = refl; unproved_on_disks = refl; commands = refl; times = refl; marks = λ whole calls. refl; refuses_none = refl; stays = λ manner. refl }

event_move : (when : TurnMoment) (event : Event) → IsTurnMove when (move_at when event)
event_move BeforeText event = tt
event_move AfterReply event = tt

stop_move : (when : TurnMoment) → IsTurnMove when Stops
stop_move BeforeText = tt
stop_move AfterReply = tt

event_says : (manner : Manner) (when : TurnMoment) (event : Event) (line : Bytes) → line ≡ event_text event → line_in manner line ≡ text_of (style_of manner (move_at when event)) (move_at when event)
event_says InFull BeforeText event line is = is
event_says InFull AfterReply event line is = is
event_says (InShort left) BeforeText event line is = refl
event_says (InShort left) AfterReply event line is = refl

-- what was done in turns, by these moves alone
abbrev Story : {C : Type 0} → (C → ℕ → C → Type 0) → List Bytes → Bool → TurnMoment → Scene C → Scene C → Type 0
Story gives paths whole when a b = (acts : Acts gives paths whole [] a b) × AllMoves (IsTurnMove when) acts.history

story_then : {C : Type 0} (gives : C → ℕ → C → Type 0) (paths : List Bytes) (whole : Bool) (when : TurnMoment) (a b c : Scene C) → Story gives paths true when a b → Story gives paths whole when b c → Story gives paths whole when a c
story_then gives paths whole when a b c p q = (acts-then gives paths whole [] [] a b c p.0 q.0, then-moves (IsTurnMove when) gives paths whole [] [] a b c p.0 q.0 p.1 q.1)

story_paths : {C : Type 0} (gives : C → ℕ → C → Type 0) (paths paths' : List Bytes) (whole : Bool) (when : TurnMoment) (a b : Scene C) → paths ≡ paths' → Story gives paths whole when a b → Story gives paths' whole when a b
story_paths gives paths paths' whole when a b e story = let P : List Bytes → Type 0 = λ ps. Story gives ps whole when a b in subst P e story

story_phase : {C : Type 0} (gives : C → ℕ → C → Type 0) (paths : List Bytes) (whole : Bool) (when : TurnMoment) (old : Scene C) (world : World) (below : ℕ → GroupBelow) (phase phase' : Phase) (time : ℕ) (roster : Roster) (bay : BayState)
    (taken : Option (List ℕ)) (clock : C) (marks : List ℕ) (refused : Bool) (manner : Manner) → phase ≡ phase' → Story gives paths whole when old (scene world below phase time roster bay taken clock marks refused manner)
    → Story gives paths whole when old (scene world below phase' time roster bay taken clock marks refused manner)
story_phase gives paths whole when old world below phase phase' time roster bay taken clock marks refused manner e story =
    let P : Phase → Type 0 = λ p. Story gives paths whole when old (scene world below p time roster bay taken clock marks refused manner) in subst P e story

on_ok : {T P : Type 0} (result : Result T Stop) → P → OnOk result P
on_ok (Ok given) p = p
on_ok (Err stop) p = tt

-- a piece of a text was printed, and of a whole program all of it
sent_of : (whole : Bool) (text line sent : Bytes) → line ≡ text → MatchBool whole (sent ≡ line) ((rest : List ℕ) × (line ≡ sent ++ rest)) → MatchBool whole (sent ≡ text) ((rest : List ℕ) × (text ≡ sent ++ rest))
sent_of whole text line sent is sends = subst (λ (l : Bytes). MatchBool whole (sent ≡ l) ((rest : List ℕ) × (l ≡ sent ++ rest))) is sends

stop_later : (stop : Stop) (a b c : ℕ) → a ≤ b → IsOutputStop stop b c → IsOutputStop stop a c
stop_later ReadFault a b c rises is = is
stop_later WriteFault a b c rises is = omega (arith, rises, is)
stop_later NoMemory a b c rises is = tt
stop_later TooLong a b c rises is = is

causes_joined : {T : Type 0} (result : Result T Stop) (a b c : ℕ) → a ≤ b → StopsByOutput result b c → StopsByOutput result a c
causes_joined (Ok given) a b c rises q = record { later = omega (arith, rises, q.later); failed = tt }
causes_joined (Err stop) a b c rises q = record { later = omega (arith, rises, q.later); failed = stop_later stop a b c rises q.failed }

module _ {B H K C : Type 0} {bay : Bay.Ghosts B} {host : Host.Ghosts H} {sink : Sink.Ghosts K} {clock : Clock.Ghosts C} (when : TurnMoment) where
  -- ---- nothing was due

  pub tells_none : {T : Type 0} (given : T) (p : Program B H K C bay host sink clock) → AreReady p.desk.session.groups (bay.state p.desk.bay) → TellsTurns (Ok given) when p p
  tells_none given p ready = record {
    ready = ready;
    paths = refl;
    host_stays = refl;
    marks_stay = refl;
    tells = λ w below time knows. record {
      w' = w;
      below' = below;
      phase = phase_at when w.session;
      knows = knows;
      rests = refl;
      acts = acts-none clock.gives (paths_on p.desk) (scene_of w below (phase_at when w.session) time p);
      events = none-moves (IsTurnMove when) clock.gives (paths_on p.desk) (scene_of w below (phase_at when w.session) time p);
    };
    cause = record { later = omega arith; failed = tt };
  }

  -- the same where the program is made of the same parts
  pub tells_idle : {T : Type 0} (given : T) (old new : Program B H K C bay host sink clock) → (new.desk.session ≡ old.desk.session) × (new.desk.bay ≡ old.desk.bay) → paths_on new.desk ≡ paths_on old.desk → new.desk.host ≡ old.desk.host
      → new.sink ≡ old.sink → new.clock ≡ old.clock → new.marks ≡ old.marks → new.refused ≡ old.refused → new.manner ≡ old.manner → AreReady old.desk.session.groups (bay.state old.desk.bay) → TellsTurns (Ok given) when old new
  tells_idle given old new same paths host_is sinks clocks marks refused manner ready = record {
    ready = rw (same.0, same.1) ready;
    paths = paths;
    host_stays = host_is;
    marks_stay = marks;
    tells = λ w below time knows.
        let a = scene_of w below (phase_at when w.session) time old in
        let story : Story clock.gives (paths_on old.desk) true when a (scene_of w below (phase_at when w.session) time new) =
        rw (same.0, same.1, sinks, clocks, marks, refused, manner) (acts-none clock.gives (paths_on old.desk) a, none-moves (IsTurnMove when) clock.gives (paths_on old.desk) a) in
        record { w' = w; below' = below; phase = phase_at when w.session; knows = rw same.0 knows; rests = refl; acts = story.0; events = story.1 };
    cause = record { later = rw sinks (omega arith); failed = tt };
  }

  -- ---- a turn was taken

  module _ (old new : Program B H K C bay host sink clock) (carries : CarriesOn old.desk.session new.desk.session (bay.state old.desk.bay) (bay.state new.desk.bay))
      (paths : paths_on new.desk ≡ paths_on old.desk) (host_is : new.desk.host ≡ old.desk.host) (clock_is : new.clock ≡ old.clock) (marks : new.marks ≡ old.marks) (refused : new.refused ≡ old.refused) (manner : new.manner ≡ old.manner) where
    -- a world with the session's groups as they are then, of which nothing more is known
    abbrev after : World → World
    after w = record w { groups = maps.empty; session = new.desk.session.entries }

    -- what is below them
    abbrev below_them : ℕ → GroupBelow
    below_them = groups_below new.desk.session.entries new.desk.session.groups

    known : (w : World) (below : ℕ → GroupBelow) → Knows old.desk.session w below → Knows new.desk.session (after w) below_them
    known w below knows = record { entries_are = refl; place_is = knows.place_is ∙ sym carries.place; below_is = refl; told = λ same. none_told (after w) refl new.desk.session.groups }

    -- by a move of which nothing is proved, and this text
    tells_move : {T : Type 0} (result : Result T Stop) (move : SessionMove) (sent : Bytes) → IsSilent move → IsTurnMove when move → MatchBool (is_ok result) (sent ≡ text_of (style_of old.manner move) move) ((rest : List ℕ) × (text_of (style_of old.manner move) move ≡ sent ++ rest))
        → Appends (sink.taken old.sink) (sink.taken new.sink) sent → StopsByOutput result (sink.faults old.sink) (sink.faults new.sink) → TellsTurns result when old new
    tells_move result move sent silent turns texts written cause = record {
      ready = carries.ready;
      paths = paths;
      host_stays = host_is;
      marks_stay = marks;
      tells = λ w below time knows.
          let a = scene_of w below (phase_at when w.session) time old in
          let b = scene_of (after w) below_them (phase_at when new.desk.session.entries) time new in
          record {
            w' = after w;
            below' = below_them;
            phase = phase_at when new.desk.session.entries;
            knows = known w below knows;
            rests = on_ok result refl;
            acts = acts-silent clock.gives (paths_on old.desk) (is_ok result) move sent a b silent carries.calls carries.past texts written clock_is (ap (λ (v : Vec ℕ Global). v.items) marks) refused manner;
            events = silent-moves (IsTurnMove when) clock.gives (paths_on old.desk) (is_ok result) move sent a b silent carries.calls carries.past texts written clock_is (ap (λ (v : Vec ℕ Global). v.items) marks) refused manner turns;
          };
      cause = cause;
    }

    -- an event came, and its line was printed, or a front of it
    pub tells_line : {T : Type 0} (result : Result T Stop) (line sent : Bytes) → HasLine old.desk.session.groups when line → MatchBool (is_ok result) (sent ≡ line_in old.manner line) ((rest : List ℕ) × (line_in old.manner line ≡ sent ++ rest))
        → Appends (sink.taken old.sink) (sink.taken new.sink) sent → StopsByOutput result (sink.faults old.sink) (sink.faults new.sink) → TellsTurns result when old new
    tells_line result line sent has sends written cause =
        let event = has.is_line.event in
        let move = move_at when event in
        tells_move result move sent (event_silent when event) (event_move when event)
        (sent_of (is_ok result) (text_of (style_of old.manner move) move) (line_in old.manner line) sent (event_says old.manner when event line has.is_line.text) sends) written cause

    -- memory was short
    pub tells_stop : {T : Type 0} → sink.taken new.sink ≡ sink.taken old.sink → sink.faults new.sink ≡ sink.faults old.sink → TellsTurns {T = T} (Err NoMemory) when old new
    tells_stop taken faults = tells_move (Err NoMemory) Stops [] stop_silent (stop_move when) ([], refl) (rw taken (Appends-none (sink.taken old.sink)))
        (record { later = omega (arith, faults); failed = tt })

  -- ---- one after another

  pub tells_then : {T U : Type 0} (given : U) (result : Result T Stop) (a b c : Program B H K C bay host sink clock) → TellsTurns {T = U} (Ok given) when a b → TellsTurns result when b c → TellsTurns result when a c
  tells_then given result a b c p q = record {
    ready = q.ready;
    paths = q.paths ∙ p.paths;
    host_stays = q.host_stays ∙ p.host_stays;
    marks_stay = q.marks_stay ∙ p.marks_stay;
    tells = λ w below time knows.
        let x = p.tells w below time knows in
        let y = q.tells x.w' x.below' time x.knows in
        let first = story_phase clock.gives (paths_on a.desk) true when (scene_of w below (phase_at when w.session) time a) x.w' x.below' x.phase (phase_at when x.w'.session) time (roster_of b.desk.session) (bay.state b.desk.bay) (sink.taken b.sink) b.clock b.marks.items b.refused b.manner x.rests (x.acts, x.events) in
        let rest = story_paths clock.gives (paths_on b.desk) (paths_on a.desk) (is_ok result) when (scene_of x.w' x.below' (phase_at when x.w'.session) time b) (scene_of y.w' y.below' y.phase time c) p.paths (y.acts, y.events) in
        let all = story_then clock.gives (paths_on a.desk) (is_ok result) when (scene_of w below (phase_at when w.session) time a) (scene_of x.w' x.below' (phase_at when x.w'.session) time b) (scene_of y.w' y.below' y.phase time c) first rest in
        record { w' = y.w'; below' = y.below'; phase = y.phase; knows = y.knows; rests = y.rests; acts = all.0; events = all.1 };
    cause = causes_joined result (sink.faults a.sink) (sink.faults b.sink) (sink.faults c.sink) p.cause.later q.cause;
  }

  -- ---- answers of another type

  pub tells_ok : {T U : Type 0} (given : T) (other : U) (a b : Program B H K C bay host sink clock) → TellsTurns {T = T} (Ok given) when a b → TellsTurns {T = U} (Ok other) when a b
  tells_ok given other a b p = record {
    ready = p.ready;
    paths = p.paths;
    host_stays = p.host_stays;
    marks_stay = p.marks_stay;
    tells = λ w below time knows. let x = p.tells w below time knows in record { w' = x.w'; below' = x.below'; phase = x.phase; knows = x.knows; rests = x.rests; acts = x.acts; events = x.events };
    cause = record { later = p.cause.later; failed = tt };
  }

  pub tells_err : {T U : Type 0} (stop : Stop) (a b : Program B H K C bay host sink clock) → TellsTurns {T = T} (Err stop) when a b → TellsTurns {T = U} (Err stop) when a b
  tells_err stop a b p = record {
    ready = p.ready;
    paths = p.paths;
    host_stays = p.host_stays;
    marks_stay = p.marks_stay;
    tells = λ w below time knows. let x = p.tells w below time knows in record { w' = x.w'; below' = x.below'; phase = x.phase; knows = x.knows; rests = tt; acts = x.acts; events = x.events };
    cause = record { later = p.cause.later; failed = p.cause.failed };
  }
