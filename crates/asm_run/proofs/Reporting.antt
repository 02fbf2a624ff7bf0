-- From what was served to the transcript of the whole run.
use Rattle.std.proofs.Common.{◌≡◌, ◌⊎◌, ℕ, ◌+◌, ◌≤◌, Bool, true, false, MatchBool, List, [], ◌∷◌, ◌++◌, length, take, Option, Some, None, Result, Ok, Err, inl, inr, refl, sym, ◌∙◌, ap, subst, arith}
use Rattle.std.proofs.lemmas.List.{append-nil, take_all}
use Rattle.std.specs.Io.KnownBytes.{Consumes, IsAtEnd}
use Rattle.bay.proofs.Known.{Appends-none}
use Rattle.bay.specs.State.{BayState, IsSound}
use Rattle.asm_group.specs.Names.{Bytes}
use Rattle.asm_world.specs.Generator.{generated, generated_script}
use Rattle.asm_world.specs.Run.{State, Phase, Resting, PrintedMove, IsGenerated, IsPrinted, IsPrintedToCut, answered, marks_in_history, has_refusal}
use Rattle.asm_world.proofs.Histories.{marks_rise_by}
use Rattle.asm_world.specs.RunLaws.{RisesFrom}
use Rattle.asm_world.specs.World.{World}
use Rattle.serving.specs.mounted_groups.Found.{Counts, counts_of}
use Rattle.script.specs.Script.{cut, commands_of, ended_commands}
use Rattle.serving.specs.declared.stop.Stop.{Stop}
use Rattle.serving.specs.declared.stop.Stop.TheVariants.{ReadFault, WriteFault, NoMemory, TooLong}
use Rattle.serving.specs.group_engine.Mounts.{MountedGroup}
use Rattle.serving.specs.declared.manner.Manner.{Manner}
use Rattle.serving.specs.declared.manner.Manner.TheVariants.{InShort}
use Rattle.serving.specs.Acts.{scene}
use Rattle.serving.specs.Manners.{AreTold}
use Rattle.serving.specs.session.Quiet.{quiet}
use Rattle.serving.specs.session.Sessions.{Roster, SessionView, roster, roster_of}
use Rattle.serving.specs.Serves.{limit, AreFirstCommands, AreCommandsAnswered, Serves, is_printed_whole}
use Rattle.asm_run.specs.Headline.{first_state, status_number, GeneratedRun, RunOutcome, Transcript}
use Rattle.asm_run.proofs.Counting.{count-generated}
use Rattle.asm_run.proofs.Cuts.{commands-are}
use Rattle.command_line.specs.Paths.{has_quote}
use Rattle.asm_run.proofs.Crashes.{starts-stands, held-before, crash-safe}
use Rattle.asm_run.proofs.Manners.{all-generated}
use Rattle.asm_world.specs.Below.{GroupBelow}

cut-from_printed : (h : List (PrintedMove Counts)) → IsPrinted h → IsPrintedToCut h
cut-from_printed [] p = tt
cut-from_printed (e ∷ h) p = inl (p.0, cut-from_printed h p.1)

either-cut : (whole : Bool) (h : List (PrintedMove Counts)) → MatchBool whole (IsPrinted h) (IsPrintedToCut h) → IsPrintedToCut h
either-cut true h p = cut-from_printed h p
either-cut false h p = p

consumes-none : (left : Option Bytes) → Consumes left left []
consumes-none None = tt
consumes-none (Some bytes) = refl

-- ---- statuses

front-at : (script script' : List ℕ) (commands commands' : List Bytes) (left : Option Bytes) → script ≡ script' → commands ≡ commands' →
    AreFirstCommands script commands left → AreFirstCommands script' commands' left
front-at script script' commands commands' left e f front =
    let P : List ℕ → Type 0 = λ xs. AreFirstCommands xs commands left in
    let Q : List (List ℕ) → Type 0 = λ cs. AreFirstCommands script' cs left in
    subst Q f (subst P e front)

outcome-ok : (status : ℕ) (script : List ℕ) (history : List (PrintedMove Counts)) (left : Option Bytes) (end : State Counts) → status ≤ 1 →
    length script ≤ limit → IsAtEnd left → answered history ≡ commands_of script → IsPrinted history → end.phase ≡ Resting →
    (status ≡ 0 → has_refusal history ≡ false) → (status ≡ 1 → has_refusal history ≡ true) → RunOutcome status script history left end
outcome-ok status script history left end low short at_end all printed rest none some =
    let same : script ≡ take limit script = sym (take_all limit script short) in
    record {
      usage = λ e. absurd (omega (arith, e));
      short = omega arith;
      too_long = λ e. absurd (omega (arith, e));
      past_limit = λ e. absurd (omega (arith, e));
      to_end = λ _. at_end;
      all_answered = λ _. all;
      no_refusal = none;
      some_refusal = some;
      at_fault = λ e. absurd (omega (arith, e));
      at_limit = λ e. absurd (omega (arith, e));
      front = inr (at_end, ([], ap commands_of (sym same) ∙ sym all ∙ sym (append-nil (answered history))));
      whole = λ _ _. printed;
      rests = λ _ _. rest;
    }

outcome-fault : (script : List ℕ) (history : List (PrintedMove Counts)) (left : Option Bytes) (end : State Counts) →
    length script ≤ limit → answered history ≡ ended_commands script → IsPrinted history → end.phase ≡ Resting → RunOutcome 3 script history left end
outcome-fault script history left end short all printed rest = record {
  usage = λ e. absurd (omega (arith, e));
  short = omega arith;
  too_long = λ e. absurd (omega (arith, e));
  past_limit = λ e. absurd (omega (arith, e));
  to_end = λ e. absurd (omega (arith, e));
  all_answered = λ e. absurd (omega (arith, e));
  no_refusal = λ e. absurd (omega (arith, e));
  some_refusal = λ e. absurd (omega (arith, e));
  at_fault = λ _. all;
  at_limit = λ e. absurd (omega (arith, e));
  front = inl ([], ap ended_commands (take_all limit script short) ∙ sym all ∙ sym (append-nil (answered history)));
  whole = λ _ _. printed;
  rests = λ _ _. rest;
}

outcome-long : (script : List ℕ) (history : List (PrintedMove Counts)) (left : Option Bytes) (end : State Counts) →
    length script ≡ limit + 1 → answered history ≡ ended_commands (take limit script) → IsPrinted history → end.phase ≡ Resting → RunOutcome 6 script history left end
outcome-long script history left end long all printed rest = record {
  usage = λ e. absurd (omega (arith, e));
  short = omega arith;
  too_long = λ _. long;
  past_limit = λ _. refl;
  to_end = λ e. absurd (omega (arith, e));
  all_answered = λ e. absurd (omega (arith, e));
  no_refusal = λ e. absurd (omega (arith, e));
  some_refusal = λ e. absurd (omega (arith, e));
  at_fault = λ e. absurd (omega (arith, e));
  at_limit = λ _. all;
  front = inl ([], sym all ∙ sym (append-nil (answered history)));
  whole = λ _ _. printed;
  rests = λ _ _. rest;
}

pub outcome-cut : (status : ℕ) (script : List ℕ) (history : List (PrintedMove Counts)) (left : Option Bytes) (end : State Counts) → (status ≡ 4) ⊎ (status ≡ 5) →
    length script ≤ limit → AreFirstCommands script (answered history) left → RunOutcome status script history left end
outcome-cut status script history left end is short front =
    let big : 4 ≤ status = elim is [ inl e ↦ omega (arith, e) | inr e ↦ omega (arith, e) ] in
    let small : status ≤ 5 = elim is [ inl e ↦ omega (arith, e) | inr e ↦ omega (arith, e) ] in
    record {
      usage = λ e. absurd (omega (arith, e));
      short = omega arith;
      too_long = λ e. absurd (omega (arith, e));
      past_limit = λ e. absurd (omega (arith, e));
      to_end = λ e. absurd (omega (arith, e));
      all_answered = λ e. absurd (omega (arith, e));
      no_refusal = λ e. absurd (omega (arith, e));
      some_refusal = λ e. absurd (omega (arith, e));
      at_fault = λ e. absurd (omega (arith, e));
      at_limit = λ e. absurd (omega (arith, e));
      front = front-at script (take limit script) (answered history) (answered history) left (sym (take_all limit script short)) refl front;
      whole = λ f g. absurd (elim is [ inl e ↦ f e | inr e ↦ g e ]);
      rests = λ f g. absurd (elim is [ inl e ↦ f e | inr e ↦ g e ]);
    }

pub outcome-of : (served : Result (Unit {0}) Stop) (refused : Bool) (script : List ℕ) (commands : List Bytes) (history : List (PrintedMove Counts)) (left : Option Bytes) (end : State Counts) →
    AreCommandsAnswered served script commands left → answered history ≡ commands → MatchBool (is_printed_whole served) (IsPrinted history) (IsPrintedToCut history) →
    (is_printed_whole served ≡ true → end.phase ≡ Resting) → refused ≡ has_refusal history → RunOutcome (status_number served refused) script history left end
outcome-of (Ok u) false script commands history left end a e printed rest refusal =
    outcome-ok 0 script history left end (omega arith) a.0 a.1 (e ∙ a.2) printed (rest refl) (λ _. sym refusal) (λ f. absurd (omega (arith, f)))
outcome-of (Ok u) true script commands history left end a e printed rest refusal =
    outcome-ok 1 script history left end (omega arith) a.0 a.1 (e ∙ a.2) printed (rest refl) (λ f. absurd (omega (arith, f))) (λ _. sym refusal)
outcome-of (Err ReadFault) refused script commands history left end a e printed rest refusal =
    outcome-fault script history left end a.0 (e ∙ a.1) printed (rest refl)
outcome-of (Err TooLong) refused script commands history left end a e printed rest refusal =
    outcome-long script history left end a.0 (e ∙ a.1) printed (rest refl)
outcome-of (Err WriteFault) refused script commands history left end a e printed rest refusal =
    outcome-cut 4 script history left end (inl refl) a.0 (front-at script script commands (answered history) left refl (sym e) a.1)
outcome-of (Err NoMemory) refused script commands history left end a e printed rest refusal =
    outcome-cut 5 script history left end (inr refl) a.0 (front-at script script commands (answered history) left refl (sym e) a.1)

-- ---- the transcript

-- a session without groups that gave no id
pub first_roster : (session : SessionView) → session.groups ≡ [] → session.given ≡ 0 → roster_of session ≡ roster [] 0
first_roster session none zero = ap (λ (groups : List MountedGroup). roster groups session.given) none ∙ ap (λ (given : ℕ). roster [] given) zero

pub transcript-of : {C : Type 0} (gives : C → ℕ → C → Type 0) (paths : List Bytes) (Told : List (PrintedMove Counts) → Type 0) (served : Result (Unit {0}) Stop) (status : ℕ) (marks : List ℕ) (left left' taken taken' : Option Bytes)
    (clock clock' : C) (old new : BayState) (before last : Roster) (time' : ℕ) (phase : Phase) (w w' : World) (below' : ℕ → GroupBelow) (marks' : List ℕ) (refused : Bool) (manner manner' : Manner) →
    IsSound old → w.session ≡ [] → before ≡ roster [] 0 → status ≡ status_number served refused → marks ≡ marks' → (is_printed_whole served ≡ true → phase ≡ Resting) → ((history : List (PrintedMove Counts)) → AreTold manner history → Told history) →
    Serves gives paths served left left' (scene w quiet Resting 0 before old taken clock [] false manner) (scene w' below' phase time' last new taken' clock' marks' refused manner') →
    Transcript gives paths Told status marks left left' taken taken' clock clock' old new w
transcript-of gives paths Told served status marks left left' taken taken' clock clock' old new before last time' phase w w' below' marks' refused manner manner' sound none is_first is_status is_marks rest tells serves =
    let S : Roster → Type 0 = λ r.
    Serves gives paths served left left' (scene w quiet Resting 0 r old taken clock [] false manner) (scene w' below' phase time' last new taken' clock' marks' refused manner') in
    let s = subst S is_first serves in
    let p = s.acts in
    let end : State Counts = record { world = w'; below = below'; phase = phase; time = time'; calls = new.calls; counts = counts_of new } in
    let all : marks ≡ marks_in_history p.history = is_marks ∙ p.marks_grow in
    let P : List ℕ → Type 0 = λ ms. RisesFrom old.calls ms in
    let Q : ℕ → Type 0 = λ n. RunOutcome n s.taken p.history left' end in
    record {
      script = s.taken;
      history = p.history;
      end = end;
      consumed = s.consumed;
      written = p.written;
      told = tells p.history p.told;
      printed = either-cut (is_printed_whole served) p.history p.printed;
      run = p.run;
      on_disks = λ known starts. (p.holds known (starts-stands (length paths) known old w sound none starts)).held;
      ends = p.ends;
      times = p.readings;
      calls_are = refl;
      counts_are = refl;
      past = p.past;
      marks_are = all;
      marks_rise = subst P (sym all) (marks_rise_by (first_state w old) p.history p.calls_rise);
      crash_before = λ known starts before rest cut.
          held-before paths new (first_state w old) p.history known last w' (p.holds known (starts-stands (length paths) known old w sound none starts)) before rest cut;
      crash = λ known starts all.
          crash-safe paths new (first_state w old) end p.history known last p.ends refl all (p.holds known (starts-stands (length paths) known old w sound none starts));
      outcome = subst Q (sym is_status) (outcome-of served refused s.taken s.commands p.history left' end s.are_answered p.commands_are p.printed rest p.refusal);
    }

-- nothing was read and nothing done, for the words or for want of memory
pub transcript-none : {C : Type 0} (gives : C → ℕ → C → Type 0) (paths : List Bytes) (Told : List (PrintedMove Counts) → Type 0) (status : ℕ) (marks : List ℕ) (left taken : Option Bytes) (clock : C) (bay : BayState) (w : World) →
    IsSound bay → w.session ≡ [] → (status ≡ 2) ⊎ (status ≡ 5) → marks ≡ [] → Told [] → Transcript gives paths Told status marks left left taken taken clock clock bay bay w
unfolding cut
transcript-none gives paths Told status marks left taken clock bay w sound first is none told =
    let P : List ℕ → Type 0 = λ ms. RisesFrom bay.calls ms in
    let big : 2 ≤ status = elim is [ inl e ↦ omega (arith, e) | inr e ↦ omega (arith, e) ] in
    let other : (status ≡ 3) ⊎ (status ≡ 6) → ⊥ = λ e. elim is [
      | inl f ↦ elim e [ inl h ↦ omega (arith, f, h) | inr h ↦ omega (arith, f, h) ]
      | inr f ↦ elim e [ inl h ↦ omega (arith, f, h) | inr h ↦ omega (arith, f, h) ]
    ] in
    record {
      script = [];
      history = [];
      end = first_state w bay;
      consumed = consumes-none left;
      written = Appends-none taken;
      told = told;
      printed = tt;
      run = tt;
      on_disks = λ known starts. tt;
      ends = refl;
      times = refl;
      calls_are = refl;
      counts_are = refl;
      past = λ m image before is. is;
      marks_are = none;
      marks_rise = subst P (sym none) tt;
      crash_before = λ known starts before rest cut.
          held-before paths bay (first_state w bay) [] known (roster [] 0) w (record { held = tt; now = λ all. starts-stands (length paths) known bay w sound first starts }) before rest cut;
      crash = λ known starts all.
          crash-safe paths bay (first_state w bay) (first_state w bay) [] known (roster [] 0) refl refl all (record { held = tt; now = λ all. starts-stands (length paths) known bay w sound first starts });
      outcome = record {
        usage = λ _. (refl, refl);
        short = omega arith;
        too_long = λ e. absurd (other (inr e));
        past_limit = λ e. absurd (omega (arith, e));
        to_end = λ e. absurd (omega (arith, e));
        all_answered = λ e. absurd (omega (arith, e));
        no_refusal = λ e. absurd (omega (arith, e));
        some_refusal = λ e. absurd (omega (arith, e));
        at_fault = λ e. absurd (other (inl e));
        at_limit = λ e. absurd (other (inr e));
        front = inl ([], refl);
        whole = λ _ _. tt;
        rests = λ _ _. refl;
      };
    }

-- ---- the generator's script

-- where the script was read to its end, all commands were answered
answers-all : {C : Type 0} (gives : C → ℕ → C → Type 0) (number : ℕ) (paths : List Bytes) (Told : List (PrintedMove Counts) → Type 0) (status : ℕ) (marks : List ℕ) (rest : Bytes) (taken taken' : Option Bytes) (clock clock' : C) (old new : BayState) (w : World)
    (t : Transcript gives paths Told status marks (Some (generated_script number paths)) (Some rest) taken taken' clock clock' old new w) → has_quote paths ≡ false → status ≤ 1 → answered t.history ≡ generated number paths
answers-all gives number paths Told status marks rest taken taken' clock clock' old new w t unquoted small =
    let at_end : rest ≡ [] = t.outcome.to_end small in
    let whole : generated_script number paths ≡ t.script = t.consumed ∙ ap (λ bytes. t.script ++ bytes) at_end ∙ append-nil t.script in
    t.outcome.all_answered small ∙ ap commands_of (sym whole) ∙ commands-are number paths unquoted

pub generated-of : {C : Type 0} (gives : C → ℕ → C → Type 0) (number : ℕ) (paths : List Bytes) (served : Result (Unit {0}) Stop) (status : ℕ) (marks : List ℕ) (text rest : Bytes) (taken taken' : Option Bytes)
    (clock clock' : C) (old new : BayState) (before last : Roster) (time' : ℕ) (phase : Phase) (w w' : World) (below' : ℕ → GroupBelow) (marks' : List ℕ) (refused : Bool) (manner' : Manner) →
    IsSound old → w.session ≡ [] → before ≡ roster [] 0 → status ≡ status_number served refused → marks ≡ marks' → (is_printed_whole served ≡ true → phase ≡ Resting) → length paths ≡ 4 → has_quote paths ≡ false → text ≡ generated_script number paths →
    Serves gives paths served (Some text) (Some rest) (scene w quiet Resting 0 before old taken clock [] false (InShort 1023)) (scene w' below' phase time' last new taken' clock' marks' refused manner') →
    GeneratedRun gives number paths status marks taken taken' clock clock' old new w
generated-of gives number paths served status marks text rest taken taken' clock clock' old new before last time' phase w w' below' marks' refused manner' sound none is_first is_status is_marks rests four unquoted is s =
    let Told : List (PrintedMove Counts) → Type 0 = IsGenerated (length (generated number paths)) in
    let T : Bytes → Type 0 = λ bytes. Transcript gives paths Told status marks (Some bytes) (Some rest) taken taken' clock clock' old new w in
    let all = subst T is (transcript-of gives paths Told served status marks (Some text) (Some rest) taken taken' clock clock' old new before last time' phase w w' below' marks' refused (InShort 1023) manner'
    sound none is_first is_status is_marks rests (λ history told. let G : ℕ → Type 0 = λ n. IsGenerated n history in subst G (sym (count-generated number paths four)) (all-generated 1023 history told)) s) in
    record { rest = rest; transcript = all; all_answered = answers-all gives number paths Told status marks rest taken taken' clock clock' old new w all unquoted }

pub generated-none : {C : Type 0} (gives : C → ℕ → C → Type 0) (number : ℕ) (paths : List Bytes) (status : ℕ) (marks : List ℕ) (taken : Option Bytes) (clock : C) (bay : BayState) (w : World) →
    IsSound bay → w.session ≡ [] → (status ≡ 2) ⊎ (status ≡ 5) → marks ≡ [] → GeneratedRun gives number paths status marks taken taken clock clock bay bay w
generated-none gives number paths status marks taken clock bay w sound first is none = record {
  rest = generated_script number paths;
  transcript = transcript-none gives paths (IsGenerated (length (generated number paths))) status marks (Some (generated_script number paths)) taken clock bay w sound first is none tt;
  all_answered = λ small. absurd (elim is [ inl e ↦ omega (arith, e, small) | inr e ↦ omega (arith, e, small) ]);
}
