-- The script as it is read and answered: how each step goes on, and how each way to stop ends.
use Rattle.std.proofs.Common.{◌≡◌, ℕ, ◌+◌, ◌-◌, ◌≤◌, true, false, List, [], ◌++◌, length, Option, Result, Ok, Err, OnOk, IfErr, is_ok, inl, inr, refl, sym, ◌∙◌, ap, subst, append_assoc, arith}
use Rattle.std.proofs.lemmas.Bool.{false≢true}
use Rattle.std.proofs.lemmas.List.{append-nil, take_at, length-append}
use Rattle.std.specs.Io.KnownBytes.{Consumes}
use Rattle.asm_group.specs.Names.{Bytes}
use Rattle.asm_world.specs.Run.{Phase, Resting}
use Rattle.script.specs.Script.{ScriptPlace, between, cut, ended_commands}
use Rattle.script.specs.Scanning.{place_of_state}
use Rattle.script.specs.declared.cutter.State.{State}
use Rattle.script.specs.declared.cutter.State.TheVariants.{Gap}
use Rattle.serving.specs.declared.stop.Stop.{Stop}
use Rattle.serving.specs.declared.stop.Stop.TheVariants.{ReadFault, WriteFault, NoMemory, TooLong}
use Rattle.serving.specs.Acts.{Scene, Acts}
use Rattle.serving.specs.Stops.{IsOutputStop}
use Rattle.serving.specs.Serves.{BeginsFrom, limit, IsReadPiece, AreFirstCommands, Serves, is_printed_whole}
use Rattle.serving.proofs.Chains.{acts-then, acts-cut}
use Rattle.serving.proofs.Pieces.{begins-then, begins-more, begins-all, begins-none, consumes-none, consumes-then}

-- what was taken so far, so many bytes, and of it answered, and still pending from a place on
pub record Taken (left left' : Option (List ℕ)) (taken : List ℕ) (count : ℕ) (commands : List Bytes) (place : ScriptPlace) (pending : List ℕ) : Type 0 where
  pub consumed : Consumes left left' taken
  pub counted : length taken ≡ count
  pub short : count ≤ limit
  pub begins : BeginsFrom between taken commands place pending
  pub none_ended : cut false place pending ≡ []

-- all that has ended was answered
all-ended : (left left' : Option (List ℕ)) (taken : List ℕ) (count : ℕ) (commands : List Bytes) (place : ScriptPlace) (pending : List ℕ) →
    Taken left left' taken count commands place pending → commands ≡ ended_commands taken
all-ended left left' taken count commands place pending t =
    sym (begins-all false between place taken pending commands t.begins ∙ ap (λ cs. commands ++ cs) t.none_ended ∙ append-nil commands)

module _ {C : Type 0} (gives : C → ℕ → C → Type 0) (paths : List Bytes) where
  pub stops-reading : (stop : Stop) (left left' left'' : Option (List ℕ)) (taken : List ℕ) (count : ℕ) (commands : List Bytes) (place : ScriptPlace)
      (pending pending' piece : List ℕ) (old new : Scene C) → Taken left left' taken count commands place pending → Acts gives paths true commands old new →
      Consumes left' left'' piece → IsReadPiece (Err stop) (limit - count) piece pending pending' left'' → Serves gives paths (Err stop) left left'' old new
  stops-reading ReadFault left left' left'' taken count commands place pending pending' piece old new t acts consumed is =
      let P : List ℕ → Type 0 = λ xs. Consumes left left'' xs in
      let counted : length taken ≡ count = t.counted in
      let short : count ≤ limit = t.short in
      record {
        taken = taken;
        commands = commands;
        consumed = subst P (ap (λ xs. taken ++ xs) is ∙ append-nil taken) (consumes-then left left' left'' taken piece t.consumed consumed);
        are_answered = (omega arith, all-ended left left' taken count commands place pending t);
        acts = acts;
      }
  stops-reading NoMemory left left' left'' taken count commands place pending pending' piece old new t acts consumed is =
      let counted : length taken ≡ count = t.counted in
      let short : count ≤ limit = t.short in
      let longer = length-append taken piece in
      record {
        taken = taken ++ piece;
        commands = commands;
        consumed = consumes-then left left' left'' taken piece t.consumed consumed;
        are_answered = (
          omega (arith, longer, is),
          inl (cut false place (pending ++ piece), begins-all false between place (taken ++ piece) (pending ++ piece) commands (begins-more between place taken pending piece commands t.begins)),
        );
        acts = acts-cut gives paths commands old new acts;
      }
  stops-reading TooLong left left' left'' taken count commands place pending pending' piece old new t acts consumed is =
      let counted : length taken ≡ count = t.counted in
      let short : count ≤ limit = t.short in
      let full : length taken ≡ limit = omega (arith, is.0) in
      let longer = length-append taken piece in
      record {
        taken = taken ++ piece;
        commands = commands;
        consumed = consumes-then left left' left'' taken piece t.consumed consumed;
        are_answered = (omega (arith, longer, is.1), all-ended left left' taken count commands place pending t ∙ ap ended_commands (sym (take_at taken piece limit full)));
        acts = acts;
      }
  stops-reading WriteFault left left' left'' taken count commands place pending pending' piece old new t acts consumed is = absurd is

-- what was taken with one piece more
taken-more : (left left' left'' : Option (List ℕ)) (taken : List ℕ) (count more : ℕ) (commands : List Bytes) (place : ScriptPlace) (pending pending' piece : List ℕ) →
    Taken left left' taken count commands place pending → Consumes left' left'' piece → IsReadPiece (Ok more) (limit - count) piece pending pending' left'' →
    Consumes left left'' (taken ++ piece) × (length (taken ++ piece) ≡ count + more) × (count + more ≤ limit) × BeginsFrom between (taken ++ piece) commands place pending'
taken-more left left' left'' taken count more commands place pending pending' piece t consumed is =
    let counted : length taken ≡ count = t.counted in
    let short : count ≤ limit = t.short in
    let P : List ℕ → Type 0 = λ xs. BeginsFrom between (taken ++ piece) commands place xs in (
      consumes-then left left' left'' taken piece t.consumed consumed,
      omega (arith, length-append taken piece, is.1),
      omega (arith, is.2),
      subst P (sym is.0) (begins-more between place taken pending piece commands t.begins),
    )

pub goes-on : (left left' left'' : Option (List ℕ)) (taken : List ℕ) (count more : ℕ) (commands some : List Bytes) (place to place' : ScriptPlace) (pending pending' piece rest rest' : List ℕ) →
    Taken left left' taken count commands place pending → Consumes left' left'' piece → IsReadPiece (Ok more) (limit - count) piece pending pending' left'' →
    BeginsFrom place pending' some to rest → to ≡ place' → rest ≡ rest' → cut false place' rest' ≡ [] → Taken left left'' (taken ++ piece) (count + more) (commands ++ some) place' rest'
goes-on left left' left'' taken count more commands some place to place' pending pending' piece rest rest' t consumed is begins there same none =
    let m = taken-more left left' left'' taken count more commands place pending pending' piece t consumed is in
    let begins' : BeginsFrom place pending' some place' rest' = subst (λ p. BeginsFrom place pending' some p rest') there (subst (λ xs. BeginsFrom place pending' some to xs) same begins) in
    record {
      consumed = m.0;
      counted = m.1;
      short = m.2;
      begins = begins-then between place place' (taken ++ piece) pending' rest' commands some m.3 begins';
      none_ended = none;
    }

module _ {C : Type 0} (gives : C → ℕ → C → Type 0) (paths : List Bytes) where
  -- an output stop answers a front of the commands
  stops-at_front : (stop : Stop) (before after : ℕ) (left left' : Option (List ℕ)) (taken : List ℕ) (commands : List Bytes) (old new : Scene C) →
      IsOutputStop stop before after → Consumes left left' taken → length taken ≤ limit → AreFirstCommands taken commands left' → Acts gives paths false commands old new → Serves gives paths (Err stop) left left' old new
  stops-at_front ReadFault before after left left' taken commands old new output consumed short front acts = absurd output
  stops-at_front TooLong before after left left' taken commands old new output consumed short front acts = absurd output
  stops-at_front WriteFault before after left left' taken commands old new output consumed short front acts =
      record { taken = taken; commands = commands; consumed = consumed; are_answered = (short, front); acts = acts }
  stops-at_front NoMemory before after left left' taken commands old new output consumed short front acts =
      record { taken = taken; commands = commands; consumed = consumed; are_answered = (short, front); acts = acts }

  -- a piece was taken, and some of the commands that have ended were answered before the program stopped
  pub stops-answering : (stop : Stop) (before after : ℕ) (left left' left'' : Option (List ℕ)) (taken : List ℕ) (count more : ℕ) (commands some : List Bytes) (place to : ScriptPlace)
      (pending pending' piece rest : List ℕ) (old mid new : Scene C) → Taken left left' taken count commands place pending → Acts gives paths true commands old mid →
      Consumes left' left'' piece → IsReadPiece (Ok more) (limit - count) piece pending pending' left'' → BeginsFrom place pending' some to rest → Acts gives paths false some mid new →
      IsOutputStop stop before after → Serves gives paths (Err stop) left left'' old new
  stops-answering stop before after left left' left'' taken count more commands some place to pending pending' piece rest old mid new t acts consumed is begins then output =
      let m = taken-more left left' left'' taken count more commands place pending pending' piece t consumed is in
      let all : BeginsFrom between (taken ++ piece) (commands ++ some) to rest = begins-then between place to (taken ++ piece) pending' rest commands some m.3 begins in
      stops-at_front stop before after left left'' (taken ++ piece) (commands ++ some) old new output m.0 (omega (arith, m.1, m.2))
      (inl (cut false to rest, begins-all false between to (taken ++ piece) rest (commands ++ some) all))
      (acts-then gives paths false commands some old mid new acts then)

  -- the source has ended, and the commands of what is pending are answered, or some of them
  pub ends : (result : Result (Unit {0}) Stop) (before after : ℕ) (left left' left'' : Option (List ℕ)) (taken : List ℕ) (count : ℕ) (commands some rest : List Bytes) (place : ScriptPlace)
      (pending pending' piece : List ℕ) (old mid new : Scene C) → Taken left left' taken count commands place pending → Acts gives paths true commands old mid →
      Consumes left' left'' piece → IsReadPiece (Ok 0) (limit - count) piece pending pending' left'' → cut true place pending' ≡ some ++ rest → OnOk result (rest ≡ []) →
      Acts gives paths (is_ok result) some mid new → IfErr result (λ stop. IsOutputStop stop before after) → Serves gives paths result left left'' old new
  ends (Ok u) before after left left' left'' taken count commands some rest place pending pending' piece old mid new t acts consumed is last all then output =
      let m = taken-more left left' left'' taken count 0 commands place pending pending' piece t consumed is in
      record {
        taken = taken ++ piece;
        commands = commands ++ some;
        consumed = m.0;
        are_answered = (
          omega (arith, m.1, m.2),
          is.3 refl,
          sym (begins-all true between place (taken ++ piece) pending' commands m.3 ∙ ap (λ cs. commands ++ cs) (last ∙ ap (λ cs. some ++ cs) all ∙ append-nil some)),
        );
        acts = acts-then gives paths true commands some old mid new acts then;
      }
  ends (Err stop) before after left left' left'' taken count commands some rest place pending pending' piece old mid new t acts consumed is last all then output =
      let m = taken-more left left' left'' taken count 0 commands place pending pending' piece t consumed is in
      stops-at_front stop before after left left'' (taken ++ piece) (commands ++ some) old new output m.0 (omega (arith, m.1, m.2))
      (inr (is.3 refl, (rest, begins-all true between place (taken ++ piece) pending' commands m.3 ∙ ap (λ cs. commands ++ cs) last ∙ sym (append_assoc commands some rest))))
      (acts-then gives paths false commands some old mid new acts then)

-- where everything was printed, the program rests
pub rests-output : (stop : Stop) (before after : ℕ) (phase : Phase) → IsOutputStop stop before after → is_printed_whole (Err stop) ≡ true → phase ≡ Resting
rests-output ReadFault before after phase output e = absurd output
rests-output TooLong before after phase output e = absurd output
rests-output WriteFault before after phase output e = absurd (false≢true e)
rests-output NoMemory before after phase output e = absurd (false≢true e)

pub rests-result : (result : Result (Unit {0}) Stop) (before after : ℕ) (phase : Phase) → OnOk result (phase ≡ Resting) → IfErr result (λ stop. IsOutputStop stop before after) →
    is_printed_whole result ≡ true → phase ≡ Resting
rests-result (Ok u) before after phase rests output e = rests
rests-result (Err stop) before after phase rests output e = rests-output stop before after phase output e

pub taken-none : (left : Option (List ℕ)) (from : State) (pending : List ℕ) → from ≡ Gap → pending ≡ [] → Taken left left [] 0 [] (place_of_state from) pending
unfolding cut
taken-none left from pending is e =
    let P : List ℕ → Type 0 = λ xs. Taken left left [] 0 [] (place_of_state from) xs in
    let Q : State → Type 0 = λ s. Taken left left [] 0 [] (place_of_state s) [] in
    subst P (sym e) (subst Q (sym is) record { consumed = consumes-none left; counted = refl; short = omega arith; begins = begins-none between []; none_ended = refl })

pub piece-at : (count count' room : ℕ) (taken old new new' : List ℕ) (left : Option (List ℕ)) → count ≡ count' → new' ≡ new →
    IsReadPiece (Ok count) room taken old new left → IsReadPiece (Ok count') room taken old new' left
piece-at count count' room taken old new new' left e f is =
    let P : ℕ → Type 0 = λ n. IsReadPiece (Ok n) room taken old new' left in
    let Q : List ℕ → Type 0 = λ xs. IsReadPiece (Ok count) room taken old xs left in
    subst P e (subst Q (sym f) is)
