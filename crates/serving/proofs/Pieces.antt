-- How answered commands and pending bytes follow the script.
use Rattle.std.proofs.Common.{◌≡◌, ℕ, ◌+◌, ◌-◌, ◌≤◌, Bool, true, false, List, [], ◌∷◌, ◌++◌, length, take, drop, Option, Some, None, refl, sym, ◌∙◌, ap, subst, append_assoc, arith}
use Rattle.std.proofs.lemmas.List.{append-nil, take_rest, drop-drop, length-drop}
use Rattle.std.specs.Io.KnownBytes.{Consumes}
use Rattle.asm_group.specs.Names.{Bytes}
use Rattle.script.specs.Script.{ScriptPlace, between, cut, commands_of}
use Rattle.script.specs.Scanning.{place_of_state, onto_all, Leads, FirstIs, IsCutterOf, IsFresh}
use Rattle.script.specs.declared.cutter.Cutter.{Cutter}
use Rattle.script.specs.declared.cutter.State.{State}
use Rattle.script.specs.declared.cutter.State.TheVariants.{Gap}
use Rattle.script.proofs.Going.{fresh}
use Rattle.bay.specs.State.{BayState}
use Rattle.asm_world.specs.World.{World}
use Rattle.asm_world.specs.Run.{Phase, Resting}
use Rattle.serving.specs.Acts.{Scene, Acts, scene}
use Rattle.serving.specs.declared.manner.Manner.{Manner}
use Rattle.serving.specs.Serves.{BeginsFrom}
use Rattle.disk_commands.specs.session.Sessions.{Roster}
use Rattle.asm_world.specs.Below.{GroupBelow}

-- ---- the commands from a place on

pub begins-none : (from : ScriptPlace) (bytes : List ℕ) → BeginsFrom from bytes [] from bytes
begins-none from bytes closed more = refl

pub begins-then : (from mid to : ScriptPlace) (a b c : List ℕ) (xs ys : List Bytes) → BeginsFrom from a xs mid b → BeginsFrom mid b ys to c → BeginsFrom from a (xs ++ ys) to c
begins-then from mid to a b c xs ys p q closed more =
    p closed more ∙ ap (λ zs. xs ++ zs) (q closed more) ∙ sym (append_assoc xs ys (cut closed to (c ++ more)))

pub begins-more : (from to : ScriptPlace) (a b more : List ℕ) (xs : List Bytes) → BeginsFrom from a xs to b → BeginsFrom from (a ++ more) xs to (b ++ more)
begins-more from to a b more xs p closed rest =
    ap (cut closed from) (append_assoc a more rest) ∙ p closed (more ++ rest)
    ∙ ap (λ zs. xs ++ cut closed to zs) (sym (append_assoc b more rest))

-- what has begun so, ends so
pub begins-all : (closed : Bool) (from to : ScriptPlace) (a b : List ℕ) (xs : List Bytes) → BeginsFrom from a xs to b → cut closed from a ≡ xs ++ cut closed to b
begins-all closed from to a b xs p =
    ap (cut closed from) (sym (append-nil a)) ∙ p closed [] ∙ ap (λ zs. xs ++ cut closed to zs) (append-nil b)

-- a gap has no command
gap-begins : (from to : ScriptPlace) (a b : List ℕ) → Leads from a [] to b → BeginsFrom from a [] to b
unfolding onto_all
gap-begins from to a b p closed more = p closed more

-- ---- a part of the pending bytes

-- the place of a command in the rest, and in the whole
in-rest : (bytes : List ℕ) (done at len from to : ℕ) → from ≡ done + at → to ≡ from + len →
    take len (drop at (take (length bytes - done) (drop done bytes))) ≡ take (to - from) (drop from bytes)
in-rest bytes done at len from to e f =
    let count : len ≡ to - from = omega arith in
    ap (λ xs. take len (drop at xs)) (take_rest bytes done) ∙ ap (take len) (drop-drop at done bytes)
    ∙ ap (λ k. take len (drop k bytes)) (sym e) ∙ ap (λ k. take k (drop from bytes)) count

after-rest : (bytes : List ℕ) (done at len from to : ℕ) → from ≡ done + at → to ≡ from + len →
    drop (at + len) (take (length bytes - done) (drop done bytes)) ≡ drop to bytes
after-rest bytes done at len from to e f =
    let place : done + (at + len) ≡ to = omega arith in
    ap (drop (at + len)) (take_rest bytes done) ∙ drop-drop (at + len) done bytes ∙ ap (λ k. drop k bytes) place

pub within-rest : (bytes shown : List ℕ) (done at len : ℕ) → shown ≡ bytes → done ≤ length bytes → at + len ≤ length (take (length shown - done) (drop done shown)) → done + at + len ≤ length bytes
within-rest bytes shown done at len is short within =
    let left : length (take (length shown - done) (drop done shown)) ≡ length shown - done = ap length (take_rest shown done) ∙ length-drop done shown in
    let same : length shown ≡ length bytes = ap length is in
    omega arith

-- a cutter stands in the rest as in the slice that shows it
pub shown-stands : (bytes shown : List ℕ) (done : ℕ) (c : Cutter) → shown ≡ bytes → IsCutterOf (take (length shown - done) (drop done shown)) c → IsCutterOf (drop done bytes) c
shown-stands bytes shown done c is s = subst (λ xs. IsCutterOf (drop done xs) c) is (subst (λ xs. IsCutterOf xs c) (take_rest shown done) s)

pub fresh-stands : (bytes : List ℕ) (c : Cutter) → IsFresh c → IsCutterOf bytes c
fresh-stands bytes c is = rw (is.0, is.1, is.2, is.3) (fresh bytes)

-- ---- one command more

step-in : (first place : ScriptPlace) (next : State) (bytes : List ℕ) (done at len from to : ℕ) (commands : List Bytes) → from ≡ done + at → to ≡ from + len → next ≡ Gap →
    BeginsFrom first bytes commands place (drop done bytes) →
    FirstIs place (take (length bytes - done) (drop done bytes)) (take len (drop at (take (length bytes - done) (drop done bytes)))) (drop (at + len) (take (length bytes - done) (drop done bytes))) →
    BeginsFrom first bytes (commands ++ take (to - from) (drop from bytes) ∷ []) (place_of_state next) (drop to bytes)
step-in first place next bytes done at len from to commands e f g before found =
    let rest : BeginsFrom place (drop done bytes) (take (to - from) (drop from bytes) ∷ []) between (drop to bytes) = λ closed more.
    ap (λ xs. cut closed place (xs ++ more)) (sym (take_rest bytes done)) ∙ found closed more
    ∙ ap (λ c. c ∷ cut closed between (drop (at + len) (take (length bytes - done) (drop done bytes)) ++ more)) (in-rest bytes done at len from to e f)
    ∙ ap (λ xs. take (to - from) (drop from bytes) ∷ cut closed between (xs ++ more)) (after-rest bytes done at len from to e f) in
    subst (λ s. BeginsFrom first bytes (commands ++ take (to - from) (drop from bytes) ∷ []) (place_of_state s) (drop to bytes)) (sym g)
    (begins-then first place between bytes (drop done bytes) (drop to bytes) commands (take (to - from) (drop from bytes) ∷ []) before rest)

-- the bytes are shown as a slice to the cutter, and to the command
pub ended-step : (first place : ScriptPlace) (next : State) (bytes shown shown' : List ℕ) (done at len from to : ℕ) (commands : List Bytes) → shown ≡ bytes → shown' ≡ bytes →
    from ≡ done + at → to ≡ from + len → next ≡ Gap → BeginsFrom first bytes commands place (drop done bytes) →
    FirstIs place (take (length shown - done) (drop done shown)) (take len (drop at (take (length shown - done) (drop done shown)))) (drop (at + len) (take (length shown - done) (drop done shown))) →
    BeginsFrom first bytes (commands ++ take (to - from) (drop from shown') ∷ []) (place_of_state next) (drop to bytes)
ended-step first place next bytes shown shown' done at len from to commands is is' e f g before found =
    let found' = subst (λ xs. FirstIs place (take (length xs - done) (drop done xs)) (take len (drop at (take (length xs - done) (drop done xs)))) (drop (at + len) (take (length xs - done) (drop done xs)))) is found in
    subst (λ xs. BeginsFrom first bytes (commands ++ take (to - from) (drop from xs) ∷ []) (place_of_state next) (drop to bytes)) (sym is')
    (step-in first place next bytes done at len from to commands e f g before found')

pub last-step : (first place : ScriptPlace) (next : State) (bytes : List ℕ) (done at len from to : ℕ) (commands : List Bytes) → from ≡ done + at → to ≡ from + len → next ≡ Gap →
    cut true first bytes ≡ commands ++ cut true place (drop done bytes) →
    cut true place (take (length bytes - done) (drop done bytes)) ≡ take len (drop at (take (length bytes - done) (drop done bytes))) ∷ commands_of (drop (at + len) (take (length bytes - done) (drop done bytes))) →
    cut true first bytes ≡ (commands ++ take (to - from) (drop from bytes) ∷ []) ++ cut true (place_of_state next) (drop to bytes)
last-step first place next bytes done at len from to commands e f g before found =
    before
    ∙ ap (λ cs. commands ++ cs) (ap (cut true place) (sym (take_rest bytes done)) ∙ found
    ∙ ap (λ c. c ∷ commands_of (drop (at + len) (take (length bytes - done) (drop done bytes)))) (in-rest bytes done at len from to e f)
    ∙ ap (λ xs. take (to - from) (drop from bytes) ∷ commands_of xs) (after-rest bytes done at len from to e f))
    ∙ sym (append_assoc commands (take (to - from) (drop from bytes) ∷ []) (commands_of (drop to bytes)))
    ∙ ap (λ s. (commands ++ take (to - from) (drop from bytes) ∷ []) ++ cut true (place_of_state s) (drop to bytes)) (sym g)

-- ---- the gap behind the last command that has ended

-- what is left is shown without its front
pub gap-step : (first to : ScriptPlace) (from now : State) (bytes rest : List ℕ) (done start : ℕ) (commands : List Bytes) → now ≡ from → rest ≡ drop (done + start) bytes →
    BeginsFrom first bytes commands (place_of_state from) (drop done bytes) → Leads (place_of_state now) (drop done bytes) [] to (drop start (drop done bytes)) → BeginsFrom first bytes commands to rest
gap-step first to from now bytes rest done start commands same is before gap =
    let left : drop start (drop done bytes) ≡ rest = drop-drop start done bytes ∙ sym is in
    let gap' : Leads (place_of_state from) (drop done bytes) [] to rest =
    subst (λ s. Leads (place_of_state s) (drop done bytes) [] to rest) same (subst (λ xs. Leads (place_of_state now) (drop done bytes) [] to xs) left gap) in
    subst (λ cs. BeginsFrom first bytes cs to rest) (append-nil commands)
    (begins-then first (place_of_state from) to bytes (drop done bytes) rest commands [] before (gap-begins (place_of_state from) to (drop done bytes) rest gap'))

pub gap-none : (to : ScriptPlace) (from now : State) (bytes shown rest : List ℕ) (done start : ℕ) → now ≡ from → shown ≡ bytes → rest ≡ drop (done + start) bytes →
    Leads (place_of_state now) (drop done bytes) [] to (drop start (drop done bytes)) → cut false (place_of_state from) (take (length shown - done) (drop done shown)) ≡ [] → cut false to rest ≡ []
gap-none to from now bytes shown rest done start same shows is gap none =
    let left : drop start (drop done bytes) ≡ rest = drop-drop start done bytes ∙ sym is in
    let all = begins-all false (place_of_state now) to (drop done bytes) rest [] (gap-begins (place_of_state now) to (drop done bytes) rest (subst (λ xs. Leads (place_of_state now) (drop done bytes) [] to xs) left gap)) in
    sym all ∙ ap (λ s. cut false (place_of_state s) (drop done bytes)) same ∙ ap (λ xs. cut false (place_of_state from) (drop done xs)) (sym shows)
    ∙ ap (cut false (place_of_state from)) (sym (take_rest shown done)) ∙ none

-- ---- acts

pub at-phase : {C : Type 0} (gives : C → ℕ → C → Type 0) (paths : List Bytes) (whole : Bool) (xs : List Bytes) (old : Scene C) (world : World) (below : ℕ → GroupBelow) (phase phase' : Phase) (time : ℕ) (roster : Roster) (bay : BayState)
    (taken : Option (List ℕ)) (clock : C) (marks : List ℕ) (refused : Bool) (manner : Manner) → phase ≡ phase' →
    Acts gives paths whole xs old (scene world below phase time roster bay taken clock marks refused manner) → Acts gives paths whole xs old (scene world below phase' time roster bay taken clock marks refused manner)
at-phase gives paths whole xs old world below phase phase' time roster bay taken clock marks refused manner e acts =
    let P : Phase → Type 0 = λ p. Acts gives paths whole xs old (scene world below p time roster bay taken clock marks refused manner) in subst P e acts

pub at-rest : {C : Type 0} (gives : C → ℕ → C → Type 0) (paths : List Bytes) (whole : Bool) (xs : List Bytes) (old : Scene C) (world : World) (below : ℕ → GroupBelow) (phase : Phase) (time : ℕ) (roster : Roster) (bay : BayState)
    (taken : Option (List ℕ)) (clock : C) (marks : List ℕ) (refused : Bool) (manner : Manner) → phase ≡ Resting →
    Acts gives paths whole xs old (scene world below phase time roster bay taken clock marks refused manner) → Acts gives paths whole xs old (scene world below Resting time roster bay taken clock marks refused manner)
at-rest gives paths whole xs old world below phase time roster bay taken clock marks refused manner e acts =
    let P : Phase → Type 0 = λ p. Acts gives paths whole xs old (scene world below p time roster bay taken clock marks refused manner) in subst P e acts

pub at-commands : {C : Type 0} (gives : C → ℕ → C → Type 0) (paths : List Bytes) (whole : Bool) (xs ys : List Bytes) (old new : Scene C) → xs ≡ ys → Acts gives paths whole xs old new → Acts gives paths whole ys old new
at-commands gives paths whole xs ys old new e acts = let P : List Bytes → Type 0 = λ zs. Acts gives paths whole zs old new in subst P e acts

pub at-paths : {C : Type 0} (gives : C → ℕ → C → Type 0) (paths paths' : List Bytes) (whole : Bool) (xs : List Bytes) (old new : Scene C) → paths ≡ paths' → Acts gives paths whole xs old new → Acts gives paths' whole xs old new
at-paths gives paths paths' whole xs old new e acts = let P : List Bytes → Type 0 = λ ps. Acts gives ps whole xs old new in subst P e acts

-- ---- what was taken from the source

pub consumes-none : (left : Option (List ℕ)) → Consumes left left []
consumes-none None = tt
consumes-none (Some xs) = refl

pub consumes-then : (a b c : Option (List ℕ)) (xs ys : List ℕ) → Consumes a b xs → Consumes b c ys → Consumes a c (xs ++ ys)
consumes-then None b c xs ys p q = tt
consumes-then (Some all) None c xs ys p q = absurd p
consumes-then (Some all) (Some mid) None xs ys p q = absurd q
consumes-then (Some all) (Some mid) (Some rest) xs ys p q = p ∙ ap (λ zs. xs ++ zs) q ∙ sym (append_assoc xs ys rest)
