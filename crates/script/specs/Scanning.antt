-- How far the front of a script has been scanned.
use Rattle.std.specs.Prelude.{◌≡◌, ◌+◌, ◌-◌, ◌≤◌, ◌<◌, ℕ, Bool, true, false, List, [], ◌∷◌, ◌++◌, length, take, drop}
use Rattle.script.specs.Script.{ScriptPlace, between, comment, line, in_statement, in_quotes, onto, cut}
use Rattle.script.specs.declared.cutter.State.{State}
use Rattle.script.specs.declared.cutter.State.TheVariants.{Gap, Comment, Line, Statement, Quote}
use Rattle.script.specs.declared.cutter.Cutter.{Cutter}
use Rattle.script.specs.declared.cutter.Span.{Span}
use Rattle.script.specs.declared.cutter.Onward.{Onward}
use Rattle.script.specs.declared.cutter.Onward.TheVariants as onward
use Rattle.script.specs.declared.cutter.Scan.{Scan}
use Rattle.script.specs.declared.cutter.Scan.TheVariants as scan
use Rattle.script.specs.declared.cutter.Step.{Step}
use Rattle.script.specs.declared.cutter.Step.TheVariants.{Skip, Take, EndsBefore, EndsWith, Waits}

abbrev pub place_of_state : State → ScriptPlace
place_of_state Gap = between
place_of_state Comment = comment
place_of_state Line = line
place_of_state Statement = in_statement
place_of_state Quote = in_quotes

-- no command stands open
abbrev pub IsGap : ScriptPlace → Type 0
IsGap between = Unit {0}
IsGap comment = Unit {0}
IsGap line = ⊥
IsGap in_statement = ⊥
IsGap in_quotes = ⊥

-- a command stands open
abbrev pub IsCommandOpen : ScriptPlace → Type 0
IsCommandOpen between = ⊥
IsCommandOpen comment = ⊥
IsCommandOpen line = Unit {0}
IsCommandOpen in_statement = Unit {0}
IsCommandOpen in_quotes = Unit {0}

-- the bytes go onto the front of the first command
unfoldable pub onto_all : List ℕ → List (List ℕ) → List (List ℕ)
onto_all [] commands = commands
onto_all (b ∷ bytes) commands = onto b (onto_all bytes commands)

-- Whatever bytes follow, the commands from one place on are those from the other, with these bytes put before the first.
abbrev pub Leads : ScriptPlace → List ℕ → List ℕ → ScriptPlace → List ℕ → Type 0
Leads from bytes front to rest = (closed : Bool) (more : List ℕ) →
    cut closed from (bytes ++ more) ≡ onto_all front (cut closed to (rest ++ more))

-- where the first byte of the open command stands, or of what is left of the gap
abbrev pub opening_place : ScriptPlace → ScriptPlace
opening_place between = between
opening_place comment = comment
opening_place line = between
opening_place in_statement = between
opening_place in_quotes = between

-- Of these bytes those before `start` are a gap, and those from there to `at` belong to the command that stands open.
pub record Scanned (from : ScriptPlace) (bytes : List ℕ) (start at : ℕ) (place : ScriptPlace) : Type 0 where
  pub order : start ≤ at
  pub within : at ≤ length bytes
  pub gap : IsGap place → start ≡ at
  pub some : IsCommandOpen place → start < at
  pub skipped : Leads from bytes [] (opening_place place) (drop start bytes)
  pub taken : Leads (opening_place place) (drop start bytes) (take (at - start) (drop start bytes)) place (drop at bytes)

abbrev pub IsCutterOf : List ℕ → Cutter → Type 0
IsCutterOf bytes c = Scanned (place_of_state c.from) bytes c.start c.at (place_of_state c.state)

-- at the front of a script, or behind a command
abbrev pub IsFresh : Cutter → Type 0
IsFresh c = (c.from ≡ Gap) × (c.start ≡ 0) × (c.at ≡ 0) × (c.state ≡ Gap)

-- It goes on with more bytes behind these.
abbrev pub GoesOnWithMore : Type 0
GoesOnWithMore = (bytes more : List ℕ) (c : Cutter) → IsCutterOf bytes c → IsCutterOf (bytes ++ more) c

-- Whatever bytes follow, the first command from the place on is this one, and then come those of the rest.
abbrev pub FirstIs : ScriptPlace → List ℕ → List ℕ → List ℕ → Type 0
FirstIs from bytes command rest = (closed : Bool) (more : List ℕ) →
    cut closed from (bytes ++ more) ≡ command ∷ cut closed between (rest ++ more)

-- a command that the end of the script ends, where there is one
abbrev pub last_command : List ℕ → List (List ℕ)
last_command [] = []
last_command (b ∷ bytes) = (b ∷ bytes) ∷ []

-- No command from the place on has its end among the bytes. Where the script ends with them, those from `start` on are its last command.
abbrev pub Unended : ScriptPlace → List ℕ → ℕ → Type 0
Unended from bytes start = (cut false from bytes ≡ []) × (cut true from bytes ≡ last_command (drop start bytes))

-- What the first of these bytes does at a place.
abbrev pub Steps : ScriptPlace → List ℕ → Step → Type 0
Steps place [] step = Unit {0}
Steps place (b ∷ bytes) (Skip next) = IsGap place × IsGap (place_of_state next) × Leads place (b ∷ bytes) [] (place_of_state next) bytes
Steps place (b ∷ bytes) (Take next) = (opening_place place ≡ between) × IsCommandOpen (place_of_state next) × Leads place (b ∷ bytes) (b ∷ []) (place_of_state next) bytes
Steps place (b ∷ bytes) EndsBefore = IsCommandOpen place × FirstIs place (b ∷ bytes) [] (b ∷ bytes)
Steps place (b ∷ bytes) EndsWith = IsCommandOpen place × FirstIs place (b ∷ bytes) (b ∷ []) bytes
Steps place (b ∷ bytes) Waits = (place ≡ between) × Unended between (b ∷ bytes) 0 × (length bytes < 6)

-- The span is the first command from the place on, and its end is among the bytes.
pub record IsFirst (from : ScriptPlace) (bytes : List ℕ) (span : Span) : Type 0 where
  pub within : span.at + span.len ≤ length bytes
  pub progress : 0 < span.len
  pub first : FirstIs from bytes (take span.len (drop span.at bytes)) (drop (span.at + span.len) bytes)

-- What looking at one byte comes to.
abbrev pub Goes : Cutter → List ℕ → Onward → Type 0
Goes c bytes (onward.Further next) = IsCutterOf bytes next × (next.at ≡ c.at + 1) × (next.from ≡ c.from)
Goes c bytes (onward.Found span) = IsFirst (place_of_state c.from) bytes span
Goes c bytes onward.Waits = Unended (place_of_state c.from) bytes c.start × (length bytes ≤ c.at + 6)

-- What scanning to the end of a command or of the bytes comes to.
abbrev pub ComesTo : Cutter → List ℕ → Scan → Type 0
ComesTo c bytes (scan.Found span) = IsFirst (place_of_state c.from) bytes span
ComesTo c bytes (scan.Open next) = IsCutterOf bytes next × (next.from ≡ c.from) × Unended (place_of_state c.from) bytes next.start × (length bytes ≤ next.at + 6)
