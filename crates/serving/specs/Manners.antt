-- How the texts of a run are told.
use Rattle.std.specs.Prelude.{◌≡◌, ⊤, ◌-◌, ◌==◌, List, [], ◌∷◌, if◌then◌else◌}
use Rattle.asm_group.specs.Names.{Bytes}
use Rattle.asm_world.specs.Run.{PrintedMove, SessionMove, Starts, Expires, Answers, Slices, Rests, Stops, Style, Full, Short, Last}
use Rattle.serving.specs.declared.manner.Manner.{Manner}
use Rattle.serving.specs.declared.manner.Manner.TheVariants.{InFull, InShort}

-- the next reply
abbrev pub reply_style : Manner → Style
reply_style InFull = Full
reply_style (InShort left) = if left == 1 then Last else Short

-- an event
abbrev pub event_style : Manner → Style
event_style InFull = Full
event_style (InShort left) = Short

-- the bytes that are printed for the line of an event
abbrev pub line_in : Manner → Bytes → Bytes
line_in InFull line = line
line_in (InShort left) line = []

abbrev pub style_of : Manner → SessionMove → Style
style_of manner (Answers found text reply) = reply_style manner
style_of manner (Starts time) = event_style manner
style_of manner (Expires event) = event_style manner
style_of manner (Slices event) = event_style manner
style_of manner Rests = event_style manner
style_of manner Stops = event_style manner

-- after a reply one command less is left
abbrev pub after_reply : Manner → Manner
after_reply InFull = InFull
after_reply (InShort left) = InShort (left - 1)

abbrev pub after_move : Manner → SessionMove → Manner
after_move manner (Answers found text reply) = after_reply manner
after_move manner (Starts time) = manner
after_move manner (Expires event) = manner
after_move manner (Slices event) = manner
after_move manner Rests = manner
after_move manner Stops = manner

-- after all these moves
abbrev pub after_moves : {Counts : Type 0} → Manner → List (PrintedMove Counts) → Manner
after_moves manner [] = manner
after_moves manner (e ∷ es) = after_moves (after_move manner e.move) es

-- each text is told in the manner of its move
abbrev pub AreTold : {Counts : Type 0} → Manner → List (PrintedMove Counts) → Type 0
AreTold manner [] = ⊤
AreTold manner (e ∷ es) = (e.style ≡ style_of manner e.move) × AreTold (after_move manner e.move) es
