-- How a pattern is compared with a name, piece by piece between its stars. Both are folded.
use Rattle.std.specs.Prelude.{ℕ, Bool, ◌==◌, [], ◌∷◌, if◌then◌else◌}
use Rattle.std.specs.List.{list_any}
use Rattle.asm_group.specs.Names.{Bytes, folded}
use Rattle.asm_world.specs.Listings.{matches, tails}
use Rattle.verb_paths.specs.declared.pattern.Meeting.{Meeting as CodeMeeting}
use Rattle.verb_paths.specs.declared.pattern.Meeting.TheVariants as code

-- they differ, are the same, or are the same up to a `*`: what stands behind it, and the name from there on
pub data Meeting : Type 0 where
  Differs : Meeting
  SameName : Meeting
  Star : (pattern name : Bytes) → Meeting

abbrev pub behind_byte : ℕ → Bytes → (Bytes → Meeting) → Meeting
behind_byte p [] more = Differs
behind_byte p (b ∷ name) more = if p == b then more name else Differs

abbrev pub at_end : Bytes → Meeting
at_end [] = SameName
at_end (b ∷ name) = Differs

-- how they meet up to the first `*`
abbrev pub meet : Bytes → Bytes → Meeting
meet [] name = at_end name
meet (p ∷ pattern) name = if p == 42 then Star pattern name else behind_byte p name (λ rest. meet pattern rest)

abbrev pub meeting_seen : CodeMeeting → Meeting
meeting_seen code.Differs = Differs
meeting_seen code.Same = SameName
meeting_seen (code.Star pattern name) = Star (folded pattern.now) (folded name.now)

-- the pattern matches the name from some byte on, or its end
abbrev pub matches_from : Bytes → Bytes → Bool
matches_from pattern name = list_any (λ rest. matches pattern rest) (tails name)
