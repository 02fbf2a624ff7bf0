-- All kinds of step as one relation, and rows of steps.
use Rattle.std.specs.Prelude.{◌≡◌, ℕ, List, [], ◌∷◌, ◌++◌, map, Option, Some}
use Rattle.asm_group.specs.Group.{Group}
use Rattle.asm_formats.specs.Header.{Header}
use Rattle.asm_formats.specs.Status.{Status}
use Rattle.asm_formats.specs.Among.{IsAmong}
use Rattle.asm_images.specs.Members.{ImageBytes, written}
use Rattle.asm_images.specs.Sound.{SoundBy}
use Rattle.asm_images.specs.Steps.{IsSpare, IsElsewhere, IsClaimed, IsBegun, IsStored, IsComplete, IsCopyCommitted, IsLeaving, IsJoining, IsNarrower}
use Rattle.asm_images.specs.Spans.{Span, freed, settled, IsPiece, IsSpanSettled}

-- what a step leads from and to: the image, the groups that it may hold, and the history
pub record Situation : Type 0 where
  pub image : ImageBytes
  pub groups : List Group
  pub completed : Option Status
  pub begun : List Status

abbrev pub IsSoundSituation : ℕ → Situation → Type 0
IsSoundSituation id x = SoundBy id x.image x.groups x.completed x.begun

-- One step leads from x to y.
pub data MovesTo (id : ℕ) (x y : Situation) : Type 0 where
  -- bytes change on which nothing rests
  spare : (new : ImageBytes) → IsSpare id x.image new x.completed x.begun → y ≡ record x { image = new } → MovesTo id x y
  -- a disk outside changes
  write_elsewhere : (slot : ℕ) (bytes : List ℕ) → IsElsewhere id x.image slot bytes → y ≡ record x { image = written x.image slot bytes } → MovesTo id x y
  -- a claim is put
  claim : (slot : ℕ) (bytes : List ℕ) → IsClaimed id x.image x.completed x.begun slot bytes → y ≡ record x { image = written x.image slot bytes } → MovesTo id x y
  -- a record is begun, stored in one slot, and complete
  begin : (r : Status) → IsBegun id x.image x.groups x.completed x.begun r → y ≡ record x { begun = x.begun ++ (r ∷ []) } → MovesTo id x y
  store : (r : Status) (slot : ℕ) (bytes : List ℕ) → IsStored id x.image x.completed x.begun r slot bytes → y ≡ record x { image = written x.image slot bytes } → MovesTo id x y
  complete : (r : Status) → IsComplete id x.image x.completed x.begun r → y ≡ record x { completed = Some r; begun = [] } → MovesTo id x y
  -- a directory copy keeps its content, loses it, or gets one that is known
  commit : (slot : ℕ) (bytes : List ℕ) → IsCopyCommitted id x.image x.groups x.completed x.begun slot bytes → y ≡ record x { image = written x.image slot bytes } → MovesTo id x y
  -- a span of an extent is written, and its cells are Free
  write_in_span : (new : ImageBytes) (span : Span) → IsPiece id x.image new x.groups x.completed x.begun span → y ≡ record x { image = new; groups = map (freed span) x.groups } → MovesTo id x y
  -- all current copies agree in a span, and its cells are Known
  settle : (span : Span) (bytes : List ℕ) → IsSpanSettled id x.image x.groups x.completed x.begun span bytes → y ≡ record x { groups = map (settled span bytes) x.groups } → MovesTo id x y
  -- a group goes that no open content needs; a group comes
  narrow : (fewer : List Group) → IsNarrower id x.image fewer x.completed x.begun → y ≡ record x { groups = fewer } → MovesTo id x y
  widen : (more : List Group) → ((g : Group) → IsAmong x.groups g → IsAmong more g) → y ≡ record x { groups = more } → MovesTo id x y
  -- a disk loses its header, or gets one
  leave : (slot : ℕ) (bytes : List ℕ) → IsLeaving id x.image x.completed x.begun slot bytes → y ≡ record x { image = written x.image slot bytes } → MovesTo id x y
  join : (slot : ℕ) (bytes : List ℕ) (h : Header) → IsJoining id x.image x.groups x.completed x.begun slot bytes h → y ≡ record x { image = written x.image slot bytes } → MovesTo id x y

-- Each step keeps an image sound.
abbrev pub StepKeeps : Type 0
StepKeeps = (id : ℕ) (x y : Situation) → MovesTo id x y → IsSoundSituation id x → IsSoundSituation id y

-- each of these follows by a step from the one before, the first from x
abbrev pub IsRowOfMoves : ℕ → Situation → List Situation → Type 0
IsRowOfMoves id x [] = Unit {0}
IsRowOfMoves id x (y ∷ ys) = MovesTo id x y × IsRowOfMoves id y ys

-- Each image of a row of steps from a sound one is sound.
abbrev pub RowsKeep : Type 0
RowsKeep = (id : ℕ) (x : Situation) (ys : List Situation) → IsRowOfMoves id x ys → IsSoundSituation id x → (y : Situation) → IsAmong ys y → IsSoundSituation id y
