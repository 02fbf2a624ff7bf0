-- What a write to the copies of an extent, and a read of one, mean for the group.
use Rattle.std.specs.Prelude.{◌≡◌, ℕ, Bool, false, List, [], ◌∷◌}
use Rattle.bay.specs.Image as bay
use Rattle.bay.specs.Image.{window, ChangesOnly}
use Rattle.asm_group.specs.Group.{Group}
use Rattle.asm_formats.specs.Among.{IsAmong}
use Rattle.asm_formats.specs.Status.{Status}
use Rattle.asm_formats.specs.Items.{Item, Homes}
use Rattle.asm_placement.specs.Tables.{home_of, is_stale}
use Rattle.asm_images.specs.Members.{ImageBytes, Member}
use Rattle.asm_images.specs.Stands.{HoldsBytes}
use Rattle.asm_images.specs.Spans.{Span, FitsIn, freed, settled}
use Rattle.asm_images.specs.Kept.{Kept, IsHeld}
use Rattle.piece_laws.specs.Targets.{Target, AreTargets, RangesOf, HasBirth, IsEntered, AreAllUnmarked, HaveBytes, AgreesIn, IsInDisk, start_of}

-- While a span is written to some copies, however torn, the group is held with the span's cells Free, and the copies are where they were.
abbrev pub WritingFrees : Type 0
WritingFrees =
    (n id : ℕ) (g : Group) (kept : Kept) (x : Span) (homes : Homes) (marks : ℕ → Bool) (targets : List Target) (old new : bay.Image)
    → IsHeld n id (g ∷ []) kept old → FitsIn (g ∷ []) x → AreTargets n id kept x.file x.index homes marks targets old
    → ChangesOnly (RangesOf g.shape x targets) old new
    → IsHeld n id (freed x g ∷ []) kept new × AreTargets n id kept x.file x.index homes marks targets new

-- Once every copy without a mark has the bytes, the span's cells are known.
abbrev pub SettlingKnows : Type 0
SettlingKnows =
    (n id : ℕ) (g : Group) (kept : Kept) (x : Span) (homes : Homes) (marks : ℕ → Bool) (targets : List Target) (bytes : List ℕ) (image : bay.Image)
    → IsHeld n id (freed x g ∷ []) kept image → FitsIn (g ∷ []) x → AreTargets n id kept x.file x.index homes marks targets image
    → AreAllUnmarked homes marks targets → ((t : Target) → IsAmong targets t → HasBirth kept t) → HaveBytes g.shape x targets bytes image
    → IsHeld n id (settled x bytes g ∷ []) kept image

-- What a copy without a mark has, on a disk that isn't Forced, agrees with each known cell.
abbrev pub ReadingAgrees : Type 0
ReadingAgrees =
    (n id : ℕ) (g : Group) (kept : Kept) (x : Span) (homes : Homes) (marks : ℕ → Bool) (t : Target) (image : bay.Image)
    → IsHeld n id (g ∷ []) kept image → FitsIn (g ∷ []) x → AreTargets n id kept x.file x.index homes marks (t ∷ []) image
    → marks t.copy ≡ false → IsEntered kept t → IsInDisk g.shape x t image → AgreesIn g x (window (image.byte t.slot) (start_of g.shape x t) x.len)

-- A group that is held is held with a span's cells Free.
abbrev pub FreedIsHeld : Type 0
FreedIsHeld =
    (n id : ℕ) (g : Group) (kept : Kept) (x : Span) (image : bay.Image) → IsHeld n id (g ∷ []) kept image → FitsIn (g ∷ []) x → IsHeld n id (freed x g ∷ []) kept image

-- Where the same homes have more stale marks, the disks hold the group still.
abbrev pub FewerCurrentHold : Type 0
FewerCurrentHold =
    (image : ImageBytes) (ms : List Member) (r : Status) (items more : List Item) (g : Group) → ((f i copy : ℕ) → home_of more f i copy ≡ home_of items f i copy)
    → ((f i copy : ℕ) → is_stale more f i copy ≡ false → is_stale items f i copy ≡ false) → HoldsBytes image ms r items g → HoldsBytes image ms r more g
