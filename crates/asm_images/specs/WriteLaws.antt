-- What a write to users' bytes does, from the homes that directories name.
use Rattle.std.specs.Prelude.{◌≡◌, ◌⊎◌, ℕ, ◌+◌, ◌*◌, ◌≤◌, List, Option, Some, IsTrue}
use Rattle.asm_group.specs.Shape.{Shape}
use Rattle.asm_group.specs.Group.{Group}
use Rattle.asm_placement.specs.Layout.{units_of}
use Rattle.asm_placement.specs.Tables.{home_of}
use Rattle.asm_placement.specs.Placed.{places_fit}
use Rattle.asm_formats.specs.Among.{IsAmong}
use Rattle.asm_formats.specs.Regions.{reserved_units}
use Rattle.asm_formats.specs.Status.{Status, Entry}
use Rattle.asm_formats.specs.Items.{Item, Home}
use Rattle.asm_formats.specs.Places.{SameElsewhere}
use Rattle.asm_images.specs.Members.{ImageBytes, Member, written, all_members}
use Rattle.asm_images.specs.Sound.{SoundBy}
use Rattle.asm_images.specs.Steps.{IsOpen, IsSpare}
use Rattle.asm_images.specs.Spans.{Span, FitsIn, IsPiece}
use Rattle.asm_images.specs.PutLaws.{bytes_of}

-- two runs of units, each with its first unit and its length, have none in common
abbrev pub AreApart : ℕ → ℕ → ℕ → ℕ → Type 0
AreApart unit len other other_len = (unit + len ≤ other) ⊎ (other + other_len ≤ unit)

-- every home that the items name on this disk lies apart from the units
abbrev pub AreFreeUnits : List Item → ℕ → ℕ → ℕ → ℕ → Type 0
AreFreeUnits items step disk unit len =
    (f i copy : ℕ) (k : Home) → home_of items f i copy ≡ Some k → k.disk ≡ disk → AreApart unit len k.unit (units_of step i)

-- every home that the items name on this disk lies apart from this home of the span's extent, or is it
abbrev pub HasOwnUnits : List Item → ℕ → Span → Home → Type 0
HasOwnUnits items step x h =
    (f i copy : ℕ) (k : Home) → home_of items f i copy ≡ Some k → k.disk ≡ h.disk
    → ((f ≡ x.file) × (i ≡ x.index) × (k ≡ h)) ⊎ AreApart h.unit (units_of step x.index) k.unit (units_of step i)

-- Homes that fit lie apart.
abbrev pub HomesAreApart : Type 0
HomesAreApart =
    (s : Shape) (entries : List Entry) (items : List Item) (x : Span) (copy : ℕ) (h : Home) → IsTrue (places_fit s entries items)
    → home_of items x.file x.index copy ≡ Some h → HasOwnUnits items s.step x h

-- A write to free units is one of spare bytes, however it is torn.
abbrev pub FreeWriteIsSpare : Type 0
FreeWriteIsSpare =
    (id : ℕ) (old : ImageBytes) (groups : List Group) (completed : Option Status) (begun : List Status) → SoundBy id old groups completed begun
    → (m : Member) (bytes : List ℕ) (unit len at n : ℕ) → IsAmong (all_members id old) m → reserved_units m.header.shape ≤ unit
    → unit * m.header.shape.au ≤ at → at + n ≤ (unit + len) * m.header.shape.au
    → ((r : Status) (items : List Item) → IsOpen id old completed begun r items → AreFreeUnits items m.header.shape.step m.header.number unit len)
    → SameElsewhere (bytes_of old m.slot) bytes at n → IsSpare id old (written old m.slot bytes) completed begun

-- A write to the span of one copy is a piece, however it is torn.
abbrev pub CopyWriteIsPiece : Type 0
CopyWriteIsPiece =
    (id : ℕ) (old : ImageBytes) (groups : List Group) (completed : Option Status) (begun : List Status) → SoundBy id old groups completed begun
    → (x : Span) (h : Home) (m : Member) (bytes : List ℕ) → IsAmong (all_members id old) m → h.disk ≡ m.header.number → reserved_units m.header.shape ≤ h.unit
    → FitsIn groups x → x.from + x.len ≤ units_of m.header.shape.step x.index * m.header.shape.au
    → ((r : Status) (items : List Item) → IsOpen id old completed begun r items → HasOwnUnits items m.header.shape.step x h)
    → SameElsewhere (bytes_of old m.slot) bytes (h.unit * m.header.shape.au + x.from) x.len → IsPiece id old (written old m.slot bytes) groups completed begun x
