-- Which copies of an extent a write leaves behind.
use Rattle.std.specs.Prelude.{◌≡◌, ℕ, ◌+◌, ◌<◌, Bool, true, false, ◌&&◌, not, if◌then◌else◌, get_or, Option, Some, None, is_some}
use Rattle.asm_base.specs.declared.kinds.ExtentId.{ExtentId}
use Rattle.asm_formats.specs.Sets.{has_bit}
use Rattle.record_laws.specs.catalog_tables.Rules.{marks_of}
use Rattle.record_laws.specs.catalog_tables.Tables.{Tables}
use Rattle.record_laws.specs.extent_copies.declared.extent.Extent.{Extent}
use Rattle.record_laws.specs.group_of.Describing.{KeepsNames}
use Rattle.record_laws.specs.group_engine.Mounts.{MountedGroup}
use Rattle.group_pieces.specs.declared.copies.Place.{Place}
use Rattle.group_pieces.specs.Usable.{extent_of, place_on_copy}

-- a copy at the place took the bytes: its disk isn't one of those that failed
abbrev pub took : ℕ → Option Place → Bool
took failed None = false
took failed (Some p) = not (has_bit failed p.disk)

-- copy k is there and not marked, and didn't take the bytes
abbrev pub is_left : MountedGroup → Extent → ℕ → ℕ → ℕ → Bool
is_left m e inner failed k = is_some (get_or e.homes k None) && (not (has_bit e.marks k) && not (took failed (place_on_copy m e inner k)))

abbrev pub bit_if : Bool → ℕ → ℕ
bit_if b n = if b then n else 0

-- three bits as a number
abbrev pub three_bits : Bool → Bool → Bool → ℕ
three_bits a b c = bit_if a 1 + bit_if b 2 + bit_if c 4

-- the copies that a write leaves behind, bit k for copy k
abbrev pub left_in : MountedGroup → Extent → ℕ → ℕ → ℕ
left_in m e inner failed = three_bits (is_left m e inner failed 0) (is_left m e inner failed 1) (is_left m e inner failed 2)

abbrev pub left_of : MountedGroup → ExtentId → ℕ → ℕ → ℕ
left_of m x inner failed = left_in m (extent_of m x) inner failed

-- by these tables each copy that is left behind bears a mark
abbrev pub AreMarked : MountedGroup → ExtentId → ℕ → ℕ → Tables → Type 0
AreMarked m x inner failed t = (k : ℕ) → k < 3 → is_left m (extent_of m x) inner failed k ≡ true → has_bit (marks_of t x.file x.index) k ≡ true

-- heads, names, templates, settings and the homes of extents are the same, and each mark that was set is so still
pub record MarksMore (t u : Tables) : Type 0 where
  pub names : KeepsNames t u
  pub extents : u.extents ≡ t.extents
  pub marks : (f i k : ℕ) → k < 3 → has_bit (marks_of t f i) k ≡ true → has_bit (marks_of u f i) k ≡ true
