-- Which extents have a stale copy on a disk.
use Rattle.std.specs.Prelude.{◌≡◌, ◌⊎◌, ℕ, ◌+◌, ◌*◌, ◌^◌, ◌<◌, ◌≤◌, Bool, true, false, ◌&&◌, ◌||◌, ◌==◌, nat_lt, List, [], get_or, find, Option, Some, None}
use Rattle.std.specs.List.{list_any, zip}
use Rattle.std.specs.Option.{option_map}
use Rattle.asm_formats.specs.Items.{Home, Homes, chunk_len}
use Rattle.asm_formats.specs.Sets.{has_bit}
use Rattle.extent_map.specs.Extents.{chunk_at}
use Rattle.asm_base.specs.Chunks.{Chunk}
use Rattle.staleness_directory.specs.Marks.{Marked}
use Rattle.catalog_tables.specs.Rules.{marks_of, homes_at}
use Rattle.catalog_tables.specs.Tables.{Tables}

-- the home is on the disk
abbrev pub is_home_on_disk : ℕ → Option Home → Bool
is_home_on_disk d None = false
is_home_on_disk d (Some h) = h.disk == d

-- copy k of an extent with these marks and homes is stale and lies on the disk
abbrev pub is_stale_on : ℕ → ℕ → Homes → ℕ → Bool
is_stale_on d marks homes k = has_bit marks k && is_home_on_disk d (get_or homes k None)

-- one of its copies is
abbrev pub has_stale_on : ℕ → ℕ × Homes → Bool
has_stale_on d x = is_stale_on d x.0 x.1 0 || (is_stale_on d x.0 x.1 1 || is_stale_on d x.0 x.1 2)

-- extent i of a file has a stale copy on the disk
abbrev pub is_marked_on : Tables → ℕ → ℕ → ℕ → Bool
is_marked_on t d f i = has_stale_on d (marks_of t f i, homes_at t f i)

-- y comes behind x or is it: extents, or chunks, by file and number
abbrev pub IsFrom : ℕ × ℕ → ℕ × ℕ → Type 0
IsFrom x y = (x.0 < y.0) ⊎ ((x.0 ≡ y.0) × (x.1 ≤ y.1))

-- x is the first extent from one on that has a stale copy on the disk, of those with an index of 32 bits
pub record IsFirstMarked (t : Tables) (d : ℕ) (least x : ℕ × ℕ) : Type 0 where
  pub from : IsFrom least x
  pub marked : is_marked_on t d x.0 x.1 ≡ true
  pub first : (y : ℕ × ℕ) → IsFrom least y → y.1 < 2 ^ 32 → is_marked_on t d y.0 y.1 ≡ true → IsFrom x y

-- none of these has
abbrev pub HasNoneMarked : Tables → ℕ → ℕ × ℕ → Type 0
HasNoneMarked t d least = (y : ℕ × ℕ) → IsFrom least y → y.1 < 2 ^ 32 → is_marked_on t d y.0 y.1 ≡ false

-- ---- chunk by chunk

-- an extent of a chunk with these marks has one
abbrev pub any_stale_on : ℕ → List ℕ → Option (List Homes) → Bool
any_stale_on d marks None = false
any_stale_on d marks (Some homes) = list_any (has_stale_on d) (zip marks homes)

-- the same of a chunk whose extents have an index of 32 bits
abbrev pub has_marked : Tables → ℕ → Marked → Bool
has_marked t d x = nat_lt x.0.1 (2 ^ 24) && any_stale_on d x.1 (chunk_at t.extents x.0)

-- the first of some chunks that has one
abbrev pub first_marked : Tables → ℕ → List Marked → Option Chunk
first_marked t d xs = option_map (λ (x : Marked). x.0) (find (has_marked t d) xs)

-- the first place from one on that has one
pub record IsFirstPlace (d : ℕ) (marks : List ℕ) (homes : List Homes) (from place : ℕ) : Type 0 where
  pub at_least : from ≤ place
  pub few : place < chunk_len
  pub marked : has_stale_on d (get_or marks place 0, get_or homes place []) ≡ true
  pub before : (q : ℕ) → from ≤ q → q < place → has_stale_on d (get_or marks q 0, get_or homes q []) ≡ false

abbrev pub HasNoMarkedHome : ℕ → List ℕ → List Homes → ℕ → Type 0
HasNoMarkedHome d marks homes from = (q : ℕ) → from ≤ q → q < chunk_len → has_stale_on d (get_or marks q 0, get_or homes q []) ≡ false

-- x is the first extent of a chunk from a place on that has one
pub record IsFirstIn (t : Tables) (d : ℕ) (at : Chunk) (from : ℕ) (x : ℕ × ℕ) : Type 0 where
  pub place : ℕ
  pub at_least : from ≤ place
  pub few : place < chunk_len
  pub file : x.0 ≡ at.0
  pub index : x.1 ≡ at.1 * chunk_len + place
  pub marked : is_marked_on t d at.0 (at.1 * chunk_len + place) ≡ true
  pub before : (q : ℕ) → from ≤ q → q < place → is_marked_on t d at.0 (at.1 * chunk_len + q) ≡ false

abbrev pub HasNoneIn : Tables → ℕ → Chunk → ℕ → Type 0
HasNoneIn t d at from = (q : ℕ) → from ≤ q → q < chunk_len → is_marked_on t d at.0 (at.1 * chunk_len + q) ≡ false
