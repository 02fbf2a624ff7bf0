-- What the records of a directory content say of files and their extents: look-ups by number.
use Rattle.std.specs.Prelude.{ℕ, ◌/◌, ◌%◌, Bool, ◌&&◌, ◌||◌, List, [], ◌∷◌, get_or, slice_index, if◌then◌else◌, ◌==◌, Option, Some, None}
use Rattle.std.specs.Option.{is_some, unwrap_or, option_or}
use Rattle.asm_formats.specs.Sets.{has_bit}
use Rattle.asm_formats.specs.Items.{Item, file_item, chunk_item, marks_item, FileHead, Home, Homes, chunk_len}

-- what the first item that says something says
abbrev pub first_said : {A : Type 0} → (Item → Option A) → List Item → Option A
first_said says [] = None
first_said says (i ∷ items) = option_or (says i) (first_said says items)

abbrev pub if_is : {A : Type 0} → Bool → A → Option A
if_is b x = if b then Some x else None

-- the head of file f
unfoldable pub head_of : List Item → ℕ → Option FileHead
head_of items f = first_said says items
  where
    says : Item → Option FileHead
    says (file_item g head) = if_is (g == f) head
    says _ = None

-- the homes in chunk c of file f
unfoldable pub homes_in : List Item → ℕ → ℕ → Option (List Homes)
homes_in items f c = first_said says items
  where
    says : Item → Option (List Homes)
    says (chunk_item g d homes) = if_is ((g == f) && (d == c)) homes
    says _ = None

-- the stale marks of chunk c of file f
unfoldable pub marks_in : List Item → ℕ → ℕ → Option (List ℕ)
marks_in items f c = first_said says items
  where
    says : Item → Option (List ℕ)
    says (marks_item g d marks) = if_is ((g == f) && (d == c)) marks
    says _ = None

-- the home of a copy of an extent
unfoldable pub home_of : List Item → ℕ → ℕ → ℕ → Option Home
home_of items f i copy = get_or (get_or (unwrap_or (homes_in items f (i / chunk_len)) []) (i % chunk_len) []) copy None

-- the copy is marked stale
unfoldable pub is_stale : List Item → ℕ → ℕ → ℕ → Bool
is_stale items f i copy = has_bit (slice_index (unwrap_or (marks_in items f (i / chunk_len)) []) (i % chunk_len)) copy

-- the extent is there: it has a home
abbrev pub is_extent : List Item → ℕ → ℕ → Bool
is_extent items f i = is_some (home_of items f i 0) || is_some (home_of items f i 1) || is_some (home_of items f i 2)
