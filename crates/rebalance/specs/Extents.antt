-- What the copies of one extent lack, by its homes and its marks.
use Rattle.std.specs.Prelude.{◌≡◌, ℕ, zero, suc, ◌/◌, ◌%◌, Bool, true, false, ◌&&◌, ◌||◌, not, List, [], get_or, unwrap_or, if◌then◌else◌, ◌==◌, Option, Some, None}
use Rattle.std.specs.Option.{is_some, option_or}
use Rattle.asm_formats.specs.Sets.{has_bit}
use Rattle.asm_formats.specs.Status.{Entry}
use Rattle.asm_formats.specs.Items.{Item, FileHead, Home, chunk_len}
use Rattle.asm_placement.specs.Tables.{head_of, homes_in}
use Rattle.asm_placement.specs.Choices.{staying_disk}
use Rattle.asm_placement.specs.Copies.{home, has_any_home}
use Rattle.extent_copies.specs.declared.extent.Extent.{Extent}
use Rattle.extent_copies.specs.Extents.{copy_of, can_be_read_at}

-- The extent is one that a file with a head has by the records.
pub record IsInRecords (items : List Item) (x : Extent) : Type 0 where
  pub head : FileHead
  pub has_head : head_of items x.id.file ≡ Some head
  pub copies : x.copies ≡ head.copies
  pub homes : x.homes ≡ get_or (unwrap_or (homes_in items x.id.file (x.id.index / chunk_len)) []) (x.id.index % chunk_len) []
  pub there : has_any_home x.homes ≡ true

-- ---- numbers of copies, so many from k on

-- one passes
abbrev pub any_from : (ℕ → Bool) → ℕ → ℕ → Bool
any_from test k zero = false
any_from test k (suc n) = test k || any_from test (suc k) n

-- what the first that says something says
abbrev pub first_from : {A : Type 0} → (ℕ → Option A) → ℕ → ℕ → Option A
first_from says k zero = None
first_from says k (suc n) = option_or (says k) (first_from says (suc k) n)

-- ---- by marks

abbrev pub is_marked_at : Extent → ℕ → Bool
is_marked_at x k = is_some (home (copy_of x k)) && has_bit x.marks k

abbrev pub has_source_at : List Entry → Extent → Bool
has_source_at es x = any_from (can_be_read_at es x) 0 x.copies

abbrev pub is_other_source_at : List Entry → Extent → ℕ → ℕ → Bool
is_other_source_at es x k j = not (j == k) && can_be_read_at es x j

abbrev pub has_other_at : List Entry → Extent → ℕ → Bool
has_other_at es x k = any_from (is_other_source_at es x k) 0 x.copies

-- the home, where it is that of another copy than the one to be replaced, on a disk that stays
abbrev pub kept_home : List Entry → ℕ → ℕ → Option Home → Option Home
kept_home es replaced copy h = if not (copy == replaced) && is_some (staying_disk es h) then h else None
