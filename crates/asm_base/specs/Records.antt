-- Records in the order of their keys.
use Rattle.std.specs.Prelude.{◌≡◌, ℕ, List, [], ◌∷◌, ◌++◌, length, true, Option, Some, None, Bool, ◌==◌, nat_lt, if◌then◌else◌, filter, map}
use Rattle.std.specs.Option.{option_and_then}
use Rattle.asm_base.specs.Readings.{Reading}
use Rattle.std.specs.Ordering.{nat_cmp, ordering_then}
use Rattle.std.specs.declared.cmp.Ordering.{Ordering}
use Rattle.std.specs.BTreeMap.{is_at, insert_entry}
use Rattle.std.specs.List.{list_all}
use Rattle.std.specs.Map.{lookup, remove_entry}
use Rattle.asm_formats.specs.Items.{Key}

-- by kind, and then by the two numbers
abbrev pub key_cmp : Key → Key → Ordering
key_cmp x y = ordering_then (nat_cmp x.kind y.kind) (ordering_then (nat_cmp x.a y.a) (nat_cmp x.b y.b))

-- the keys are the same
abbrev pub is_key : Key → Key → Bool
is_key x y = is_at (key_cmp x) y

-- a record, as a key and the bytes of its value
abbrev pub DirectoryRecord : Type 0
DirectoryRecord = Key × List ℕ

-- the keys of records
abbrev pub keys_of : List DirectoryRecord → List Key
keys_of records = map (λ e. e.0) records

-- the value at a key
abbrev pub record_at : List DirectoryRecord → Key → Option (List ℕ)
record_at records key = lookup (is_at (key_cmp key)) records

-- the records with another value at a key, and without a key
abbrev pub with_record : List DirectoryRecord → Key → List ℕ → List DirectoryRecord
with_record records key value = insert_entry key_cmp records key value

abbrev pub without_record : List DirectoryRecord → Key → List DirectoryRecord
without_record records key = remove_entry (is_at (key_cmp key)) records

-- the records of some kinds, in order
abbrev pub of_kinds : (Key → Bool) → List DirectoryRecord → List DirectoryRecord
of_kinds is_mine records = filter (λ e. is_mine e.0) records

-- each is a byte
abbrev pub are_bytes : List ℕ → Bool
are_bytes bytes = list_all (λ b. nat_lt b 256) bytes

-- what a reading makes of all the bytes
unfoldable pub all_of : {A : Type 0} → Reading A → List ℕ → Option A
all_of reading bytes = if are_bytes bytes then option_and_then (λ x. if length x.1 == 0 then Some x.0 else None) (reading bytes) else None

-- a table that takes up the records of its kinds one after the other, or None where one doesn't follow
unfoldable pub read_from : {T : Type 0} → (Key → Bool) → (T → DirectoryRecord → Option T) → T → List DirectoryRecord → Option T
read_from is_mine add table [] = Some table
read_from is_mine add table (e ∷ es) = if is_mine e.0 then option_and_then (λ next. read_from is_mine add next es) (add table e) else read_from is_mine add table es

-- ---- a table of items by key, as the list of them in the order of their keys

-- an item comes behind the last one
abbrev pub ends_below : {K T : Type 0} → (K → K → Bool) → List (K × T) → K → Bool
ends_below is_below [] k = true
ends_below is_below (x ∷ []) k = is_below x.0 k
ends_below is_below (x ∷ y ∷ ys) k = ends_below is_below (y ∷ ys) k

-- the table with the item of one record more, where that comes behind the others
abbrev pub add_item : {K T : Type 0} → (K → K → Bool) → (DirectoryRecord → Option (K × T)) → List (K × T) → DirectoryRecord → Option (List (K × T))
add_item is_below item_of table e = option_and_then (λ x. if ends_below is_below table x.0 then Some (table ++ x ∷ []) else None) (item_of e)

-- each item's key is below the next one's
abbrev pub Ascend : {K T : Type 0} → (K → K → Bool) → List (K × T) → Type 0
Ascend is_below [] = Unit {0}
Ascend is_below (x ∷ []) = Unit {0}
Ascend is_below (x ∷ y ∷ ys) = (is_below x.0 y.0 ≡ true) × Ascend is_below (y ∷ ys)
