-- What a change does to a map of keys to values.
use Rattle.std.specs.Prelude.{ℕ, Bool, false, ◌||◌, List, [], ◌∷◌, if◌then◌else◌, Option, Some, None}
use Rattle.asm_formats.specs.Items.{Key}
use Rattle.allocator.specs.asm_base.Records.{DirectoryRecord, is_key}

-- the key is among these
abbrev pub is_gone : List Key → Key → Bool
is_gone [] k = false
is_gone (j ∷ js) k = is_key j k || is_gone js k

-- a record of this key is among these
abbrev pub is_put : List DirectoryRecord → Key → Bool
is_put [] k = false
is_put (p ∷ ps) k = is_key p.0 k || is_put ps k

-- the value of the last put of a key, or the one before
abbrev pub last_put : List DirectoryRecord → Key → Option (List ℕ) → Option (List ℕ)
last_put [] k before = before
last_put (p ∷ ps) k before = last_put ps k (if is_key p.0 k then Some p.1 else before)

-- The value at a key after a change: none where the key goes, else that of its last put, else the one before.
abbrev pub value_after : List DirectoryRecord → List Key → Key → Option (List ℕ) → Option (List ℕ)
value_after put gone k before = if is_gone gone k then None else last_put put k before
