-- Sets of disk numbers that are made from lists, and failure groups.
use Rattle.std.specs.Prelude.{ℕ, ◌^◌, Bool, not, List, [], ◌∷◌, filter, map, ◌==◌, bit_or}
use Rattle.std.specs.List.{list_any}
use Rattle.asm_formats.specs.Status.{Entry}

abbrev pub is_among : List ℕ → ℕ → Bool
is_among ns n = list_any (λ m. m == n) ns

-- the set with a number more
unfoldable pub with_bit : ℕ → ℕ → ℕ
with_bit set n = bit_or set (2 ^ n)

-- the set of these numbers
abbrev pub set_of : List ℕ → ℕ
set_of [] = 0
set_of (n ∷ ns) = with_bit (set_of ns) n

-- the disks' numbers
abbrev pub numbers : List Entry → List ℕ
numbers es = map (λ (e : Entry). e.number) es

-- the disks' failure groups, each once, in the order of their first disks
abbrev pub distinct_failgroups : List Entry → List ℕ
distinct_failgroups [] = []
distinct_failgroups (e ∷ es) = e.failgroup ∷ filter (λ g. not (g == e.failgroup)) (distinct_failgroups es)

-- the disks of each failure group
abbrev pub by_group : List Entry → List (List Entry)
by_group es = map (λ g. filter (λ (e : Entry). e.failgroup == g) es) (distinct_failgroups es)
