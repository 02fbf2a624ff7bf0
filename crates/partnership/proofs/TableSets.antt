-- The sets that are taken in rounds, and what is found disk by disk.
use Rattle.std.proofs.Common.{◌≡◌, ℕ, zero, suc, ◌+◌, ◌-◌, ◌^◌, ◌<◌, ◌≤◌, Bool, true, false, cond, not, eqb, ltb, Option, None, min, List, [], ◌∷◌, ◌++◌, length, map, take, drop, filter, refl, sym, ap, ◌∙◌, arith, max}
use Rattle.std.specs.Prelude.{◌&&◌, ◌||◌, find, fold, flat_map, bit_or}
use Rattle.std.specs.List.{list_any, range_with_len}
use Rattle.std.specs.Option.{option_map, option_or}
use Rattle.std.specs.Int.{bit_at}
use Rattle.std.proofs.lemmas.Bool.{ne_eqb, lt-ltb}
use Rattle.std.proofs.lemmas.Nat.Bits.{bit_at_or, bit_at-zero, same_from_bits}
use Rattle.asm_formats.specs.asm_group.declared.GroupKind.{GroupKind}
use Rattle.asm_formats.specs.Sets.{has_bit, elements}
use Rattle.asm_formats.specs.Status.{Entry, Status, entry_of}
use Rattle.asm_placement.specs.Modes.{is_target, leaves, mode_is}
use Rattle.asm_placement.specs.DiskSets.{is_among, with_bit, set_of, numbers, distinct_failgroups, by_group}
use Rattle.asm_placement.specs.TableDisks.{table_count, table_set, copy_count, directory_set, in_rounds, has_leaving, staying, targets, copies_due, groups_with_copy, directory_target}
use Rattle.partnership.specs.declared.choice.Choice.{Choice}
use Rattle.partnership.specs.Rounds.{none_of, with_disk, round}

-- ---- the set of the disks that were taken, bit by bit

none_taken : (k set : ℕ) (es : List Entry) → bit_at (fold with_disk (record { set = set; left = 0 }) es).set k ≡ max (bit_at (set_of (numbers (take 0 es))) k) (bit_at set k)
none_taken k set [] = omega (arith, bit_at-zero k)
none_taken k set (e ∷ es) = none_taken k set es

taken : (k set n : ℕ) (es : List Entry) → bit_at (fold with_disk (record { set = set; left = n }) es).set k ≡ max (bit_at (set_of (numbers (take n es))) k) (bit_at set k)
unfolding with_bit
taken k set zero es = none_taken k set es
taken k set (suc n) [] = omega (arith, bit_at-zero k)
taken k set (suc n) (e ∷ es) =
    let some : eqb (suc n) 0 ≡ false = ne_eqb (suc n) 0 (λ e. omega arith) in
    let less : suc n - 1 ≡ n = omega arith in
    let more : Choice = record { set = bit_or set (2 ^ e.number); left = suc n - 1 } in
    let later : bit_at (fold with_disk (record { set = bit_or set (2 ^ e.number); left = n }) es).set k ≡ max (bit_at (set_of (numbers (take n es))) k) (bit_at (bit_or set (2 ^ e.number)) k) = taken k (bit_or set (2 ^ e.number)) n es in
    let before : bit_at (bit_or set (2 ^ e.number)) k ≡ max (bit_at set k) (bit_at (2 ^ e.number) k) = bit_at_or set (2 ^ e.number) k in
    let after : bit_at (bit_or (set_of (numbers (take n es))) (2 ^ e.number)) k ≡ max (bit_at (set_of (numbers (take n es))) k) (bit_at (2 ^ e.number) k) = bit_at_or (set_of (numbers (take n es))) (2 ^ e.number) k in
    ap (λ (b : Bool). bit_at (fold with_disk (cond b (record { set = set; left = suc n }) more) es).set k) some
    ∙ ap (λ (m : ℕ). bit_at (fold with_disk (record { set = bit_or set (2 ^ e.number); left = m }) es).set k) less ∙ omega arith

taken_set : (n : ℕ) (es : List Entry) → (fold with_disk (none_of n) es).set ≡ set_of (numbers (take n es))
taken_set n es = same_from_bits (fold with_disk (none_of n) es).set (set_of (numbers (take n es))) (λ k. taken k 0 n es ∙ omega (arith, bit_at-zero k))

pub holders_are : (kind : GroupKind) (es q r : List Entry) (choice : Choice) → q ≡ filter (λ (e : Entry). e.quorum) es → r ≡ filter (λ (e : Entry). not e.quorum) es
    → choice ≡ fold with_disk (none_of (table_count kind (length es))) (in_rounds (length es) (by_group q ++ by_group r)) → choice.set ≡ table_set kind es
unfolding table_set
holders_are kind es q r choice q_is r_is is =
    ap (λ (c : Choice). c.set) is ∙ taken_set (table_count kind (length es)) (in_rounds (length es) (by_group q ++ by_group r))
    ∙ rw (q_is, r_is) refl

nothing_dropped : (gs : List (List Entry)) → map (drop 0) gs ≡ gs
nothing_dropped [] = refl
nothing_dropped (g ∷ gs) = ap (λ (l : List (List Entry)). g ∷ l) (nothing_dropped gs)

pub directories_are : (kind : GroupKind) (es r : List Entry) (choice : Choice) → r ≡ filter (λ (e : Entry). not e.quorum) es → choice ≡ fold with_disk (none_of (copy_count kind)) (round 0 r) → choice.set ≡ directory_set kind es
unfolding directory_set
directories_are kind es r choice r_is is =
    ap (λ (c : Choice). c.set) is ∙ taken_set (copy_count kind) (round 0 r)
    ∙ ap (λ (l : List (List Entry)). set_of (numbers (take (copy_count kind) (flat_map (take 1) l)))) (nothing_dropped (by_group r))
    ∙ rw r_is refl

-- ---- whether a disk of a set leaves

abbrev is_leaving : List Entry → ℕ → Bool
is_leaving es d = mode_is leaves (entry_of es d)

-- of the disks from one on
abbrev pub leaving_from : List Entry → ℕ → ℕ → Bool
leaving_from es set d = list_any (is_leaving es) (filter (has_bit set) (range_with_len d (64 - d)))

one_leaving : (es : List Entry) (set d n : ℕ) → list_any (is_leaving es) (filter (has_bit set) (range_with_len d (suc n))) ≡ ((has_bit set d && is_leaving es d) || list_any (is_leaving es) (filter (has_bit set) (range_with_len (d + 1) n)))
one_leaving es set d n = by (has_bit set d)
  where
    by : (b : Bool) → list_any (is_leaving es) (cond b (d ∷ filter (has_bit set) (range_with_len (d + 1) n)) (filter (has_bit set) (range_with_len (d + 1) n))) ≡ ((b && is_leaving es d) || list_any (is_leaving es) (filter (has_bit set) (range_with_len (d + 1) n)))
    by true = refl
    by false = refl

leaving_here : (es : List Entry) (set d : ℕ) (here : Bool) → d < 64 → (has_bit set d && is_leaving es d) ≡ here → leaving_from es set d ≡ (here || leaving_from es set (d + 1))
leaving_here es set d here small is =
    let n : 64 - d ≡ suc (64 - (d + 1)) = omega arith in
    ap (λ (m : ℕ). list_any (is_leaving es) (filter (has_bit set) (range_with_len d m))) n ∙ one_leaving es set d (64 - (d + 1))
    ∙ ap (λ (b : Bool). b || leaving_from es set (d + 1)) is

pub leaving_start : (es : List Entry) (set : ℕ) → leaving_from es set 0 ≡ has_leaving es set
unfolding elements
leaving_start es set = refl

pub leaving_more : (es : List Entry) (set d : ℕ) → d < 64 → (has_bit set d && is_leaving es d) ≡ false → leaving_from es set d ≡ has_leaving es set → leaving_from es set (d + 1) ≡ has_leaving es set
leaving_more es set d small is so_far = sym (leaving_here es set d false small is) ∙ so_far

pub leaving_found : (es : List Entry) (set d : ℕ) → d < 64 → (has_bit set d && is_leaving es d) ≡ true → leaving_from es set d ≡ has_leaving es set → true ≡ has_leaving es set
leaving_found es set d small is so_far = sym (leaving_here es set d true small is) ∙ so_far

pub leaving_end : (es : List Entry) (set d : ℕ) → 64 ≤ d → leaving_from es set d ≡ has_leaving es set → false ≡ has_leaving es set
leaving_end es set d past so_far =
    let none : 64 - d ≡ 0 = omega arith in
    sym (ap (λ (m : ℕ). list_any (is_leaving es) (filter (has_bit set) (range_with_len d m))) none) ∙ so_far

-- ---- a directory copy that is due

pub directory_due : (kind : GroupKind) (r : Status) (es holding takers : List Entry) (few due : ℕ) (target : Option ℕ) → es ≡ r.entries → holding ≡ staying es r.directories → takers ≡ targets es
    → few ≡ length (distinct_failgroups holding) → due ≡ min (copy_count kind) (length (distinct_failgroups takers)) → few < due
    → target ≡ option_map (λ (e : Entry). e.number) (find (λ (e : Entry). is_target e && not (is_among (distinct_failgroups holding) e.failgroup)) es) → target ≡ directory_target kind r
unfolding directory_target
directory_due kind r es holding takers few due target es_is holding_is takers_is few_is due_is less found =
    let holding_all : holding ≡ staying r.entries r.directories = holding_is ∙ ap (λ (l : List Entry). staying l r.directories) es_is in
    let takers_all : takers ≡ targets r.entries = takers_is ∙ ap targets es_is in
    let short : ltb (length (distinct_failgroups holding)) (min (copy_count kind) (length (distinct_failgroups takers))) ≡ true = lt-ltb _ _ (omega (arith, few_is, due_is, less)) in
    let tested : ltb (length (groups_with_copy r)) (copies_due kind r.entries) ≡ true = rw (holding_all, takers_all) at short in
    found ∙ rw (holding_all, es_is) refl ∙ sym (ap (λ (b : Bool). cond b (option_map (λ (e : Entry). e.number) (find (λ (e : Entry). is_target e && not (is_among (groups_with_copy r) e.failgroup)) r.entries)) None) tested)
