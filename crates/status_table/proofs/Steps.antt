-- The steps of the loops over a record's entries.
use Rattle.std.proofs.Common.{◌≡◌, ℕ, ◌+◌, ◌<◌, List, [], ◌∷◌, ◌++◌, length, map, take, set, get_or, refl, sym, ap, arith, ◌∙◌}
use Rattle.std.proofs.lemmas.List.{length-take, map_more, take_more, take_more_set}
use Rattle.asm_formats.specs.Status.{Entry}
use Rattle.status_table.specs.Changes.{entry_with_partners, entries_with_partners}
use Rattle.status_table.specs.EntryChanges.{entry_with}
use Rattle.status_table.specs.declared.entries.EntryChange.{EntryChange}

pub change_more : (disk : ℕ) (change : EntryChange) (xs ys : List Entry) (i : ℕ) (x y : Entry) → i < length xs → i < length ys → take i ys ≡ map (entry_with disk change) (take i xs) → x ≡ get_or xs i x → y ≡ entry_with disk change x → take (i + 1) (set ys i y) ≡ map (entry_with disk change) (take (i + 1) xs)
change_more disk change xs ys i x y within room so_far read is =
    take_more_set ys i y room ∙ rw (so_far, is, map_more (entry_with disk change) xs i x within, ← read) refl

partners-push : (xs : List Entry) (sets : List ℕ) (x : Entry) (s : ℕ) → length xs ≡ length sets → entries_with_partners (xs ++ x ∷ []) (sets ++ s ∷ []) ≡ entries_with_partners xs sets ++ entry_with_partners x s ∷ []
partners-push [] [] x s e = refl
partners-push [] (t ∷ sets) x s e = absurd (omega arith)
partners-push (y ∷ xs) [] x s e = absurd (omega arith)
partners-push (y ∷ xs) (t ∷ sets) x s e = ap (λ (es : List Entry). entry_with_partners y t ∷ es) (partners-push xs sets x s (omega arith))

pub partners_more : (xs ys : List Entry) (sets : List ℕ) (i : ℕ) (x y : Entry) (s : ℕ) → i < length xs → i < length ys → length sets ≡ length xs → take i ys ≡ entries_with_partners (take i xs) (take i sets) → x ≡ get_or xs i x → s ≡ get_or sets i s → y ≡ entry_with_partners x s → take (i + 1) (set ys i y) ≡ entries_with_partners (take (i + 1) xs) (take (i + 1) sets)
partners_more xs ys sets i x y s within room same so_far read read_set is =
    let pushed : entries_with_partners (take i xs ++ x ∷ []) (take i sets ++ s ∷ []) ≡ entries_with_partners (take i xs) (take i sets) ++ entry_with_partners x s ∷ [] =
    partners-push (take i xs) (take i sets) x s (omega (arith, length-take i xs, length-take i sets)) in
    let front : take (i + 1) xs ≡ take i xs ++ x ∷ [] = take_more xs i x within ∙ ap (λ (z : Entry). take i xs ++ z ∷ []) (sym read) in
    let front_sets : take (i + 1) sets ≡ take i sets ++ s ∷ [] = take_more sets i s (omega arith) ∙ ap (λ (z : ℕ). take i sets ++ z ∷ []) (sym read_set) in
    take_more_set ys i y room ∙ rw (so_far, is, front, front_sets, pushed) refl
