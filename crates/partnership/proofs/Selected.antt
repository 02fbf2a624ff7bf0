-- Disks that pass a test.
use Rattle.std.proofs.Common.{◌≡◌, ℕ, ◌+◌, ◌<◌, Bool, true, false, cond, List, [], ◌∷◌, ◌++◌, length, take, get_or, filter, sym, ap, subst, ◌∙◌}
use Rattle.std.specs.Prelude.{IsTrue}
use Rattle.std.specs.List.{AllByRecursion}
use Rattle.std.proofs.lemmas.List.{append-nil}
use Rattle.std.proofs.lemmas.List.Elements.{filter_more, All-filter, All-from_recursion}
use Rattle.asm_formats.specs.Status.{Entry, Status, is_status}
use Rattle.status_table.proofs.Allowed.{FitsEntry, all_fit, parts_of}
use Rattle.partnership.specs.Selections.{FitInSet}

more : (test : Entry → Bool) (xs : List Entry) (i : ℕ) (e : Entry) → i < length xs → e ≡ get_or xs i e → filter test (take (i + 1) xs) ≡ filter test (take i xs) ++ cond (test e) (e ∷ []) []
more test xs i e within is = filter_more test xs i e within ∙ ap (λ (x : Entry). filter test (take i xs) ++ cond (test x) (x ∷ []) []) (sym is)

-- one more is found
pub one_more : (test : Entry → Bool) (xs found new : List Entry) (i : ℕ) (e : Entry) → i < length xs → e ≡ get_or xs i e → test e ≡ true → found ≡ filter test (take i xs) → new ≡ found ++ e ∷ [] → new ≡ filter test (take (i + 1) xs)
one_more test xs found new i e within is passes so_far pushed =
    pushed ∙ ap (λ (l : List Entry). l ++ e ∷ []) so_far ∙ sym (more test xs i e within is ∙ ap (λ (b : Bool). filter test (take i xs) ++ cond b (e ∷ []) []) passes)

-- one is passed over
pub passed_over : (test : Entry → Bool) (xs found : List Entry) (i : ℕ) (e : Entry) → i < length xs → e ≡ get_or xs i e → test e ≡ false → found ≡ filter test (take i xs) → found ≡ filter test (take (i + 1) xs)
passed_over test xs found i e within is fails so_far =
    so_far ∙ sym (more test xs i e within is ∙ ap (λ (b : Bool). filter test (take i xs) ++ cond b (e ∷ []) []) fails ∙ append-nil (filter test (take i xs)))

-- disks that are selected have numbers where all have
pub numbered : (test : Entry → Bool) (es found slice : List Entry) → FitInSet es → found ≡ filter test es → slice ≡ found → FitInSet slice
numbered test es found slice all is same = subst FitInSet (sym (same ∙ is)) (All-filter test (λ e. e.number < 64) es all)

by_entry : (es : List Entry) → AllByRecursion FitsEntry es → AllByRecursion (λ e. e.number < 64) es
by_entry [] all = tt
by_entry (e ∷ es) all = (all.0.number, by_entry es all.1)

-- so have those of a record
pub status_numbered : (r : Status) → IsTrue (is_status r) → FitInSet r.entries
status_numbered r ok = All-from_recursion (λ (e : Entry). e.number < 64) r.entries (by_entry r.entries (all_fit r.entries (parts_of r ok).all))

pub entries_numbered : (r : Status) (es : List Entry) → IsTrue (is_status r) → es ≡ r.entries → FitInSet es
entries_numbered r es ok is = subst FitInSet (sym is) (status_numbered r ok)
