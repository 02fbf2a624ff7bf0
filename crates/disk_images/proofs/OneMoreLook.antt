-- One look after another.
use Rattle.std.proofs.Common.{◌≡◌, ◌≢◌, ⊎_elim, ℕ, ◌+◌, ◌*◌, ◌<◌, ◌≤◌, List, [], ◌∷◌, ◌++◌, length, get_or, refl, sym, ap, subst, ◌∙◌, Some, arith}
use Rattle.std.proofs.lemmas.Bool.{cases_lt}
use Rattle.std.proofs.lemmas.List.{get_or_append_left}
use Rattle.std.proofs.Math.Seq.{get_or-append_seam}
use Rattle.bay.specs.Image.{Same}
use Rattle.bay.specs.State.{BayState, IsSlot}
use Rattle.bay.specs.Moments.{Runs}
use Rattle.bay.proofs.Calls.{goes_on, stops, on_more, started}
use Rattle.bay.proofs.Images.{same-trans, same-refl}
use Rattle.disk_images.specs.Looks.{Looks, IsLooked, AreLooked}
use Rattle.disk_images.specs.declared.looking.Looked.{Looked}
use Rattle.disk_images.specs.declared.looking.Looked.TheVariants as looked
use Rattle.disk_images.proofs.Settling.{still}

-- the first slots
abbrev Below : ℕ → ℕ → Type 0
Below n slot = slot < n

pub no_look : (s : BayState) → Looks (Below 0) (4 * 0) s s
no_look s = record { calls = omega arith; runs = started same-refl; written = λ slot. refl; others = λ slot out. refl; stays = λ slot size is. is }

pub none_looked : (s : BayState) → AreLooked [] s s
none_looked s = record { each = λ slot below. absurd (omega (arith, below)) }

pub one_longer : (xs : List Looked) (x : Looked) → length (xs ++ x ∷ []) ≡ length xs + 1
one_longer [] x = refl
one_longer (y ∷ ys) x = omega (arith, one_longer ys x)

-- looks at some of the first slots
pub looks_below : {s t : BayState} (n m : ℕ) → n ≤ m → Looks (Below n) (4 * n) s t → Looks (Below m) (4 * m) s t
looks_below n m le looks = record {
  calls = omega (arith, looks.calls, le);
  runs = on_more (λ (k : ℕ) lt. omega (arith, lt, le)) looks.runs;
  written = looks.written;
  others = λ slot out. looks.others slot (λ lt. out (omega (arith, lt, le)));
  stays = looks.stays;
}

module _ {s m t : BayState} (n : ℕ) (first : Looks (Below n) (4 * n) s m) (next : Looks (IsSlot n) 4 m t) where
  pub one_more : Looks (Below (n + 1)) (4 * (n + 1)) s t
  one_more = record {
    calls = omega (arith, first.calls, next.calls);
    runs = goes_on same-trans (on_more (λ (k : ℕ) lt. omega (arith, lt)) first.runs) (stops first.runs) (on_more (λ (k : ℕ) is. omega (arith, is)) next.runs);
    written = λ slot. next.written slot ∙ first.written slot;
    others = λ slot out. next.others slot (λ is. out (omega (arith, is))) ∙ first.others slot (λ lt. out (omega (arith, lt)));
    stays = λ slot size is. next.stays slot size (first.stays slot size is);
  }

  -- what was shown of an earlier slot
  shown_later : (slot : ℕ) → slot < n → (l : Looked) → IsLooked slot l s m → IsLooked slot l s t
  shown_later slot lt looked.Absent is = (next.others slot (λ e. absurd (omega (arith, e, lt))) ∙ is.0, omega (arith, is.1, next.runs.faults slot))
  shown_later slot lt (looked.Unread size) is = (next.stays slot size is.0, omega (arith, is.1, next.runs.faults slot))
  shown_later slot lt (looked.Read size header) is = record { attached = next.stays slot size is.attached; allowed = is.allowed; now = still slot header next.runs is.now }

  -- and of the last
  shown_before : (l : Looked) → IsLooked n l m t → IsLooked n l s t
  shown_before looked.Absent is = (is.0 ∙ first.others n (λ lt. absurd (omega (arith, lt))), omega (arith, is.1, first.runs.faults n))
  shown_before (looked.Unread size) is = (is.0, omega (arith, is.1, first.runs.faults n))
  shown_before (looked.Read size header) is = is

  pub one_more_looked : (found : List Looked) (l : Looked) → length found ≡ n → AreLooked found s m → IsLooked n l m t → AreLooked (found ++ l ∷ []) s t
  one_more_looked found l long are is = record {
    each = λ slot below. ⊎_elim
        (λ (lt : slot < length found).
        subst (λ (x : Looked). IsLooked slot x s t) (sym (get_or_append_left found (l ∷ []) looked.Absent slot lt)) (shown_later slot (omega (arith, lt, long)) (get_or found slot looked.Absent) (are.each slot lt)))
        (λ (le : length found ≤ slot). last slot (omega (arith, below, le, one_longer found l)))
        (cases_lt slot (length found));
  }
    where
      last : (slot : ℕ) → slot ≡ length found → IsLooked slot (get_or (found ++ l ∷ []) slot looked.Absent) s t
      last slot at =
          let seam : get_or (found ++ l ∷ []) (length found) looked.Absent ≡ l = get_or-append_seam found l [] looked.Absent in
          let here : IsLooked n (get_or (found ++ l ∷ []) (length found) looked.Absent) s t = subst (λ (x : Looked). IsLooked n x s t) (sym seam) (shown_before l is) in
          subst (λ (k : ℕ). IsLooked k (get_or (found ++ l ∷ []) k looked.Absent) s t) (sym at)
          (subst (λ (k : ℕ). IsLooked k (get_or (found ++ l ∷ []) (length found) looked.Absent) s t) (sym long) here)
