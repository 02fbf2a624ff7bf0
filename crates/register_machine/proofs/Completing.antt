-- A record is complete.
use Rattle.std.proofs.Common.{◌≡◌, ◌⊎◌, inl, inr, ⊎_elim, ℕ, ◌+◌, ◌<◌, ◌≤◌, true, max, List, ◌∷◌, refl, sym, ap, subst, ◌∙◌, Option, Some, None, arith}
use Rattle.std.specs.Prelude.{nat_le}
use Rattle.std.proofs.lemmas.Bool.{cases_lt, eqb-true, false≢true, le-leb, leb-true}
use Rattle.std.proofs.lemmas.Option.{same_Some}
use Rattle.asm_formats.specs.Among.{IsAmong}
use Rattle.asm_formats.specs.Status.{Status}
use Rattle.asm_formats.specs.Following.{Holder, rank, sets, Follows, most_pass}
use Rattle.register_machine.specs.Disks.{DisksByHolder, is_enough, has_number, has_record, epoch_of}
use Rattle.register_machine.specs.Machine.{Mark, Begun, Completed}
use Rattle.register_machine.specs.Laws.{begun}
use Rattle.register_machine.proofs.Counting.{majority_grows, majority_of, enough_grows}
use Rattle.register_machine.proofs.Pivots.{pivot, shares_pivot, follows_itself}
use Rattle.register_machine.proofs.Rising.{is_from, has_from, has_from_below, shows_from}
use Rattle.register_machine.proofs.Histories.{has_base}
use Rattle.register_machine.proofs.Keeping.{writing_newest, next_begun, epoch_newest}
use Rattle.register_machine.proofs.Invariant.{Superseded, AtBase, Kept}

is_number : (n : ℕ) (o : Option Status) → has_number n o ≡ true → is_from n o ≡ true
is_number n None h = h
is_number n (Some r) h = le-leb n (rank r) (let same = eqb-true (rank r) n h in omega (arith, same))

module _ (disks : DisksByHolder) (history older : List Mark) (next : Status) (kept : Kept disks history) (is : history ≡ Begun next ∷ older) (done : is_enough (has_record disks next) next ≡ true) where
  top : (r : Status) → IsAmong (begun history) r → (r ≡ next) ⊎ (rank r < rank next)
  top = writing_newest disks history older next kept is

  new : IsAmong (begun history) next
  new = next_begun disks history older next kept is

  -- it stands on enough disks
  full : is_enough (has_from disks (rank next)) next ≡ true
  full = enough_grows (has_record disks next) (has_from disks (rank next)) next (λ d h. is_number (rank next) (disks d).status h) done

  majority : (set : List Holder) → IsAmong (sets next) set → most_pass (has_from disks (rank next)) set ≡ true
  majority set among = majority_of (has_from disks (rank next)) next set full among

  -- only the newest has its number
  is_newest : (g : Status) → IsAmong (begun history) g → rank next ≤ rank g → g ≡ next
  is_newest g h le = ⊎_elim (λ same. same) (λ (lt : rank g < rank next). absurd (omega (arith, lt, le))) (top g h)

  -- a disk with the newest record shows each epoch
  shows_epochs : (g : Status) → IsAmong (begun history) g → (d : Holder) → has_from disks (rank next) d ≡ true → shows_from disks g.epoch d ≡ true
  shows_epochs g h d from = go (disks d).status refl from
    where
      epoch : g.epoch ≤ next.epoch
      epoch = epoch_newest disks history older next kept is g h

      go : (o : Option Status) → (disks d).status ≡ o → is_from (rank next) o ≡ true → nat_le g.epoch (max (disks d).claimed (epoch_of o)) ≡ true
      go None e from = absurd (false≢true from)
      go (Some r) e from =
          let same : r ≡ next = is_newest r (kept.held d r e) (leb-true (rank next) (rank r) from) in
          le-leb g.epoch (max (disks d).claimed r.epoch) (at_most (disks d).claimed r.epoch (omega (arith, epoch, ap (λ (s : Status). s.epoch) same)))
        where
          at_most : (a b : ℕ) → g.epoch ≤ b → g.epoch ≤ max a b
          at_most a b le = omega arith

  -- what isn't as new is superseded
  module _ (v : Status) (old : AtBase disks history v) where
    older_superseded : (g : Status) → IsAmong (begun history) g → rank g < rank next → Superseded disks g
    older_superseded g h lt = ⊎_elim (λ less. old.superseded g h less)
        (λ le. record {
          set = pivot (sets v);
          among = shares_pivot v g (old.follow g h le);
          greater = majority_grows (has_from disks (rank next)) (has_from disks (rank g + 1)) (pivot (sets v)) (λ d from. has_from_below disks (rank g + 1) (rank next) d (omega (arith, lt)) from)
              (majority (pivot (sets v)) (shares_pivot v next (old.follow next new (newest_from v old.is_begun))));
        })
        (cases_lt (rank g) (rank v))
      where
        newest_from : (r : Status) → IsAmong (begun history) r → rank r ≤ rank next
        newest_from r k = ⊎_elim (λ (same : r ≡ next). omega (arith, ap rank same)) (λ (lt : rank r < rank next). omega (arith, lt)) (top r k)

    older_completed : (w : Status) → IsAmong history (Completed w) → (w ≡ next) ⊎ (rank w < rank next)
    older_completed w h = ⊎_elim
        (λ (same : w ≡ v). ⊎_elim (λ (also : v ≡ next). inl (same ∙ also)) (λ (lt : rank v < rank next). inr (omega (arith, lt, ap rank same))) (top v old.is_begun))
        (λ (less : rank w < rank v). ⊎_elim (λ (also : v ≡ next). inr (omega (arith, less, ap rank also))) (λ (lt : rank v < rank next). inr (omega (arith, less, lt))) (top v old.is_begun))
        (old.completed w h)

    complete_base : AtBase disks (Completed next ∷ history) next
    complete_base = record {
      is_begun = new;
      superseded = older_superseded;
      follow = λ g h le. subst (λ (r : Status). Follows next r) (sym (is_newest g h le)) (follows_itself next);
      current = λ g h le. inl (ap (λ (r : Status). Some r) (sym (is_newest g h le)));
      since = λ g h. absurd h;
      above = λ last g h. absurd h;
      shown = λ g h. majority_grows (has_from disks (rank next)) (shows_from disks g.epoch) (pivot (sets next)) (shows_epochs g h) (majority (pivot (sets next)) (shares_pivot next next (follows_itself next)));
      stands = λ last. full;
      completed = λ w h. ⊎_elim (λ (same : Completed w ≡ Completed next). let one : w ≡ next = cc in inl one) (λ was. older_completed w was) h;
    }

  pub complete_kept : Kept disks (Completed next ∷ history)
  complete_kept = record {
    allowed = kept.allowed;
    held = kept.held;
    numbered = kept.numbered;
    at_base = λ u e. let b = has_base history next new in
        subst (λ (r : Status). AtBase disks (Completed next ∷ history) r) (same_Some next u e) (complete_base b.0 (kept.at_base b.0 b.1));
  }

  pub complete_known : (l : List Mark) × (Completed next ∷ history ≡ Completed next ∷ l) × ((g : Status) → IsAmong (begun (Completed next ∷ history)) g → (g ≡ next) ⊎ (rank g < rank next))
  complete_known = (history, refl, top)
