-- Claims and records that are put on disks keep what is kept.
use Rattle.std.proofs.Common.{◌≡◌, ◌⊎◌, inl, ⊎_elim, ℕ, ◌+◌, ◌<◌, ◌≤◌, List, ◌∷◌, refl, sym, ap, subst, ◌∙◌, Option, Some, None, arith}
use Rattle.std.proofs.lemmas.Bool.{cases_lt}
use Rattle.asm_formats.specs.Among.{IsAmong}
use Rattle.asm_formats.specs.Status.{Status}
use Rattle.asm_formats.specs.Following.{Holder, rank, sets}
use Rattle.asm_formats.proofs.Orders.{is_ranked}
use Rattle.register_machine.specs.Disks.{DisksByHolder, with_claim, with_record, has_claim}
use Rattle.register_machine.specs.Machine.{Mark, Begun, Program, Idle, Claiming, Claimed, Writing, Holding}
use Rattle.register_machine.specs.Laws.{begun}
use Rattle.register_machine.proofs.Counting.{majority_grows, enough_grows}
use Rattle.register_machine.proofs.Pivots.{pivot}
use Rattle.register_machine.proofs.Rising.{Rises, has_from, shows_from, IsNotAbove, claim_rises, claim_keeps, record_rises, record_held}
use Rattle.register_machine.proofs.Histories.{newest}
use Rattle.register_machine.proofs.Invariant.{Superseded, AtBase, Kept, Knows}

superseded_rises : (old new : DisksByHolder) (g : Status) → Rises old new → Superseded old g → Superseded new g
superseded_rises old new g rises s = record {
  set = s.set;
  among = s.among;
  greater = majority_grows (has_from old (rank g + 1)) (has_from new (rank g + 1)) s.set (rises.records (rank g + 1)) s.greater;
}

base_rises : (old new : DisksByHolder) (history : List Mark) (v : Status) → Rises old new → AtBase old history v → AtBase new history v
base_rises old new history v rises at = record {
  is_begun = at.is_begun;
  superseded = λ g h lt. superseded_rises old new g rises (at.superseded g h lt);
  follow = at.follow;
  current = at.current;
  since = at.since;
  above = at.above;
  shown = λ g h. majority_grows (shows_from old g.epoch) (shows_from new g.epoch) (pivot (sets v)) (rises.epochs g.epoch) (at.shown g h);
  stands = λ last. enough_grows (has_from old (rank v)) (has_from new (rank v)) v (rises.records (rank v)) (at.stands last);
  completed = at.completed;
}

kept_rises : (old new : DisksByHolder) (history : List Mark) → Rises old new → ((d : Holder) (r : Status) → (new d).status ≡ Some r → IsAmong (begun history) r) → Kept old history → Kept new history
kept_rises old new history rises held kept = record {
  allowed = kept.allowed;
  held = held;
  numbered = kept.numbered;
  at_base = λ v is. base_rises old new history v rises (kept.at_base v is);
}

knows_rises : (old new : DisksByHolder) (history : List Mark) (p : Program) → Rises old new → Knows old history p → Knows new history p
knows_rises old new history Idle rises k = k
knows_rises old new history (Claiming found epoch) rises k = k
knows_rises old new history (Claimed found epoch) rises k = (k.0, enough_grows (has_claim old epoch) (has_claim new epoch) found (rises.claims epoch) k.1)
knows_rises old new history (Writing next) rises k = k
knows_rises old new history (Holding last) rises k = k

-- ---- a claim is put

pub claim_kept : (disks : DisksByHolder) (history : List Mark) (place : Holder) (epoch : ℕ) → Kept disks history → Kept (with_claim disks place epoch) history
claim_kept disks history place epoch kept = kept_rises disks (with_claim disks place epoch) history (claim_rises disks place epoch)
    (λ d r is. kept.held d r (sym (claim_keeps disks place epoch d) ∙ is)) kept

pub claim_known : (disks : DisksByHolder) (history : List Mark) (place : Holder) (epoch : ℕ) (p : Program) → Knows disks history p → Knows (with_claim disks place epoch) history p
claim_known disks history place epoch p k = knows_rises disks (with_claim disks place epoch) history p (claim_rises disks place epoch) k

-- ---- the newest record is put

-- no record is above the newest
module _ (disks : DisksByHolder) (history older : List Mark) (next : Status) (kept : Kept disks history) (is : history ≡ Begun next ∷ older) where
  pub writing_newest : (r : Status) → IsAmong (begun history) r → (r ≡ next) ⊎ (rank r < rank next)
  writing_newest r h = newest (begun history) (begun older) next (ap (λ (l : List Mark). begun l) is) kept.numbered r h

  pub next_begun : IsAmong (begun history) next
  next_begun = subst (λ (l : List Mark). IsAmong (begun l) next) (sym is) (inl refl)

  pub epoch_newest : (r : Status) → IsAmong (begun history) r → r.epoch ≤ next.epoch
  epoch_newest r h = ⊎_elim
      (λ (less : next.epoch < r.epoch). let lt : rank next < rank r = is_ranked.by_epoch next r (kept.allowed next next_begun) less in
      absurd (⊎_elim (λ (same : r ≡ next). omega (arith, lt, ap rank same)) (λ (gt : rank r < rank next). omega (arith, lt, gt)) (writing_newest r h)))
      (λ le. le) (cases_lt next.epoch r.epoch)

  not_above : (o : Option Status) → ((r : Status) → o ≡ Some r → IsAmong (begun history) r) → IsNotAbove o next
  not_above None all = tt
  not_above (Some r) all =
      let h = all r refl in
      (⊎_elim (λ (same : r ≡ next). omega (arith, ap rank same)) (λ (lt : rank r < rank next). omega (arith, lt)) (writing_newest r h), epoch_newest r h)

  rises : (place : Holder) → Rises disks (with_record disks place next)
  rises place = record_rises disks place next (not_above (disks place).status (kept.held place))

  pub record_kept : (place : Holder) → Kept (with_record disks place next) history
  record_kept place = kept_rises disks (with_record disks place next) history (rises place)
      (λ d r h. ⊎_elim (λ (same : r ≡ next). subst (λ (s : Status). IsAmong (begun history) s) (sym same) next_begun) (λ was. kept.held d r was) (record_held disks place next d r h)) kept

  pub record_known : (place : Holder) (p : Program) → Knows disks history p → Knows (with_record disks place next) history p
  record_known place p k = knows_rises disks (with_record disks place next) history p (rises place) k
