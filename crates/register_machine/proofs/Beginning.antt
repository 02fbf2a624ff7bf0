-- A record is begun.
use Rattle.std.proofs.Common.{◌≡◌, ◌⊎◌, inl, inr, ⊎_elim, ℕ, ◌<◌, true, List, [], ◌∷◌, refl, sym, ap, subst, ◌∙◌, Option, Some, None, arith}
use Rattle.std.proofs.lemmas.Option.{none-some, same_Some}
use Rattle.asm_formats.specs.Among.{IsAmong}
use Rattle.asm_formats.specs.Status.{Status, is_status}
use Rattle.asm_formats.specs.Following.{Holder, rank, sets, Follows, most_pass}
use Rattle.asm_formats.proofs.Orders.{is_ranked}
use Rattle.register_machine.specs.Disks.{DisksByHolder, is_enough, has_claim}
use Rattle.register_machine.specs.Machine.{Mark, Begun, Completed, Program, Idle, Claiming, Claimed, Writing, Holding, MayBegin}
use Rattle.register_machine.specs.Laws.{begun, begun_since, last_completed}
use Rattle.register_machine.proofs.Counting.{majority_grows, majority_of}
use Rattle.register_machine.proofs.Pivots.{pivot, shares_pivot, follows_itself, same_sets}
use Rattle.register_machine.proofs.Rising.{shows_from, claim_shows}
use Rattle.register_machine.proofs.Histories.{or_first, base, no_base}
use Rattle.register_machine.proofs.Invariant.{AtBase, Kept, IsClaim, Knows}

-- ---- a record of a greatest number that follows, whose epoch the shared set shows

pub record IsNext (disks : DisksByHolder) (history : List Mark) (next : Status) : Type 0 where
  pub allowed : is_status next ≡ true
  pub above : (g : Status) → IsAmong (begun history) g → rank g < rank next
  pub follows : (v : Status) → base history ≡ Some v → Follows v next
  pub shown : (v : Status) → base (Begun next ∷ history) ≡ Some v → most_pass (shows_from disks next.epoch) (pivot (sets v)) ≡ true

module _ (disks : DisksByHolder) (history : List Mark) (next : Status) (kept : Kept disks history) (is : IsNext disks history next) where
  -- the first record of all
  first_base : history ≡ [] → base history ≡ None → AtBase disks (Begun next ∷ history) next
  first_base nothing none = record {
    is_begun = inl refl;
    superseded = λ g h lt. ⊎_elim (λ (same : g ≡ next). absurd (omega (arith, lt, ap rank same))) (λ old. absurd (no_record g old)) h;
    follow = λ g h le. ⊎_elim (λ (same : g ≡ next). subst (λ (r : Status). Follows next r) (sym same) (follows_itself next)) (λ old. absurd (no_record g old)) h;
    current = λ g h le. ⊎_elim (λ (same : g ≡ next). inr (inl same)) (λ old. absurd (no_record g old)) h;
    since = λ g h. ⊎_elim (λ (same : g ≡ next). omega (arith, ap rank same)) (λ old. absurd (not_since g old)) h;
    above = λ last. absurd (not_last last);
    shown = λ g h. ⊎_elim (λ (same : g ≡ next). subst (λ (r : Status). most_pass (shows_from disks r.epoch) (pivot (sets next)) ≡ true) (sym same) (is.shown next first_of)) (λ old. absurd (no_record g old)) h;
    stands = λ last. absurd (not_last last);
    completed = λ w h. ⊎_elim (λ (same : Completed w ≡ Begun next). absurd cc) (λ old. absurd (no_mark (Completed w) old)) h;
  }
    where
      no_record : (g : Status) → IsAmong (begun history) g → ⊥
      no_record g h = subst (λ (l : List Mark). IsAmong (begun l) g) nothing h

      not_since : (g : Status) → IsAmong (begun_since history) g → ⊥
      not_since g h = subst (λ (l : List Mark). IsAmong (begun_since l) g) nothing h

      no_mark : (m : Mark) → IsAmong history m → ⊥
      no_mark m h = subst (λ (l : List Mark). IsAmong l m) nothing h

      not_last : last_completed history ≡ Some next → ⊥
      not_last last = none-some next (ap (λ (l : List Mark). last_completed l) (sym nothing) ∙ last)

      first_of : base (Begun next ∷ history) ≡ Some next
      first_of = ap (λ (o : Option Status). or_first o next) none

  -- a later one
  later_base : (v : Status) → base history ≡ Some v → AtBase disks history v → AtBase disks (Begun next ∷ history) v
  later_base v some old = record {
    is_begun = inr old.is_begun;
    superseded = λ g h lt. ⊎_elim (λ (same : g ≡ next). let gt = is.above v old.is_begun in absurd (omega (arith, lt, gt, ap rank same))) (λ was. old.superseded g was lt) h;
    follow = λ g h le. ⊎_elim (λ (same : g ≡ next). subst (λ (r : Status). Follows v r) (sym same) (is.follows v some)) (λ was. old.follow g was le) h;
    current = λ g h le. ⊎_elim (λ (same : g ≡ next). inr (inl same)) (λ was. ⊎_elim (λ last. inl last) (λ since. inr (inr since)) (old.current g was le)) h;
    since = λ g h. ⊎_elim (λ (same : g ≡ next). let gt = is.above v old.is_begun in omega (arith, gt, ap rank same)) (λ was. old.since g was) h;
    above = λ last g h. ⊎_elim (λ (same : g ≡ next). let gt = is.above v old.is_begun in omega (arith, gt, ap rank same)) (λ was. old.above last g was) h;
    shown = λ g h. ⊎_elim
        (λ (same : g ≡ next). subst (λ (r : Status). most_pass (shows_from disks r.epoch) (pivot (sets v)) ≡ true) (sym same) (is.shown v (ap (λ (o : Option Status). or_first o next) some)))
        (λ was. old.shown g was) h;
    stands = old.stands;
    completed = λ w h. ⊎_elim (λ (same : Completed w ≡ Begun next). absurd cc) (λ was. old.completed w was) h;
  }

  next_base : (o : Option Status) → base history ≡ o → (v : Status) → or_first o next ≡ Some v → AtBase disks (Begun next ∷ history) v
  next_base None none v e = subst (λ (r : Status). AtBase disks (Begun next ∷ history) r) (same_Some next v e) (first_base (no_base history none) none)
  next_base (Some u) some v e = subst (λ (r : Status). AtBase disks (Begun next ∷ history) r) (same_Some u v e) (later_base u some (kept.at_base u some))

  pub next_kept : Kept disks (Begun next ∷ history)
  next_kept = record {
    allowed = λ r h. ⊎_elim (λ (same : r ≡ next). subst (λ (s : Status). is_status s ≡ true) (sym same) is.allowed) (λ was. kept.allowed r was) h;
    held = λ d r h. inr (kept.held d r h);
    numbered = (is.above, kept.numbered);
    at_base = λ v e. next_base (base history) refl v e;
  }

-- ---- what the program may begin

-- after a claim
claimed_next : (disks : DisksByHolder) (history : List Mark) (found : Status) (epoch : ℕ) (next : Status) → Kept disks history → is_status next ≡ true → IsClaim history found epoch → is_enough (has_claim disks epoch) found ≡ true
    → next.epoch ≡ epoch → sets next ≡ sets found → IsNext disks history next
claimed_next disks history found epoch next kept allowed claim claims is same = record {
  allowed = allowed;
  above = λ g h. let lt = claim.above g h in is_ranked.by_epoch g next (kept.allowed g h) (omega (arith, lt, is));
  follows = follows;
  shown = λ v e. majority_grows (has_claim disks epoch) (shows_from disks next.epoch) (pivot (sets v)) (λ d h. claim_shows disks next.epoch epoch d (omega (arith, is)) h)
      (majority_of (has_claim disks epoch) found (pivot (sets v)) claims
      (subst (λ (l : List (List Holder)). IsAmong l (pivot (sets v))) same (shares_pivot v next (base_follows (base history) refl v e))));
}
  where
    follows : (v : Status) → base history ≡ Some v → Follows v next
    follows v e = same_sets v found next same (claim.follows v e)

    base_follows : (o : Option Status) → base history ≡ o → (v : Status) → or_first o next ≡ Some v → Follows v next
    base_follows None none v e = subst (λ (r : Status). Follows r next) (same_Some next v e) (follows_itself next)
    base_follows (Some u) some v e = follows v (some ∙ e)

-- after a record of its own
holding_next : (disks : DisksByHolder) (history : List Mark) (last next : Status) → Kept disks history → is_status next ≡ true → base history ≡ Some last → ((g : Status) → IsAmong (begun history) g → (g ≡ last) ⊎ (rank g < rank last))
    → next.epoch ≡ last.epoch → last.turn < next.turn → Follows last next → IsNext disks history next
holding_next disks history last next kept allowed at top epoch turn follows = record {
  allowed = allowed;
  above = λ g h. ⊎_elim (λ (same : g ≡ last). omega (arith, more, ap rank same)) (λ (lt : rank g < rank last). omega (arith, more, lt)) (top g h);
  follows = λ v e. subst (λ (r : Status). Follows r next) (same_Some last v (sym at ∙ e)) follows;
  shown = λ v e. subst (λ (r : Status). most_pass (shows_from disks next.epoch) (pivot (sets r)) ≡ true) (same_Some last v (sym (ap (λ (o : Option Status). or_first o next) at) ∙ e))
      (subst (λ (n : ℕ). most_pass (shows_from disks n) (pivot (sets last)) ≡ true) (sym epoch) (base_is.shown last base_is.is_begun));
}
  where
    more : rank last < rank next
    more = is_ranked.by_turn last next (sym epoch) turn

    base_is : AtBase disks history last
    base_is = kept.at_base last at

pub may_begin : (disks : DisksByHolder) (history : List Mark) (p : Program) (next : Status) → Kept disks history → Knows disks history p → is_status next ≡ true → MayBegin p next → IsNext disks history next
may_begin disks history Idle next kept knows allowed may = absurd may
may_begin disks history (Claiming found epoch) next kept knows allowed may = absurd may
may_begin disks history (Claimed found epoch) next kept knows allowed may = claimed_next disks history found epoch next kept allowed knows.0 knows.1 may.0 may.1
may_begin disks history (Writing other) next kept knows allowed may = absurd may
may_begin disks history (Holding last) next kept knows allowed may =
    holding_next disks history last next kept allowed (ap (λ (l : List Mark). base l) knows.1) knows.2 may.0 may.1 may.2
