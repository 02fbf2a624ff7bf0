-- What a survey finds.
use Rattle.std.proofs.Common.{◌≡◌, ◌⊎◌, inl, inr, ⊎_elim, ℕ, ◌+◌, ◌<◌, ◌≤◌, true, List, [], refl, sym, ap, subst, ◌∙◌, Option, Some, None, arith}
use Rattle.std.proofs.lemmas.Bool.{cases_lt, cond-true, false≢true, leb-true}
use Rattle.std.proofs.lemmas.Option.{same_Some}
use Rattle.asm_formats.specs.Among.{IsAmong}
use Rattle.asm_formats.specs.Status.{Status}
use Rattle.asm_formats.specs.Following.{Holder, rank, sets, Follows}
use Rattle.register_machine.specs.Disks.{DisksByHolder, is_in, is_enough, greatest, where_enough, surveyed_record, shown_epoch, seen_epoch}
use Rattle.register_machine.specs.Machine.{Mark, Completed}
use Rattle.register_machine.specs.Laws.{begun, begun_since, last_completed, IsCurrent}
use Rattle.register_machine.proofs.Counting.{majorities_meet, majority_of}
use Rattle.register_machine.proofs.Pivots.{pivot, shares_pivot, follows_itself}
use Rattle.register_machine.proofs.Surveying.{in_read, HasFrom, greatest_most, greatest_held, surveyed_parts, epoch_seen}
use Rattle.register_machine.proofs.Rising.{is_from, has_from, shows_from}
use Rattle.register_machine.proofs.Histories.{base, has_base, last_is_base, since_begun}
use Rattle.register_machine.proofs.Invariant.{Superseded, AtBase, Kept, IsClaim}

-- disks of which one holds a record from this number on have a greatest one from it on
from_one : (disks : DisksByHolder) (read : List Holder) (n : ℕ) (d : Holder) → IsAmong read d → has_from disks n d ≡ true → (g : Status) × (greatest disks read ≡ Some g) × (n ≤ rank g)
from_one disks read n d among h = go (disks d).status refl h
  where
    go : (o : Option Status) → (disks d).status ≡ o → is_from n o ≡ true → (g : Status) × (greatest disks read ≡ Some g) × (n ≤ rank g)
    go None is from = absurd (false≢true from)
    go (Some r) is from =
        let most : HasFrom r (greatest disks read) = greatest_most disks read d r among is in
        let le = leb-true n (rank r) from in
        (most.0, most.1, omega (arith, le, most.2))

-- ---- what is found is not superseded

pub found_begun : (disks : DisksByHolder) (history : List Mark) (kept : Kept disks history) (read : List Holder) (r : Status) → surveyed_record disks read ≡ Some r → IsAmong (begun history) r
found_begun disks history kept read r e = let h = greatest_held disks read r (surveyed_parts disks read r e).0 in kept.held h.0 r h.2

found_stands : (disks : DisksByHolder) (read : List Holder) (r : Status) → surveyed_record disks read ≡ Some r → Superseded disks r → ⊥
found_stands disks read r e s =
    let parts = surveyed_parts disks read r e in
    let m = majorities_meet (is_in read) (has_from disks (rank r + 1)) s.set (majority_of (is_in read) r s.set parts.1 s.among) s.greater in
    let g = from_one disks read (rank r + 1) m.0 (in_read read m.0 m.2) m.3 in
    let same : g.0 ≡ r = same_Some g.0 r (sym g.1 ∙ parts.0) in
    omega (arith, g.2, ap rank same)

pub found_from : (disks : DisksByHolder) (history : List Mark) (kept : Kept disks history) (v : Status) → AtBase disks history v → (read : List Holder) (r : Status) → surveyed_record disks read ≡ Some r → rank v ≤ rank r
found_from disks history kept v at read r e = ⊎_elim
    (λ less. absurd (found_stands disks read r e (at.superseded r (found_begun disks history kept read r e) less))) (λ le. le) (cases_lt (rank r) (rank v))

pub found_current : (disks : DisksByHolder) (history : List Mark) (kept : Kept disks history) (read : List Holder) (r : Status) → surveyed_record disks read ≡ Some r → IsCurrent history r
found_current disks history kept read r e =
    let h = found_begun disks history kept read r e in
    let b = has_base history r h in
    let at = kept.at_base b.0 b.1 in
    at.current r h (found_from disks history kept b.0 at read r e)

-- ---- epochs

-- disks that are enough for a record that follows the base see each epoch
pub epochs_seen : (disks : DisksByHolder) (history : List Mark) (v r g : Status) (read : List Holder) → AtBase disks history v → Follows v r → is_enough (is_in read) r ≡ true → IsAmong (begun history) g
    → g.epoch ≤ seen_epoch disks read
epochs_seen disks history v r g read at follows enough h =
    let m = majorities_meet (is_in read) (shows_from disks g.epoch) (pivot (sets v)) (majority_of (is_in read) r (pivot (sets v)) enough (shares_pivot v r follows)) (at.shown g h) in
    let shown = leb-true g.epoch (shown_epoch (disks m.0)) m.3 in
    let seen = epoch_seen disks read m.0 (in_read read m.0 m.2) in
    omega (arith, shown, seen)

pub found_claims : (disks : DisksByHolder) (history : List Mark) (kept : Kept disks history) (read : List Holder) (r : Status) → surveyed_record disks read ≡ Some r → IsClaim history r (seen_epoch disks read + 1)
found_claims disks history kept read r e =
    let h = found_begun disks history kept read r e in
    let b = has_base history r h in
    let follows : (v : Status) → base history ≡ Some v → Follows v r = λ v is. let at = kept.at_base v is in at.follow r h (found_from disks history kept v at read r e) in
    record {
      above = λ g k. let seen = epochs_seen disks history b.0 r g read (kept.at_base b.0 b.1) (follows b.0 b.1) (surveyed_parts disks read r e).1 k in omega (arith, seen);
      follows = follows;
    }

-- what is current is from the base on
pub current_from : (disks : DisksByHolder) (history : List Mark) (kept : Kept disks history) (r : Status) → IsCurrent history r → (v : Status) × (base history ≡ Some v) × IsAmong (begun history) r × (rank v ≤ rank r)
current_from disks history kept r (inl last) = let is = last_is_base history r last in (r, is, (kept.at_base r is).is_begun, omega arith)
current_from disks history kept r (inr since) =
    let h = since_begun history r since in
    let b = has_base history r h in
    (b.0, b.1, h, (kept.at_base b.0 b.1).since r since)

pub current_sees : (disks : DisksByHolder) (history : List Mark) (kept : Kept disks history) (r g : Status) (read : List Holder) → IsCurrent history r → is_enough (is_in read) r ≡ true → IsAmong (begun history) g
    → g.epoch ≤ seen_epoch disks read
current_sees disks history kept r g read current enough h =
    let from = current_from disks history kept r current in
    let at = kept.at_base from.0 from.1 in
    epochs_seen disks history from.0 r g read at (at.follow r from.2 from.3) enough h

-- ---- the completed record

pub completed_held : (disks : DisksByHolder) (history : List Mark) (kept : Kept disks history) (v : Status) (read : List Holder) → last_completed history ≡ Some v → is_enough (is_in read) v ≡ true
    → (r : Status) × (greatest disks read ≡ Some r) × IsCurrent history r
completed_held disks history kept v read last enough =
    let at = kept.at_base v (last_is_base history v last) in
    let set = pivot (sets v) in
    let among = shares_pivot v v (follows_itself v) in
    let m = majorities_meet (is_in read) (has_from disks (rank v)) set (majority_of (is_in read) v set enough among) (majority_of (has_from disks (rank v)) v set (at.stands last) among) in
    let g = from_one disks read (rank v) m.0 (in_read read m.0 m.2) m.3 in
    let h = greatest_held disks read g.0 g.1 in
    (g.0, g.1, at.current g.0 (kept.held h.0 g.0 h.2) g.2)

pub completed_found : (disks : DisksByHolder) (history : List Mark) (kept : Kept disks history) (v : Status) (read : List Holder) → last_completed history ≡ Some v → begun_since history ≡ []
    → is_enough (is_in read) v ≡ true → surveyed_record disks read ≡ Some v
completed_found disks history kept v read last none enough =
    let h = completed_held disks history kept v read last enough in
    let same : h.0 ≡ v = ⊎_elim
    (λ (is : last_completed history ≡ Some h.0). same_Some h.0 v (sym is ∙ last))
    (λ since. absurd (subst (λ (l : List Status). IsAmong l h.0) none since)) h.2 in
    ap (λ (o : Option Status). where_enough read o) (h.1 ∙ ap (λ (r : Status). Some r) same) ∙ cond-true (is_enough (is_in read) v) (Some v) None enough

pub begun_follow : (disks : DisksByHolder) (history : List Mark) (kept : Kept disks history) (v r : Status) → last_completed history ≡ Some v → IsAmong (begun_since history) r → (rank v < rank r) × Follows v r
begun_follow disks history kept v r last since =
    let at = kept.at_base v (last_is_base history v last) in
    (at.above last r since, at.follow r (since_begun history r since) (at.since r since))

pub last_greatest : (disks : DisksByHolder) (history : List Mark) (kept : Kept disks history) (v w : Status) → last_completed history ≡ Some v → IsAmong history (Completed w) → (w ≡ v) ⊎ (rank w < rank v)
last_greatest disks history kept v w last done = (kept.at_base v (last_is_base history v last)).completed w done
