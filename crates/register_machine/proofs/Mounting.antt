-- A mount by disks that are enough.
use Rattle.std.proofs.Common.{◌≡◌, ◌⊎◌, inl, inr, ⊎_elim, ℕ, ◌^◌, ◌<◌, ◌≤◌, true, max, List, [], ◌∷◌, ◌++◌, map, refl, sym, ap, subst, ◌∙◌, Some, arith, IsTrue, ◌==◌}
use Rattle.std.specs.Prelude.{nat_le, nat_lt}
use Rattle.std.proofs.lemmas.Bool.{and_from, and_parts, both_ways, cond_both, eq-eqb, le-leb, lt-ltb}
use Rattle.asm_formats.specs.Among.{IsAmong}
use Rattle.asm_formats.specs.Status.{Status, is_status}
use Rattle.asm_formats.specs.Following.{Holder, rank}
use Rattle.register_machine.specs.Disks.{Disk, DisksByHolder, is_same, is_in, is_enough, with_disk, with_claim, with_record, has_claim, has_number, has_record}
use Rattle.register_machine.specs.Machine.{Begun, Completed, Claiming, Claimed, Writing, Holding, State, Event, Claims, ClaimStands, Begins, Stores, Completes, MayBegin, after, AreAllowed, after_all}
use Rattle.register_machine.specs.Laws.{last_completed}
use Rattle.register_machine.specs.Mounts.{claims, completes, anew, next_epoch, CanBeMounted}
use Rattle.register_machine.proofs.Counting.{enough_grows}
use Rattle.register_machine.proofs.Surveying.{in_read, surveyed_parts}
use Rattle.register_machine.proofs.Finding.{found_begun}
use Rattle.register_machine.proofs.Invariant.{Kept}

-- ---- one event after the other

joined : (s : State) (es fs : List Event) → AreAllowed s es → AreAllowed (after_all s es) fs → AreAllowed s (es ++ fs)
joined s [] fs a b = b
joined s (e ∷ es) fs a b = (a.0, joined (after s e) es fs a.1 b)

after_both : (s : State) (es fs : List Event) → after_all s (es ++ fs) ≡ after_all (after_all s es) fs
after_both s [] fs = refl
after_both s (e ∷ es) fs = after_both (after s e) es fs

-- what leads from one state to another
record Leads (s : State) (events : List Event) (t : State) : Type 0 where
  allowed : AreAllowed s events
  there : after_all s events ≡ t

leads_on : (s t u : State) (es fs : List Event) → Leads s es t → Leads t fs u → Leads s (es ++ fs) u
leads_on s t u es fs a b = record {
  allowed = joined s es fs a.allowed (subst (λ (x : State). AreAllowed x fs) (sym a.there) b.allowed);
  there = after_both s es fs ∙ ap (λ (x : State). after_all x fs) a.there ∙ b.there;
}

same_self : (d : Holder) → is_same d d ≡ true
same_self d = and_from (d.0 == d.0) (d.1 == d.1) (eq-eqb d.0 d.0 refl) (eq-eqb d.1 d.1 refl)

-- what holds of the disk that changes, and held of the others, holds of each
changed : (P : Disk → Type 0) (disks : DisksByHolder) (place : Holder) (new : Disk) (d : Holder) → P new → (is_same place d ≡ true) ⊎ P (disks d) → P (with_disk disks place new d)
changed P disks place new d now before = cond_both (is_same place d) new (disks d) P (λ same. now)
    (λ other. ⊎_elim (λ (same : is_same place d ≡ true). absurd (both_ways (is_same place d) other same)) (λ was. was) before)

-- ---- the claim is put on each of the disks

abbrev claimed_on : DisksByHolder → List Holder → ℕ → DisksByHolder
claimed_on disks [] epoch = disks
claimed_on disks (d ∷ ds) epoch = claimed_on (with_claim disks d epoch) ds epoch

claim_on : (disks : DisksByHolder) (place : Holder) (epoch : ℕ) (d : Holder) → (is_same place d ≡ true) ⊎ (has_claim disks epoch d ≡ true) → has_claim (with_claim disks place epoch) epoch d ≡ true
claim_on disks place epoch d before = changed (λ (x : Disk). nat_le epoch x.claimed ≡ true) disks place (record { claimed = max epoch (disks place).claimed; status = (disks place).status }) d
    (le-leb epoch (max epoch (disks place).claimed) (at_most (disks place).claimed)) before
  where
    at_most : (b : ℕ) → epoch ≤ max epoch b
    at_most b = omega arith

claim_stays : (disks : DisksByHolder) (ds : List Holder) (epoch : ℕ) (d : Holder) → has_claim disks epoch d ≡ true → has_claim (claimed_on disks ds epoch) epoch d ≡ true
claim_stays disks [] epoch d h = h
claim_stays disks (e ∷ es) epoch d h = claim_stays (with_claim disks e epoch) es epoch d (claim_on disks e epoch d (inr h))

all_claimed : (disks : DisksByHolder) (ds : List Holder) (epoch : ℕ) (d : Holder) → IsAmong ds d → has_claim (claimed_on disks ds epoch) epoch d ≡ true
all_claimed disks [] epoch d h = absurd h
all_claimed disks (e ∷ es) epoch d (inl same) = claim_stays (with_claim disks e epoch) es epoch d
    (claim_on disks e epoch d (inl (subst (λ (f : Holder). is_same f d ≡ true) same (same_self d))))
all_claimed disks (e ∷ es) epoch d (inr h) = all_claimed (with_claim disks e epoch) es epoch d h

put_claims : (s : State) (ds : List Holder) (found : Status) (epoch : ℕ) → s.program ≡ Claiming found epoch
    → Leads s (map (λ d. Claims d found epoch) ds) (record s { disks = claimed_on s.disks ds epoch })
put_claims s [] found epoch at = record { allowed = tt; there = refl }
put_claims s (d ∷ ds) found epoch at =
    let later = put_claims (after s (Claims d found epoch)) ds found epoch at in
    record { allowed = (at, later.allowed); there = later.there }

claims_lead : (s : State) (read : List Holder) (found : Status) (epoch : ℕ) → s.program ≡ Claiming found epoch → is_enough (is_in read) found ≡ true
    → Leads s (claims read found epoch) (record s { disks = claimed_on s.disks read epoch; program = Claimed found epoch })
claims_lead s read found epoch at enough = leads_on s (record s { disks = claimed_on s.disks read epoch }) (record s { disks = claimed_on s.disks read epoch; program = Claimed found epoch })
    (map (λ d. Claims d found epoch) read) (ClaimStands found epoch ∷ [])
    (put_claims s read found epoch at)
    (record {
      allowed = ((at, enough_grows (is_in read) (has_claim (claimed_on s.disks read epoch) epoch) found (λ d h. all_claimed s.disks read epoch d (in_read read d h)) enough), tt);
      there = refl;
    })

-- ---- the record is put on each of the disks

abbrev stored_on : DisksByHolder → List Holder → Status → DisksByHolder
stored_on disks [] r = disks
stored_on disks (d ∷ ds) r = stored_on (with_record disks d r) ds r

record_on : (disks : DisksByHolder) (place : Holder) (r : Status) (d : Holder) → (is_same place d ≡ true) ⊎ (has_record disks r d ≡ true) → has_record (with_record disks place r) r d ≡ true
record_on disks place r d before = changed (λ (x : Disk). has_number (rank r) x.status ≡ true) disks place (record { claimed = (disks place).claimed; status = Some r }) d
    (eq-eqb (rank r) (rank r) refl) before

record_stays : (disks : DisksByHolder) (ds : List Holder) (r : Status) (d : Holder) → has_record disks r d ≡ true → has_record (stored_on disks ds r) r d ≡ true
record_stays disks [] r d h = h
record_stays disks (e ∷ es) r d h = record_stays (with_record disks e r) es r d (record_on disks e r d (inr h))

all_stored : (disks : DisksByHolder) (ds : List Holder) (r : Status) (d : Holder) → IsAmong ds d → has_record (stored_on disks ds r) r d ≡ true
all_stored disks [] r d h = absurd h
all_stored disks (e ∷ es) r d (inl same) = record_stays (with_record disks e r) es r d
    (record_on disks e r d (inl (subst (λ (f : Holder). is_same f d ≡ true) same (same_self d))))
all_stored disks (e ∷ es) r d (inr h) = all_stored (with_record disks e r) es r d h

put_records : (s : State) (ds : List Holder) (next : Status) → s.program ≡ Writing next
    → Leads s (map (λ d. Stores d next) ds) (record s { disks = stored_on s.disks ds next })
put_records s [] next at = record { allowed = tt; there = refl }
put_records s (d ∷ ds) next at =
    let later = put_records (after s (Stores d next)) ds next at in
    record { allowed = (at, later.allowed); there = later.there }

-- the record is begun, put and complete
record_leads : (s : State) (read : List Holder) (next : Status) → IsTrue (is_status next) → MayBegin s.program next → is_enough (is_in read) next ≡ true
    → Leads s (completes read next) (record s { disks = stored_on s.disks read next; program = Holding next; history = Completed next ∷ Begun next ∷ s.history })
record_leads s read next allowed may enough =
    let writing : State = after s (Begins next) in
    let stored : State = record writing { disks = stored_on s.disks read next } in
    let held : State = record s { disks = stored_on s.disks read next; program = Holding next; history = Completed next ∷ Begun next ∷ s.history } in
    let last : Leads stored (Completes next ∷ []) held =
    record {
      allowed = ((refl, enough_grows (is_in read) (has_record (stored_on s.disks read next) next) next (λ d h. all_stored s.disks read next d (in_read read d h)) enough), tt);
      there = refl;
    } in
    let rest = leads_on writing stored held (map (λ d. Stores d next) read) (Completes next ∷ []) (put_records writing read next refl) last in
    record { allowed = ((allowed, may), rest.allowed); there = rest.there }

-- ---- the whole mount

-- a record under another number is one too
anew_allowed : (r : Status) (epoch : ℕ) → is_status r ≡ true → epoch < 2 ^ 64 → is_status (anew r epoch) ≡ true
unfolding is_status
anew_allowed r epoch ok lt =
    let a = and_parts (nat_lt r.id (2 ^ 64)) _ ok in
    let b = and_parts (nat_lt r.epoch (2 ^ 64)) _ a.1 in
    let c = and_parts (nat_lt r.turn (2 ^ 64)) _ b.1 in
    and_from (nat_lt r.id (2 ^ 64)) _ a.0 (and_from (nat_lt epoch (2 ^ 64)) _ (lt-ltb epoch (2 ^ 64) lt) (and_from (nat_lt 1 (2 ^ 64)) _ refl c.1))

pub can_be_mounted : (s : State) → Kept s.disks s.history → CanBeMounted s
can_be_mounted s kept read found e lt =
    let epoch = next_epoch s read in
    let next = anew found epoch in
    let enough = (surveyed_parts s.disks read found e).1 in
    let surveying : State = record s { program = Claiming found epoch } in
    let claimed : State = record s { disks = claimed_on s.disks read epoch; program = Claimed found epoch } in
    let held : State = record s { disks = stored_on (claimed_on s.disks read epoch) read next; program = Holding next; history = Completed next ∷ Begun next ∷ s.history } in
    let ok = anew_allowed found epoch (kept.allowed found (found_begun s.disks s.history kept read found e)) lt in
    let m = leads_on surveying claimed held (claims read found epoch) (completes read next)
    (claims_lead surveying read found epoch refl enough)
    (record_leads claimed read next ok (refl, refl) enough) in
    ((tt, ((refl, e), m.allowed)), ap (λ (t : State). last_completed t.history) m.there)
