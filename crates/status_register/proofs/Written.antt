-- The history over the calls that store records.
use Rattle.std.proofs.Common.{◌≡◌, inl, inr, ⊎_elim, ℕ, ◌+◌, ◌<◌, ◌^◌, true, false, List, [], ◌∷◌, ◌++◌, get_or, Option, Some, None, Result, Ok, Err, refl, sym, ap, subst, ◌∙◌, arith, IsTrue}
use Rattle.std.specs.Prelude.{IfOk}
use Rattle.std.proofs.lemmas.Bool.{cases_Bool, false≢true}
use Rattle.std.proofs.lemmas.Option.{same_Some, none-some}
use Rattle.bay.specs.Image as bay
use Rattle.bay.specs.State.{BayState, IsSound, KeepsAttached}
use Rattle.bay.specs.Moments.{Runs, Ends, NowOnly, LeavesOnly}
use Rattle.bay.proofs.Calls.{leaves_only, leaves_less, now_of}
use Rattle.asm_formats.specs.Among.{IsAmong}
use Rattle.asm_images.proofs.asm_placement.Membership.{among_left, among_right}
use Rattle.asm_formats.specs.Claim.{is_claim, claim_spelling}
use Rattle.asm_formats.specs.Status.{Status, is_status, status_spelling}
use Rattle.asm_formats.specs.Following.{Holder, sets, rank, Follows, FollowsSets}
use Rattle.asm_images.specs.Bridge.{disks_in}
use Rattle.asm_images.specs.Laws.{ShareASet}
use Rattle.asm_images.specs.Members as a
use Rattle.asm_images.specs.Members.{all_members, within}
use Rattle.asm_images.specs.Register.{Fits, current_records, base}
use Rattle.asm_images.specs.Steps.{IsLast}
use Rattle.asm_images.proofs.Recording.{begin_history, current_split}
use Rattle.asm_images.proofs.Sharing.{current_share, follower_shares, follows_itself, has_base, shares_itself}
use Rattle.status_register.specs.History.{FitsHistory}
use Rattle.status_register.specs.Holders.{attached_to, with_next_number, HoldSlots}
use Rattle.status_register.specs.Keeping.{EpochStands, HasHistory, HasNoRecord, FitsRegister, KeepsOn, IsSurveyOf, FitsWith, KeepsFromClaim, IsRegisterReady}
use Rattle.status_register.specs.Registered.{Registered, AreNumbered, IsClaimAnswer, claim_of, register_of}
use Rattle.status_register.specs.Answers.{Surveyed}
use Rattle.status_register.specs.Rows.{HaveClaim, HaveStatus, PutsRow, HaveOwnSlots}
use Rattle.status_register.specs.Slots.{claim_gate, status_gate}
use Rattle.status_register.specs.SurveyLaws.{IsMemberOn}
use Rattle.status_register.specs.Surveys.{missing}
use Rattle.status_register.specs.Tallies.{HaveSlots}
use Rattle.status_register.specs.Writes.{IsWriteAnswer, after_write, first_holders, first_register}
use Rattle.status_register.specs.declared.member.Member.{Member}
use Rattle.status_register.specs.declared.error.Dead.{Dead}
use Rattle.status_register.specs.declared.error.SurveyError.{SurveyError}
use Rattle.status_register.proofs.FirstClaims.{claims_leave}
use Rattle.status_register.proofs.Completing.{stored_record_completes}
use Rattle.status_register.proofs.Holding.{among_below, have_slots}
use Rattle.status_register.proofs.Meeting.{shows_claim}
use Rattle.status_register.proofs.Placing.{placed_is, first_among, places_ready}
use Rattle.status_register.proofs.RaisingRecords.{stored_records_fit}
use Rattle.status_register.proofs.RowFits.{AreLong}
use Rattle.status_register.proofs.Seeing.{epoch_is_seen, row_member, row_stands, shows_record}
use Rattle.status_register.proofs.Taking.{kept_among}
use Rattle.status_register.proofs.Tallying.{RoseAt}
use Rattle.status_register.proofs.Telling.{slots_long}

-- ---- the history of records

current_more : (completed : Option Status) (begun : List Status) (r s : Status) → IsAmong (current_records completed begun) s → IsAmong (current_records completed (begun ++ r ∷ [])) s
current_more None begun r s h = among_left begun (r ∷ []) s h
current_more (Some v) begun r s (inl same) = inl same
current_more (Some v) begun r s (inr h) = inr (among_left begun (r ∷ []) s h)

current_last : (completed : Option Status) (begun : List Status) (r : Status) → IsAmong (current_records completed (begun ++ r ∷ [])) r
current_last None begun r = among_right begun (r ∷ []) r (inl refl)
current_last (Some v) begun r = inr (among_right begun (r ∷ []) r (inl refl))

begun_last : (completed : Option Status) (begun : List Status) (r : Status) → ((s : Status) → IsAmong (current_records completed begun) s → rank s < rank r) → IsLast completed (begun ++ r ∷ []) r
begun_last completed begun r above = record {
  counts = current_last completed begun r;
  greatest = λ s h. ⊎_elim (λ before. inr (above s before)) (λ new. inl new) (current_split completed begun r s h);
}

-- a record with the sets of one that counts follows what the begun ones follow
same_follows : (id : ℕ) (ms : List a.Member) (completed : Option Status) (begun : List Status) → Fits id ms completed begun → (v g r : Status) → base completed begun ≡ Some v → IsAmong (current_records completed begun) g → sets r ≡ sets g → Follows v r
same_follows id ms None begun fits v g r is h same = subst (λ (l : List (List Holder)). FollowsSets (sets v) l) (sym same) (fits.follow v g is h)
same_follows id ms (Some w) begun fits v g r is (inl e) same =
    let one : sets r ≡ sets v = same ∙ ap sets (e ∙ same_Some w v is) in
    subst (λ (l : List (List Holder)). FollowsSets (sets v) l) (sym one) (follows_itself v)
same_follows id ms (Some w) begun fits v g r is (inr h) same = subst (λ (l : List (List Holder)). FollowsSets (sets v) l) (sym same) (fits.follow v g is h)

-- the value shares a set with each record that counts, and with one that follows
value_shares : (id : ℕ) (ms : List a.Member) (completed : Option Status) (begun : List Status) → Fits id ms completed begun → (g r : Status) → IsAmong (current_records completed begun) g
    → ((v : Status) → base completed begun ≡ Some v → Follows v r) → (s : Status) → IsAmong (r ∷ current_records completed begun) s → ShareASet g s
value_shares id ms completed begun fits g r counts follows s (inl same) =
    let v = has_base completed begun g counts in
    let back = follower_shares id ms completed begun fits v.0 r g v.1 (follows v.0 v.1) counts in
    subst (λ (t : Status). ShareASet g t) (sym same) (record { set = back.set; first = back.second; second = back.first })
value_shares id ms completed begun fits g r counts follows s (inr here) = current_share id ms completed begun fits g s counts here

-- ---- what is kept over a row of puts

-- The record is the last that was begun, and the epoch stands on enough members for another one.
pub record IsBegun (slots id epoch : ℕ) (r g : Status) (ms : List Member) (others : Member → Type 0) (completed : Option Status) (begun : List Status) (image : bay.Image) : Type 0 where
  pub fits : FitsHistory slots id completed begun image
  pub last : IsLast completed begun r
  pub inside : (m : Member) → IsAmong ms m → m.slot < slots
  pub members : (m : Member) → others m → IsMemberOn slots id image m
  pub stands : EpochStands slots id epoch g image

pub begun_leaves : {on : ℕ → Type 0} (slots id epoch : ℕ) (r g : Status) (ms : List Member) (others : Member → Type 0) (completed : Option Status) (begun : List Status) (s t : BayState) → IsTrue (is_status r) → IsSound s → HaveSlots s ms
    → Runs on (PutsRow (status_gate id) ms (status_spelling r)) s t → NowOnly s (IsBegun slots id epoch r g ms others completed begun) → LeavesOnly s t (IsBegun slots id epoch r g ms others completed begun)
begun_leaves {on} slots id epoch r g ms others completed begun s t allowed sound have run before = leaves_only
    {P = λ image. IsBegun slots id epoch r g ms others completed begun image × AreLong ms image} {Q = IsBegun slots id epoch r g ms others completed begun}
    (λ x y p row. record {
      fits = stored_records_fit slots id completed begun r ms x y p.0.last allowed p.0.inside p.1 row p.0.fits;
      last = p.0.last;
      inside = p.0.inside;
      members = λ m h. row_member slots id r allowed ms p.0.inside x y p.1 row m (p.0.members m h);
      stands = row_stands slots id r allowed ms p.0.inside epoch g x y p.1 row p.0.stands;
    }) run
    (record { now = λ image left. (before.now image left, λ m among. slots_long m.slot m.sector sound (have m among) image left) })

-- ---- a write

module _ (s t : BayState) (sound : IsSound s) (old : Registered) (next : Status) (allowed : IsTrue (is_status (with_next_number old next))) (group : next.id ≡ old.value.id) (follows : Follows old.value next)
    (fresh : old.is_fresh ≡ true → sets next ≡ sets old.value) (hold : HoldSlots s old.members) {on : ℕ → Type 0}
    (run : Runs on (PutsRow (status_gate old.id) (attached_to old.members next) (status_spelling (with_next_number old next))) s t)
    (slots : ℕ) (completed : Option Status) (begun : List Status) (room : old.turn + 1 < 2 ^ 64) (keeps : FitsRegister slots old completed begun s) where
  abbrev r : Status
  r = with_next_number old next

  abbrev ms : List Member
  ms = attached_to old.members next

  abbrev later : List Status
  later = begun ++ r ∷ []

  abbrev InPlace : Member → Type 0
  InPlace m = (i : ℕ) × (get_or old.members i None ≡ Some m)

  abbrev Begun : bay.Image → Type 0
  Begun = IsBegun slots old.id old.epoch r old.value ms InPlace completed later

  above : (x : Status) → IsAmong (current_records completed begun) x → rank x < rank r
  above x h = omega (arith, keeps.continues.below x h, room)

  follows_base : (image : bay.Image) → FitsHistory slots old.id completed begun image → (v : Status) → base completed begun ≡ Some v → Follows v r
  follows_base image fits v is = ⊎_elim
      (λ (yes_fresh : old.is_fresh ≡ true). same_follows old.id (all_members old.id (disks_in slots image)) completed begun fits v old.value r is keeps.continues.counts (fresh yes_fresh))
      (λ (written : old.is_fresh ≡ false). subst (λ (u : Status). Follows u r) (same_Some old.value v (sym (ap (λ (o : Option Status). base o begun) (keeps.continues.holds written)) ∙ is)) follows)
      (cases_Bool old.is_fresh)

  begins : (image : bay.Image) → HasHistory slots old completed begun image → Begun image
  begins image has = record {
    fits = begin_history old.id (disks_in slots image) completed begun has.fits r allowed above (follows_base image has.fits)
        (λ P x h enough. epoch_is_seen slots old.id old.epoch image old.value x P has.fits.distinct has.claimed
        (value_shares old.id (all_members old.id (disks_in slots image)) completed begun has.fits old.value r keeps.continues.counts (follows_base image has.fits) x h) enough);
    last = begun_last completed begun r above;
    inside = λ m h. let f = among_below old.members next 64 m h in (has.members f.0 m f.2.there).inside;
    members = λ m h. has.members h.0 m h.1;
    stands = has.claimed;
  }

  moments_begun : LeavesOnly s t Begun
  moments_begun = begun_leaves slots old.id old.epoch r old.value ms InPlace completed later s t allowed sound (have_slots s old.members next hold) run
      (record { now = λ image left. begins image (keeps.now.now image left) })

  moments : LeavesOnly s t (HasHistory slots old completed later)
  moments = leaves_less (λ image b. record { fits = b.fits; members = λ i m is. b.members m (i, is); claimed = b.stands }) moments_begun

  after_dead : (dead : Dead) → FitsRegister slots (after_write old next (Err dead)) completed later t
  after_dead dead = record {
    continues = record {
      group = keeps.continues.group;
      counts = current_more completed begun r old.value keeps.continues.counts;
      holds = keeps.continues.holds;
      below = λ x h. ⊎_elim (λ before. omega (arith, keeps.continues.below x before, room)) (λ (new : x ≡ r). omega (arith, ap rank new)) (current_split completed begun r x h);
    };
    now = record { now = λ image left. let has = (now_of moments).now image left in record { fits = has.fits; members = has.members; claimed = has.claimed } };
  }

  group_is : r.id ≡ old.id
  group_is = group ∙ keeps.continues.group

  after_ok : (failed : ℕ) (took : List Member) → ((m : Member) → IsAmong took m → IsAmong ms m) → Ends (HaveStatus (status_spelling r) took) s t → missing took (Some r) ≡ None
      → FitsRegister slots (after_write old next (Ok failed)) (Some r) [] t
  after_ok failed took kept done enough = record {
    continues = record { group = group_is; counts = inl refl; holds = λ is. refl; below = λ x h. ⊎_elim (λ (same : x ≡ r). omega (arith, ap rank same)) (λ none. absurd none) h };
    now = record {
      now = λ image left.
          let b = (now_of moments_begun).now image left in
          let shows = (done.now image left).2 in
          let are : (m : Member) → IsAmong took m → IsMemberOn slots old.id image m = λ m h. let f = among_below old.members next 64 m (kept m h) in b.members m (f.0, f.2.there) in
          record {
            fits = stored_record_completes slots old.id completed later image took r b.fits b.last allowed group_is are shows enough;
            members = λ i m is. b.members m (i, is);
            claimed = record { on = took; members = are; shown = λ m h. inr (r, shows_record slots old.id image m (are m h) r allowed group_is (shows m h), omega arith); enough = enough };
          };
    };
  }

  pub written : (answer : Result ℕ Dead) → IsWriteAnswer ms r answer s t → KeepsOn old next answer (after_write old next answer) s t slots completed begun
  written (Ok failed) answered = record { moments = moments; after = after_ok failed answered.0 (kept_among (RoseAt s t) ms answered.0 answered.1) answered.2 answered.3.0 }
  written (Err dead) answered = record { moments = moments; after = after_dead dead }

-- ---- the first record

module _ (s t : BayState) (sound : IsSound s) (r : Status) (allowed : IsTrue (is_status r)) (ms : List Member) (small : AreNumbered ms) (have : HaveSlots s ms) {on : ℕ → Type 0}
    (run : Runs on (PutsRow (status_gate r.id) (first_holders r ms) (status_spelling r)) s t) (slots : ℕ) (before : NowOnly s (HasNoRecord slots r ms)) where
  abbrev First : bay.Image → Type 0
  First = IsBegun slots r.id r.epoch r r (first_holders r ms) (IsAmong ms) None (r ∷ [])

  first_begins : (image : bay.Image) → HasNoRecord slots r ms image → First image
  first_begins image has = record {
    fits = begin_history r.id (disks_in slots image) None [] has.fits r allowed (λ x h. absurd h) (λ v is. absurd (none-some v is))
        (λ P x h enough. ⊎_elim
        (λ same. epoch_is_seen slots r.id r.epoch image r x P has.fits.distinct has.claimed (subst (λ (u : Status). ShareASet r u) (sym same) (shares_itself r)) enough)
        (λ none. absurd none) h);
    last = begun_last None [] r (λ x h. absurd h);
    inside = λ m h. (has.members m (first_among r ms small m h)).inside;
    members = λ m h. has.members m h;
    stands = has.claimed;
  }

  first_moments : LeavesOnly s t First
  first_moments = begun_leaves slots r.id r.epoch r r (first_holders r ms) (IsAmong ms) None (r ∷ []) s t allowed sound (λ m h. have m (first_among r ms small m h)) run
      (record { now = λ image left. first_begins image (before.now image left) })

  pub first_fits : LeavesOnly s t (FitsHistory slots r.id None (r ∷ []))
  first_fits = leaves_less (λ image b. b.fits) first_moments

  pub first_completed : Ends (HaveStatus (status_spelling r) (first_holders r ms)) s t → missing (first_holders r ms) (Some r) ≡ None → FitsRegister slots (first_register r ms) (Some r) [] t
  first_completed done enough = record {
    continues = record { group = refl; counts = inl refl; holds = λ is. refl; below = λ x h. ⊎_elim (λ (same : x ≡ r). omega (arith, ap rank same)) (λ none. absurd none) h };
    now = record {
      now = λ image left.
          let b = (now_of first_moments).now image left in
          let shows = (done.now image left).2 in
          let are : (m : Member) → IsAmong (first_holders r ms) m → IsMemberOn slots r.id image m = λ m h. b.members m (first_among r ms small m h) in
          record {
            fits = stored_record_completes slots r.id None (r ∷ []) image (first_holders r ms) r b.fits b.last allowed refl are shows enough;
            members = λ i m is. b.members m (placed_is r.entries ms i m small is).0;
            claimed = record { on = first_holders r ms; members = are; shown = λ m h. inr (r, shows_record slots r.id image m (are m h) r allowed refl (shows m h), omega arith); enough = enough };
          };
    };
  }

-- ---- a claim

module _ (s t : BayState) (sound : IsSound s) (survey : Surveyed) (allowed : IsTrue (is_claim (claim_of survey))) (small : AreNumbered survey.members) (have : HaveSlots s survey.members) {on : ℕ → Type 0}
    (run : Runs on (PutsRow (claim_gate survey.id) survey.members (claim_spelling (claim_of survey))) s t) where
  claim_leaves : (slots : ℕ) (completed : Option Status) (begun : List Status) → NowOnly s (FitsWith slots survey.id survey.members completed begun) → LeavesOnly s t (FitsWith slots survey.id survey.members completed begun)
  claim_leaves slots completed begun before = claims_leave s t sound survey.id (claim_of survey) allowed survey.members have run slots completed begun before

  claim_keeps : (slots : ℕ) (completed : Option Status) (begun : List Status) → IsSurveyOf slots survey completed begun → NowOnly s (FitsWith slots survey.id survey.members completed begun)
      → (took : List Member) → ((m : Member) → IsAmong took m → IsAmong survey.members m) → Ends (HaveClaim (claim_spelling (claim_of survey)) took) s t → missing took (Some survey.value) ≡ None
      → FitsRegister slots (register_of survey) completed begun t
  claim_keeps slots completed begun is before took kept done enough = record {
    continues = record { group = is.group; counts = is.counts; holds = λ written. absurd (false≢true (sym written)); below = λ x h. let low = is.below x h in omega (arith, low.0, low.1) };
    now = record {
      now = λ image left.
          let fits = (now_of (claim_leaves slots completed begun before)).now image left in
          let shows = (done.now image left).2 in
          let are : (m : Member) → IsAmong took m → IsMemberOn slots survey.id image m = λ m h. fits.members m (kept m h) in
          record {
            fits = fits.fits;
            members = λ i m there. fits.members m (placed_is survey.value.entries survey.members i m small there).0;
            claimed = record {
              on = took;
              members = are;
              shown = λ m h. inl (claim_of survey, shows_claim slots survey.id image took are (claim_of survey) allowed refl m h (shows m h), omega arith);
              enough = enough;
            };
          };
    };
  }

  pub kept_claim : (answer : Result Registered SurveyError) → IsClaimAnswer survey answer s t → KeepsFromClaim survey answer s t
  kept_claim (Err refusal) answered slots completed begun is before = tt
  kept_claim (Ok register) answered slots completed begun is before = subst (λ (r : Registered). FitsRegister slots r completed begun t) (sym answered.3.1)
      (claim_keeps slots completed begun is before answered.0 (kept_among (RoseAt s t) survey.members answered.0 answered.1) answered.2 answered.3.0)

  pub ready_claim : HaveOwnSlots survey.members → KeepsAttached s t → (answer : Result Registered SurveyError) → IsClaimAnswer survey answer s t → IfOk answer (λ register. IsRegisterReady register t)
  ready_claim apart keeps (Err refusal) answered = tt
  ready_claim apart keeps (Ok register) answered = places_ready survey.value.entries survey.members small s t register (ap (λ (r : Registered). r.members) answered.3.1) have apart keeps
