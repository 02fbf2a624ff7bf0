-- The history over the claims that are put on members.
use Rattle.std.proofs.Common.{◌≡◌, inl, ℕ, List, [], Option, Some, None, sym, subst, arith, IsTrue}
use Rattle.bay.specs.State.{BayState, IsSound}
use Rattle.bay.specs.Moments.{Runs, Ends, NowOnly, LeavesOnly}
use Rattle.bay.proofs.Calls.{leaves_only, now_of}
use Rattle.asm_formats.specs.Claim.{Claim, is_claim, claim_spelling}
use Rattle.asm_formats.specs.Status.{Status}
use Rattle.status_register.specs.History.{FitsHistory}
use Rattle.status_register.specs.Keeping.{EpochStands, FitsWith, HasNoRecord}
use Rattle.status_register.specs.Rows.{HaveClaim, PutsRow}
use Rattle.status_register.specs.Slots.{claim_gate}
use Rattle.status_register.specs.SurveyLaws.{IsMemberOn}
use Rattle.status_register.specs.Surveys.{missing}
use Rattle.status_register.specs.Tallies.{HaveSlots}
use Rattle.status_register.specs.declared.member.Member.{Member}
use Rattle.status_register.proofs.Meeting.{shows_claim}
use Rattle.status_register.proofs.RowFits.{AreLong, row_fits}
use Rattle.status_register.proofs.Seeing.{claim_row_member}
use Rattle.status_register.proofs.Telling.{slots_long}

module _ (s t : BayState) (sound : IsSound s) (id : ℕ) (c : Claim) (allowed : IsTrue (is_claim c)) (ms : List Member) (have : HaveSlots s ms) {on : ℕ → Type 0}
    (run : Runs on (PutsRow (claim_gate id) ms (claim_spelling c)) s t) where
  pub claims_leave : (slots : ℕ) (completed : Option Status) (begun : List Status) → NowOnly s (FitsWith slots id ms completed begun) → LeavesOnly s t (FitsWith slots id ms completed begun)
  claims_leave slots completed begun before = leaves_only
      {P = λ image. FitsWith slots id ms completed begun image × AreLong ms image} {Q = FitsWith slots id ms completed begun}
      (λ x y p row. record {
        fits = row_fits slots id c allowed ms (λ m h. (p.0.members m h).inside) completed begun x y p.1 row p.0.fits;
        members = λ m h. claim_row_member slots id c allowed ms (λ k j. (p.0.members k j).inside) x y p.1 row m (p.0.members m h);
      }) run
      (record { now = λ image left. (before.now image left, λ m among. slots_long m.slot m.sector sound (have m among) image left) })

  -- the first record of the claimed epoch may be written
  pub may_be_first : c.id ≡ id → Ends (HaveClaim (claim_spelling c) ms) s t → (slots : ℕ) (r : Status) → r.id ≡ id → r.epoch ≡ c.epoch → missing ms (Some r) ≡ None
      → NowOnly s (FitsWith slots id ms None []) → NowOnly t (HasNoRecord slots r ms)
  may_be_first group done slots r of_group of_epoch enough before = record {
    now = λ image left.
        let has = (now_of (claims_leave slots None [] before)).now image left in
        let shows = (done.now image left).2 in
        let stands : EpochStands slots id r.epoch r image = record {
          on = ms;
          members = has.members;
          shown = λ m h. inl (c, shows_claim slots id image ms has.members c allowed group m h (shows m h), omega (arith, of_epoch));
          enough = enough;
        } in
        record {
          fits = subst (λ (k : ℕ). FitsHistory slots k None [] image) (sym of_group) has.fits;
          members = λ m h. subst (λ (k : ℕ). IsMemberOn slots k image m) (sym of_group) (has.members m h);
          claimed = subst (λ (k : ℕ). EpochStands slots k r.epoch r image) (sym of_group) stands;
        };
  }
