-- An epoch is claimed and a record written anew: each moment is one of a mount.
use Rattle.std.proofs.Common.{◌≡◌, inl, ⊎_elim, ℕ, get_or, arith, false, List, [], sym, ap, subst, ◌∙◌, Some, None, Result, Ok, Err, IfErr, IfOk, OnOk}
use Rattle.bay.specs.Image.{ChangesOnly, Image}
use Rattle.bay.specs.State.{BayState}
use Rattle.bay.specs.Moments.{Runs, Ends}
use Rattle.bay.proofs.Calls.{widened, goes_on, stops, on_more, both_done, leaves_only}
use Rattle.asm_formats.specs.Claim.{claim_spelling}
use Rattle.asm_formats.specs.Content.{Content}
use Rattle.asm_formats.specs.Following.{sets}
use Rattle.asm_formats.specs.Status.{Status, status_spelling}
use Rattle.asm_formats.specs.Among.{IsAmong}
use Rattle.status_register.specs.Answers.{Surveyed}
use Rattle.status_register.specs.Holders.{attached_to, next_turn, with_next_number}
use Rattle.status_register.proofs.Placing.{placed_is}
use Rattle.status_register.specs.Registered.{Registered, AreNumbered, IsClaimAnswer, claim_of, register_of}
use Rattle.status_register.specs.History.{FitsHistory}
use Rattle.status_register.specs.Keeping.{EpochStands, KeepsStanding}
use Rattle.status_register.specs.SurveyLaws.{IsMemberOn}
use Rattle.status_register.specs.Writes.{first_register}
use Rattle.status_register.specs.Rows.{HasClaim, HasStatus, HaveStatus, PutsRow, no_put, one_put}
use Rattle.status_register.specs.Slots.{claim_gate, status_gate}
use Rattle.status_register.specs.Surveys.{missing}
use Rattle.status_register.specs.Tallies.{IsSlotOf}
use Rattle.status_register.specs.declared.member.Member.{Member}
use Rattle.status_register.proofs.Taking.{kept_among}
use Rattle.status_register.proofs.Tallying.{RoseAt}
use Rattle.group_recovery.specs.Mounting.{HasClaimed, HasRecorded, MayMount, claiming, recording, MountReading, IsMountRead, IsSource, Allows}
use Rattle.group_recovery.specs.Renewing.{Renews}
use Rattle.group_recovery.specs.Writing.{FrontOf, RenewCause, WritesAnew, mount_of, renewed_register, KeepsAnyRegister, KeepsGroups, HoldsOneGroup, KeepsRegister}
use Rattle.group_recovery.proofs.Mounting.{mounting_keeps, mounted_is_held, recorded_is_mounted, recorded_has_history}
use Rattle.asm_formats.specs.Following.{rank}
use Rattle.group_recovery.specs.declared.writing.RenewError.{RenewError}
use Rattle.group_recovery.specs.declared.writing.Renewed.{Renewed}
use Rattle.status_register.specs.Reaching.{Reaches}
use Rattle.status_register.proofs.Reaching.{same_sets_reach}
use Rattle.group_recovery.proofs.Fronts.{claims_change, record_changes}
use Rattle.group_recovery.proofs.Reaching.{attached_among}
use Rattle.group_recovery.proofs.Renewing.{renewed_follows}
use Rattle.group_recovery.proofs.Told.{rose_before}

-- a row of puts on some disks is one on more
row_wider : (gate_of : ℕ → Image → ℕ) (some more : List Member) (body : List ℕ) → ((m : Member) → IsAmong some m → IsAmong more m) → (x y : Image) → PutsRow gate_of some body x y → PutsRow gate_of more body x y
row_wider gate_of some more body among x y (no_put a b same) = no_put a b same
row_wider gate_of some more body among x z (one_put a y b m h row step) = one_put a y b m (among m h) (row_wider gate_of some more body among a y row) step

module _ (s m : BayState) (survey : Surveyed) (next : Status) (renews : Renews survey.value next) (small : AreNumbered survey.members)
    (run : Runs (IsSlotOf survey.members) (PutsRow (claim_gate survey.id) survey.members (claim_spelling (claim_of survey))) s m) where
  pub claiming_runs : (content : Content) (source : Member) → Runs (IsSlotOf survey.members) (MayMount (mount_of survey next content) source) s m
  claiming_runs content source = widened (λ x y row. claiming row) run

  module _ (register : Registered) (answer : IsClaimAnswer survey (Ok register) s m) where
    abbrev took : List Member
    took = answer.0

    took_among : (k : Member) → IsAmong took k → IsAmong survey.members k
    took_among = kept_among (RoseAt s m) survey.members answer.0 answer.1

    register_is : register ≡ register_of survey
    register_is = answer.3.1

    pub sets_same : sets next ≡ sets register.value
    sets_same = renewed_follows survey.value next renews ∙ ap (λ (r : Registered). sets r.value) (sym register_is)

    pub is_reached : Reaches register.members register.value → Reaches register.members next
    is_reached reached = same_sets_reach register.members register.value next sets_same reached

    claims : (content : Content) (x y : Image) → PutsRow (claim_gate survey.id) survey.members (claim_spelling (claim_of survey)) x y
        → ((k : Member) → IsAmong took k → HasClaim (claim_spelling (claim_of survey)) k.slot y) → HasClaimed (mount_of survey next content) x y
    claims content x y row shown = record { row = row; took = took; among = took_among; shown = shown; enough = answer.3.0 }

    claimed_done : (content : Content) → Ends (HasClaimed (mount_of survey next content)) s m
    claimed_done content = record {
      held = λ image holds. let r = run.held image holds in let d = answer.2.held image holds in (r.0, r.1, claims content r.0 image r.2 d.2);
      now = λ image left. let r = (stops run).now image left in let d = answer.2.now image left in (r.0, r.1, claims content r.0 image r.2 d.2);
    }

    module _ (t : BayState)
        (write_run : Runs (IsSlotOf (attached_to register.members next)) (PutsRow (status_gate register.id) (attached_to register.members next) (status_spelling (with_next_number register next))) m t) where
      among : (k : Member) → IsAmong (attached_to register.members next) k → IsAmong survey.members k
      among k h = attached_among survey.value next survey.members small k (subst (λ (r : Registered). IsAmong (attached_to r.members next) k) register_is h)

      abbrev PutsRecord : Image → Image → Type 0
      PutsRecord = PutsRow (status_gate survey.id) survey.members (status_spelling (with_next_number (register_of survey) next))

      record_run : Runs (IsSlotOf survey.members) PutsRecord m t
      record_run = on_more (λ slot of. (of.0, among of.0 of.1, of.2))
          (widened (λ x y row. row_wider (status_gate survey.id) (attached_to register.members next) survey.members (status_spelling (with_next_number (register_of survey) next)) among x y
          (subst (λ (r : Registered). PutsRow (status_gate r.id) (attached_to register.members next) (status_spelling (with_next_number r next)) x y) register_is row)) write_run)

      -- nothing changes but the claim and status slots
      pub renewing_front : Runs (IsSlotOf survey.members) (ChangesOnly (FrontOf survey.members)) s t
      renewing_front = record_changes register.id survey.members (attached_to register.members next) (status_spelling (with_next_number register next)) s m t among
          (claims_change survey.id survey.members (claim_spelling (claim_of survey)) s m run) write_run

      pub renewing_runs : (content : Content) (source : Member) → Runs (IsSlotOf survey.members) (MayMount (mount_of survey next content) source) s t
      renewing_runs content source = goes_on (λ x y z claimed row. recording y claimed row) (claiming_runs content source) (claimed_done content) record_run

      -- the record stands on disks that are enough
      pub renewed_done : (answer_2 : Result Renewed RenewError) → WritesAnew register next answer_2 m t → OnOk answer_2 ((content : Content) → Ends (HasRecorded (mount_of survey next content)) s t)
      renewed_done (Err e) written = tt
      renewed_done (Ok renewed) (on, on_among, shown, enough, is) = λ content.
          both_done {first = HasClaimed (mount_of survey next content)} {second = λ x y. PutsRecord x y × HaveStatus (status_spelling (with_next_number (register_of survey) next)) on x y}
          (λ x y z claimed records. record {
            between = y;
            claimed = claimed;
            row = records.0;
            took = on;
            among = λ k h. among k (on_among k h);
            shown = records.1;
            enough = subst (λ (r : Registered). missing on (Some (with_next_number r next)) ≡ None) register_is enough;
          }) (claimed_done content)
          (record {
            held = λ image holds. let r = record_run.held image holds in let d = shown.held image holds in (r.0, r.1, (r.2, body image d.2));
            now = λ image left. let r = (stops record_run).now image left in let d = shown.now image left in (r.0, r.1, (r.2, body image d.2));
          })
        where
          body : (image : Image) → ((k : Member) → IsAmong on k → HasStatus (status_spelling (with_next_number register next)) k.slot image)
              → (k : Member) → IsAmong on k → HasStatus (status_spelling (with_next_number (register_of survey) next)) k.slot image
          body image has k h = subst (λ (r : Registered). HasStatus (status_spelling (with_next_number r next)) k.slot image) register_is (has k h)

      pub renew_cause : (answer_2 : Result Renewed RenewError) → WritesAnew register next answer_2 m t → IfErr answer_2 (λ e. RenewCause survey next e s t)
      renew_cause (Ok renewed) written = tt
      renew_cause (Err e) (slot, is, of, rose) = subst (λ (x : RenewError). RenewCause survey next x s t) (sym is)
          ((of.0, among of.0 of.1, of.2), rose_before (s.faults slot) (m.faults slot) (t.faults slot) (run.faults slot) rose)

-- ---- what is kept

module _ (mount : MountReading) (s t : BayState) where
  pub groups_kept : ((source : Member) → Runs (IsSlotOf mount.members) (MayMount mount source) s t) → KeepsGroups mount s t
  groups_kept run n source groups is now = leaves_only
      {P = λ x. IsMountRead n mount x × IsSource mount source x × Allows mount.id groups x} {Q = Allows mount.id groups}
      (λ x y p step. mounting_keeps n mount source groups x y is p.0 p.1 p.2 step) (run source)
      (record { now = λ image left. (now.read.now image left, now.source_.now image left, now.allows.now image left) })

  module _ (done : Ends (HasRecorded mount) s t) where
    pub one_held : HoldsOneGroup mount s t
    one_held n source groups g is now all among means = record {
      now = λ image left.
          let from = done.now image left in
          let old = from.0 in
          let read = now.read.now old from.1 in
          mounted_is_held n mount source groups g old image is read (now.source_.now old from.1) (now.allows.now old from.1) among (means.now old from.1)
          (recorded_is_mounted n mount source old image is read (all.now old from.1) from.2);
    }

    pub register_kept : (register : Registered) → register.id ≡ mount.id → register.value ≡ mount.next → register.epoch ≡ mount.next.epoch → register.turn ≡ mount.next.turn
        → ((i : ℕ) (m : Member) → get_or register.members i None ≡ Some m → IsAmong mount.members m) → KeepsRegister mount register s t
    register_kept register group value epoch turn inside n slots source groups is now many = record {
      continues = record {
        group = ap (λ (r : Status). r.id) value ∙ is.group ∙ sym group;
        counts = inl value;
        holds = λ written. ap Some (sym value);
        below = λ r h. ⊎_elim (λ (same : r ≡ mount.next). omega (arith, ap rank same, epoch, turn)) (λ none. absurd none) h;
      };
      now = record {
        now = λ image left.
            let from = done.now image left in
            recorded_has_history slots n mount source groups register from.0 image is (now.read.now from.0 from.1) (now.source_.now from.0 from.1) many (now.allows.now from.0 from.1 slots) from.2
            (record { group = group; value = value; epoch = epoch; members = inside });
      };
    }

-- ---- on the calls of a mount

module _ (s m t : BayState) (survey : Surveyed) (next : Status) (renews : Renews survey.value next) (small : AreNumbered survey.members)
    (run : Runs (IsSlotOf survey.members) (PutsRow (claim_gate survey.id) survey.members (claim_spelling (claim_of survey))) s m) (register : Registered) (answer : IsClaimAnswer survey (Ok register) s m)
    (write_run : Runs (IsSlotOf (attached_to register.members next)) (PutsRow (status_gate register.id) (attached_to register.members next) (status_spelling (with_next_number register next))) m t)
    (answer_2 : Result Renewed RenewError) (written : WritesAnew register next answer_2 m t) where
  all_done : OnOk answer_2 ((content : Content) → Ends (HasRecorded (mount_of survey next content)) s t)
  all_done = renewed_done s m survey next renews small run register answer t write_run answer_2 written

  pub renew_groups : (content : Content) → KeepsGroups (mount_of survey next content) s t
  renew_groups content = groups_kept (mount_of survey next content) s t (renewing_runs s m survey next renews small run register answer t write_run content)

  pub renew_held : OnOk answer_2 ((content : Content) → HoldsOneGroup (mount_of survey next content) s t)
  renew_held = go answer_2 all_done
    where
      go : (a : Result Renewed RenewError) → OnOk a ((content : Content) → Ends (HasRecorded (mount_of survey next content)) s t) → OnOk a ((content : Content) → HoldsOneGroup (mount_of survey next content) s t)
      go (Err e) done = tt
      go (Ok renewed) done = λ content. one_held (mount_of survey next content) s t (done content)

  pub renew_history : IfOk answer_2 (λ renewed. (content : Content) → KeepsRegister (mount_of survey next content) renewed.register s t)
  renew_history = go answer_2 written all_done
    where
      go : (a : Result Renewed RenewError) → WritesAnew register next a m t → OnOk a ((content : Content) → Ends (HasRecorded (mount_of survey next content)) s t)
          → IfOk a (λ renewed. (content : Content) → KeepsRegister (mount_of survey next content) renewed.register s t)
      go (Err e) wrote done = tt
      go (Ok renewed) wrote done = λ content.
          let first : register ≡ register_of survey = answer.3.1 in
          let is : renewed.register ≡ record (register_of survey) { value = with_next_number (register_of survey) next; turn = next_turn 0; is_fresh = false } =
          wrote.4 ∙ (λ i. record (first i) { value = with_next_number (first i) next; turn = next_turn (first i).turn; is_fresh = false }) in
          register_kept (mount_of survey next content) s t (done content) renewed.register
          (ap (λ (r : Registered). r.id) is) (ap (λ (r : Registered). r.value) is) (ap (λ (r : Registered). r.epoch) is) (ap (λ (r : Registered). r.turn) is)
          (λ i k there. (placed_is survey.value.entries survey.members i k small (sym (ap (λ (r : Registered). get_or r.members i None) is) ∙ there)).0)

-- ---- with other attached disks

-- The register that stands for the record with other members keeps the history too, where each is a member on each image.
pub any_register : (s t : BayState) (survey : Surveyed) (next : Status) (ms : List Member) → ((content : Content) → KeepsRegister (mount_of survey next content) (renewed_register survey next) s t)
    → KeepsStanding (first_register (with_next_number (register_of survey) next) ms) t
    → (content : Content) → KeepsAnyRegister (mount_of survey next content) (first_register (with_next_number (register_of survey) next) ms) s t
any_register s t survey next ms kept standing content n slots source groups is now many on =
    let v : Status = with_next_number (register_of survey) next in
    let before = kept content n slots source groups is now many in
    standing slots (record {
      now = λ image left.
          let h = before.now.now image left in
          record {
            fits = subst (λ (id : ℕ). FitsHistory slots id (Some v) [] image) (sym is.group) h.fits;
            members = λ i m at. subst (λ (id : ℕ). IsMemberOn slots id image m) (sym is.group) (on.now image left i m at);
            claimed = subst (λ (id : ℕ). EpochStands slots id v.epoch v image) (sym is.group) h.claimed;
          };
    })
