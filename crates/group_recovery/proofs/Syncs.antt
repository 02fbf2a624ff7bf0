-- Members are synced one after another, and then surveyed.
use Rattle.std.proofs.Common.{◌≡◌, inl, inr, ⊎_elim, ℕ, List, [], ◌∷◌, ◌++◌, max, refl, sym, ap, subst, ◌∙◌, Option, Some, None, Result, Ok, Err, IfOk, IsTrue}
use Rattle.std.proofs.Common.{IsSome, is_some}
use Rattle.std.proofs.lemmas.Bool.{false≢true}
use Rattle.asm_formats.specs.Status.{Status}
use Rattle.bay.specs.Image.{Image, Same}
use Rattle.bay.specs.State.{BayState, IsSound}
use Rattle.bay.specs.Moments.{Runs, Durable}
use Rattle.bay.proofs.Calls.{still_durable, stops}
use Rattle.asm_formats.specs.Metadata.{metadata}
use Rattle.asm_formats.specs.Among.{IsAmong}
use Rattle.asm_placement.proofs.Membership.{among_split}
use Rattle.asm_images.specs.Bridge.{disk_bytes}
use Rattle.asm_images.specs.Members.{claims_of_group, of_group}
use Rattle.asm_images.specs.Register.{greatest}
use Rattle.asm_images.proofs.Bridges.{same_disk}
use Rattle.status_register.specs.Answers.{Surveyed, IsSurveyed}
use Rattle.asm_formats.specs.Status.{is_status}
use Rattle.status_register.specs.Surveys.{AreRead, one_read, one_failed, claims_on, records_on, greatest_epoch, missing}
use Rattle.status_register.specs.Tallies.{HaveSlots}
use Rattle.status_register.specs.declared.error.SurveyError.{SurveyError}
use Rattle.status_register.specs.declared.member.Member.{Member}
use Rattle.status_register.proofs.Taking.{kept_among}
use Rattle.status_register.proofs.Tallying.{RoseAt, still_read}
use Rattle.group_recovery.specs.Syncing.{AreMembersDurable, SyncsOne, AreSynced, IsSurveyOn, IsSurveyNow, IsWellRead}
use Rattle.group_recovery.proofs.Told.{rose_before, rose_later}

pub durable_on : (ms : List Member) (m t : BayState) {later : ℕ → Type 0} → Runs later Same m t → AreMembersDurable ms m → AreMembersDurable ms t
durable_on ms m t next all k h = still_durable (λ x y j same. same.byte k.slot j) next (all k h)

module _ (s m t : BayState) {early later : ℕ → Type 0} (first : Runs early Same s m) (next : Runs later Same m t) (member : Member) (ms old new : List Member) where
  pub synced_more : AreSynced ms old s m → SyncsOne member old new m t → AreSynced (ms ++ member ∷ []) new s t
  synced_more are one =
      let before = still_read (RoseAt s m) (RoseAt s t) (λ slot rose. rose_later (s.faults slot) (m.faults slot) (t.faults slot) (next.faults slot) rose) ms old are.are in
      let kept = durable_on old m t next are.durable in
      ⊎_elim
      (λ failed. subst (λ (l : List Member). AreSynced (ms ++ member ∷ []) l s t) (sym failed.1) (record {
        are = one_failed ms old member (rose_before (s.faults member.slot) (m.faults member.slot) (t.faults member.slot) (first.faults member.slot) failed.0) before;
        durable = kept;
      }))
      (λ synced. subst (λ (l : List Member). AreSynced (ms ++ member ∷ []) l s t) (sym synced.1) (record {
        are = one_read ms old member before;
        durable = λ k h. ⊎_elim (λ was. kept k was) (λ last. ⊎_elim (λ same. subst (λ (x : Member). Durable x.slot t) (sym same) synced.0) (λ none. absurd none) last) (among_split old (member ∷ []) k h);
      }))
      one

-- ---- what is surveyed

-- the slots of these members have the same bytes on both images
abbrev SameOnMembers : List Member → Image → Image → Type 0
SameOnMembers ms x y = (m : Member) → IsAmong ms m → disk_bytes y m.slot ≡ disk_bytes x m.slot

claims_same : (id : ℕ) (ms : List Member) (x y : Image) → SameOnMembers ms x y → claims_on id y ms ≡ claims_on id x ms
unfolding claims_on
claims_same id [] x y same = refl
claims_same id (m ∷ ms) x y same = λ i. claims_of_group id (metadata (same m (inl refl) i)).claims ++ claims_same id ms x y (λ k h. same k (inr h)) i

records_same : (id : ℕ) (ms : List Member) (x y : Image) → SameOnMembers ms x y → records_on id y ms ≡ records_on id x ms
unfolding records_on
records_same id [] x y same = refl
records_same id (m ∷ ms) x y same = λ i. of_group id (metadata (same m (inl refl) i)).statuses ++ records_same id ms x y (λ k h. same k (inr h)) i

module _ (s t : BayState) (sound_s : IsSound s) (sound_t : IsSound t) (id : ℕ) (ms : List Member) (have : HaveSlots s ms) (durable : AreMembersDurable ms s) {later : ℕ → Type 0} (run : Runs later Same s t) where
  -- a disk is on each image as it was held at first
  held_at_first : (image : Image) → t.leaves t.calls image → (held : Image) × (now : Image) × (t.holds ≡ Some now) × (s.holds ≡ Some held) × SameOnMembers ms held image
  held_at_first image left =
      let told = sound_t.told image left in
      let from = run.held told.0 told.1 in
      let start = (stops run).now image left in (
        from.0,
        told.0,
        told.1,
        from.1,
        λ m h. let size : image.size m.slot ≡ from.0.size m.slot = start.2.size m.slot ∙ sizes m h start.0 from.0 start.1 (sound_s.held from.0 from.1) in
            same_disk from.0 image m.slot size (λ k. start.2.byte m.slot k ∙ (durable m h).byte start.0 from.0 k start.1 from.1),
      )
    where
      sizes : (m : Member) → IsAmong ms m → (x y : Image) → s.leaves s.calls x → s.leaves s.calls y → x.size m.slot ≡ y.size m.slot
      sizes m h x y left_x left_y = attached_size (s.attached m.slot) refl (have m h).attached
        where
          attached_size : (o : Option ℕ) → s.attached m.slot ≡ o → IsSome (s.attached m.slot) → x.size m.slot ≡ y.size m.slot
          attached_size None e is = absurd (false≢true (ap is_some (sym e) ∙ is))
          attached_size (Some n) e is = sound_s.sized m.slot n x e left_x ∙ sym (sound_s.sized m.slot n y e left_y)

  pub survey_now : (answer : Result Surveyed SurveyError) → IsSurveyed id ms answer s t → IfOk answer (λ survey. (survey.id ≡ id) × (survey.members ≡ ms)) → IfOk answer (λ survey. IsSurveyNow survey t)
  survey_now (Err e) answered of = tt
  survey_now (Ok survey) (read, are, told) of = record {
    now = λ image left.
        let h = held_at_first image left in
        let value = told h.1 h.2 h.0 h.3 in
        let same : SameOnMembers read h.0 image = λ m k. h.4 m (kept_among (RoseAt s t) ms read are m k) in
        let shown : IsSurveyOn (record survey { id = id; read = read }) image = record {
          among = λ m k. subst (λ (l : List Member). IsAmong l m) (sym of.1) (kept_among (RoseAt s t) ms read are m k);
          greatest_is = ap greatest (records_same id read h.0 image same) ∙ value.value_is;
          enough = subst (λ (o : Option Status). missing read o ≡ None) value.value_is value.enough;
          epoch_is = value.epoch_is ∙ ap (λ (n : ℕ). max n survey.value.epoch) (ap greatest_epoch (sym (claims_same id read h.0 image same)));
        } in
        subst (λ (x : Surveyed). IsSurveyOn x image) (λ i. record survey { id = sym of.0 i; read = sym value.read_are i }) shown;
  }

-- what is read is well read, whatever the disks hold
pub well_read : (failed : ℕ → Type 0) (id : ℕ) (ms : List Member) (answer : Result Surveyed SurveyError) → IfOk answer (λ survey. IsTrue (is_status survey.value) × (survey.value.id ≡ id))
    → IfOk answer (λ survey. AreRead failed ms survey.read)
    → IfOk answer (λ survey. (survey.id ≡ id) × (survey.members ≡ ms)) → IfOk answer IsWellRead
well_read failed id ms (Err e) own read of = tt
well_read failed id ms (Ok survey) own read of = record {
  allowed = own.0;
  group = own.1 ∙ sym of.0;
  among = λ m h. subst (λ (l : List Member). IsAmong l m) (sym of.1) (kept_among failed ms survey.read read m h);
}
