-- Of a history what stands on no disk may be taken to have a small number.
use Rattle.std.proofs.Common.{◌≡◌, inl, inr, ⊎_elim, ℕ, ◌*◌, ◌^◌, ◌<◌, Bool, false, cond, ltb, List, [], ◌∷◌, map, filter, refl, sym, ap, subst, ◌∙◌, Option, Some, None, arith, IsTrue}
use Rattle.std.proofs.lemmas.Bool.{cond_both, cond-true, ltb-true, lt-ltb}
use Rattle.std.proofs.lemmas.Option.{same_Some, none-some}
use Rattle.asm_group.specs.Group.{Group}
use Rattle.asm_formats.specs.Status.{Status}
use Rattle.asm_formats.specs.Following.{Holder, FollowsSets, Follows, sets, rank}
use Rattle.asm_formats.specs.Among.{IsAmong}
use Rattle.asm_images.specs.Members.{ImageBytes, Member, all_members, within, statuses}
use Rattle.asm_images.specs.Register.{Fits, HasEpoch, current_records, base, is_enough}
use Rattle.asm_images.specs.Sound.{IsCovered, Sound, SoundBy}
use Rattle.asm_images.proofs.Membership.{among_map, map_among, among_filter, among_filtered, filter_out}
use Rattle.asm_images.proofs.History.{greatest_is, among_statuses, surveyed_counts}
use Rattle.asm_images.proofs.Mounts.{surveyed_epoch_is_above, renumbered_is_covered}
use Rattle.asm_images.proofs.Recording.{status_allowed, turn_below}
use Rattle.group_recovery.specs.Histories.{Surveys, IsSoundBelow}

abbrev is_small : Status → Bool
is_small r = ltb r.turn (2 ^ 64)

-- the record under turn 0, where its turn is none
lowered : Status → Status
lowered r = cond (is_small r) r (record r { turn = 0 })

lowered_has : (P : Status → Type 0) (r : Status) → P r → P (record r { turn = 0 }) → P (lowered r)
unfolding lowered
lowered_has P r one other = cond_both (is_small r) r (record r { turn = 0 }) P (λ is. one) (λ no. other)

lowered_sets : (r : Status) → sets (lowered r) ≡ sets r
lowered_sets r = lowered_has (λ s. sets s ≡ sets r) r refl refl

lowered_epoch : (r : Status) → (lowered r).epoch ≡ r.epoch
lowered_epoch r = lowered_has (λ s. s.epoch ≡ r.epoch) r refl refl

lowered_gone : (r : Status) → (lowered r).gone ≡ r.gone
lowered_gone r = lowered_has (λ s. s.gone ≡ r.gone) r refl refl

lowered_small : (r : Status) → (lowered r).turn < 2 ^ 64
unfolding lowered
lowered_small r = cond_both (is_small r) r (record r { turn = 0 }) (λ (s : Status). s.turn < 2 ^ 64) (λ is. ltb-true r.turn (2 ^ 64) is) (λ no. omega arith)

lowered_same : (r : Status) → r.turn < 2 ^ 64 → lowered r ≡ r
unfolding lowered
lowered_same r small = cond-true (is_small r) r (record r { turn = 0 }) (lt-ltb r.turn (2 ^ 64) small)

lowered_enough : (r : Status) (ms : List Member) → is_enough (lowered r) ms ≡ is_enough r ms
unfolding is_enough
lowered_enough r ms = lowered_has (λ s. is_enough s ms ≡ is_enough r ms) r refl refl

lowered_base : (begun : List Status) (v : Status) → base None (map lowered begun) ≡ Some v → (w : Status) × (base None begun ≡ Some w) × (v ≡ lowered w)
lowered_base [] v e = absurd cc
lowered_base (w ∷ ws) v e = (w, refl, sym (same_Some (lowered w) v e))

module _ (id : ℕ) (image : ImageBytes) (groups : List Group) where
  abbrev ms : List Member
  ms = all_members id image

  stored_small : (r : Status) → IsAmong (statuses id ms) r → r.turn < 2 ^ 64
  stored_small r h = turn_below r (status_allowed id image r h)

  -- ---- before a record is complete

  among_lowered : (begun : List Status) (r : Status) → IsAmong (statuses id ms) r → IsAmong begun r → IsAmong (map lowered begun) r
  among_lowered begun r stored h = subst (λ (s : Status). IsAmong (map lowered begun) s) (lowered_same r (stored_small r stored)) (among_map lowered begun r h)

  lowered_fits : (begun : List Status) → Fits id ms None begun → Fits id ms None (map lowered begun)
  lowered_fits begun fits = record {
    distinct = fits.distinct;
    greater = λ v r e h. absurd (none-some v e);
    slots = λ r h. ⊎_elim (λ counts. inl (among_lowered begun r h counts)) (λ older. absurd older) (fits.slots r h);
    numbers = fits.numbers;
    follow = λ v r e h.
        let b = map_among lowered begun r h in
        let w = lowered_base begun v e in
        let was : Follows w.0 b.0 = fits.follow w.0 b.0 w.1 b.1 in
        let first : sets v ≡ sets w.0 = ap sets w.2 ∙ lowered_sets w.0 in
        let second : sets r ≡ sets b.0 = ap sets b.2 ∙ lowered_sets b.0 in
        subst (λ (l : List (List Holder)). FollowsSets (sets v) l) (sym second) (subst (λ (l : List (List Holder)). FollowsSets l (sets b.0)) (sym first) was);
    surveyed = λ P g is enough.
        let one = fits.surveyed P g is enough in
        (one.0, one.1, among_lowered begun one.0 (among_statuses id P ms one.0 one.1) one.2);
    completed_found = λ P v e. absurd (none-some v e);
    claimed = λ P r s h k enough.
        let b = map_among lowered begun r h in
        let d = map_among lowered begun s k in
        let was : IsTrue (is_enough d.0 (within P ms)) = sym (lowered_enough d.0 (within P ms)) ∙ ap (λ (t : Status). is_enough t (within P ms)) (sym d.2) ∙ enough in
        subst (λ (n : ℕ). HasEpoch id (within P ms) n) (sym (ap (λ (t : Status). t.epoch) b.2 ∙ lowered_epoch b.0)) (fits.claimed P b.0 d.0 b.1 d.1 was);
  }

  lowered_covers : (r : Status) → IsCovered id image ms groups r → IsCovered id image ms groups (lowered r)
  lowered_covers r cover = lowered_has (λ s. IsCovered id image ms groups s) r cover (renumbered_is_covered id image groups r r.epoch 0 r.holders r.next_holders cover)

  lowered_sound : (begun : List Status) → SoundBy id image groups None begun → SoundBy id image groups None (map lowered begun)
  lowered_sound begun sound = record {
    fits = lowered_fits begun sound.fits;
    covered = λ r h alive.
        let b = map_among lowered begun r h in
        let was : b.0.gone ≡ false = sym (lowered_gone b.0) ∙ ap (λ (t : Status). t.gone) (sym b.2) ∙ alive in
        subst (λ (t : Status). IsCovered id image ms groups t) (sym b.2) (lowered_covers b.0 (sound.covered b.0 b.1 was));
  }

  -- ---- after a record is complete

  among_small : (v : Status) (begun : List Status) (r : Status) → IsAmong (statuses id ms) r → IsAmong (v ∷ begun) r → IsAmong (v ∷ filter is_small begun) r
  among_small v begun r stored (inl e) = inl e
  among_small v begun r stored (inr h) = inr (among_filtered is_small begun r h (lt-ltb r.turn (2 ^ 64) (stored_small r stored)))

  from_small : (v : Status) (begun : List Status) (r : Status) → IsAmong (v ∷ filter is_small begun) r → IsAmong (v ∷ begun) r
  from_small v begun r (inl e) = inl e
  from_small v begun r (inr h) = inr (among_filter is_small begun r h)

  small_fits : (v : Status) (begun : List Status) → Fits id ms (Some v) begun → Fits id ms (Some v) (filter is_small begun)
  small_fits v begun fits = record {
    distinct = fits.distinct;
    greater = λ w r e h. fits.greater w r e (among_filter is_small begun r h);
    slots = λ r h. ⊎_elim (λ counts. inl (among_small v begun r h counts)) (λ older. inr older) (fits.slots r h);
    numbers = fits.numbers;
    follow = λ w r e h. fits.follow w r e (among_filter is_small begun r h);
    surveyed = λ P g is enough.
        let one = fits.surveyed P g is enough in
        (one.0, one.1, among_small v begun one.0 (among_statuses id P ms one.0 one.1) one.2);
    completed_found = λ P w e enough.
        let one = fits.completed_found P w e enough in
        let same : v ≡ w = same_Some v w e in
        (one.0, one.1, subst (λ (x : Status). IsAmong (x ∷ filter is_small begun) one.0) same (among_small v begun one.0 (among_statuses id P ms one.0 one.1) (subst (λ (x : Status). IsAmong (x ∷ begun) one.0) (sym same) one.2)));
    claimed = λ P r s h k enough. fits.claimed P r s (among_filter is_small begun r h) (from_small v begun s k) enough;
  }

  small_sound : (v : Status) (begun : List Status) → SoundBy id image groups (Some v) begun → SoundBy id image groups (Some v) (filter is_small begun)
  small_sound v begun sound = record { fits = small_fits v begun sound.fits; covered = λ r h alive. sound.covered r (from_small v begun r h) alive }

  -- ---- both

  -- what a survey gives, whichever history the image fits
  module _ (r : Status) (epoch : ℕ) (r_stored : IsAmong (statuses id ms) r)
      (r_counts : (completed : Option Status) (begun : List Status) → Fits id ms completed begun → IsAmong (current_records completed begun) r)
      (epochs_below : (completed : Option Status) (begun : List Status) → Fits id ms completed begun → (t : Status) → IsAmong (current_records completed begun) t → t.epoch < epoch) where
    small_below : (t : Status) → t.epoch < epoch → t.turn < 2 ^ 64 → rank t < epoch * 2 ^ 64
    small_below t first second = omega (arith, first, second)

    none_below : (begun : List Status) → SoundBy id image groups None begun → IsSoundBelow id image groups r epoch
    none_below begun sound = record {
      completed = None;
      begun = map lowered begun;
      sound = lowered_sound begun sound;
      counts = among_lowered begun r r_stored (r_counts None begun sound.fits);
      below = λ t h.
          let b = map_among lowered begun t h in
          small_below t (omega (arith, epochs_below None begun sound.fits b.0 b.1, lowered_epoch b.0, ap (λ (x : Status). x.epoch) b.2)) (omega (arith, lowered_small b.0, ap (λ (x : Status). x.turn) b.2));
    }

    completed_below : (v : Status) (begun : List Status) → SoundBy id image groups (Some v) begun → rank v < epoch * 2 ^ 64
    completed_below v begun sound =
        let top : rank r < epoch * 2 ^ 64 = small_below r (epochs_below (Some v) begun sound.fits r (r_counts (Some v) begun sound.fits)) (stored_small r r_stored) in
        ⊎_elim (λ (same : r ≡ v). omega (arith, top, ap rank same)) (λ later. omega (arith, top, sound.fits.greater v r refl later)) (r_counts (Some v) begun sound.fits)

    some_below : (v : Status) (begun : List Status) → SoundBy id image groups (Some v) begun → IsSoundBelow id image groups r epoch
    some_below v begun sound = record {
      completed = Some v;
      begun = filter is_small begun;
      sound = small_sound v begun sound;
      counts = among_small v begun r r_stored (r_counts (Some v) begun sound.fits);
      below = λ t h. ⊎_elim
          (λ (same : t ≡ v). omega (arith, completed_below v begun sound, ap rank same))
          (λ later. small_below t (epochs_below (Some v) begun sound.fits t (inr (among_filter is_small begun t later))) (ltb-true t.turn (2 ^ 64) (filter_out is_small begun t later))) h;
    }

    pub any_below : (completed : Option Status) (begun : List Status) → SoundBy id image groups completed begun → IsSoundBelow id image groups r epoch
    any_below None begun sound = none_below begun sound
    any_below (Some v) begun sound = some_below v begun sound

pub surveyed_is_below : (id : ℕ) (image : ImageBytes) (groups : List Group) (slots : ℕ → Bool) (r : Status) (epoch : ℕ) → Sound id image groups → Surveys id image slots r epoch
    → IsSoundBelow id image groups r epoch
surveyed_is_below id image groups slots r epoch sound surveys =
    let all = all_members id image in
    any_below id image groups r epoch (among_statuses id slots all r (greatest_is (statuses id (within slots all)) r surveys.greatest_is).among)
    (λ completed begun fits. surveyed_counts id all completed begun slots r fits surveys.greatest_is surveys.enough)
    (λ completed begun fits t h. surveyed_epoch_is_above id image completed begun slots r epoch fits surveys.greatest_is surveys.enough surveys.claims_below surveys.records_below t h)
    sound.completed sound.begun sound.holds
