-- What the records on the disks say of the history.
use Rattle.std.proofs.Common.{◌≡◌, inl, inr, ⊎_elim, ℕ, ◌≤◌, Bool, false, cond, not, ◌&&◌, ltb, List, [], ◌∷◌, refl, sym, ap, subst, Option, Some, None, arith, IsTrue}
use Rattle.std.proofs.lemmas.Bool.{cond_both, ltb-true, ltb-false, and_parts, not-true}
use Rattle.std.proofs.lemmas.Option.{cond_some, same_Some}
use Rattle.asm_formats.specs.Among.{IsAmong}
use Rattle.asm_formats.specs.Status.{Status}
use Rattle.asm_formats.specs.Following.{rank}
use Rattle.asm_images.specs.Members.{Member, within, statuses, of_group}
use Rattle.asm_images.specs.Register.{Fits, current_records, IsOlder, HoldsOne, greater, greatest, status_if_enough, status, is_enough}
use Rattle.asm_images.proofs.Membership.{among_within, among_flat_map, flat_map_among}

-- the greatest of the records is one of them, and none is greater
pub record IsGreatest (rs : List Status) (g : Status) : Type 0 where
  pub among : IsAmong rs g
  pub most : (r : Status) → IsAmong rs r → rank r ≤ rank g

alone : (r g : Status) (rs : List Status) → rs ≡ [] → r ≡ g → IsGreatest (r ∷ rs) g
alone r g rs none e = subst (λ (l : List Status). IsGreatest (r ∷ l) g) (sym none) (record { among = inl (sym e); most = λ s h. ⊎_elim (λ same. omega (arith, ap rank same, ap rank e)) (λ no. absurd no) h })

pub nothing_greatest : (rs : List Status) → greatest rs ≡ None → rs ≡ []
nothing_greatest [] e = refl
nothing_greatest (r ∷ rs) e = absurd (some (greatest rs) e)
  where
    some : (o : Option Status) → greater r o ≡ None → ⊥
    some None e = cc
    some (Some s) e = cond_both (ltb (rank r) (rank s)) (Some s) (Some r) (λ (o : Option Status). o ≡ None → ⊥) (λ yes h. cc) (λ no h. cc) e

joined : (r s g : Status) (rs : List Status) → IsGreatest rs s → greater r (Some s) ≡ Some g → IsGreatest (r ∷ rs) g
joined r s g rs before e = cond_both (ltb (rank r) (rank s)) (Some s) (Some r) (λ (o : Option Status). o ≡ Some g → IsGreatest (r ∷ rs) g)
    (λ yes is. let same : s ≡ g = same_Some s g is in record {
      among = inr (subst (λ (t : Status). IsAmong rs t) same before.among);
      most = λ t h. ⊎_elim (λ (here : t ≡ r). omega (arith, ap rank here, ap rank same, ltb-true (rank r) (rank s) yes)) (λ there. omega (arith, before.most t there, ap rank same)) h;
    })
    (λ no is. let same : r ≡ g = same_Some r g is in record {
      among = inl (sym same);
      most = λ t h. ⊎_elim (λ (here : t ≡ r). omega (arith, ap rank here, ap rank same)) (λ there. omega (arith, before.most t there, ap rank same, ltb-false (rank r) (rank s) no)) h;
    }) e

pub greatest_is : (rs : List Status) (g : Status) → greatest rs ≡ Some g → IsGreatest rs g
greatest_is [] g e = absurd cc
greatest_is (r ∷ rs) g e =
    let before : (s : Status) → greatest rs ≡ Some s → IsGreatest rs s = greatest_is rs in
    go (greatest rs) refl before
  where
    go : (o : Option Status) → greatest rs ≡ o → ((s : Status) → greatest rs ≡ Some s → IsGreatest rs s) → IsGreatest (r ∷ rs) g
    go None none before = alone r g rs (nothing_greatest rs none) (same_Some r g (subst (λ (o : Option Status). greater r o ≡ Some g) none e))
    go (Some s) some before = joined r s g rs (before s some) (subst (λ (o : Option Status). greater r o ≡ Some g) some e)

-- what members take for Status is the greatest of their records, for which they are enough, and it isn't gone
pub record IsStatus (id : ℕ) (ms : List Member) (r : Status) : Type 0 where
  pub greatest_ : greatest (statuses id ms) ≡ Some r
  pub enough : IsTrue (is_enough r ms)
  pub not_gone : r.gone ≡ false

pub status_parts : (id : ℕ) (ms : List Member) (r : Status) → status id ms ≡ Some r → IsStatus id ms r
unfolding status
status_parts id ms r e = go (greatest (statuses id ms)) refl
  where
    go : (o : Option Status) → greatest (statuses id ms) ≡ o → IsStatus id ms r
    go None none = absurd (let h : None ≡ Some r = subst (λ (o : Option Status). status_if_enough ms o ≡ Some r) none e in cc)
    go (Some s) some =
        let h : cond (is_enough s ms && not s.gone) (Some s) None ≡ Some r = subst (λ (o : Option Status). status_if_enough ms o ≡ Some r) some e in
        let p = cond_some (is_enough s ms && not s.gone) s r h in
        let q = and_parts (is_enough s ms) (not s.gone) p.0 in
        subst (λ (t : Status). IsStatus id ms t) p.1 (record { greatest_ = some; enough = q.0; not_gone = not-true s.gone q.1 })

pub among_statuses : (id : ℕ) (slots : ℕ → Bool) (ms : List Member) (r : Status) → IsAmong (statuses id (within slots ms)) r → IsAmong (statuses id ms) r
unfolding statuses
among_statuses id slots ms r h =
    let from = among_flat_map (λ (m : Member). of_group id m.disk.statuses) (within slots ms) r h in
    flat_map_among (λ (m : Member). of_group id m.disk.statuses) ms from.0 r (among_within slots ms from.0 from.1) from.2

-- a record of the history that members hold is not older than the completed one
pub not_older : (id : ℕ) (ms : List Member) (completed : Option Status) (begun : List Status) → Fits id ms completed begun → (r s : Status) → IsAmong (current_records completed begun) s → rank s ≤ rank r → IsOlder completed r → ⊥
not_older id ms None begun fits r s counts le older = older
not_older id ms (Some v) begun fits r s (inl e) le older = omega (arith, ap rank e)
not_older id ms (Some v) begun fits r s (inr h) le older = omega (arith, fits.greater v s refl h)

pub surveyed_counts : (id : ℕ) (ms : List Member) (completed : Option Status) (begun : List Status) (slots : ℕ → Bool) (g : Status) → Fits id ms completed begun
    → greatest (statuses id (within slots ms)) ≡ Some g → IsTrue (is_enough g (within slots ms)) → IsAmong (current_records completed begun) g
surveyed_counts id ms completed begun slots g fits is enough =
    let top = greatest_is (statuses id (within slots ms)) g is in
    let one : HoldsOne id (current_records completed begun) (within slots ms) = fits.surveyed slots g is enough in
    ⊎_elim (λ counts. counts) (λ older. absurd (not_older id ms completed begun fits g one.0 one.2 (top.most one.0 one.1) older))
    (fits.slots g (among_statuses id slots ms g top.among))

pub status_counts : (id : ℕ) (ms : List Member) (completed : Option Status) (begun : List Status) (slots : ℕ → Bool) (r : Status)
    → Fits id ms completed begun → status id (within slots ms) ≡ Some r → IsAmong (current_records completed begun) r
status_counts id ms completed begun slots r fits e =
    let p = status_parts id (within slots ms) r e in
    surveyed_counts id ms completed begun slots r fits p.greatest_ p.enough
