-- A record that is complete keeps what the image stands for.
use Rattle.std.proofs.Common.{◌≡◌, ◌⊎◌, inl, inr, ⊎_elim, ℕ, ◌<◌, Bool, false, List, [], ◌∷◌, refl, sym, ap, subst, ◌∙◌, Option, Some, None, arith, IsTrue}
use Rattle.std.proofs.lemmas.Option.{same_Some}
use Rattle.asm_formats.specs.Among.{IsAmong}
use Rattle.asm_formats.specs.Status.{Status}
use Rattle.asm_formats.specs.Following.{rank}
use Rattle.asm_formats.specs.Metadata.{Metadata}
use Rattle.asm_images.specs.Members.{ImageBytes, Member, within, of_group, statuses, all_members, disk_of}
use Rattle.asm_images.specs.Register.{Fits, current_records, IsOlder, HoldsOne, greatest, is_enough}
use Rattle.asm_group.specs.Group.{Group}
use Rattle.asm_images.specs.Sound.{IsCovered, SoundBy}
use Rattle.asm_images.specs.Steps.{IsComplete}
use Rattle.asm_images.proofs.Membership.{flat_map_among, among_within}
use Rattle.asm_images.proofs.History.{greatest_is, among_statuses}
use Rattle.asm_images.proofs.Members.{member_is}
use Rattle.asm_images.proofs.Recording.{not_older}
use Rattle.asm_images.proofs.Sharing.{enough_meet, current_share, shares_itself}
use Rattle.asm_images.specs.Laws.{ShareASet}

module _ (id : ℕ) (image : ImageBytes) (groups : List Group) (completed : Option Status) (begun : List Status) (sound : SoundBy id image groups completed begun) (r : Status) (done : IsComplete id image completed begun r) where
  abbrev the_members : List Member
  the_members = all_members id image

  -- members that are enough for a record that shares a set with r hold r
  holds_last : (P : ℕ → Bool) (g : Status) → ShareASet g r → IsTrue (is_enough g (within P the_members)) → HoldsOne id (r ∷ []) (within P the_members)
  unfolding statuses
  holds_last P g share enough =
      let both = enough_meet g r (within P the_members) (within done.holders the_members) share enough done.enough in
      let m = both.0 in
      let n = both.1 in
      let slot : m.slot ≡ n.slot = sound.fits.distinct m n (among_within P the_members m both.2) (among_within done.holders the_members n both.3) both.4 both.5 in
      let disk : n.disk ≡ m.disk = (member_is id image n (among_within done.holders the_members n both.3)).disk ∙ ap (λ (k : ℕ). disk_of image k) (sym slot)
      ∙ sym (member_is id image m (among_within P the_members m both.2)).disk in
      let here : IsAmong (of_group id m.disk.statuses) r = subst (λ (d : Metadata). IsAmong (of_group id d.statuses) r) disk (done.stored n both.3) in
      (r, flat_map_among (λ (m : Member). of_group id m.disk.statuses) (within P the_members) m r both.2 here, inl refl)

  -- the greatest record of members that are enough for it counts
  greatest_counts : (P : ℕ → Bool) (g : Status) → greatest (statuses id (within P the_members)) ≡ Some g → IsTrue (is_enough g (within P the_members)) → IsAmong (current_records completed begun) g
  greatest_counts P g is enough =
      let top = greatest_is (statuses id (within P the_members)) g is in
      let one = sound.fits.surveyed P g is enough in
      ⊎_elim (λ c. c) (λ older. absurd (not_older id the_members completed begun sound.fits g one.0 one.2 (top.most one.0 one.1) older))
      (sound.fits.slots g (among_statuses id P the_members g top.among))

  older_or_last : (t : Status) → IsAmong (current_records completed begun) t ⊎ IsOlder completed t → IsAmong (r ∷ []) t ⊎ (rank t < rank r)
  older_or_last t (inl counts) = ⊎_elim (λ one. inl (inl one)) (λ lt. inr lt) (done.last.greatest t counts)
  older_or_last t (inr older) = inr (below completed refl older)
    where
      below : (o : Option Status) → completed ≡ o → IsOlder o t → rank t < rank r
      below None is older = absurd older
      below (Some v) is older = ⊎_elim (λ (one : v ≡ r). omega (arith, ap rank one, older)) (λ (lt : rank v < rank r). omega (arith, lt, older))
          (done.last.greatest v (subst (λ (o : Option Status). IsAmong (current_records o begun) v) (sym is) (inl refl)))

  complete_fits : Fits id the_members (Some r) []
  complete_fits = record {
    distinct = sound.fits.distinct;
    greater = λ v s is h. absurd h;
    slots = λ t h. older_or_last t (sound.fits.slots t h);
    numbers = sound.fits.numbers;
    follow = λ v s is h. absurd h;
    surveyed = λ P g is enough. holds_last P g (current_share id the_members completed begun sound.fits g r (greatest_counts P g is enough) done.last.counts) enough;
    completed_found = λ P v is enough. let same = same_Some r v is in
        subst (λ (u : Status). HoldsOne id (u ∷ []) (within P the_members)) same (holds_last P r (shares_itself r) (subst (λ (u : Status). IsTrue (is_enough u (within P the_members))) (sym same) enough));
    claimed = λ P x s h k enough. absurd h;
  }

  complete_cover : (s : Status) → IsAmong (r ∷ []) s → s.gone ≡ false → IsCovered id image the_members groups s
  complete_cover s (inl e) not_gone = sound.covered s (subst (λ (u : Status). IsAmong (current_records completed begun) u) (sym e) done.last.counts) not_gone
  complete_cover s (inr none) not_gone = absurd none

  pub complete_keeps : SoundBy id image groups (Some r) []
  complete_keeps = record { fits = complete_fits; covered = complete_cover }
