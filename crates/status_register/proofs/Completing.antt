-- A record that stands on members that are enough for it is the one that was last completed.
use Rattle.std.proofs.Common.{◌≡◌, ◌⊎◌, inl, inr, ⊎_elim, ℕ, ◌<◌, Bool, List, [], ◌∷◌, refl, sym, ap, subst, Option, Some, None, arith, IsTrue}
use Rattle.std.proofs.lemmas.Option.{same_Some}
use Rattle.bay.specs.Image as bay
use Rattle.asm_formats.specs.Among.{IsAmong}
use Rattle.asm_images.proofs.asm_placement.Membership.{flat_map_among}
use Rattle.asm_formats.specs.Metadata.{Metadata}
use Rattle.asm_formats.specs.Status.{Status, is_status, status_spelling}
use Rattle.asm_formats.specs.Following.{rank}
use Rattle.asm_images.specs.Bridge.{disks_in}
use Rattle.asm_images.specs.Laws.{ShareASet}
use Rattle.asm_images.specs.Members as a
use Rattle.asm_images.specs.Members.{within, of_group, statuses, all_members}
use Rattle.asm_images.specs.Register.{current_records, IsOlder, HoldsOne, is_enough}
use Rattle.asm_images.specs.Steps.{IsLast}
use Rattle.asm_images.proofs.History.{surveyed_counts}
use Rattle.asm_images.proofs.Sharing.{current_share, shares_itself}
use Rattle.status_register.specs.History.{FitsHistory}
use Rattle.status_register.specs.Rows.{HasStatus}
use Rattle.status_register.specs.SurveyLaws.{IsMemberOn}
use Rattle.status_register.specs.Surveys.{disk_in, missing}
use Rattle.status_register.specs.declared.member.Member.{Member}
use Rattle.status_register.proofs.Seeing.{meets, shows_record}

module _ (slots id : ℕ) (completed : Option Status) (begun : List Status) (image : bay.Image) (fits : FitsHistory slots id completed begun image) (r : Status) (last : IsLast completed begun r)
    (took : List Member) (are : (m : Member) → IsAmong took m → IsMemberOn slots id image m) (there : (m : Member) → IsAmong took m → IsAmong (of_group id (disk_in image m.slot).statuses) r)
    (enough : missing took (Some r) ≡ None) where
  abbrev all : List a.Member
  all = all_members id (disks_in slots image)

  -- members that are enough for a record that shares a set with r hold r
  holds_last : (P : ℕ → Bool) (s : Status) → ShareASet r s → IsTrue (is_enough s (within P all)) → HoldsOne id (r ∷ []) (within P all)
  unfolding statuses
  holds_last P s share also =
      let met = meets slots id image took are r s P fits.distinct enough share also in
      let here = subst (λ (d : Metadata). IsAmong (of_group id d.statuses) r) (sym met.same) (there met.disk met.among) in
      (r, flat_map_among (λ (m : a.Member). of_group id m.disk.statuses) (within P all) met.member r met.inside here, inl refl)

  older_or_last : (t : Status) → IsAmong (current_records completed begun) t ⊎ IsOlder completed t → IsAmong (r ∷ []) t ⊎ (rank t < rank r)
  older_or_last t (inl counts) = ⊎_elim (λ one. inl (inl one)) (λ lt. inr lt) (last.greatest t counts)
  older_or_last t (inr older) = inr (below completed refl older)
    where
      below : (o : Option Status) → completed ≡ o → IsOlder o t → rank t < rank r
      below None is older = absurd older
      below (Some v) is older = ⊎_elim (λ (one : v ≡ r). omega (arith, ap rank one, older)) (λ (lt : rank v < rank r). omega (arith, lt, older))
          (last.greatest v (subst (λ (o : Option Status). IsAmong (current_records o begun) v) (sym is) (inl refl)))

  pub completes : FitsHistory slots id (Some r) [] image
  completes = record {
    distinct = fits.distinct;
    greater = λ v s is h. absurd h;
    slots = λ t h. older_or_last t (fits.slots t h);
    numbers = fits.numbers;
    follow = λ v s is h. absurd h;
    surveyed = λ P g is also. holds_last P g (current_share id all completed begun fits r g last.counts (surveyed_counts id all completed begun P g fits is also)) also;
    completed_found = λ P v is also. let same = same_Some r v is in
        subst (λ (u : Status). HoldsOne id (u ∷ []) (within P all)) same (holds_last P r (shares_itself r) (subst (λ (u : Status). IsTrue (is_enough u (within P all))) (sym same) also));
    claimed = λ P x s h k also. absurd h;
  }

pub stored_record_completes : (slots id : ℕ) (completed : Option Status) (begun : List Status) (image : bay.Image) (took : List Member) (r : Status) → FitsHistory slots id completed begun image → IsLast completed begun r
    → IsTrue (is_status r) → r.id ≡ id → ((m : Member) → IsAmong took m → IsMemberOn slots id image m)
    → ((m : Member) → IsAmong took m → HasStatus (status_spelling r) m.slot image) → missing took (Some r) ≡ None → FitsHistory slots id (Some r) [] image
stored_record_completes slots id completed begun image took r fits last allowed group are show enough =
    completes slots id completed begun image fits r last took are (λ m h. shows_record slots id image m (are m h) r allowed group (show m h)) enough
