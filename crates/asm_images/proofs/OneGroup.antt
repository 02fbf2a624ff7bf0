-- One content that is found stands for one group.
use Rattle.std.proofs.Common.{◌≡◌, ⊎_elim, inl, ℕ, Bool, false, List, [], ◌∷◌, Some, refl, sym, ap, subst, ◌∙◌}
use Rattle.asm_formats.specs.Among.{IsAmong}
use Rattle.asm_formats.specs.Status.{Status}
use Rattle.asm_formats.specs.Content.{Content}
use Rattle.asm_images.specs.Members.{ImageBytes, within, all_members}
use Rattle.asm_images.specs.Directories.{directories}
use Rattle.asm_images.specs.Stands.{Describes}
use Rattle.asm_group.specs.Group.{Group}
use Rattle.asm_images.specs.Sound.{SoundBy}
use Rattle.asm_images.proofs.Spans.{narrow_keeps}

pub one_content_is_one_group : (id : ℕ) (image : ImageBytes) (groups : List Group) (r : Status) (c : Content) (slots : ℕ → Bool) → SoundBy id image groups (Some r) [] → r.gone ≡ false
    → directories r (within slots (all_members id image)) ≡ Some c
    → ((P : ℕ → Bool) (d : Content) → directories r (within P (all_members id image)) ≡ Some d → d ≡ c)
    → (g : Group) × IsAmong groups g × SoundBy id image (g ∷ []) (Some r) []
one_content_is_one_group id image groups r c slots sound not_gone found only =
    let ms = all_members id image in
    let g = (sound.covered r (inl refl) not_gone).described slots c found in
    let narrow = narrow_keeps id image groups (g.0 ∷ []) (Some r) [] sound in (
      g.0,
      g.1,
      narrow (record {
        left = λ s d P counts alive is. ⊎_elim
            (λ (same : s ≡ r).
            let found_r : directories r (within P ms) ≡ Some d = ap (λ (t : Status). directories t (within P ms)) (sym same) ∙ is in
            (g.0, inl refl, subst (λ (t : Status). Describes image ms ms t d g.0) (sym same) (subst (λ (e : Content). Describes image ms ms r e g.0) (sym (only P d found_r)) g.2)))
            (λ none. absurd none) counts;
      }),
    )
