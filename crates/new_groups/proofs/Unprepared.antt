-- Why a creation is refused before its first write.
use Rattle.std.proofs.Common.{◌≡◌, ⊎_elim, List, [], length, Some, sym, ap, subst, ◌∙◌}
use Rattle.std.specs.Prelude.{Ok}
use Rattle.bay.specs.State.{BayState}
use Rattle.asm_group.specs.Names.{Bytes}
use Rattle.asm_group.specs.Refusal as r
use Rattle.asm_world.specs.NewDisks.{PlannedDisk, planned}
use Rattle.asm_world.specs.Settings.{Creation, creation}
use Rattle.asm_world.specs.Statement.{Attribute, NewFailgroup}
use Rattle.disk_images.specs.Looks.{AreLooked}
use Rattle.disk_images.specs.declared.looking.Looked.{Looked}
use Rattle.new_groups.specs.Causes.{IsThisRefusal, look_refusal, terms_of}
use Rattle.new_groups.specs.Planning.{planned_after}
use Rattle.new_groups.specs.Preparing.{IsPrepareRefusal, by_attribute, by_count, by_look, by_memory}
use Rattle.new_groups.specs.Refusing.{IsRefusedAs, IsTooMany}
use Rattle.new_groups.specs.declared.asked.GroupAsked.{GroupAsked}
use Rattle.new_groups.specs.declared.asked.Known.{Known}
use Rattle.new_groups.specs.declared.planned.Terms.{Terms}
use Rattle.new_groups.proofs.PlannedLaws.{planned_is}

module _ (paths : List Bytes) (asked : GroupAsked) (known : Known) (s t : BayState) where
  pub attribute_refused : (given : List Attribute) (refusal : r.Refusal) → given ≡ asked.attributes → IsRefusedAs (creation (Some asked.kind) given) refusal → IsPrepareRefusal paths asked known refusal s t
  attribute_refused given refusal is why =
      ⊎_elim (λ named. by_attribute (ap (creation (Some asked.kind)) (sym is) ∙ named)) (λ short. by_memory short) why

  pub count_refused : (given : List NewFailgroup) (refusal : r.Refusal) → given ≡ asked.groups → IsTooMany given refusal → IsPrepareRefusal paths asked known refusal s t
  count_refused given refusal is why = by_count (subst (λ (l : List NewFailgroup). IsTooMany l refusal) is why)

  -- by what was looked at
  pub look_refused : (attributes : List Attribute) (groups : List NewFailgroup) (made : Creation) (found looked : List Looked) (disks : List PlannedDisk) (terms : List Terms) (refusal : r.Refusal)
      → attributes ≡ asked.attributes → groups ≡ asked.groups → creation (Some asked.kind) attributes ≡ Ok made → looked ≡ found → length found ≡ length paths → AreLooked found s t
      → disks ≡ planned_after asked.name 0 groups → terms ≡ terms_of groups → IsThisRefusal (look_refusal known made.shape paths looked disks terms) refusal → IsPrepareRefusal paths asked known refusal s t
  look_refused attributes groups made found looked disks terms refusal same_attributes same_groups is_made same count are is_disks is_terms why = ⊎_elim
      (λ first. by_look (record {
        made = made;
        made_is = ap (creation (Some asked.kind)) (sym same_attributes) ∙ is_made;
        looked = found;
        are_looked = are;
        count = count;
        first = ap (λ (l : List Looked). look_refusal known made.shape paths l (planned asked.name [] asked.groups) (terms_of asked.groups)) (sym same)
            ∙ ap (λ (l : List PlannedDisk). look_refusal known made.shape paths looked l (terms_of asked.groups)) (sym (is_disks ∙ ap (planned_after asked.name 0) same_groups ∙ planned_is asked.name asked.groups))
            ∙ ap (look_refusal known made.shape paths looked disks) (sym (is_terms ∙ ap terms_of same_groups)) ∙ first;
      }))
      (λ short. by_memory short) why
