-- Why disks that are asked for can't join.
use Rattle.std.proofs.Common.{◌≡◌, ⊎_elim, inl, inr, ℕ, ◌+◌, ◌-◌, ◌<◌, true, List, length, Some, None, sym, ap, subst, ◌∙◌, arith}
use Rattle.std.specs.Prelude.{nat_lt}
use Rattle.std.proofs.lemmas.Bool.{cond-true, lt-ltb}
use Rattle.bay.specs.State.{BayState}
use Rattle.asm_group.specs.Names.{Bytes}
use Rattle.asm_group.specs.Refusal as r
use Rattle.asm_world.specs.NewDisks.{PlannedDisk, is_name_taken}
use Rattle.asm_world.specs.Reports.{DiskRow}
use Rattle.asm_world.specs.Statement.{NewFailgroup}
use Rattle.file_extents.specs.catalog_tables.Rules.{blocks_used}
use Rattle.file_extents.specs.catalog_tables.Tables.{Catalogued}
use Rattle.disk_images.specs.Looks.{AreLooked}
use Rattle.disk_images.specs.declared.looking.Looked.{Looked}
use Rattle.file_extents.specs.group_engine.Mounts.{MountedGroup}
use Rattle.new_groups.specs.Causes.{IsThisRefusal, terms_of}
use Rattle.new_groups.specs.declared.asked.Known.{Known}
use Rattle.disk_joining.specs.AddCauses.{IsNotPrepared, IsUnfit, StandsAgainst, add_refusal, names_refusal, free_blocks, full_refusal}
use Rattle.disk_joining.specs.AddCauses.IsNotPrepared.{by_refused_look, by_lack_of_memory}
use Rattle.disk_joining.specs.Asking.{IsKnownWith, asked_disks}
use Rattle.disk_joining.specs.declared.asked.Asked.{Asked}

pub names_clash : (rows : List DiskRow) (disks : List PlannedDisk) → is_name_taken rows disks ≡ true → names_refusal rows disks ≡ Some r.NameTaken
names_clash rows disks taken = cond-true (is_name_taken rows disks) (Some r.NameTaken) None taken

free_left : (free used blocks : ℕ) → free + used + 2 ≡ blocks → free ≡ blocks - (used + 2)
free_left free used blocks is = omega arith

few_blocks : (need free : ℕ) → free < need → full_refusal need free ≡ Some (r.DirectoryFull need free)
few_blocks need free few = cond-true (nat_lt free need) (Some (r.DirectoryFull need free)) None (lt-ltb free need few)

pub blocks_few : (c k : Catalogued) (need many free : ℕ) → k ≡ c → need ≡ many → free + blocks_used k.tables + 2 ≡ k.shape.dir_blocks → free < need → full_refusal many (free_blocks c) ≡ Some (r.DirectoryFull need free)
blocks_few c k need many free same is_need left few =
    let free_is : free ≡ free_blocks c = free_left free (blocks_used k.tables) k.shape.dir_blocks left ∙ ap free_blocks same in
    ap (λ (n : ℕ). full_refusal n (free_blocks c)) (sym is_need) ∙ ap (full_refusal need) (sym free_is) ∙ few_blocks need free few

-- ---- by what was looked at

module _ (known : Known) (m : MountedGroup) (paths : List Bytes) where
  pub unfit_first : (looked : List Looked) (a : Asked) (all : Known) (refusal : r.Refusal) → IsKnownWith m known all → IsThisRefusal (add_refusal all m paths looked a) refusal → IsUnfit known m paths looked a refusal
  unfit_first looked a all refusal own why = ⊎_elim
      (λ first. inl (record { all = all; with_own = own; first = first }))
      (λ short. inr short) why

  pub look_refused : (groups : List NewFailgroup) (a : Asked) (found looked : List Looked) (refusal : r.Refusal) (s t : BayState) → a.disks.items ≡ asked_disks m groups → a.terms.items ≡ terms_of groups
      → looked ≡ found → length found ≡ length paths → AreLooked found s t → IsUnfit known m paths looked a refusal → IsNotPrepared paths groups known m refusal s t
  look_refused groups a found looked refusal s t disks terms same count are why = ⊎_elim
      (λ (first : StandsAgainst known m paths looked a refusal). by_refused_look (record {
        asked = a;
        disks = disks;
        terms = terms;
        looked = found;
        are_looked = are;
        count = count;
        first = subst (λ (l : List Looked). StandsAgainst known m paths l a refusal) same first;
      }))
      (λ short. by_lack_of_memory short) why
