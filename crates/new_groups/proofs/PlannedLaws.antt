-- The disks of a creation are those that the world plans for a group without disks.
use Rattle.std.proofs.Common.{◌≡◌, ℕ, suc, ◌+◌, List, [], ◌∷◌, ◌++◌, length, map, refl, sym, ap, ◌∙◌, arith, length-append}
use Rattle.std.proofs.lemmas.List.{length-map}
use Rattle.asm_group.specs.Names.{Bytes}
use Rattle.asm_world.specs.NewDisks.{PlannedDisk, disks_with_failgroups, numbers_from, planned, planned_disk, planned_with}
use Rattle.asm_world.specs.Statement.{NewDisk, NewFailgroup}
use Rattle.new_groups.specs.Planning.{disk_count, planned_after, planned_in}

abbrev with_from : Bytes → ℕ → List (NewFailgroup × NewDisk) → List PlannedDisk
with_from group n disks = planned_with group (numbers_from n [] disks) disks

group_first : (group : Bytes) (g : NewFailgroup) (n : ℕ) (disks : List NewDisk) (rest : List (NewFailgroup × NewDisk))
    → with_from group n (map (λ (d : NewDisk). (g, d)) disks ++ rest) ≡ planned_in group n g disks ++ with_from group (n + length disks) rest
group_first group g n [] rest = let e : n ≡ n + 0 = omega arith in ap (λ (k : ℕ). with_from group k rest) e
group_first group g n (d ∷ ds) rest =
    let e : n + 1 + length ds ≡ n + suc (length ds) = omega arith in
    ap (λ (l : List PlannedDisk). planned_disk group n g d ∷ l) (group_first group g (n + 1) ds rest ∙ ap (λ (k : ℕ). planned_in group (n + 1) g ds ++ with_from group k rest) e)

from_group : (group : Bytes) (n : ℕ) (groups : List NewFailgroup) → planned_after group n groups ≡ with_from group n (disks_with_failgroups groups)
from_group group n [] = refl
from_group group n (g ∷ gs) =
    ap (λ (l : List PlannedDisk). planned_in group n g g.disks ++ l) (from_group group (n + length g.disks) gs) ∙ sym (group_first group g n g.disks (disks_with_failgroups gs))

pub planned_is : (group : Bytes) (groups : List NewFailgroup) → planned_after group 0 groups ≡ planned group [] groups
planned_is group groups = from_group group 0 groups

pub count_is : (groups : List NewFailgroup) → disk_count groups ≡ length (disks_with_failgroups groups)
count_is [] = refl
count_is (g ∷ gs) =
    let own = length-map {B = NewFailgroup × NewDisk} g.disks (λ (d : NewDisk). (g, d)) in
    let both = length-append (map (λ (d : NewDisk). (g, d)) g.disks) (disks_with_failgroups gs) in
    omega (arith, count_is gs, own, both)
