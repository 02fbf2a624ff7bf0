-- The lists of a world in which one id has another.
use Rattle.std.proofs.Common.{◌≡◌, ◌≢◌, ℕ, ◌==◌, Bool, true, false, cond, List, [], Option, Some, refl, ◌∙◌, ap, if◌then◌else◌}
use Rattle.std.specs.Prelude.{unwrap_or}
use Rattle.std.specs.FinMap as maps
use Rattle.std.specs.Cmp.{unsigned_tied}
use Rattle.std.proofs.lemmas.Bool.{eq-eqb, ne_eqb}
use Rattle.std.proofs.lemmas.Cmp.{nat_cmp_total}
use Rattle.asm_group.specs.Group.{Group}
use Rattle.asm_group.specs.Names.{ByNumber}
use Rattle.asm_world.specs.World.{World, groups_of}
use Rattle.session_claims.specs.Laws.{ReplacesGroups}

pub listed : (w w' : World) (id : ℕ) (list : List Group) → w'.groups ≡ maps.insert w.groups id list → ReplacesGroups w id list w'
listed w w' id list is other =
    ap (λ (m : ByNumber (List Group)). unwrap_or (maps.get m other) []) is
    ∙ ap (λ (o : Option (List Group)). unwrap_or o []) (maps.get-insert nat_cmp_total w.groups id list other ∙ ap (λ (b : Bool). cond b (Some list) (maps.get w.groups other)) (unsigned_tied other id))
    ∙ either (other == id)
  where
    either : (b : Bool) → unwrap_or (cond b (Some list) (maps.get w.groups other)) [] ≡ (if b then list else unwrap_or (maps.get w.groups other) [])
    either true = refl
    either false = refl

pub at_id : (w w' : World) (id : ℕ) (list : List Group) → ReplacesGroups w id list w' → groups_of w' id ≡ list
at_id w w' id list is = is id ∙ ap (λ (b : Bool). if b then list else groups_of w id) (eq-eqb id id refl)

pub elsewhere : (w w' : World) (id : ℕ) (list : List Group) → ReplacesGroups w id list w' → (other : ℕ) → other ≢ id → groups_of w' other ≡ groups_of w other
elsewhere w w' id list is other differ = is other ∙ ap (λ (b : Bool). if b then list else groups_of w other) (ne_eqb other id differ)
