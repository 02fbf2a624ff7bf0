-- Entries of a session with their groups.
use Rattle.std.proofs.Common.{◌≡◌, inl, inr, ⊎_elim, ◌⊎◌, ℕ, Bool, true, false, ◌&&◌, ◌||◌, ◌==◌, List, [], ◌∷◌, length, refl, sym, ap, ◌∙◌, arith}
use Rattle.std.specs.List.{list_any}
use Rattle.std.proofs.lemmas.Bool.{and_parts, eq-eqb, eqb-true, false≢true}
use Rattle.asm_world.specs.World.{SessionEntry, is_mounted}
use Rattle.mounted_groups.specs.group_engine.Mounts.{MountedGroup}
use Rattle.session_claims.specs.Claims.{IsPaired}

pub either_true : (a b : Bool) → (a || b) ≡ true → (a ≡ true) ⊎ (b ≡ true)
either_true true b is = inl refl
either_true false b is = inr is

front_true : (a b : Bool) → a ≡ true → (a || b) ≡ true
front_true true b is = refl
front_true false b is = absurd (false≢true is)

back_true : (a b : Bool) → b ≡ true → (a || b) ≡ true
back_true true b is = refl
back_true false b is = is

both_true : (a b : Bool) → a ≡ true → b ≡ true → (a && b) ≡ true
both_true true b is also = also
both_true false b is also = absurd (false≢true is)

-- the entry is mounted, under this id
abbrev pub has_id : ℕ → SessionEntry → Bool
has_id id e = is_mounted e && (e.id == id)

-- an id that is mounted has an entry with its group
pub mounted_pair : (session : List SessionEntry) (groups : List MountedGroup) (id : ℕ) → length groups ≡ length session → list_any (has_id id) session ≡ true
    → (e : SessionEntry) × (m : MountedGroup) × IsPaired session groups e m × (is_mounted e ≡ true) × (e.id ≡ id)
mounted_pair [] groups id same is = absurd (false≢true is)
mounted_pair (e ∷ es) [] id same is = absurd (omega (arith, same))
mounted_pair (e ∷ es) (m ∷ ms) id same is = ⊎_elim
    (λ here. let p = and_parts (is_mounted e) (e.id == id) here in (e, m, inl (refl, refl), p.0, eqb-true e.id id p.1))
    (λ later. let r = mounted_pair es ms id (omega (arith, same)) later in (r.0, r.1, inr r.2, r.3, r.4))
    (either_true (has_id id e) (list_any (has_id id) es) is)

-- and so an entry's id is mounted
pub pair_mounted : (session : List SessionEntry) (groups : List MountedGroup) (e : SessionEntry) (m : MountedGroup) → IsPaired session groups e m → is_mounted e ≡ true → list_any (has_id e.id) session ≡ true
pair_mounted [] groups e m pair is = absurd pair
pair_mounted (x ∷ es) [] e m pair is = absurd pair
pair_mounted (x ∷ es) (y ∷ ms) e m pair is = ⊎_elim
    (λ here. front_true (has_id e.id x) (list_any (has_id e.id) es) (both_true (is_mounted x) (x.id == e.id) (ap is_mounted (sym here.0) ∙ is) (eq-eqb x.id e.id (ap (λ (f : SessionEntry). f.id) (sym here.0)))))
    (λ later. back_true (has_id e.id x) (list_any (has_id e.id) es) (pair_mounted es ms e m later is))
    pair
