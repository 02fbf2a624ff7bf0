-- Copies that are kept, by their homes and by their disks.
use Rattle.std.proofs.Common.{◌≡◌, ℕ, suc, ◌<◌, Bool, true, false, not, ◌&&◌, ◌||◌, List, [], ◌∷◌, map, filter, refl, ap, ◌∙◌, Option, Some, None, eqb}
use Rattle.std.specs.List.{list_any, list_all}
use Rattle.std.specs.Option.{option_map, option_and_then}
use Rattle.std.proofs.lemmas.List.Elements.{filter_agree}
use Rattle.asm_formats.specs.asm_group.Shape.{Shape}
use Rattle.asm_formats.specs.Status.{Entry, entry_of}
use Rattle.asm_formats.specs.Items.{Item, Home, Homes}
use Rattle.allocator.specs.UnitMaps.{UnitMap}
use Rattle.asm_placement.specs.Modes.{is_target, stays}
use Rattle.asm_placement.specs.Space as space
use Rattle.asm_placement.specs.Space.{has_room}
use Rattle.asm_placement.specs.Choices as choices
use Rattle.asm_placement.specs.Choices.{home_on, staying_disk, kept_disks, holds_copy, is_partner_of_first, is_eligible, replacement, replacement_on}
use Rattle.partnership.specs.Candidates.{Candidate, candidates, candidate_tried_first, candidate_home, lies_on, lies_in_group, is_partner_of_kept, is_disk_in_set, is_allowed, may_take, may_take_of, may_take_at, chosen_copy_of}
use Rattle.partnership.specs.UnitsOf.{AreUnitsOf, AreHomesOf, held, homes_kept, kept_homes_from, is_eligible_at}
use Rattle.partnership.proofs.Turns.{filter_both}
use Rattle.partnership.proofs.Placement.{as_candidate, may_have, candidates_are, among_map, tried_map}

held_is : (hs : Homes) (d : ℕ) → list_any (lies_on d) (held hs) ≡ holds_copy hs d
held_is [] d = refl
held_is (None ∷ hs) d = held_is hs d
held_is (Some h ∷ hs) d = ap (λ (b : Bool). eqb h.disk d || b) (held_is hs d)

-- the disks of kept homes, one by one
pub data IsKept (es : List Entry) : List Home → List Entry → Type 0 where
  none : IsKept es [] []
  one : (h : Home) (e : Entry) (hs : List Home) (ks : List Entry) → entry_of es h.disk ≡ Some e → IsKept es hs ks → IsKept es (h ∷ hs) (e ∷ ks)

kept_is : (es : List Entry) (replaced c : ℕ) (hs : Homes) → IsKept es (kept_homes_from es replaced c hs) (choices.kept_from es replaced c hs)
kept_is es replaced c [] = none
kept_is es replaced c (None ∷ hs) = kept_is es replaced (suc c) hs
kept_is es replaced c (Some h ∷ hs) = by (entry_of es h.disk) refl (eqb c replaced) refl (kept_is es replaced (suc c) hs)
  where
    go : (e : Entry) → entry_of es h.disk ≡ Some e → (t : Bool) → stays e.mode ≡ t → (b : Bool) → eqb c replaced ≡ b → IsKept es (kept_homes_from es replaced (suc c) hs) (choices.kept_from es replaced (suc c) hs)
        → IsKept es (kept_homes_from es replaced c (Some h ∷ hs)) (choices.kept_from es replaced c (Some h ∷ hs))
    go e is true t true same later = rw (is, t, same) later
    go e is false t true same later = rw (is, t, same) later
    go e is true t false same later = rw (is, t, same) (one h e (kept_homes_from es replaced (suc c) hs) (choices.kept_from es replaced (suc c) hs) is later)
    go e is false t false same later = rw (is, t, same) later

    by : (o : Option Entry) → entry_of es h.disk ≡ o → (b : Bool) → eqb c replaced ≡ b → IsKept es (kept_homes_from es replaced (suc c) hs) (choices.kept_from es replaced (suc c) hs)
        → IsKept es (kept_homes_from es replaced c (Some h ∷ hs)) (choices.kept_from es replaced c (Some h ∷ hs))
    by None is true same later = rw (is, same) later
    by None is false same later = rw (is, same) later
    by (Some e) is b same later = go e is (stays e.mode) refl b same later

not_or : (a b : Bool) → not (a || b) ≡ (not a && not b)
not_or true b = refl
not_or false b = refl

apart_is : (es : List Entry) (g : ℕ) (hs : List Home) (ks : List Entry) → IsKept es hs ks → not (list_any (lies_in_group es g) hs) ≡ list_all (λ (k : Entry). not (eqb k.failgroup g)) ks
apart_is es g _ _ none = refl
apart_is es g _ _ (one h e hs ks is more) =
    not_or (lies_in_group es g h) (list_any (lies_in_group es g) hs)
    ∙ rw (is, apart_is es g hs ks more) refl

partner_is : (es : List Entry) (e : Entry) (hs : List Home) (ks : List Entry) → IsKept es hs ks → is_partner_of_kept es hs e.number ≡ is_partner_of_first ks e
partner_is es e _ _ none = refl
partner_is es e _ _ (one h k hs ks is more) = rw is refl

may_take_is : (es : List Entry) (replaced : ℕ) (hs : Homes) (e : Entry) → may_take es (homes_kept es replaced hs) (held hs) e ≡ is_eligible es replaced hs e
unfolding may_take is_eligible
may_take_is es replaced hs e =
    let ks = kept_is es replaced 0 hs in
    rw (held_is hs e.number, apart_is es e.failgroup (homes_kept es replaced hs) (kept_disks es replaced hs) ks, partner_is es e (homes_kept es replaced hs) (kept_disks es replaced hs) ks) refl

pub eligible_is : (es : List Entry) (replaced : ℕ) (hs : Homes) (kept_homes holders : List Home) (o : Option Entry) → AreHomesOf es replaced hs kept_homes holders → may_take_at es kept_homes holders o ≡ is_eligible_at es replaced hs o
eligible_is es replaced hs kept_homes holders None are = refl
eligible_is es replaced hs kept_homes holders (Some e) are = rw (are.kept_is, are.holders_are) (may_take_is es replaced hs e)

target_first : (t a b c r x : Bool) → (t && r && (x && (t && a && b && c))) ≡ (t && a && b && c && r && x)
target_first true a b c true true = by (a && b && c)
  where
    by : (y : Bool) → y ≡ (y && true && true)
    by true = refl
    by false = refl
target_first true a b c true false = by (a && b && c)
  where
    by : (y : Bool) → false ≡ (y && true && false)
    by true = refl
    by false = refl
target_first true a b c false x = by (a && b && c)
  where
    by : (y : Bool) → false ≡ (y && false && x)
    by true = refl
    by false = refl
target_first false a b c r x = refl

-- disks that may take the copy and have room
takers : (s : Shape) (items : List Item) (n : ℕ) (es : List Entry) (on : Option ℕ) (replaced : ℕ) (hs : Homes)
    → filter (may_take_of on es (homes_kept es replaced hs) (held hs)) (filter (may_have s items n) es) ≡ filter (λ (e : Entry). is_eligible es replaced hs e && has_room s items n e && is_allowed on e) es
unfolding is_eligible
takers s items n es on replaced hs =
    filter_both (may_take_of on es (homes_kept es replaced hs) (held hs)) (may_have s items n) es
    ∙ filter_agree (λ (e : Entry). may_have s items n e && may_take_of on es (homes_kept es replaced hs) (held hs) e) (λ (e : Entry). is_eligible es replaced hs e && has_room s items n e && is_allowed on e)
    (λ e. ap (λ (b : Bool). may_have s items n e && (is_allowed on e && b)) (may_take_is es replaced hs e)
    ∙ target_first (is_target e) (not (holds_copy hs e.number)) (list_all (λ (k : Entry). not (eqb k.failgroup e.failgroup)) (kept_disks es replaced hs)) (is_partner_of_first (kept_disks es replaced hs) e) (has_room s items n e) (is_allowed on e)) es

home_map : (s : Shape) (items : List Item) (n : ℕ) (o : Option Entry) → option_and_then candidate_home (option_map (as_candidate s items n) o) ≡ option_and_then (home_on s items n) o
home_map s items n None = refl
home_map s items n (Some e) = refl

-- the home that is chosen for a copy is that of the placement, among the disks that are allowed
copy_of_is : (s : Shape) (items : List Item) (es : List Entry) (ms : List UnitMap) (on : Option ℕ) (n replaced : ℕ) (hs : Homes) (kept_homes holders : List Home) → 0 < n → AreUnitsOf s items es ms → AreHomesOf es replaced hs kept_homes holders
    → chosen_copy_of on es kept_homes holders (candidates n es ms) ≡ replacement_on (is_allowed on) s es items n replaced hs
copy_of_is s items es ms on n replaced hs kept_homes holders some units are =
    let test = may_take_of on es (homes_kept es replaced hs) (held hs) in
    rw (are.kept_is, are.holders_are, candidates_are s items n es ms some units)
    (ap (λ (cs : List Candidate). option_and_then candidate_home (candidate_tried_first cs)) (among_map s items n test (filter (may_have s items n) es) ∙ ap (map (as_candidate s items n)) (takers s items n es on replaced hs))
    ∙ ap (option_and_then candidate_home) (tried_map s items n (filter (λ (e : Entry). is_eligible es replaced hs e && has_room s items n e && is_allowed on e) es))
    ∙ home_map s items n (space.tried_first s items (filter (λ (e : Entry). is_eligible es replaced hs e && has_room s items n e && is_allowed on e) es)))

pub copy_is : (s : Shape) (items : List Item) (es : List Entry) (ms : List UnitMap) (n replaced : ℕ) (hs : Homes) (kept_homes holders : List Home) → 0 < n → AreUnitsOf s items es ms → AreHomesOf es replaced hs kept_homes holders
    → chosen_copy_of None es kept_homes holders (candidates n es ms) ≡ replacement s es items n replaced hs
unfolding replacement
copy_is s items es ms n replaced hs kept_homes holders some units are = copy_of_is s items es ms None n replaced hs kept_homes holders some units are

pub copy_on_is : (s : Shape) (items : List Item) (es : List Entry) (ms : List UnitMap) (set n replaced : ℕ) (hs : Homes) (kept_homes holders : List Home) → 0 < n → AreUnitsOf s items es ms → AreHomesOf es replaced hs kept_homes holders
    → chosen_copy_of (Some set) es kept_homes holders (candidates n es ms) ≡ replacement_on (is_disk_in_set set) s es items n replaced hs
copy_on_is s items es ms set n replaced hs kept_homes holders some units are = copy_of_is s items es ms (Some set) n replaced hs kept_homes holders some units are
