-- The groups of the session by their names, in the map and among its entries.
use Rattle.std.proofs.Common.{◌≡◌, ℕ, zero, suc, ◌<◌, Bool, true, false, List, [], ◌∷◌, ◌++◌, map, Option, Some, None, is_some, refl, sym, ◌∙◌, ap, arith}
use Rattle.std.proofs.lemmas.List.{map-append}
use Rattle.std.specs.Prelude.{All, if◌then◌else◌}
use Rattle.std.specs.Map.{lookup}
use Rattle.std.specs.Cmp.Lexicographic.{nat_list_eq_equiv}
use Rattle.std.proofs.lemmas.Bool.{false≢true}
use Rattle.indexmap.proofs.CallerLemmas.{insert_entry-new}
use Rattle.indexmap.specs.IndexMap.{IndexMap, insert_entry, shift_remove_entry}
use Rattle.bay.specs.Counts.{last_count}
use Rattle.asm_group.specs.Names.{Bytes, folded, is_same_name}
use Rattle.asm_world.specs.World.{SessionEntry, entry_among, without_entry}
use Rattle.session.specs.declared.entry.Entry.{Entry}
use Rattle.session.specs.declared.group_name.GroupName.{GroupName}
use Rattle.session.specs.Entries.{entry_view}
use Rattle.session.specs.Sessions.{AreGiven}

none-by : (e : SessionEntry) (es : List SessionEntry) (name : Bytes) (b : Bool) → is_same_name e.name name ≡ b → (is_some (entry_among es name) ≡ false → without_entry es name ≡ es)
    → is_some (entry_among (e ∷ es) name) ≡ false → without_entry (e ∷ es) name ≡ e ∷ es
none-by e es name true is rest none = absurd (false≢true (sym none ∙ rw is refl))
none-by e es name false is rest none = let none' : is_some (entry_among es name) ≡ false = rw is at none in rw is (ap (λ others. e ∷ others) (rest none'))

-- where no entry has the name, none leaves
pub none-leaves : (es : List SessionEntry) (name : Bytes) → is_some (entry_among es name) ≡ false → without_entry es name ≡ es
none-leaves [] name none = refl
none-leaves (e ∷ es) name none = none-by e es name (is_same_name e.name name) refl (none-leaves es name) none

-- ---- which are there

-- a name that is looked up, against a name that is there
abbrev pub sought : Bytes → GroupName → Bool
sought name k = is_same_name name k.name

pub flip : (a b : Bytes) (t : Bool) → is_same_name a b ≡ t → is_same_name b a ≡ t
flip a b t is = nat_list_eq_equiv.symm (folded b) (folded a) ∙ is

found-by : (name : Bytes) (e : GroupName × Entry) (es : List (GroupName × Entry)) (t : Bool) → sought name e.0 ≡ t → is_some (lookup (sought name) es) ≡ is_some (entry_among (map entry_view es) name)
    → is_some (lookup (sought name) (e ∷ es)) ≡ is_some (entry_among (map entry_view (e ∷ es)) name)
found-by name e es true is rest = rw (is, flip name e.0.name true is) refl
found-by name e es false is rest = rw (is, flip name e.0.name false is) rest

pub found_by_name : (name : Bytes) (es : List (GroupName × Entry)) → is_some (lookup (sought name) es) ≡ is_some (entry_among (map entry_view es) name)
found_by_name name [] = refl
found_by_name name (e ∷ es) = found-by name e es (sought name e.0) refl (found_by_name name es)

no-value : {X : Type 0} (o : Option X) → is_some o ≡ false → o ≡ None
no-value None none = refl
no-value (Some x) none = absurd cc

-- where no group has the name, the map has no value for it
pub absent_by_name : (name : Bytes) (es : List (GroupName × Entry)) → is_some (entry_among (map entry_view es) name) ≡ false → lookup (sought name) es ≡ None
absent_by_name name es none = no-value (lookup (sought name) es) (found_by_name name es ∙ none)

without-by : (name : Bytes) (e : GroupName × Entry) (es : List (GroupName × Entry)) (t : Bool) → sought name e.0 ≡ t
    → without_entry (map entry_view (shift_remove_entry (sought name) es)) name ≡ without_entry (map entry_view es) name
    → without_entry (map entry_view (shift_remove_entry (sought name) (e ∷ es))) name ≡ without_entry (map entry_view (e ∷ es)) name
without-by name e es true is rest = rw (is, flip name e.0.name true is) refl
without-by name e es false is rest = rw (is, flip name e.0.name false is) (ap (λ others. entry_view e ∷ others) rest)

without-first : (name : Bytes) (es : List (GroupName × Entry)) → without_entry (map entry_view (shift_remove_entry (sought name) es)) name ≡ without_entry (map entry_view es) name
without-first name [] = refl
without-first name (e ∷ es) = without-by name e es (sought name e.0) refl (without-first name es)

-- what is left once a name is gone
pub left_without : (name : Bytes) (es fs : List (GroupName × Entry)) → fs ≡ shift_remove_entry (sought name) es → lookup (sought name) fs ≡ None → map entry_view fs ≡ without_entry (map entry_view es) name
left_without name es fs is gone =
    sym (none-leaves (map entry_view fs) name (sym (found_by_name name fs) ∙ ap is_some gone)) ∙ ap (λ gs. without_entry (map entry_view gs) name) is ∙ without-first name es

-- ---- a group that comes

abbrev pub same_key : GroupName → GroupName → Bool
same_key a b = is_same_name a.name b.name

-- a group whose name isn't there comes last
pub added : {S : Type 0} (m : IndexMap GroupName Entry S) (key : GroupName) (entry : Entry) (fs : List (GroupName × Entry)) → fs ≡ insert_entry same_key m.entries key entry
    → is_some (entry_among (map entry_view m.entries) key.name) ≡ false → map entry_view fs ≡ map entry_view m.entries ++ entry_view (key, entry) ∷ []
added m key entry fs is none = ap (map entry_view) (is ∙ insert_entry-new same_key m key entry (absent_by_name key.name m.entries none)) ∙ map-append entry_view m.entries ((key, entry) ∷ [])

-- ---- ids of groups that are left

pub all-cons : (P : SessionEntry → Type 0) (e : SessionEntry) (es : List SessionEntry) → P e → All P es → All P (e ∷ es)
all-cons P e es p q zero d below = p
all-cons P e es p q (suc k) d below = q k d (omega (arith, below))

given-by : (e : SessionEntry) (others : List SessionEntry) (given : ℕ) (b : Bool) → (given < last_count → e.id < given) → AreGiven others given → AreGiven (if b then others else e ∷ others) given
given-by e others given true first rest = rest
given-by e others given false first rest = all-cons (λ (x : SessionEntry). given < last_count → x.id < given) e others first rest

given-without : (es : List SessionEntry) (given : ℕ) (name : Bytes) → AreGiven es given → AreGiven (without_entry es name) given
given-without [] given name are = are
given-without (e ∷ es) given name are =
    given-by e (without_entry es name) given (is_same_name e.name name) (are zero e (omega arith)) (given-without es given name (λ k d below. are (suc k) d (omega (arith, below))))

pub still_given : (es fs : List SessionEntry) (given : ℕ) (name : Bytes) → fs ≡ without_entry es name → AreGiven es given → AreGiven fs given
still_given es fs given name is are = rw is (given-without es given name are)
