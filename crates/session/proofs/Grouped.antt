-- The groups of the session under their names: those that are found, that come, that leave, and that are changed.
use Rattle.std.proofs.Common.{◌≡◌, ⊎_elim, ℕ, zero, suc, ◌<◌, ◌≤◌, Bool, true, false, cond, List, [], ◌∷◌, ◌++◌, map, length, Option, Some, None, is_some, refl, sym, ◌∙◌, ap, arith}
use Rattle.std.specs.Prelude.{if◌then◌else◌, is_none, nat_le}
use Rattle.std.specs.List.{cons_option, filter_map}
use Rattle.std.specs.Map.{lookup, set_value}
use Rattle.std.proofs.lemmas.Bool.{false≢true, le-leb}
use Rattle.std.proofs.lemmas.Bool.Decides.{nat_tests}
use Rattle.std.proofs.lemmas.List.{length-map, map-append}
use Rattle.indexmap.proofs.CallerLemmas.{insert_entry-new}
use Rattle.indexmap.specs.IndexMap.{IndexMap, insert_entry, shift_remove_entry}
use Rattle.bay.specs.Counts.{last_count}
use Rattle.asm_group.specs.Names.{Bytes, is_same_name}
use Rattle.asm_world.specs.World.{World, SessionEntry, SessionState, entry_among, is_mounted, mounted_entry, without_entry}
use Rattle.asm_world.specs.Causes.{is_mounted_as, mounted_count}
use Rattle.group_contents.specs.group_engine.Making.{dismounted_by}
use Rattle.group_contents.specs.group_engine.Mounts.{IsMounted, MountedGroup}
use Rattle.group_contents.specs.group_engine.declared.access.Access.{Access}
use Rattle.session.specs.declared.entry.Entry.{Entry}
use Rattle.session.specs.declared.group_name.GroupName.{GroupName}
use Rattle.session.specs.Entries.{AreAlike, by_disk, entry_view, group_view, state_view}
use Rattle.session.specs.Naming.{HasMountedEntry, group_among, key_of, with_group_named}
use Rattle.session.specs.Sessions.{AreGiven, without_groups}
use Rattle.session.proofs.Entries.{absent_by_name, added, all-cons, found_by_name, flip, same_key, sought}

abbrev pub Pairs : Type 0
Pairs = List (GroupName × Entry)

-- the two lists of the session go together
pub paired : (es : Pairs) → length (map group_view es) ≡ length (map entry_view es)
paired es = length-map es group_view ∙ sym (length-map es entry_view)

-- each entry says whether its group is mounted
pub alike : (es : Pairs) → AreAlike (map entry_view es) (map group_view es)
alike [] e m pair = absurd pair
alike (p ∷ es) e m pair = ⊎_elim
    (λ (here : (e ≡ entry_view p) × (m ≡ group_view p)). ap (λ (x : SessionEntry). x.state) here.0 ∙ ap state_view (sym here.1))
    (λ later. alike es e m later)
    pair

-- ---- those that are found

group-by : (name : Bytes) (p : GroupName × Entry) (es : Pairs) (v : Entry) (t : Bool) → sought name p.0 ≡ t
    → (lookup (sought name) es ≡ Some v → group_among (map entry_view es) (map group_view es) name ≡ Some v.group)
    → cond t (Some p.1) (lookup (sought name) es) ≡ Some v → group_among (map entry_view (p ∷ es)) (map group_view (p ∷ es)) name ≡ Some v.group
group-by name p es v true is rest found = let same : p.1 ≡ v = cc in rw (flip name p.0.name true is) (ap (λ (e : Entry). Some e.group) same)
group-by name p es v false is rest found = rw (flip name p.0.name false is) (rest found)

pub group_found : (name : Bytes) (es : Pairs) (v : Entry) → lookup (sought name) es ≡ Some v → group_among (map entry_view es) (map group_view es) name ≡ Some v.group
group_found name [] v found = absurd cc
group_found name (p ∷ es) v found = group-by name p es v (sought name p.0) refl (group_found name es v) found

-- the entry of a name, with the state of its group
pub record IsEntryOf (entries : List SessionEntry) (name : Bytes) (v : Entry) : Type 0 where
  pub entry : SessionEntry
  pub named : entry_among entries name ≡ Some entry
  pub state : entry.state ≡ state_view v.group

entry-by : (name : Bytes) (p : GroupName × Entry) (es : Pairs) (v : Entry) (t : Bool) → sought name p.0 ≡ t
    → (lookup (sought name) es ≡ Some v → IsEntryOf (map entry_view es) name v) → cond t (Some p.1) (lookup (sought name) es) ≡ Some v → IsEntryOf (map entry_view (p ∷ es)) name v
entry-by name p es v true is rest found =
    let same : p.1 ≡ v = cc in
    record { entry = entry_view p; named = rw (flip name p.0.name true is) refl; state = ap (λ (e : Entry). state_view e.group) same }
entry-by name p es v false is rest found = let r = rest found in record { entry = r.entry; named = rw (flip name p.0.name false is) r.named; state = r.state }

pub entry_found : (name : Bytes) (es : Pairs) (v : Entry) → lookup (sought name) es ≡ Some v → IsEntryOf (map entry_view es) name v
entry_found name [] v found = absurd cc
entry_found name (p ∷ es) v found = entry-by name p es v (sought name p.0) refl (entry_found name es v) found

none-of : {X : Type 0} (o : Option X) → is_some o ≡ false → o ≡ None
none-of None is = refl
none-of (Some x) is = absurd cc

pub none_found : (name : Bytes) (es : Pairs) → lookup (sought name) es ≡ None → entry_among (map entry_view es) name ≡ None
none_found name es none = none-of (entry_among (map entry_view es) name) (sym (found_by_name name es) ∙ ap is_some none)

-- of a group that takes calls it is mounted
pub entry_on : (name : Bytes) (es : Pairs) (v : Entry) → lookup (sought name) es ≡ Some v → IsMounted v.group → HasMountedEntry (map entry_view es) name
entry_on name es v found mounted =
    let at = entry_found name es v found in
    record { entry = at.entry; named = at.named; state = at.state ∙ ap (λ (a : Access). by_disk v.group (dismounted_by a)) mounted }

-- ---- one that comes

pub group_added : {S : Type 0} (m : IndexMap GroupName Entry S) (key : GroupName) (entry : Entry) (fs : Pairs) → fs ≡ insert_entry same_key m.entries key entry
    → is_some (entry_among (map entry_view m.entries) key.name) ≡ false → map group_view fs ≡ map group_view m.entries ++ entry.group ∷ []
group_added m key entry fs is none = ap (map group_view) (is ∙ insert_entry-new same_key m key entry (absent_by_name key.name m.entries none)) ∙ map-append group_view m.entries ((key, entry) ∷ [])

mounted_view : (name : Bytes) (id : ℕ) (group : MountedGroup) → IsMounted group → entry_view (record { name = name }, record { id = id; group = group }) ≡ mounted_entry name id
mounted_view name id group mounted = ap (λ (a : Access). record { name = name; id = id; state = by_disk group (dismounted_by a) }) mounted

pub entry_added : {S : Type 0} (m : IndexMap GroupName Entry S) (name : Bytes) (id : ℕ) (group : MountedGroup) (fs : Pairs) → IsMounted group
    → fs ≡ insert_entry same_key m.entries (record { name = name }) (record { id = id; group = group })
    → is_some (entry_among (map entry_view m.entries) name) ≡ false → map entry_view fs ≡ map entry_view m.entries ++ mounted_entry name id ∷ []
entry_added m name id group fs mounted is none =
    added m (record { name = name }) (record { id = id; group = group }) fs is none ∙ ap (λ (e : SessionEntry). map entry_view m.entries ++ e ∷ []) (mounted_view name id group mounted)

-- ---- one that leaves

stay-by : (name : Bytes) (p : GroupName × Entry) (es : Pairs) (t : Bool) → is_same_name p.0.name name ≡ t
    → (is_some (entry_among (map entry_view es) name) ≡ false → without_groups (map entry_view es) (map group_view es) name ≡ map group_view es)
    → is_some (entry_among (map entry_view (p ∷ es)) name) ≡ false → without_groups (map entry_view (p ∷ es)) (map group_view (p ∷ es)) name ≡ map group_view (p ∷ es)
stay-by name p es true is rest none = absurd (false≢true (sym none ∙ rw is refl))
stay-by name p es false is rest none =
    let none' : is_some (entry_among (map entry_view es) name) ≡ false = rw is at none in
    rw is (ap (λ (others : List MountedGroup). group_view p ∷ others) (rest none'))

groups-stay : (name : Bytes) (es : Pairs) → is_some (entry_among (map entry_view es) name) ≡ false → without_groups (map entry_view es) (map group_view es) name ≡ map group_view es
groups-stay name [] none = refl
groups-stay name (p ∷ es) none = stay-by name p es (is_same_name p.0.name name) refl (groups-stay name es) none

leave-by : (name : Bytes) (p : GroupName × Entry) (es : Pairs) (t : Bool) → sought name p.0 ≡ t
    → without_groups (map entry_view (shift_remove_entry (sought name) es)) (map group_view (shift_remove_entry (sought name) es)) name ≡ without_groups (map entry_view es) (map group_view es) name
    → without_groups (map entry_view (shift_remove_entry (sought name) (p ∷ es))) (map group_view (shift_remove_entry (sought name) (p ∷ es))) name
    ≡ without_groups (map entry_view (p ∷ es)) (map group_view (p ∷ es)) name
leave-by name p es true is rest = rw (is, flip name p.0.name true is) refl
leave-by name p es false is rest = rw (is, flip name p.0.name false is) (ap (λ (others : List MountedGroup). group_view p ∷ others) rest)

groups-leave : (name : Bytes) (es : Pairs)
    → without_groups (map entry_view (shift_remove_entry (sought name) es)) (map group_view (shift_remove_entry (sought name) es)) name ≡ without_groups (map entry_view es) (map group_view es) name
groups-leave name [] = refl
groups-leave name (p ∷ es) = leave-by name p es (sought name p.0) refl (groups-leave name es)

pub groups_left : (name : Bytes) (es fs : Pairs) → fs ≡ shift_remove_entry (sought name) es → lookup (sought name) fs ≡ None → map group_view fs ≡ without_groups (map entry_view es) (map group_view es) name
groups_left name es fs is gone =
    sym (groups-stay name fs (sym (found_by_name name fs) ∙ ap is_some gone)) ∙ ap (λ (gs : Pairs). without_groups (map entry_view gs) (map group_view gs) name) is ∙ groups-leave name es

-- ---- one that is changed

set-by : (name : Bytes) (w : Entry) (p : GroupName × Entry) (es : Pairs) (t : Bool) → sought name p.0 ≡ t
    → map group_view (set_value (sought name) es w) ≡ with_group_named (map entry_view es) (map group_view es) name w.group
    → map group_view (set_value (sought name) (p ∷ es) w) ≡ with_group_named (map entry_view (p ∷ es)) (map group_view (p ∷ es)) name w.group
set-by name w p es true is rest = rw (is, flip name p.0.name true is) refl
set-by name w p es false is rest = rw (is, flip name p.0.name false is) (ap (λ (others : List MountedGroup). group_view p ∷ others) rest)

pub groups_set : (name : Bytes) (w : Entry) (es : Pairs) → map group_view (set_value (sought name) es w) ≡ with_group_named (map entry_view es) (map group_view es) name w.group
groups_set name w [] = refl
groups_set name w (p ∷ es) = set-by name w p es (sought name p.0) refl (groups_set name w es)

same-by : (name : Bytes) (v w : Entry) (p : GroupName × Entry) (es : Pairs) (t : Bool) → sought name p.0 ≡ t → w ≡ v
    → (lookup (sought name) es ≡ Some v → set_value (sought name) es w ≡ es) → cond t (Some p.1) (lookup (sought name) es) ≡ Some v → set_value (sought name) (p ∷ es) w ≡ p ∷ es
same-by name v w p es true is equal rest found = let same : w ≡ p.1 = cc in rw is (ap (λ (e : Entry). (p.0, e) ∷ es) same)
same-by name v w p es false is equal rest found = rw is (ap (λ (others : Pairs). p ∷ others) (rest found))

-- the value that was there
pub same_set : (name : Bytes) (v w : Entry) (es : Pairs) → w ≡ v → lookup (sought name) es ≡ Some v → set_value (sought name) es w ≡ es
same_set name v w [] equal found = refl
same_set name v w (p ∷ es) equal found = same-by name v w p es (sought name p.0) refl equal (same_set name v w es equal) found

keys-by : (name : Bytes) (v w : Entry) (p : GroupName × Entry) (es : Pairs) (t : Bool) → sought name p.0 ≡ t → w.id ≡ v.id
    → (lookup (sought name) es ≡ Some v → map key_of (map entry_view (set_value (sought name) es w)) ≡ map key_of (map entry_view es))
    → cond t (Some p.1) (lookup (sought name) es) ≡ Some v → map key_of (map entry_view (set_value (sought name) (p ∷ es) w)) ≡ map key_of (map entry_view (p ∷ es))
keys-by name v w p es true is id rest found =
    let same : p.1 ≡ v = cc in
    rw is (ap (λ (i : ℕ). (p.0.name, i) ∷ map key_of (map entry_view es)) (id ∙ sym (ap (λ (e : Entry). e.id) same)))
keys-by name v w p es false is id rest found = rw is (ap (λ (others : List (Bytes × ℕ)). key_of (entry_view p) ∷ others) (rest found))

-- names and ids stay
pub keys_set : (name : Bytes) (v w : Entry) (es : Pairs) → w.id ≡ v.id → lookup (sought name) es ≡ Some v → map key_of (map entry_view (set_value (sought name) es w)) ≡ map key_of (map entry_view es)
keys_set name v w [] id found = refl
keys_set name v w (p ∷ es) id found = keys-by name v w p es (sought name p.0) refl id (keys_set name v w es id) found

-- ids that were given are so under the same keys
pub given_keys : (es fs : List SessionEntry) (given : ℕ) → map key_of fs ≡ map key_of es → AreGiven es given → AreGiven fs given
given_keys [] [] given same are = are
given_keys [] (f ∷ fs) given same are = absurd cc
given_keys (e ∷ es) [] given same are = absurd cc
given_keys (e ∷ es) (f ∷ fs) given same are =
    let head : key_of f ≡ key_of e = cc in
    let tail : map key_of fs ≡ map key_of es = cc in
    let id : f.id ≡ e.id = ap (λ (k : Bytes × ℕ). k.1) head in
    all-cons (λ (x : SessionEntry). given < last_count → x.id < given) f fs (λ short. rw id (are zero e (omega arith) short)) (given_keys es fs given tail (λ k d below. are (suc k) d (omega (arith, below))))

-- ---- whether one is mounted

pub is_up : (name : Bytes) (id : ℕ) (m : MountedGroup) (d : Option ℕ) → is_mounted (record { name = name; id = id; state = by_disk m d }) ≡ is_none d
is_up name id m None = refl
is_up name id m (Some disk) = refl

up-by : (entry : SessionEntry) (m : MountedGroup) (d : Option ℕ) → entry.state ≡ by_disk m d → is_mounted entry ≡ is_none d
up-by entry m d is = ap (λ (s : SessionState). is_mounted (record { name = entry.name; id = entry.id; state = s })) is ∙ is_up entry.name entry.id m d

-- an entry that was found is mounted where its group is
pub mounted_found : (name : Bytes) (es : Pairs) (v : Entry) → lookup (sought name) es ≡ Some v → is_mounted_as (entry_among (map entry_view es) name) ≡ is_none (dismounted_by v.group.access)
mounted_found name es v found =
    let there = entry_found name es v found in
    ap is_mounted_as there.named ∙ up-by there.entry v.group (dismounted_by v.group.access) there.state

-- how many of them are
abbrev pub up_among : Pairs → ℕ
up_among [] = 0
up_among (p ∷ es) = if is_none (dismounted_by p.1.group.access) then suc (up_among es) else up_among es

count-by : (b : Bool) (e : SessionEntry) (rest : List SessionEntry) (n : ℕ) → length rest ≡ n → length (cons_option (if b then Some e else None) rest) ≡ (if b then suc n else n)
count-by true e rest n is = ap suc is
count-by false e rest n is = is

-- the same by their entries
abbrev pub mounted_among : List SessionEntry → ℕ
mounted_among entries = length (filter_map (λ (entry : SessionEntry). if is_mounted entry then Some entry else None) entries)

pub counted : (es : Pairs) → mounted_among (map entry_view es) ≡ up_among es
counted [] = refl
counted (p ∷ es) = rw (is_up p.0.name p.1.id p.1.group (dismounted_by p.1.group.access))
    (count-by (is_none (dismounted_by p.1.group.access)) (entry_view p) (filter_map (λ (entry : SessionEntry). if is_mounted entry then Some entry else None) (map entry_view es)) (up_among es) (counted es))

pub full_there : (w : World) (entries : List SessionEntry) → w.session ≡ entries → 8 ≤ mounted_among entries → true ≡ nat_le 8 (mounted_count w)
full_there w entries is many = sym (ap (λ (l : List SessionEntry). nat_le 8 (mounted_among l)) is ∙ le-leb 8 (mounted_among entries) many)

pub room_there : (w : World) (entries : List SessionEntry) → w.session ≡ entries → mounted_among entries < 8 → false ≡ nat_le 8 (mounted_count w)
room_there w entries is few = sym (ap (λ (l : List SessionEntry). nat_le 8 (mounted_among l)) is ∙ grind (arith, nat_tests))

-- ---- a name that has left

gone-by : (t : Bool) (e : SessionEntry) (others : List SessionEntry) (name : Bytes) → is_same_name e.name name ≡ t → is_some (entry_among others name) ≡ false
    → is_some (entry_among (if t then others else e ∷ others) name) ≡ false
gone-by true e others name is rest = rest
gone-by false e others name is rest = rw is rest

pub gone : (es : List SessionEntry) (name : Bytes) → is_some (entry_among (without_entry es name) name) ≡ false
gone [] name = refl
gone (e ∷ es) name = gone-by (is_same_name e.name name) e (without_entry es name) name refl (gone es name)
