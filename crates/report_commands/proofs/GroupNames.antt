-- The names of groups: those that match a pattern, put in order one by one, and that of the group which a text names.
use Rattle.std.proofs.Common.{◌≡◌, ◌⊎◌, ⊎_elim, inl, inr, ℕ, Bool, true, false, cond, List, [], ◌∷◌, ◌++◌, length, map, Option, Some, None, is_some, refl, sym, ◌∙◌, ap, subst, append_assoc, arith}
use Rattle.std.specs.Prelude.{◌&&◌, is_none}
use Rattle.std.specs.FinMap as maps
use Rattle.std.specs.List.{IsDistinct, cons_option, filter_map, insert}
use Rattle.std.specs.Map.{keys_of}
use Rattle.std.specs.Option.{option_map}
use Rattle.std.specs.Ordering.{nat_cmp}
use Rattle.std.specs.Cmp.Lexicographic.{nat_list_eq_equiv, slice_cmp}
use Rattle.std.proofs.lemmas.Bool.{true≢false}
use Rattle.std.proofs.lemmas.List.{append-nil}
use Rattle.std.proofs.lemmas.Slice.Eq.{bytes_eq-Decides}
use Rattle.refusal_lines.specs.Refusals.{meaning_of}
use Rattle.refusal_lines.specs.declared.refusal.Refusal.{Refusal}
use Rattle.refusal_lines.specs.declared.refusal.Refusal.TheVariants as cause
use Rattle.asm_formats.specs.Among.{IsAmong}
use Rattle.asm_group.specs.Names.{Bytes, Path, folded, is_same_name}
use Rattle.asm_world.specs.Listings.{by_folded_text, in_order, is_match}
use Rattle.asm_world.specs.World.{SessionEntry, entry_among, is_mounted}
use Rattle.asmcmd.specs.declared.rows.LsRow.{LsRow}
use Rattle.catalog_tables.specs.Rules.{KeepsRules}
use Rattle.session.specs.group_engine.Making.{dismounted_by}
use Rattle.session.specs.group_engine.Mounts.{MountedGroup}
use Rattle.group_reports.specs.Listing.{AreRowsAt, IsDueRefusal, list_refusal}
use Rattle.report_laws.specs.Lists.{LacksName, matching_name, names_before}
use Rattle.report_laws.proofs.InOrder.{names_are_inserted}
use Rattle.session.specs.declared.entry.Entry.{Entry}
use Rattle.session.specs.declared.group_name.GroupName.{GroupName}
use Rattle.session.specs.Naming.{AreNamesApart}
use Rattle.session.specs.Entries.{by_disk, entry_view}
use Rattle.session.specs.Naming.{IsGroupOf, IsOutCause, group_among}
use Rattle.session.specs.Sessions.{SessionView}
use Rattle.session.proofs.EditedEntries.{names_apart}
use Rattle.session.proofs.Entries.{same_key}
use Rattle.report_commands.specs.Listed.{AreRowsOfGroup, IsRefusedIn, names_matching}

abbrev pub Pairs : Type 0
Pairs = List (GroupName × Entry)

no_seconds : (es : List (Bytes × Bytes)) → length es ≡ 0 → [] ≡ map (λ e. e.1) es
no_seconds [] none = refl
no_seconds (e ∷ es) none = absurd (omega arith)

no_names : [] ≡ in_order []
no_names = no_seconds (maps.entries (by_folded_text [])) (sym (maps.len-entries (by_folded_text [])) ∙ maps.len-empty (slice_cmp nat_cmp) Bytes)

-- ---- which match

up_is : (name : Bytes) (id : ℕ) (m : MountedGroup) (o : Option ℕ) → is_mounted (record { name = name; id = id; state = by_disk m o }) ≡ is_none o
up_is name id m None = refl
up_is name id m (Some disk) = refl

some_if : (b : Bool) (name : Bytes) → is_some (cond b (Some name) None) ≡ b
some_if true name = refl
some_if false name = refl

matching_is : (pattern : Bytes) (key : GroupName) (entry : Entry) → is_some (matching_name pattern (entry_view (key, entry))) ≡ (is_none (dismounted_by entry.group.access) && is_match pattern key.name)
matching_is pattern key entry =
    some_if (is_mounted (entry_view (key, entry)) && is_match pattern key.name) key.name
    ∙ ap (λ (b : Bool). b && is_match pattern key.name) (up_is key.name entry.id entry.group (dismounted_by entry.group.access))

pub matching_on : (pattern : Bytes) (key : GroupName) (entry : Entry) → is_none (dismounted_by entry.group.access) ≡ true → is_match pattern key.name ≡ is_some (matching_name pattern (entry_view (key, entry)))
matching_on pattern key entry on = sym (matching_is pattern key entry ∙ ap (λ (b : Bool). b && is_match pattern key.name) on)

pub matching_off : (pattern : Bytes) (key : GroupName) (entry : Entry) → is_none (dismounted_by entry.group.access) ≡ false → false ≡ is_some (matching_name pattern (entry_view (key, entry)))
matching_off pattern key entry off = sym (matching_is pattern key entry ∙ ap (λ (b : Bool). b && is_match pattern key.name) off)

name_if : (b : Bool) (name : Bytes) → is_some (cond b (Some name) None) ≡ true → cond b (Some name) None ≡ Some name
name_if true name is = refl
name_if false name is = absurd cc

none_if : (b : Bool) (name : Bytes) → is_some (cond b (Some name) None) ≡ false → cond b (Some name) None ≡ None
none_if true name is = absurd cc
none_if false name is = refl

-- ---- one more

cons_behind : (o : Option Bytes) (all some more : List Bytes) → all ≡ some ++ more → cons_option o all ≡ cons_option o some ++ more
cons_behind None all some more is = is
cons_behind (Some name) all some more is = ap (λ (l : List Bytes). name ∷ l) is

kept_behind : (f : SessionEntry → Option Bytes) (seen : List SessionEntry) (e : SessionEntry) → filter_map f (seen ++ e ∷ []) ≡ filter_map f seen ++ cons_option (f e) []
kept_behind f [] e = refl
kept_behind f (y ∷ seen) e = cons_behind (f y) _ _ _ (kept_behind f seen e)

-- a name that matches is that of an entry
abbrev IsOfEntry : List SessionEntry → Bytes → Type 0
IsOfEntry seen name = (e : SessionEntry) × IsAmong seen e × (e.name ≡ name)

first-by : (e : SessionEntry) (seen : List SessionEntry) (names : List Bytes) (name : Bytes) (b : Bool) → (IsAmong names name → IsOfEntry seen name) → IsAmong (cons_option (cond b (Some e.name) None) names) name → IsOfEntry (e ∷ seen) name
first-by e seen names name true rest among = ⊎_elim
    (λ (here : name ≡ e.name). (e, inl refl, sym here))
    (λ later. let of = rest later in (of.0, inr of.1, of.2))
    among
first-by e seen names name false rest among = let of = rest among in (of.0, inr of.1, of.2)

of_entry : (pattern : Bytes) (seen : List SessionEntry) (name : Bytes) → IsAmong (filter_map (matching_name pattern) seen) name → IsOfEntry seen name
of_entry pattern [] name among = absurd among
of_entry pattern (e ∷ seen) name among = first-by e seen (filter_map (matching_name pattern) seen) name (is_mounted e && is_match pattern e.name) (of_entry pattern seen name) among

among_there : (seen rest : List SessionEntry) (e : SessionEntry) → IsAmong (seen ++ e ∷ rest) e
among_there [] rest e = inl refl
among_there (y ∷ seen) rest e = inr (among_there seen rest e)

others_differ : (seen rest : List SessionEntry) (e : SessionEntry) → AreNamesApart (seen ++ e ∷ rest) → (f : SessionEntry) → IsAmong seen f → is_same_name f.name e.name ≡ false
others_differ [] rest e apart f among = absurd among
others_differ (y ∷ seen) rest e apart f among = ⊎_elim
    (λ (here : f ≡ y). ap (λ (x : SessionEntry). is_same_name x.name e.name) here ∙ apart.0 e (among_there seen rest e))
    (λ later. others_differ seen rest e apart.1 f later)
    among

lacks : (pattern : Bytes) (seen rest : List SessionEntry) (e : SessionEntry) → AreNamesApart (seen ++ e ∷ rest) → LacksName (filter_map (matching_name pattern) seen) e.name
lacks pattern seen rest e apart name among same =
    let of = of_entry pattern seen name among in
    let alike : folded of.0.name ≡ folded e.name = ap folded of.2 ∙ same in
    true≢false (sym ((bytes_eq-Decides (folded of.0.name) (folded e.name)).1 alike) ∙ others_differ seen rest e apart of.0 of.1)

-- the names so far are those of the groups before those that are left
pub record AreNamesSoFar (pattern : Bytes) (entries : List SessionEntry) (left : Pairs) (names : List Bytes) : Type 0 where
  pub seen : List SessionEntry
  pub split : seen ++ map entry_view left ≡ entries
  pub apart : AreNamesApart entries
  pub are : names ≡ names_matching pattern seen

pub named_first : (pattern : Bytes) (es left : Pairs) (entries : List SessionEntry) (names : List Bytes) → left ≡ es → map entry_view es ≡ entries → IsDistinct same_key (keys_of es) → names ≡ [] → AreNamesSoFar pattern entries left names
named_first pattern es left entries names all is distinct none = record {
  seen = [];
  split = ap (map entry_view) all ∙ is;
  apart = subst (λ (l : List SessionEntry). AreNamesApart l) is (names_apart es distinct);
  are = none ∙ no_names;
}

-- the entry behind those that were seen
split_on : (entries seen : List SessionEntry) (left next : Pairs) (e : GroupName × Entry) → left ≡ e ∷ next → seen ++ map entry_view left ≡ entries → (seen ++ entry_view e ∷ []) ++ map entry_view next ≡ entries
split_on entries seen left next e left_is split = append_assoc seen (entry_view e ∷ []) (map entry_view next) ∙ (ap (λ (es : Pairs). seen ++ map entry_view es) (sym left_is) ∙ split)

pub named_more : (pattern : Bytes) (entries : List SessionEntry) (left next : Pairs) (e : GroupName × Entry) (names more : List Bytes) → left ≡ e ∷ next → AreNamesSoFar pattern entries left names
    → is_some (matching_name pattern (entry_view e)) ≡ true → more ≡ insert names (names_before e.0.name names) e.0.name → AreNamesSoFar pattern entries next more
named_more pattern entries left next e names more left_is so_far matches put =
    let kept : matching_name pattern (entry_view e) ≡ Some e.0.name = name_if (is_mounted (entry_view e) && is_match pattern e.0.name) e.0.name matches in
    let behind : so_far.seen ++ entry_view e ∷ map entry_view next ≡ entries = ap (λ (es : Pairs). so_far.seen ++ map entry_view es) (sym left_is) ∙ so_far.split in
    let apart = subst (λ (l : List SessionEntry). AreNamesApart l) (sym behind) so_far.apart in
    let all : filter_map (matching_name pattern) (so_far.seen ++ entry_view e ∷ []) ≡ filter_map (matching_name pattern) so_far.seen ++ e.0.name ∷ [] =
    kept_behind (matching_name pattern) so_far.seen (entry_view e) ∙ ap (λ (o : Option Bytes). filter_map (matching_name pattern) so_far.seen ++ cons_option o []) kept in
    record {
      seen = so_far.seen ++ entry_view e ∷ [];
      split = split_on entries so_far.seen left next e left_is so_far.split;
      apart = so_far.apart;
      are = put ∙ (names_are_inserted (filter_map (matching_name pattern) so_far.seen) names e.0.name so_far.are (lacks pattern so_far.seen (map entry_view next) (entry_view e) apart) ∙ ap in_order (sym all));
    }

pub named_not : (pattern : Bytes) (entries : List SessionEntry) (left next : Pairs) (e : GroupName × Entry) (names : List Bytes) → left ≡ e ∷ next → AreNamesSoFar pattern entries left names
    → is_some (matching_name pattern (entry_view e)) ≡ false → AreNamesSoFar pattern entries next names
named_not pattern entries left next e names left_is so_far other =
    let none : matching_name pattern (entry_view e) ≡ None = none_if (is_mounted (entry_view e) && is_match pattern e.0.name) e.0.name other in
    let all : filter_map (matching_name pattern) (so_far.seen ++ entry_view e ∷ []) ≡ filter_map (matching_name pattern) so_far.seen =
    kept_behind (matching_name pattern) so_far.seen (entry_view e) ∙ (ap (λ (o : Option Bytes). filter_map (matching_name pattern) so_far.seen ++ cons_option o []) none ∙ append-nil (filter_map (matching_name pattern) so_far.seen)) in
    record { seen = so_far.seen ++ entry_view e ∷ []; split = split_on entries so_far.seen left next e left_is so_far.split; apart = so_far.apart; are = so_far.are ∙ ap in_order (sym all) }

pub named_end : (pattern : Bytes) (entries : List SessionEntry) (left : Pairs) (names : List Bytes) → left ≡ [] → AreNamesSoFar pattern entries left names → names ≡ names_matching pattern entries
named_end pattern entries left names none so_far =
    let is : so_far.seen ≡ entries = sym (append-nil so_far.seen) ∙ (ap (λ (es : Pairs). so_far.seen ++ map entry_view es) (sym none) ∙ so_far.split) in
    so_far.are ∙ ap (names_matching pattern) is

-- ---- the group that a text names

abbrev pub name_among : List SessionEntry → Bytes → Option Bytes
name_among entries text = option_map (λ (e : SessionEntry). e.name) (entry_among entries text)

pub name_here : (left next : Pairs) (key : GroupName) (entry : Entry) (text : Bytes) (found : Option Bytes) → left ≡ (key, entry) ∷ next → name_among (map entry_view left) text ≡ found → is_same_name key.name text ≡ true → Some key.name ≡ found
name_here left next key entry text found left_is is same =
    let one : name_among (map entry_view left) text ≡ Some key.name = ap (λ (es : Pairs). name_among (map entry_view es) text) left_is ∙ rw same refl in
    sym one ∙ is

pub name_other : (left next : Pairs) (key : GroupName) (entry : Entry) (text : Bytes) (found : Option Bytes) → left ≡ (key, entry) ∷ next → name_among (map entry_view left) text ≡ found → is_same_name key.name text ≡ false
    → name_among (map entry_view next) text ≡ found
name_other left next key entry text found left_is is other =
    let one : name_among (map entry_view left) text ≡ name_among (map entry_view next) text = ap (λ (es : Pairs). name_among (map entry_view es) text) left_is ∙ rw other refl in
    sym one ∙ is

pub name_end : (left : Pairs) (text : Bytes) (found : Option Bytes) → left ≡ [] → name_among (map entry_view left) text ≡ found → None ≡ found
name_end left text found none is = ap (λ (es : Pairs). name_among (map entry_view es) text) (sym none) ∙ is

name-by : (e : SessionEntry) (es : List SessionEntry) (text name : Bytes) (b : Bool) → is_same_name e.name text ≡ b → (name_among es text ≡ Some name → is_same_name name text ≡ true)
    → option_map (λ (x : SessionEntry). x.name) (cond b (Some e) (entry_among es text)) ≡ Some name → is_same_name name text ≡ true
name-by e es text name true is rest found = let same : e.name ≡ name = cc in ap (λ (n : Bytes). is_same_name n text) (sym same) ∙ is
name-by e es text name false is rest found = rest found

name_is : (es : List SessionEntry) (text name : Bytes) → name_among es text ≡ Some name → is_same_name name text ≡ true
name_is [] text name found = absurd cc
name_is (e ∷ es) text name found = name-by e es text name (is_same_name e.name text) refl (name_is es text name) found

module _ (name text : Bytes) (same : is_same_name name text ≡ true) where
  alike : (x : Bytes) → is_same_name x name ≡ is_same_name x text
  alike x = nat_list_eq_equiv.symm (folded x) (folded name) ∙ (nat_list_eq_equiv.congr (folded name) (folded text) (folded x) same ∙ nat_list_eq_equiv.symm (folded text) (folded x))

  same_entry : (es : List SessionEntry) → entry_among es name ≡ entry_among es text
  same_entry [] = refl
  same_entry (e ∷ es) = rw (alike e.name) (ap (λ (o : Option SessionEntry). cond (is_same_name e.name text) (Some e) o) (same_entry es))

  same_group : (es : List SessionEntry) (ms : List MountedGroup) → group_among es ms name ≡ group_among es ms text
  same_group [] ms = refl
  same_group (e ∷ es) [] = refl
  same_group (e ∷ es) (m ∷ ms) = rw (alike e.name) (ap (λ (o : Option MountedGroup). cond (is_same_name e.name text) (Some m) o) (same_group es ms))

pub in_text : (session : SessionView) (name text : Bytes) (m : MountedGroup) → Some name ≡ name_among session.entries text → IsGroupOf session name m → IsGroupOf session text m
in_text session name text m found is =
    let same : is_same_name name text ≡ true = name_is session.entries text name (sym found) in
    record {
      named = sym (same_group name text same session.entries session.groups) ∙ is.named;
      mounted = is.mounted;
      on = record { entry = is.on.entry; named = sym (same_entry name text same session.entries) ∙ is.on.named; state = is.on.state };
      paired = is.paired;
    }

pub out_text : (session : SessionView) (name text : Bytes) (refusal : Refusal) → Some name ≡ name_among session.entries text → IsOutCause session.entries name refusal → IsOutCause session.entries text refusal
out_text session name text refusal found out =
    let same : is_same_name name text ≡ true = name_is session.entries text name (sym found) in
    rw (← same_entry name text same session.entries) out

none-by : (o : Option SessionEntry) → None ≡ option_map (λ (e : SessionEntry). e.name) o → o ≡ None
none-by None is = refl
none-by (Some e) is = absurd cc

pub none_text : (entries : List SessionEntry) (text : Bytes) → None ≡ name_among entries text → IsOutCause entries text cause.NoGroup
unfolding meaning_of
none_text entries text none = rw (none-by (entry_among entries text) none) (inl refl)

-- ---- the rows in it

due_or : (due : Option Refusal) (refusal : Refusal) → IsDueRefusal due refusal → (refusal ≡ cause.NoMemory) ⊎ (due ≡ Some refusal)
due_or due cause.NoMemory is = inl refl
due_or due refusal is = inr is

pub rows_in_text : (session : SessionView) (name text : Bytes) (m : MountedGroup) (parts : Path) (rows : List LsRow) → Some name ≡ name_among session.entries text → IsGroupOf session name m → KeepsRules m.catalog.shape m.catalog.tables → AreRowsAt m.catalog.tables m.name parts rows
    → AreRowsOfGroup session text parts rows
rows_in_text session name text m parts rows found is rules are = record { group = m; is_group = in_text session name text m found is; rules = rules; are = are }

pub cause_in_text : (session : SessionView) (name text : Bytes) (m : MountedGroup) (parts : Path) (refusal : Refusal) → Some name ≡ name_among session.entries text → IsGroupOf session name m → IsDueRefusal (list_refusal m.catalog.tables parts) refusal
    → (refusal ≡ cause.NoMemory) ⊎ IsRefusedIn session text parts refusal
cause_in_text session name text m parts refusal found is why = ⊎_elim
    (λ want. inl want)
    (λ due. inr (inr (record { group = m; is_group = in_text session name text m found is; caused = due })))
    (due_or (list_refusal m.catalog.tables parts) refusal why)
