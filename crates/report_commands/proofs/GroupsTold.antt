-- lsdg, as the world's.
use Rattle.std.proofs.Common.{◌≡◌, ⊎_elim, inl, inr, ℕ, Bool, true, false, List, [], ◌∷◌, length, map, Option, Some, None, Result, Ok, Err, refl, sym, ◌∙◌, ap, subst, arith}
use Rattle.std.specs.Prelude.{IfErr, IfOk, if◌then◌else◌, is_none, is_some, unwrap_or}
use Rattle.std.specs.List.{cons_option, filter_map}
use Rattle.std.specs.Option.{option_map}
use Rattle.std.proofs.lemmas.Bool.{false≢true}
use Rattle.bay.specs.State.{BayState}
use Rattle.refusal_lines.specs.Refusals.{meaning_of}
use Rattle.refusal_lines.specs.declared.refusal.Refusal.{Refusal}
use Rattle.refusal_lines.specs.declared.refusal.Refusal.TheVariants as cause
use Rattle.asm_group.specs.Group.{Cell, Group}
use Rattle.asm_group.specs.Names.{Bytes, is_same_name}
use Rattle.asm_group.specs.Refusal as r
use Rattle.asm_group.specs.Shape.{Shape}
use Rattle.asm_formats.specs.Among.{IsAmong}
use Rattle.asm_world.specs.Below.{GroupBelow}
use Rattle.asm_world.specs.Causes.{HasCause, IsCaused, When, decided}
use Rattle.asm_world.specs.Command.{Command, Asked, ListGroups}
use Rattle.asm_world.specs.Listings.{entries_named, group_line, lines_of_groups}
use Rattle.asm_world.specs.Reply.{Done, Refused}
use Rattle.asm_world.specs.Reports.{dismounted_line, group_head, mounted_line}
use Rattle.asm_world.specs.Step.{Step}
use Rattle.asm_world.specs.World.{SessionEntry, SessionState, World, Mounted, DismountedBy, entry_in, group_of_entry, groups_of, is_mounted, only_group}
use Rattle.catalog_tables.specs.Tables.{Tables}
use Rattle.session.specs.group_engine.Making.{dismounted_by}
use Rattle.session.specs.group_engine.Mounts.{MountedGroup}
use Rattle.report_laws.specs.group_of.Groups.{group_of}
use Rattle.group_reports.specs.Disks.{group_row}
use Rattle.session.specs.session_claims.Claims.{IsPaired}
use Rattle.world_steps.specs.Told.{AreIdsApart}
use Rattle.session.specs.Effects.{IsServed, below_with}
use Rattle.session.specs.Entries.{by_disk, disk_name, state_view}
use Rattle.session.specs.Meaning.{meaning}
use Rattle.session.specs.Proved.{HasOwnGroups}
use Rattle.session.specs.Sessions.{IsToldBy, Knows, Roster, SessionView, roster_of}
use Rattle.session.proofs.AnsweredLines.{reply_of}
use Rattle.session.proofs.Below.{below_paired, row_below}
use Rattle.session.proofs.Knowing.{paired_among}
use Rattle.session.proofs.Outcomes as outcomes
use Rattle.session.proofs.Outcomes.{unread}
use Rattle.report_commands.specs.GroupRows.{AreGroupsTold, AreLinesOf, AreStatesOf, IsNoGroup, groups_asked, is_group_there, line_of}
use Rattle.report_commands.proofs.ShownGroups.{IsUncounted, refused, served_in, uncounted}

-- ---- why there are none

none_asked : (o : Option SessionEntry) → is_some o ≡ true → decided (When (is_none o) r.NoGroup ∷ []) ≡ None
none_asked None there = absurd (false≢true there)
none_asked (Some e) there = refl

uncaused : (w : World) (below : ℕ → GroupBelow) (group : Option Bytes) (lines : List Bytes) → is_group_there w.session group ≡ true → HasCause (below_with below unread) w (Asked (ListGroups group)) (Done lines)
uncaused w below None lines there = refl
uncaused w below (Some name) lines there = none_asked (entry_in w name) there

is_caused : (o : Option SessionEntry) → is_some o ≡ false → IsCaused (When (is_none o) r.NoGroup ∷ []) r.NoGroup
is_caused None absent = refl
is_caused (Some e) absent = absurd (false≢true (sym absent))

caused : (w : World) (below : ℕ → GroupBelow) (group : Option Bytes) → is_group_there w.session group ≡ false → HasCause (below_with below unread) w (Asked (ListGroups group)) (Refused [] r.NoGroup)
caused w below None absent = absurd (false≢true (sym absent))
caused w below (Some name) absent = is_caused (entry_in w name) absent

no_group : meaning_of (λ _. []) cause.NoGroup ≡ r.NoGroup
unfolding meaning_of
no_group = refl

-- ---- the line of one group

states_paired : (es : List SessionEntry) (ms : List MountedGroup) → AreStatesOf es ms → length ms ≡ length es
states_paired [] [] states = refl
states_paired (e ∷ es) (m ∷ ms) states = omega (arith, states_paired es ms states.1)
states_paired [] (m ∷ ms) states = absurd states
states_paired (e ∷ es) [] states = absurd states

shape_of : (name : Bytes) (s : Shape) (t : Tables) (cells : ℕ → List Cell) → (group_of name s t cells).shape ≡ s
unfolding group_of
shape_of name s t cells = refl

module _ (session : SessionView) (w : World) (below : ℕ → GroupBelow) (knows : Knows session w below) where
  abbrev line_in : SessionEntry → Option Bytes
  line_in entry = group_line (below_with below unread) w entry

  abbrev line_by : SessionEntry → SessionState → Option Bytes
  line_by e state = elim state [
    | Mounted ↦ option_map (λ (g : Group). mounted_line g.name g.shape (below e.id).row) (group_of_entry w (Some e))
    | DismountedBy disk ↦ Some (dismounted_line e.name)
  ]

  abbrev line_on : SessionEntry → MountedGroup → Option ℕ → Bytes
  line_on e m d = if is_none d then mounted_line e.name m.catalog.shape (group_row m.catalog m.register.value.entries) else dismounted_line e.name

  found : (e : SessionEntry) (g : Group) → is_mounted e ≡ true → groups_of w e.id ≡ g ∷ [] → group_of_entry w (Some e) ≡ Some g
  found e g on list = ap (λ (t : Bool). if t then only_group (groups_of w e.id) else None) on ∙ ap only_group list

  line_off : (e : SessionEntry) (m : MountedGroup) (d : ℕ) → e.state ≡ DismountedBy (disk_name m d) → line_in e ≡ Some (line_on e m (Some d))
  line_off e m d state = ap (line_by e) state

  module _ (own : HasOwnGroups w) (lengths : length session.groups ≡ length w.session) where
    line_mounted : (e : SessionEntry) (m : MountedGroup) → IsPaired w.session session.groups e m → e.state ≡ Mounted → line_in e ≡ Some (line_on e m None)
    line_mounted e m pair state =
        let among : IsAmong w.session e = paired_among w.session session.groups e m pair in
        let on : is_mounted e ≡ true = rw state refl in
        let one = own.alone.one e among on in
        let list : groups_of w e.id ≡ one.0 ∷ [] = ap (λ (o : Option (List Group)). unwrap_or o []) one.1 in
        let named : one.0.name ≡ e.name = own.named e one.0 among on list in
        let told : IsToldBy m one.0 = knows.told lengths e m one.0 pair on list named in
        let shape : one.0.shape ≡ m.catalog.shape = ap (λ (g : Group). g.shape) told.is ∙ shape_of m.name m.catalog.shape m.catalog.tables told.cells in
        let ids : AreIdsApart session.entries = subst (λ (es : List SessionEntry). AreIdsApart es) knows.entries_are own.alone.apart in
        let here : IsPaired session.entries session.groups e m = subst (λ (es : List SessionEntry). IsPaired es session.groups e m) knows.entries_are pair in
        let row : (below e.id).row ≡ group_row m.catalog m.register.value.entries =
        ap (λ (b : ℕ → GroupBelow). (b e.id).row) knows.below_is ∙ (ap (λ (b : GroupBelow). b.row) (below_paired session.entries session.groups e m ids here on) ∙ row_below m) in
        let told_line : Some (mounted_line one.0.name one.0.shape (below e.id).row) ≡ Some (mounted_line e.name m.catalog.shape (group_row m.catalog m.register.value.entries)) =
        λ i. Some (mounted_line (named i) (shape i) (row i)) in
        ap (line_by e) state ∙ (ap (option_map (λ (g : Group). mounted_line g.name g.shape (below e.id).row)) (found e one.0 on list) ∙ told_line)

    line_is : (e : SessionEntry) (m : MountedGroup) → IsPaired w.session session.groups e m → e.state ≡ state_view m → line_in e ≡ Some (line_of (e.name, m))
    line_is e m pair state = by (dismounted_by m.access) refl
      where
        by : (d : Option ℕ) → dismounted_by m.access ≡ d → line_in e ≡ Some (line_of (e.name, m))
        by None is = line_mounted e m pair (state ∙ ap (by_disk m) is) ∙ ap (λ (o : Option ℕ). Some (line_on e m o)) (sym is)
        by (Some d) is = line_off e m d (state ∙ ap (by_disk m) is) ∙ ap (λ (o : Option ℕ). Some (line_on e m o)) (sym is)

  -- ---- of all that are asked for

  abbrev HaveLines : List SessionEntry → List MountedGroup → Type 0
  HaveLines es ms = (e : SessionEntry) (m : MountedGroup) → IsPaired es ms e m → e.state ≡ state_view m → line_in e ≡ Some (line_of (e.name, m))

  named-by : (t : Bool) (e : SessionEntry) (m : MountedGroup) (others : List (Bytes × MountedGroup)) (rest : List SessionEntry) → line_in e ≡ Some (line_of (e.name, m)) → map line_of others ≡ filter_map line_in rest
      → map line_of (if t then (e.name, m) ∷ others else others) ≡ filter_map line_in (cons_option (if t then Some e else None) rest)
  named-by true e m others rest line same = λ i. cons_option (sym line i) (same i)
  named-by false e m others rest line same = same

  all_lines : (group : Option Bytes) (es : List SessionEntry) (ms : List MountedGroup) → HaveLines es ms → AreStatesOf es ms → map line_of (groups_asked group es ms) ≡ filter_map line_in (entries_named es group)
  all_lines None [] [] have states = refl
  all_lines None (e ∷ es) (m ∷ ms) have states = λ i. cons_option (sym (have e m (inl (refl, refl)) states.0) i) (all_lines None es ms (λ f k pair. have f k (inr pair)) states.1 i)
  all_lines (Some name) [] [] have states = refl
  all_lines (Some name) (e ∷ es) (m ∷ ms) have states =
      named-by (is_same_name e.name name) e m (groups_asked (Some name) es ms) (entries_named es (Some name)) (have e m (inl (refl, refl)) states.0) (all_lines (Some name) es ms (λ f k pair. have f k (inr pair)) states.1)
  all_lines group [] (m ∷ ms) have states = absurd states
  all_lines group (e ∷ es) [] have states = absurd states

  as_world : (group : Option Bytes) (lines : List Bytes) → AreLinesOf session group lines → HasOwnGroups w → lines ≡ lines_of_groups (below_with below unread) w group
  as_world group lines told own =
      let lengths : length session.groups ≡ length w.session = states_paired session.entries session.groups told.states ∙ ap (λ (es : List SessionEntry). length es) (sym knows.entries_are) in
      let have : HaveLines session.entries session.groups = λ e m pair state. line_is own lengths e m (subst (λ (es : List SessionEntry). IsPaired es session.groups e m) (sym knows.entries_are) pair) state in
      told.are ∙ (ap (λ (l : List Bytes). group_head ∷ l) (all_lines group session.entries session.groups have told.states)
      ∙ ap (λ (es : List SessionEntry). group_head ∷ filter_map line_in (entries_named es group)) (sym knows.entries_are))

-- ---- all of it

module _ (paths : List Bytes) (text : Bytes) (group : Option Bytes) (says : meaning text ≡ Asked (ListGroups group)) (session : SessionView) (s : BayState) (w : World) (below : ℕ → GroupBelow) (knows : Knows session w below) where
  abbrev was : Roster
  was = roster_of session

  abbrev command : Command
  command = Asked (ListGroups group)

  counts : IsUncounted paths text
  counts = uncounted paths text command says (λ c before after. tt)

  at_world : (t : Bool) → is_group_there session.entries group ≡ t → is_group_there w.session group ≡ t
  at_world t is = ap (λ (es : List SessionEntry). is_group_there es group) knows.entries_are ∙ is

  abbrev Told : r.Refusal → Type 0
  Told c = IsServed paths unread text (Refused [] c) was was s s below w w

  short : Told (meaning_of (λ _. []) cause.NoMemory)
  unfolding meaning_of
  short = outcomes.no_memory paths text was s w

  pub groups_served : (result : Result (List Bytes) Refusal) → IfOk result (AreGroupsTold session group) → IfErr result (IsNoGroup session.entries group) → IsServed paths unread text (reply_of result) was was s s below w w
  groups_served (Ok lines) told none = served_in paths text (Done lines) was s w w (rw says refl) (λ own.
      let step : Step (below_with below unread) w command (Done lines) w = (refl, as_world session w below knows group lines told.1 own) in
      let cause : HasCause (below_with below unread) w command (Done lines) = uncaused w below group lines (at_world true told.0) in
      outcomes.told paths text lines was s w
      (subst (λ (c : Command). Step (below_with below unread) w c (Done lines) w) (sym says) step)
      (subst (λ (c : Command). HasCause (below_with below unread) w c (Done lines)) (sym says) cause)
      (rw says tt) (rw says tt))
  groups_served (Err refusal) told none = ⊎_elim
      (λ (absent : (is_group_there session.entries group ≡ false) × (refusal ≡ cause.NoGroup)).
      let refuses : Told r.NoGroup = refused paths text command says counts was s w r.NoGroup refl (caused w below group (at_world false absent.0)) refl in
      subst (λ (x : Refusal). Told (meaning_of (λ _. []) x)) (sym absent.1) (subst (λ (c : r.Refusal). Told c) (sym no_group) refuses))
      (λ (want : refusal ≡ cause.NoMemory). subst (λ (x : Refusal). Told (meaning_of (λ _. []) x)) (sym want) short)
      none
