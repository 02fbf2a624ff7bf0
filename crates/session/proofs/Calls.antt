-- The session over calls one after another, over calls that leave its groups as they are, and what a call on a group did.
use Rattle.std.proofs.Common.{Ok, ◌≡◌, ℕ, true, false, Bool, List, [], ◌∷◌, map, Option, Some, refl, ◌∙◌, ap, arith}
use Rattle.std.specs.Prelude.{if◌then◌else◌}
use Rattle.bay.specs.State.{BayState}
use Rattle.asm_group.specs.Names.{Bytes, is_same_name}
use Rattle.asm_world.specs.World.{SessionEntry}
use Rattle.group_contents.specs.catalog_tables.Tables.{Catalogued}
use Rattle.group_contents.specs.catalog.declared.new_file.NewFile.{NewFile}
use Rattle.group_contents.specs.group_engine.Mounts.{MountedGroup}
use Rattle.group_contents.specs.group_engine.Own.{KeepsGroup}
use Rattle.group_contents.specs.Creating.{NamesFile}
use Rattle.asm_formats.specs.Items.{FileHead}
use Rattle.group_contents.specs.file_directory.Files.{head_at}
use Rattle.group_turns.specs.group_reports.Listing.{path_to}
use Rattle.session.specs.FileLines.{IsNewLine, line_of_head, system_lines}
use Rattle.session.specs.Listing.{IsInGroup}
use Rattle.session.specs.Naming.{CarriesOn, IsGroupOf, group_among, key_of, with_group_named}
use Rattle.session.specs.Works.{DoesOn, Doing}
use Rattle.session.specs.Sessions.{AreReady, SessionView}
use Rattle.session.proofs.Keeping.{lets_go}
use Rattle.session.proofs.Ready.{read_ready}

-- a call that reads from a group
pub carries_read : (session : SessionView) (name : Bytes) (m : MountedGroup) {s t : BayState} → AreReady session.groups s → IsGroupOf session name m → KeepsGroup m m s t → CarriesOn session session s t
carries_read session name m {s} {t} ready is keeps = record {
  keys = refl;
  place = refl;
  given = refl;
  time = refl;
  ready = read_ready session name m ready is (lets_go m m s t keeps);
  calls = keeps.runs.later;
  past = λ n image before left. (keeps.runs.ended n image before).0 left;
}

-- one call, and then others
pub carries_more : (a b c : SessionView) (s t u : BayState) → CarriesOn a b s t → CarriesOn b c t u → CarriesOn a c s u
carries_more a b c s t u first next = record {
  keys = next.keys ∙ first.keys;
  place = next.place ∙ first.place;
  given = next.given ∙ first.given;
  time = next.time ∙ first.time;
  ready = next.ready;
  calls = omega (arith, first.calls, next.calls);
  past = λ n image before left. first.past n image before (next.past n image (omega (arith, before, first.calls)) left);
}

-- ---- the line of a file

pub of_head : (m : MountedGroup) (file : ℕ) (c d : Catalogued) (name : Bytes) (head : FileHead) (system : ℕ) (line : Bytes) → c ≡ m.catalog → d ≡ m.catalog → name ≡ m.name → system ≡ head.system
    → Some head ≡ head_at c.tables.files file → line ≡ path_to d.tables name system → line ∷ [] ≡ system_lines m file
of_head m file c d name head system line c_is d_is name_is system_is some told =
    let path : line ≡ path_to m.catalog.tables m.name head.system =
    told ∙ ap (λ (k : Catalogued). path_to k.tables name system) d_is ∙ ap (λ (n : Bytes). path_to m.catalog.tables n system) name_is ∙ ap (λ (n : ℕ). path_to m.catalog.tables m.name n) system_is in
    ap (λ (text : Bytes). text ∷ []) path ∙ ap (line_of_head m) (some ∙ ap (λ (k : Catalogued). head_at k.tables.files file) c_is)

-- ---- the group that a call changed

same_names : (e e' : SessionEntry) (es es' : List SessionEntry) → map key_of (e' ∷ es') ≡ map key_of (e ∷ es) → (e'.name ≡ e.name) × (map key_of es' ≡ map key_of es)
same_names e e' es es' keys =
    let first : key_of e' ≡ key_of e = cc in
    let rest : map key_of es' ≡ map key_of es = cc in (ap (λ (k : Bytes × ℕ). k.0) first, rest)

found_by : (t : Bool) (g b : MountedGroup) (gs others : List MountedGroup) (es' : List SessionEntry) (name : Bytes) (found : Option MountedGroup) (m : MountedGroup) → (found ≡ Some m → group_among es' others name ≡ Some b)
    → (if t then Some g else found) ≡ Some m
    → (first : SessionEntry) → is_same_name first.name name ≡ t → group_among (first ∷ es') (if t then b ∷ gs else g ∷ others) name ≡ Some b
found_by true g b gs others es' name found m rest is first same = rw same refl
found_by false g b gs others es' name found m rest is first same = rw same (rest is)

-- it is found by the name
pub found_after : (es es' : List SessionEntry) (gs : List MountedGroup) (name : Bytes) (m b : MountedGroup) → map key_of es' ≡ map key_of es → group_among es gs name ≡ Some m → group_among es' (with_group_named es gs name b) name ≡ Some b
found_after [] es' gs name m b keys is = absurd cc
found_after (e ∷ es) es' [] name m b keys is = absurd cc
found_after (e ∷ es) [] (g ∷ gs) name m b keys is = absurd cc
found_after (e ∷ es) (e' ∷ es') (g ∷ gs) name m b keys is =
    let same = same_names e e' es es' keys in
    found_by (is_same_name e.name name) g b gs (with_group_named es gs name b) es' name (group_among es gs name) m (found_after es es' gs name m b same.1) is e' (ap (λ (n : Bytes). is_same_name n name) same.0)

one_of : (m b : MountedGroup) (o : Option MountedGroup) → o ≡ Some m → o ≡ Some b → m ≡ b
one_of m b o is other = cc

-- The line of a new file is told of the group that the call left.
pub new_line : (new : NewFile) (old session : SessionView) (s t : BayState) (Does : Doing ℕ) (file : ℕ) (lines : List Bytes)
    → ((x y : MountedGroup) → Does x (Ok file) y s t → (before : MountedGroup) × NamesFile before new file y) → CarriesOn old session s t
    → DoesOn new.path.group Does old session s t file → IsInGroup session new.path.group (λ m. lines ≡ system_lines m file) → IsNewLine new session lines
new_line new old session s t Does file lines names carries done told =
    let changes = done.0 in
    let name = new.path.group in
    let made = names changes.before changes.after done.1 in
    let found : group_among session.entries session.groups name ≡ Some changes.after =
    ap (λ (gs : List MountedGroup). group_among session.entries gs name) changes.groups
    ∙ found_after old.entries session.entries old.groups name changes.before changes.after carries.keys changes.is.named in
    let same : told.group ≡ changes.after = one_of told.group changes.after (group_among session.entries session.groups name) told.is_group.named found in
    record {
      before = made.0;
      after = changes.after;
      file = file;
      named = made.1;
      group = found;
      is = told.caused ∙ ap (λ (m : MountedGroup). system_lines m file) same;
    }
