-- Refusals of cp, and the paths of the host that they name.
use Rattle.std.proofs.Common.{◌≡◌, ◌⊎◌, ⊎_elim, inl, inr, ℕ, ◌≤◌, Bool, true, false, List, [], ◌∷◌, Option, Some, None, Result, Ok, Err, refl, sym, ◌∙◌, subst, arith}
use Rattle.std.specs.Prelude.{if◌then◌else◌, IfErr, IfOk}
use Rattle.std.specs.Bool.{Decides}
use Rattle.std.specs.Str.{bytes_eq}
use Rattle.std.proofs.lemmas.Bool.{false≢true}
use Rattle.std.proofs.lemmas.Slice.Eq.{bytes_eq-Decides}
use Rattle.bay.specs.Counts.{Rose}
use Rattle.bay.specs.Hosts.{CountsAt}
use Rattle.bay.specs.State.{BayState}
use Rattle.refusal_lines.specs.Refusals.{meaning_of}
use Rattle.refusal_lines.specs.declared.refusal.Refusal.{Refusal}
use Rattle.refusal_lines.specs.declared.refusal.Refusal.TheVariants as cause
use Rattle.asm_group.specs.Causes.{Causes, first_cause}
use Rattle.asm_group.specs.Names.{Bytes, Path}
use Rattle.asm_group.specs.Refusal as r
use Rattle.asm_group.specs.Shape.{Shape}
use Rattle.asm_world.specs.Files.{NewName}
use Rattle.asm_world.specs.Paths.{is_host_path}
use Rattle.asm_world.specs.World.{SessionEntry, SessionState, Mounted, DismountedBy, entry_among}
use Rattle.report_laws.specs.catalog.NameChecks.{IsCheckRefusal, check_causes}
use Rattle.report_laws.specs.catalog.NamePlans.{name_at}
use Rattle.report_laws.specs.catalog.declared.new_file.NewFile.{NewFile}
use Rattle.catalog_tables.specs.Tables.{Catalogued, Tables}
use Rattle.session.specs.file_extents.Filling.{PutCause}
use Rattle.session.specs.file_extents.Rows.{ChoiceCause}
use Rattle.session.specs.file_extents.declared.rows.NewExtents.{NewExtents}
use Rattle.session.specs.group_contents.Creating.{BeginCause, IsTemplateCause, RoomCause}
use Rattle.session.specs.group_contents.Files.{AtFile, LostFileCause, OpenCause}
use Rattle.session.specs.group_contents.declared.opening.OpenFile.{OpenFile}
use Rattle.session.specs.group_engine.Commits.{StatusCause}
use Rattle.session.specs.group_engine.Mounts.{MountedGroup}
use Rattle.session.specs.Entries.{disk_name}
use Rattle.session.specs.Leading.{IsNoTarget}
use Rattle.session.specs.Naming.{IsOutCause, in_state, of_entry}
use Rattle.session.specs.Sessions.{SessionView}
use Rattle.session.specs.declared.reply.Reply.{Reply}
use Rattle.session.specs.declared.reply.Reply.TheVariants as replies
use Rattle.session.specs.Works.{Doing, DoesWork, IsSpelt, SpellsRefusal, WorksOn}
use Rattle.file_commands.specs.HostCauses.{FailsAt, HostFaultCause, Faults, HostCause, HostReply, IsAt, IsCopied, IsHostAt, IsHostOperand, IsNoHostFault, IsOfSource, NoneFalls, WhereOfHost}
use Rattle.file_commands.specs.declared.copying.Source.{Source}
use Rattle.file_commands.specs.declared.copying.Source.TheVariants as source
use Rattle.file_commands.specs.Reading.{FailsRead, IsFileReadCause}

-- ---- counts

rose_sooner : (s t u : ℕ) → s ≤ t → Rose t u → Rose s u
rose_sooner s t u sooner rose = omega (arith, rose, sooner)

fails_sooner : (s t u : Faults) (path : Bytes) → NoneFalls s t → FailsAt t u path → FailsAt s u path
fails_sooner s t u path sooner fails = ⊎_elim (λ none. inl none) (λ rose. inr (rose_sooner (s path) (t path) (u path) (sooner path) rose)) fails

pub none_falls : (s : Faults) → NoneFalls s s
none_falls s path = omega arith

pub falls_more : (s t u : Faults) → NoneFalls s t → NoneFalls t u → NoneFalls s u
falls_more s t u first next path = omega (arith, first path, next path)

-- those of one path alone rise
by_test : (path other : Bytes) (s t : Faults) (same : Bool) → CountsAt path s t → Decides same (other ≡ path) → s other ≤ t other
by_test path other s t true counts is = subst (λ (p : Bytes). s p ≤ t p) (sym (is.0 refl)) counts.later
by_test path other s t false counts is = let stays : t other ≡ s other = counts.others other (λ same. false≢true (is.1 same)) in omega (arith, stays)

pub of_counts : (path : Bytes) (s t : Faults) → CountsAt path s t → NoneFalls s t
of_counts path s t counts other = by_test path other s t (bytes_eq other path) counts (bytes_eq-Decides other path)

-- ---- causes

pub by_paths : (P Q : Bytes → Type 0) (s t : Faults) (refusal : Refusal) → ((path : Bytes) → P path → Q path) → HostFaultCause P s t refusal → HostFaultCause Q s t refusal
by_paths P Q s t (cause.HostFault path) so why = (so path why.0, why.1)
by_paths P Q s t other so why = tt

pub since : (P : Bytes → Type 0) (s t u : Faults) (refusal : Refusal) → NoneFalls s t → HostFaultCause P t u refusal → HostFaultCause P s u refusal
since P s t u (cause.HostFault path) sooner why = (why.0, fails_sooner s t u path sooner why.1)
since P s t u other sooner why = tt

pub not_host : (P : Bytes → Type 0) (s t : Faults) (refusal : Refusal) → IsNoHostFault refusal → HostFaultCause P s t refusal
not_host P s t (cause.HostFault path) none = absurd none
not_host P s t other none = tt

-- where it is an error
pub err_none : {T : Type 0} (P : Bytes → Type 0) (s t : Faults) (result : Result T Refusal) → IfErr result IsNoHostFault → IfErr result (HostFaultCause P s t)
err_none P s t (Ok given) none = tt
err_none P s t (Err refusal) none = not_host P s t refusal none

pub err_since : {T : Type 0} (P : Bytes → Type 0) (s t u : Faults) (result : Result T Refusal) → NoneFalls s t → IfErr result (HostFaultCause P t u) → IfErr result (HostFaultCause P s u)
err_since P s t u (Ok given) sooner why = tt
err_since P s t u (Err refusal) sooner why = since P s t u refusal sooner why

pub err_by : {T : Type 0} (P Q : Bytes → Type 0) (s t : Faults) (result : Result T Refusal) → ((path : Bytes) → P path → Q path) → IfErr result (HostFaultCause P s t) → IfErr result (HostFaultCause Q s t)
err_by P Q s t (Ok given) so why = tt
err_by P Q s t (Err refusal) so why = by_paths P Q s t refusal so why

-- ---- refusals with the disk spelt

abbrev IsNoneSaid : r.Refusal → Type 0
IsNoneSaid (r.HostFault path) = ⊥
IsNoneSaid other = Unit {0}

none_said : (names : ℕ → Bytes) (refusal : Refusal) → IsNoHostFault refusal → IsNoneSaid (meaning_of names refusal)
unfolding meaning_of
none_said names (cause.HostFault path) none = none
none_said names other none = tt

said_none : (names : ℕ → Bytes) (refusal : Refusal) → IsNoneSaid (meaning_of names refusal) → IsNoHostFault refusal
unfolding meaning_of
said_none names (cause.HostFault path) none = none
said_none names other none = tt

said_fault : (names : ℕ → Bytes) (refusal : Refusal) (path : Bytes) → r.HostFault path ≡ meaning_of names refusal → refusal ≡ cause.HostFault path
unfolding meaning_of
said_fault names (cause.HostFault other) path is = cc
said_fault names other path is = absurd cc

spelt_none : (m : MountedGroup) (raw refusal : Refusal) → IsNoHostFault raw → SpellsRefusal m raw refusal → IsNoHostFault refusal
spelt_none m raw refusal none spells = said_none (λ _. []) refusal (⊎_elim
    (λ (same : meaning_of (λ _. []) refusal ≡ meaning_of (disk_name m) raw). subst IsNoneSaid (sym same) (none_said (disk_name m) raw none))
    (λ (memory : meaning_of (λ _. []) refusal ≡ r.NoMemory). subst IsNoneSaid (sym memory) tt)
    spells)

-- ---- those of a group

pub status_none : (old new : MountedGroup) (s t : BayState) (refusal : Refusal) → StatusCause old new s t refusal → IsNoHostFault refusal
status_none old new s t (cause.HostFault path) why = why
status_none old new s t other why = tt

pub put_none : (old : MountedGroup) (before : ℕ) (new : MountedGroup) (s t : BayState) (refusal : Refusal) → PutCause old before new s t refusal → IsNoHostFault refusal
put_none old before new s t (cause.HostFault path) why = why
put_none old before new s t other why = tt

template_none : (t : Tables) (new : NewFile) (refusal : Refusal) → IsTemplateCause t new refusal → IsNoHostFault refusal
template_none t new (cause.HostFault path) why = why
template_none t new other why = tt

room_none : (c : Catalogued) (refusal : Refusal) → RoomCause c refusal → IsNoHostFault refusal
room_none c (cause.HostFault path) why = why
room_none c other why = tt

homes_none : (m : MountedGroup) (extents : NewExtents) (refusal : Refusal) → ChoiceCause m extents m.catalog.units refusal → IsNoHostFault refusal
homes_none m extents (cause.HostFault path) why = why
homes_none m extents other why = tt

-- none of the tests has it
abbrev AreNoneSaid : Causes → Type 0
AreNoneSaid [] = Unit {0}
AreNoneSaid (one ∷ causes) = IsNoneSaid one.1 × AreNoneSaid causes

first_or : (test : Bool) (one : r.Refusal) (causes : Causes) (c : r.Refusal) → IsNoneSaid one → (first_cause causes ≡ Some c → IsNoneSaid c) → (if test then Some one else first_cause causes) ≡ Some c → IsNoneSaid c
first_or true one causes c none rest is = let same : one ≡ c = cc in subst IsNoneSaid same none
first_or false one causes c none rest is = rest is

first_none : (causes : Causes) (c : r.Refusal) → AreNoneSaid causes → first_cause causes ≡ Some c → IsNoneSaid c
first_none [] c none is = absurd cc
first_none ((test, one) ∷ causes) c none is = first_or test one causes c none.0 (λ rest. first_none causes c none.1 rest) is

checks_none : (s : Shape) (t : Tables) (name : Option NewName) (size file : ℕ) → AreNoneSaid (check_causes s t name size file)
checks_none s t None size file = (tt, tt)
checks_none s t (Some name) size file = (tt, (tt, (tt, tt)))

check_none : (c : Catalogued) (path : Path) (size : ℕ) (refusal : Refusal) → IsCheckRefusal c path size refusal → IsNoHostFault refusal
check_none c path size refusal why = said_none (λ _. []) refusal (⊎_elim
    (λ (memory : meaning_of (λ _. []) refusal ≡ r.NoMemory). subst IsNoneSaid (sym memory) tt)
    (λ found. first_none (check_causes c.shape c.tables (name_at path) size found.0) (meaning_of (λ _. []) refusal) (checks_none c.shape c.tables (name_at path) size found.0) found.2)
    why)

pub begin_none : (old : MountedGroup) (new : NewFile) (group : MountedGroup) (s t : BayState) (refusal : Refusal) → BeginCause old new group s t refusal → IsNoHostFault refusal
begin_none old new group s t refusal why = ⊎_elim
    (λ early. ⊎_elim
    (λ template. template_none old.catalog.tables new refusal template)
    (λ later. ⊎_elim (λ check. check_none old.catalog new.path.parts new.size refusal check) (λ room. room_none old.catalog refusal room) later)
    early)
    (λ late. ⊎_elim
    (λ space. homes_none space.2.between space.0 refusal space.2.space)
    (λ status. status_none old group s t refusal status)
    late)
    why

open_none : (m : MountedGroup) (path : Path) (refusal : Refusal) → OpenCause m path refusal → IsNoHostFault refusal
open_none m path (cause.HostFault host) why = why
open_none m path other why = tt

lost_none : (m : MountedGroup) (file : OpenFile) (refusal : Refusal) → LostFileCause m file refusal → IsNoHostFault refusal
lost_none m file (cause.HostFault host) why = why
lost_none m file other why = tt

pub source_none : (m : MountedGroup) (path : Path) (refusal : Refusal) → AtFile m path (LostFileCause m) refusal → IsNoHostFault refusal
source_none m path refusal why = ⊎_elim (λ none. open_none m path refusal none) (λ lost. lost_none m lost.0 refusal lost.2) why

-- ---- those of the session

pub short_out : (entries : List SessionEntry) (name : Bytes) → IsOutCause entries name cause.NoMemory
unfolding meaning_of
short_out entries name = inr refl

by_state : (state : SessionState) (c : r.Refusal) → in_state state c → IsNoneSaid c
by_state Mounted c out = absurd out
by_state (DismountedBy disk) c out = subst IsNoneSaid (sym out) tt

by_entry : (o : Option SessionEntry) (c : r.Refusal) → of_entry o c → IsNoneSaid c
by_entry None c out = subst IsNoneSaid (sym out) tt
by_entry (Some entry) c out = by_state entry.state c out

pub out_none : (entries : List SessionEntry) (name : Bytes) (refusal : Refusal) → IsOutCause entries name refusal → IsNoHostFault refusal
out_none entries name refusal why = said_none (λ _. []) refusal (⊎_elim
    (λ gone. by_entry (entry_among entries name) (meaning_of (λ _. []) refusal) gone)
    (λ (memory : meaning_of (λ _. []) refusal ≡ r.NoMemory). subst IsNoneSaid (sym memory) tt)
    why)

pub err_out : {T : Type 0} (entries : List SessionEntry) (name : Bytes) (result : Result T Refusal) → IfErr result (IsOutCause entries name) → IfErr result IsNoHostFault
err_out entries name (Ok given) why = tt
err_out entries name (Err refusal) why = out_none entries name refusal why

by_read : (c : r.Refusal) → FailsRead c → IsNoneSaid c
by_read (r.HostFault path) why = why
by_read other why = tt

pub read_none : (session : SessionView) (name : Bytes) (refusal : Refusal) → IsFileReadCause session name refusal → IsNoHostFault refusal
read_none session name refusal why = ⊎_elim
    (λ away. out_none session.entries name refusal away)
    (λ fails. said_none (λ _. []) refusal (by_read (meaning_of (λ _. []) refusal) fails))
    why

pub target_none : (place : List Bytes) (path : Bytes) (refusal : Refusal) → IsNoTarget place path refusal → IsNoHostFault refusal
target_none place path refusal why = ⊎_elim
    (λ memory. subst IsNoHostFault (sym memory) tt)
    (λ none. subst IsNoHostFault (sym none.0) tt)
    why

-- ---- work on a group

-- the refusal for which a file is given back, or another
abbrev pub IsOrNone : Refusal → Refusal → Type 0
IsOrNone given refusal = (refusal ≡ given) ⊎ IsNoHostFault refusal

spelt_same : (given : Refusal) (m : MountedGroup) (raw refusal : Refusal) → IsOrNone given raw → SpellsRefusal m raw refusal → IsOrNone given refusal
unfolding meaning_of
spelt_same given m raw (cause.HostFault path) why spells = ⊎_elim
    (λ (same : r.HostFault path ≡ meaning_of (disk_name m) raw).
    let back : raw ≡ cause.HostFault path = said_fault (disk_name m) raw path same in
    ⊎_elim (λ (is : raw ≡ given). inl (sym back ∙ is)) (λ none. absurd (subst IsNoHostFault back none)) why)
    (λ (memory : r.HostFault path ≡ r.NoMemory). absurd cc)
    spells
spelt_same given m raw other why spells = inr tt

module _ (P : Refusal → Type 0) (spelt_so : (m : MountedGroup) (raw refusal : Refusal) → P raw → SpellsRefusal m raw refusal → P refusal) (out_so : (refusal : Refusal) → IsNoHostFault refusal → P refusal) {T : Type 0} (name : Bytes)
    (Does : Doing T) (old new : SessionView) (s t : BayState) (raw_so : (x y : MountedGroup) (raw : Refusal) → Does x (Err raw) y s t → P raw) where
  answer_so : (answer : Result T Refusal) (x y : MountedGroup) (refusal : Refusal) → Does x answer y s t → IsSpelt y answer (Err refusal) → P refusal
  answer_so (Ok done) x y refusal does spelt = absurd cc
  answer_so (Err raw) x y refusal does spelt =
      let same : refusal ≡ spelt.0 = cc in
      subst P (sym same) (spelt_so y raw spelt.0 (raw_so x y raw does) spelt.2)

  works_so : (result : Result T Refusal) → WorksOn name Does result old new s t → IfErr result P
  works_so (Ok given) works = tt
  works_so (Err refusal) works = ⊎_elim
      (λ found. let did : DoesWork name Does (Err refusal) old new s t = works.works found in answer_so did.answer did.before did.after refusal did.does did.spelt)
      (λ out. out_so refusal (out_none old.entries name refusal out))
      works.out

pub work_none : {T : Type 0} (name : Bytes) (Does : Doing T) (old new : SessionView) (s t : BayState) (result : Result T Refusal) → WorksOn name Does result old new s t
    → ((x y : MountedGroup) (raw : Refusal) → Does x (Err raw) y s t → IsNoHostFault raw) → IfErr result IsNoHostFault
work_none name Does old new s t result works none = works_so IsNoHostFault spelt_none (λ refusal no. no) name Does old new s t none result works

pub given_none : (given : Refusal) (old new : MountedGroup) (s t : BayState) (refusal : Refusal) → (refusal ≡ given) ⊎ StatusCause old new s t refusal → IsOrNone given refusal
given_none given old new s t refusal why = ⊎_elim (λ is. inl is) (λ status. inr (status_none old new s t refusal status)) why

pub work_or : {T : Type 0} (given : Refusal) (name : Bytes) (Does : Doing T) (old new : SessionView) (s t : BayState) (result : Result T Refusal) → WorksOn name Does result old new s t
    → ((x y : MountedGroup) (raw : Refusal) → Does x (Err raw) y s t → IsOrNone given raw) → IfErr result (IsOrNone given)
work_or given name Does old new s t result works same = works_so (IsOrNone given) (spelt_same given) (λ refusal no. inr no) name Does old new s t same result works

-- the refusal for which it was given back has its cause
pub given_cause : (P : Bytes → Type 0) (s t : Faults) (given refusal : Refusal) → IsOrNone given refusal → HostFaultCause P s t given → HostFaultCause P s t refusal
given_cause P s t given refusal same why = ⊎_elim
    (λ (is : refusal ≡ given). subst (λ (x : Refusal). HostFaultCause P s t x) (sym is) why)
    (λ none. not_host P s t refusal none)
    same

-- ---- the source

pub of_source : (P : Bytes → Type 0) (from : Source) → WhereOfHost P from → (path : Bytes) → IsOfSource from path → P path
of_source P (source.Host host) so path is = subst P (sym is) so
of_source P (source.File group opened) so path is = absurd is

pub where_host : (path : Bytes) (from : Source) → is_host_path path ≡ true → WhereOfHost (IsAt path) from → WhereOfHost (IsHostAt path) from
where_host path (source.Host host) is at = (at, is)
where_host path (source.File group opened) is at = tt

-- ---- the operands

pub copied : (from to : Bytes) (opened : Source) → WhereOfHost (IsHostAt from) opened → (path : Bytes) → IsCopied opened to path → IsHostOperand from to path
copied from to opened so path is = ⊎_elim (λ here. inl (of_source (IsHostAt from) opened so path here)) (λ there. inr there) is

-- what is answered
pub replied : (from to : Bytes) (s t : Faults) (done : Result (List Bytes) Refusal) (reply : Reply) → IfOk done (λ lines. reply ≡ replies.Done lines) → IfErr done (λ refusal. reply ≡ replies.Refused refusal)
    → IfErr done (HostCause from to s t) → HostReply from to s t reply
replied from to s t (Ok lines) reply ok err why = subst (λ (x : Reply). HostReply from to s t x) (sym ok) tt
replied from to s t (Err refusal) reply ok err why = subst (λ (x : Reply). HostReply from to s t x) (sym err) why
