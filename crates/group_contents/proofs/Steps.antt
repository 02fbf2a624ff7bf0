-- Steps on the files of a group, one after the other: what they leave, and what they committed.
use Rattle.std.proofs.Common.{◌≡◌, ◌⊎◌, ⊎_elim, inl, inr, ℕ, ◌<◌, Bool, true, false, List, None, Result, Ok, Err, refl, sym, ap, subst, ◌∙◌, arith}
use Rattle.std.specs.Prelude.{IfErr, IfOk, OnOk}
use Rattle.bay.specs.State.{BayState}
use Rattle.asm_group.specs.Names.{Path}
use Rattle.asm_group.specs.TreeEdits as e
use Rattle.asm_group.specs.declared.PendingKind.TheVariants.{Create, Grow}
use Rattle.asm_group.specs.declared.Stripe.{Stripe}
use Rattle.asm_base.specs.Records.{DirectoryRecord}
use Rattle.refusal_lines.specs.declared.refusal.DiskRef.{DiskRef}
use Rattle.refusal_lines.specs.declared.refusal.DiskRef.TheVariants.{Number, Spelt}
use Rattle.refusal_lines.specs.declared.refusal.Refusal.{Refusal}
use Rattle.refusal_lines.specs.declared.refusal.Refusal.TheVariants as cause
use Rattle.asm_formats.specs.Items.{Key}
use Rattle.file_extents.specs.catalog_tables.Changing.{IsAfter}
use Rattle.file_extents.specs.catalog.FilePlans.{IsRemovalPlan, IsSizePlan, is_on_file, with_removal_pending, tables_with_size}
use Rattle.file_extents.specs.catalog.NamePlans.{IsNamePlan, made_file}
use Rattle.file_extents.specs.catalog.Plans.{IsPlan}
use Rattle.file_extents.specs.catalog_tables.Tables.{Catalogued, Tables}
use Rattle.file_extents.specs.catalog.TreePlans.{IsTreePlan, IsTreeRefusal}
use Rattle.file_extents.specs.catalog.declared.new_file.NewFile.{NewFile}
use Rattle.file_extents.specs.group_engine.Commits.{StatusCause}
use Rattle.file_extents.specs.group_engine.Mounts.{IsMounted, MountedGroup, Takes}
use Rattle.file_extents.specs.group_engine.Own.{IsSameGroup, KeepsGroup}
use Rattle.file_extents.proofs.group_engine.Causes.{cause_on}
use Rattle.file_extents.proofs.group_engine.Endings.{keeps_closed}
use Rattle.file_extents.specs.Beginning.{Begins, HomesCause}
use Rattle.file_extents.specs.Closing.{IsOrShut, or_shut}
use Rattle.file_extents.specs.Filling.{FaultOn}
use Rattle.file_extents.proofs.Chains.{kept, rose_before}
use Rattle.file_extents.specs.declared.rows.NewExtents.{NewExtents}
use Rattle.group_contents.specs.Creating.{AreOfNew, BeginCause, BegunCause, CreateCause, NamesFile, RoomCause}
use Rattle.group_contents.specs.Files.{IsOpened, OpenCause, WriteCause}
use Rattle.group_contents.specs.Removing.{DropsDirectory, DropsNode, IsRemoved, RemoveCause, RemovesPath, RemovesFile, StaysCause, leads_to_directory}
use Rattle.group_contents.specs.declared.opening.OpenFile.{OpenFile}
use Rattle.group_contents.specs.Sizes.{AreMore, GrowCause, GrowthCause, IsCut, IsFaultBack, IsSized, LaterCause, MoreCause, ResizeCause, ResizesFile, SetsSize}
use Rattle.group_contents.proofs.Chains.{status_writes, write_on}

-- ---- answers

pub on_ok : {P Q : Type 0} (r : Result (Unit {0}) Refusal) → (P → Q) → OnOk r P → OnOk r Q
on_ok (Ok done) f p = f p
on_ok (Err e) f p = tt

pub on_err : {A : Type 0} (P Q : Refusal → Type 0) (r : Result A Refusal) → ((e : Refusal) → P e → Q e) → IfErr r P → IfErr r Q
on_err P Q (Ok done) f p = tt
on_err P Q (Err e) f p = f e p

pub ok_with : {Q : Type 0} (r : Result (Unit {0}) Refusal) → Q → OnOk r Q
ok_with (Ok done) q = q
ok_with (Err e) q = tt

pub ok_both : {P Q S : Type 0} (r : Result (Unit {0}) Refusal) → (P → Q → S) → OnOk r P → OnOk r Q → OnOk r S
ok_both (Ok done) f p q = f p q
ok_both (Err e) f p q = tt

-- ---- what steps leave

-- why the second of two steps is refused
module _ {a b : MountedGroup} {s t : BayState} (keeps : KeepsGroup a b s t) (mounted : IsMounted b) (c : MountedGroup) (u : BayState) {A : Type 0} where
  pub status_next : (r : Result A Refusal) → IfErr r (StatusCause b c t u) → IfErr r (StatusCause a c s u)
  status_next (Ok done) why = tt
  status_next (Err e) why = cause_on keeps u c mounted e why

  pub write_next : (r : Result A Refusal) → IfErr r (WriteCause b c t u) → IfErr r (WriteCause a c s u)
  write_next (Ok done) why = tt
  write_next (Err e) why = write_on keeps mounted u c e why

  pub status_write_next : (r : Result A Refusal) → IfErr r (StatusCause b c t u) → IfErr r (WriteCause a c s u)
  status_write_next (Ok done) why = tt
  status_write_next (Err e) why = write_on keeps mounted u c e (status_writes b c t u e why)

pub status_write : {A : Type 0} (a b : MountedGroup) (s t : BayState) (r : Result A Refusal) → IfErr r (StatusCause a b s t) → IfErr r (WriteCause a b s t)
status_write a b s t r = on_err (StatusCause a b s t) (WriteCause a b s t) r (status_writes a b s t)

-- ---- what was committed

-- where no operation is pending a removal is a plan
pub removal_plan : (k : Catalogued) (f : ℕ) (put : List DirectoryRecord) (gone : List Key) → IsRemovalPlan k f put gone → k.tables.operations.pending ≡ None
    → (u : Tables) × IsPlan k put gone u
removal_plan k f put gone p none = (with_removal_pending k.tables f p.head, p.plan (p.owned (ap (is_on_file k.tables.files) none)))

-- where the pending operation is on a file another size is one
pub size_plan : (k : Catalogued) (f size : ℕ) (put : List DirectoryRecord) (gone : List Key) → IsSizePlan k f size put gone
    → is_on_file k.tables.files k.tables.operations.pending ≡ true → (u : Tables) × IsPlan k put gone u
size_plan k f size put gone p on = (tables_with_size k.tables f p.head size p.pending, p.plan (p.owned on))

pub removes : (a : MountedGroup) (k : Catalogued) (f : ℕ) (put : List DirectoryRecord) (gone : List Key) (r : Result (Unit {0}) Refusal) (b : MountedGroup)
    → k ≡ a.catalog → IsRemovalPlan k f put gone → OnOk r (IsAfter k.tables put gone b.catalog.tables) → OnOk r (RemovesFile a f b)
removes a k f put gone r b same p applied = on_ok r
    (λ (is : IsAfter k.tables put gone b.catalog.tables). record {
      put = put;
      gone = gone;
      plan = subst (λ (j : Catalogued). IsRemovalPlan j f put gone) same p;
      applied = subst (λ (j : Catalogued). IsAfter j.tables put gone b.catalog.tables) same is;
    })
    applied

pub sizes : (a : MountedGroup) (k : Catalogued) (f size : ℕ) (put : List DirectoryRecord) (gone : List Key) (r : Result (Unit {0}) Refusal) (b : MountedGroup)
    → k ≡ a.catalog → IsSizePlan k f size put gone → OnOk r (IsAfter k.tables put gone b.catalog.tables) → OnOk r (SetsSize a f size b)
sizes a k f size put gone r b same p applied = on_ok r
    (λ (is : IsAfter k.tables put gone b.catalog.tables). record {
      put = put;
      gone = gone;
      plan = subst (λ (j : Catalogued). IsSizePlan j f size put gone) same p;
      applied = subst (λ (j : Catalogued). IsAfter j.tables put gone b.catalog.tables) same is;
    })
    applied

pub drops : (a : MountedGroup) (path : Path) (put : List DirectoryRecord) (gone : List Key) (r : Result (Unit {0}) Refusal) (b : MountedGroup)
    → IsTreePlan a.catalog (e.DropDir path) put gone → OnOk r (IsAfter a.catalog.tables put gone b.catalog.tables) → OnOk r (DropsDirectory a path b)
drops a path put gone r b p applied = on_ok r
    (λ (after : IsAfter a.catalog.tables put gone b.catalog.tables). record { put = put; gone = gone; plan = p; applied = after })
    applied

pub names : (a : MountedGroup) (k : Catalogued) (new : NewFile) (file copies : ℕ) (stripe : Stripe) (put : List DirectoryRecord) (gone : List Key) (r : Result (Unit {0}) Refusal)
    (b : MountedGroup) → k ≡ a.catalog → made_file a.catalog.tables ≡ file → IsNamePlan k new.path.parts new.size copies stripe put gone
    → OnOk r (IsAfter k.tables put gone b.catalog.tables) → OnOk r (NamesFile a new file b)
names a k new file copies stripe put gone r b same number p applied = on_ok r
    (λ (after : IsAfter k.tables put gone b.catalog.tables). record {
      number = number;
      copies = copies;
      stripe = stripe;
      put = put;
      gone = gone;
      plan = subst (λ (j : Catalogued). IsNamePlan j new.path.parts new.size copies stripe put gone) same p;
      applied = subst (λ (j : Catalogued). IsAfter j.tables put gone b.catalog.tables) same after;
    })
    applied

pub is_removed : (a : MountedGroup) (path : Path) (file : OpenFile) (r : Result (Unit {0}) Refusal) (b : MountedGroup) → IsOpened a.catalog.tables path file
    → OnOk r ((after : MountedGroup) × RemovesFile a file.file after) → OnOk r (b.catalog.tables.operations.pending ≡ None) → OnOk r (IsRemoved a path b)
is_removed a path file r b opened removed ended = ok_both r
    (λ (went : (after : MountedGroup) × RemovesFile a file.file after) (done : b.catalog.tables.operations.pending ≡ None).
    record { file = file.file; named = opened.number; between = went.0; removed = went.1; ended = done })
    removed ended

-- ---- what goes

module _ (a : MountedGroup) (path : Path) (b : MountedGroup) (s t : BayState) {A : Type 0} (r : Result A Refusal) where
  pub directory_refused : leads_to_directory a.catalog.tables path ≡ true
      → IfErr r (λ refusal. IsTreeRefusal a.catalog (e.DropDir path) refusal ⊎ StatusCause a b s t refusal) → IfErr r (RemoveCause a path b s t)
  directory_refused is = on_err (λ refusal. IsTreeRefusal a.catalog (e.DropDir path) refusal ⊎ StatusCause a b s t refusal) (RemoveCause a path b s t) r
      (λ refusal why. subst (λ (x : Bool). StaysCause x a path refusal ⊎ StatusCause a b s t refusal) (sym is) why)

  pub file_refused : leads_to_directory a.catalog.tables path ≡ false
      → IfErr r (λ refusal. OpenCause a path refusal ⊎ StatusCause a b s t refusal) → IfErr r (RemoveCause a path b s t)
  file_refused is = on_err (λ refusal. OpenCause a path refusal ⊎ StatusCause a b s t refusal) (RemoveCause a path b s t) r
      (λ refusal why. subst (λ (x : Bool). StaysCause x a path refusal ⊎ StatusCause a b s t refusal) (sym is) why)

module _ (a : MountedGroup) (path : Path) (b : MountedGroup) (r : Result (Unit {0}) Refusal) where
  pub directory_goes : leads_to_directory a.catalog.tables path ≡ true → OnOk r (DropsDirectory a path b) → OnOk r (RemovesPath a path b)
  directory_goes is = on_ok r (λ (went : DropsDirectory a path b). subst (λ (x : Bool). DropsNode x a path b) (sym is) went)

  pub file_goes : leads_to_directory a.catalog.tables path ≡ false → OnOk r (IsRemoved a path b) → OnOk r (RemovesPath a path b)
  file_goes is = on_ok r (λ (went : IsRemoved a path b). subst (λ (x : Bool). DropsNode x a path b) (sym is) went)

-- ---- another size

-- for want of blocks
pub room_grows : (m : MountedGroup) (file : OpenFile) (e : Refusal) → RoomCause m.catalog e → GrowCause m file e
room_grows m file (cause.DirectoryFull need free) why = why
room_grows m file cause.NoMemory why = tt
room_grows m file _ why = absurd why

same_joins : {a b c : MountedGroup} → IsSameGroup a b → IsSameGroup b c → IsSameGroup a c
same_joins one two = record {
  name = two.name ∙ one.name;
  id = two.id ∙ one.id;
  shape = two.shape ∙ one.shape;
  members = two.members ∙ one.members;
  disks = two.disks ∙ one.disks;
  flight = ⊎_elim (λ goes. ⊎_elim (λ went. inl (goes ∙ went)) (λ gone. inr (goes ∙ gone)) one.flight) (λ gone. inr gone) two.flight;
}

-- for want of space once the growth had begun
pub lacks_later : (m : MountedGroup) (extents : NewExtents) (new : MountedGroup) (s t : BayState) (e : Refusal) → IsMounted m → Takes m s → HomesCause m extents new s t e
    → LaterCause m extents new s t e
lacks_later m extents new s t e mounted takes why =
    ⊎_elim
    (λ lacks. inl (record { between = m; same = (kept m s takes).same; whole = (takes mounted).0; space = lacks.0; given_back = lacks.1 }))
    (λ because. inr (status_writes m new s t e because))
    why

pub shut_later : (a c : MountedGroup) (extents : NewExtents) (s t : BayState) (r : Result (Unit {0}) Refusal) → IfErr r (WriteCause a c s t) → IfErr r (LaterCause a extents c s t)
shut_later a c extents s t r = on_err (WriteCause a c s t) (LaterCause a extents c s t) r (λ e why. inr why)

pub writes_more : {A : Type 0} (m : MountedGroup) (extents : NewExtents) (new : MountedGroup) (s t : BayState) (r : Result A Refusal)
    → IfErr r (WriteCause m new s t) → IfErr r (MoreCause m extents new s t)
writes_more m extents new s t r = on_err (WriteCause m new s t) (MoreCause m extents new s t) r (λ e why. inr why)

-- why the second of two steps of a growth is refused
module _ (extents : NewExtents) {a b : MountedGroup} {s t : BayState} (keeps : KeepsGroup a b s t) (mounted : IsMounted b) (c : MountedGroup) (u : BayState) {A : Type 0} where
  pub later_next : (r : Result A Refusal) → IfErr r (LaterCause b extents c t u) → IfErr r (LaterCause a extents c s u)
  later_next r = on_err (LaterCause b extents c t u) (LaterCause a extents c s u) r
      (λ e why. ⊎_elim
      (λ lacks. inl (record { between = lacks.between; same = same_joins keeps.same lacks.same; whole = lacks.whole; space = lacks.space; given_back = lacks.given_back }))
      (λ writes. inr (write_on keeps mounted u c e writes))
      why)

  pub writes_later : (r : Result A Refusal) → IfErr r (WriteCause b c t u) → IfErr r (LaterCause a extents c s u)
  writes_later r = on_err (WriteCause b c t u) (LaterCause a extents c s u) r (λ e why. inr (write_on keeps mounted u c e why))

  -- the first of which was its begin
  pub begun_later : Begins a Grow extents b → (r : Result A Refusal) → IfErr r (LaterCause b extents c t u) → IfErr r (MoreCause a extents c s u)
  begun_later begins r = on_err (LaterCause b extents c t u) (MoreCause a extents c s u) r
      (λ e why. ⊎_elim
      (λ lacks. inl (record { begun = b; begins = begins; same = keeps.same; later = lacks }))
      (λ writes. inr (write_on keeps mounted u c e writes))
      why)

pub grows : (m : MountedGroup) (file : OpenFile) (extents : NewExtents) (b : MountedGroup) (s t : BayState) (r : Result (Unit {0}) Refusal) → AreMore m.catalog file extents
    → IfErr r (MoreCause m extents b s t) → IfErr r (GrowthCause m file b s t)
grows m file extents b s t r more = on_err (MoreCause m extents b s t) (GrowthCause m file b s t) r (λ e why. inr (extents, more, why))

pub size_set : (a : MountedGroup) (file size : ℕ) (b : MountedGroup) (r : Result (Unit {0}) Refusal) → OnOk r (SetsSize a file size b) → OnOk r (IsSized file size b)
size_set a file size b r = on_ok r (λ (is : SetsSize a file size b). (a, is))

-- of the file at a path
module _ (a : MountedGroup) (path : Path) (size : ℕ) (b : MountedGroup) (s t : BayState) (r : Result (Unit {0}) Refusal) where
  pub shrinking_refused : IfErr r (StatusCause a b s t) → IfErr r (ResizeCause a path size b s t)
  shrinking_refused = on_err (StatusCause a b s t) (ResizeCause a path size b s t) r (λ e why. inr (status_writes a b s t e why))

  pub growth_refused : (file : OpenFile) → IsOpened a.catalog.tables path file → IfErr r (GrowthCause a file b s t) → IfErr r (ResizeCause a path size b s t)
  growth_refused file opened = on_err (GrowthCause a file b s t) (ResizeCause a path size b s t) r (λ e why. inl (inr (file, opened, inr why)))

-- where the move that was on its way is given up before
pub size_cut : (a new : MountedGroup) (file size : ℕ) (b : MountedGroup) (r : Result (Unit {0}) Refusal) → new ≡ record a { flight = None } → SetsSize new file size b → OnOk r (IsCut a file size)
size_cut a new file size b r is set =
    let here = subst (λ (v : MountedGroup). SetsSize v file size b) is set in
    ok_with r (b, record { put = here.put; gone = here.gone; plan = here.plan; applied = here.applied })

-- the size is that of the file
pub stays_sized : (a : MountedGroup) (path : Path) (size : ℕ) (file : OpenFile) → IsOpened a.catalog.tables path file → size ≡ file.size → ResizesFile a path size a
stays_sized a path size file opened is = record {
  file = file;
  opened = opened;
  same = λ also. refl;
  cut = λ less. absurd (omega (arith, is, less));
  grown = λ more. absurd (omega (arith, is, more));
}

module _ (a : MountedGroup) (path : Path) (size : ℕ) (b : MountedGroup) (file : OpenFile) (r : Result (Unit {0}) Refusal) (opened : IsOpened a.catalog.tables path file) where
  -- a smaller one
  pub cuts : size < file.size → OnOk r (IsCut a file.file size) → OnOk r (ResizesFile a path size b)
  cuts less = on_ok r (λ (is : IsCut a file.file size). record {
    file = file;
    opened = opened;
    same = λ also. absurd (omega (arith, also, less));
    cut = λ again. is;
    grown = λ more. absurd (omega (arith, less, more));
  })

  -- a greater one
  pub grows_to : file.size < size → OnOk r (IsSized file.file size b) → OnOk r (ResizesFile a path size b)
  grows_to more = on_ok r (λ (is : IsSized file.file size b). record {
    file = file;
    opened = opened;
    same = λ also. absurd (omega (arith, also, more));
    cut = λ less. absurd (omega (arith, less, more));
    grown = λ again. is;
  })

-- ---- after want of memory the group takes no more calls

pub or_shut_ok : (P : MountedGroup → Type 0) (b c : MountedGroup) (r q : Result (Unit {0}) Refusal) → OnOk r (P b) → IsOrShut r b q c → OnOk q (P c)
or_shut_ok P b c r q had is = subst (λ (x : Result (Unit {0}) Refusal). OnOk x (P c)) (sym is.0) (subst (λ (x : MountedGroup). OnOk r (P x)) (sym is.1) (go r had))
  where
    go : (x : Result (Unit {0}) Refusal) → OnOk x (P b) → OnOk x (P (or_shut x b))
    go (Err cause.NoMemory) was = tt
    go (Ok done) was = was
    go (Err _) was = tt

-- for a disk that failed
fault_before : (a : MountedGroup) {b c : MountedGroup} (s : BayState) {t u : BayState} → KeepsGroup b c t u → (by : DiskRef) → FaultOn a s t by → FaultOn a s u by
fault_before a s keeps (Number d) rose = rose_before a s keeps d rose
fault_before a s keeps (Spelt text) none = absurd none

pub fault_given_back : {a b c : MountedGroup} {s t u : BayState} (extents : NewExtents) (by : DiskRef) (r : Refusal) → KeepsGroup a b s t → KeepsGroup b c t u → FaultOn a s t by
    → IsFaultBack b extents by c t u r → LaterCause a extents c s u r
fault_given_back {a} {b} {c} {s} {t} {u} extents by r one two fault why =
    ⊎_elim
    (λ same. inr (subst (λ (v : Refusal). WriteCause a c s u v) (sym same) (fault_before a s two by fault)))
    (λ because. ⊎_elim
    (λ lacks. inl (record { between = lacks.between; same = same_joins one.same lacks.same; whole = lacks.whole; space = lacks.space; given_back = lacks.given_back }))
    (λ status. inr (status_writes a c s u r (cause_on one u c because.0 r status)))
    because.1)
    why

-- a growth was given homes, and then given back
pub homes_given_back : {a b : MountedGroup} {s t : BayState} (c : MountedGroup) (u : BayState) (extents : NewExtents) (by : DiskRef) (r : Refusal) → IsMounted a → KeepsGroup a b s t → IsMounted b
    → (r ≡ cause.WriteFault by) ⊎ StatusCause b c t u r → IsFaultBack a extents by c s u r
homes_given_back c u extents by r mounted one still why =
    ⊎_elim (λ same. inl same) (λ status. inr (mounted, inr (cause_on one u c still r status))) why

-- or it got none, and was given back for that
pub homes_lacked : (m : MountedGroup) (extents : NewExtents) (by : DiskRef) (new : MountedGroup) (s t : BayState) (e : Refusal) → IsMounted m → Takes m s → HomesCause m extents new s t e
    → IsFaultBack m extents by new s t e
homes_lacked m extents by new s t e mounted takes why = inr (
  mounted,
  ⊎_elim
      (λ lacks. inl (record { between = m; same = (kept m s takes).same; whole = (takes mounted).0; space = lacks.0; given_back = lacks.1 }))
      (λ because. inr because)
      why,
)

pub or_shut_keeps : (a b c : MountedGroup) (s t : BayState) (r q : Result (Unit {0}) Refusal) → KeepsGroup a b s t → IsOrShut r b q c → KeepsGroup a c s t
or_shut_keeps a b c s t r q keeps is = subst (λ (x : MountedGroup). KeepsGroup a x s t) (sym is.1) (go r)
  where
    go : (x : Result (Unit {0}) Refusal) → KeepsGroup a (or_shut x b) s t
    go (Err cause.NoMemory) = keeps_closed keeps
    go (Ok done) = keeps
    go (Err _) = keeps

pub or_shut_writes : (a b c : MountedGroup) (s t : BayState) (r q : Result (Unit {0}) Refusal) → IfErr r (WriteCause a b s t) → IsOrShut r b q c → IfErr q (WriteCause a c s t)
or_shut_writes a b c s t r q why is =
    subst (λ (x : Result (Unit {0}) Refusal). IfErr x (WriteCause a c s t)) (sym is.0) (subst (λ (x : MountedGroup). IfErr r (WriteCause a x s t)) (sym is.1) (go r why))
  where
    go : (x : Result (Unit {0}) Refusal) → IfErr x (WriteCause a b s t) → IfErr x (WriteCause a (or_shut x b) s t)
    go (Err cause.NoMemory) was = tt
    go (Ok done) was = tt
    go (Err _) was = was

-- ---- new files

-- why the homes of a creation that has begun are refused
module _ (extents : NewExtents) {a b : MountedGroup} {s t : BayState} (keeps : KeepsGroup a b s t) (mounted : IsMounted b) (begins : Begins a Create extents b) (c : MountedGroup)
    (u : BayState) {A : Type 0} where
  pub homes_next : (r : Result A Refusal) → IfErr r (HomesCause b extents c t u) → IfErr r (BegunCause a extents c s u)
  homes_next r = on_err (HomesCause b extents c t u) (BegunCause a extents c s u) r
      (λ e why. ⊎_elim
      (λ lacks. inl (record { between = b; begins = begins; same = keeps.same; whole = keeps.whole mounted; space = lacks.0; given_back = lacks.1 }))
      (λ because. inr (cause_on keeps u c mounted e because))
      why)

pub begun_refused : (a : MountedGroup) (new : NewFile) (extents : NewExtents) (b : MountedGroup) (s t : BayState) (e : Refusal) → AreOfNew a new extents → BegunCause a extents b s t e
    → BeginCause a new b s t e
begun_refused a new extents b s t e of why = ⊎_elim (λ lacks. inr (inl (extents, of, lacks))) (λ because. inr (inr because)) why

pub named_before : (a : MountedGroup) (new : NewFile) (b : MountedGroup) (r : Result ℕ Refusal) → IfOk r (λ file. NamesFile a new file b)
    → IfOk r (λ file. (before : MountedGroup) × NamesFile before new file b)
named_before a new b (Ok file) is = (a, is)
named_before a new b (Err e) is = tt

pub begin_creates : (a : MountedGroup) (new : NewFile) (b : MountedGroup) (s t : BayState) (e : Refusal) → BeginCause a new b s t e → CreateCause a new b s t e
begin_creates a new b s t e why = ⊎_elim (λ is. inl is) (λ more. ⊎_elim (λ lacks. inr (inl lacks)) (λ because. inr (inr (status_writes a b s t e because))) more) why

module _ (new : NewFile) {a b : MountedGroup} {s t : BayState} (keeps : KeepsGroup a b s t) (mounted : IsMounted b) (c : MountedGroup) (u : BayState) {A : Type 0} where
  pub create_next : (r : Result A Refusal) → IfErr r (WriteCause b c t u) → IfErr r (CreateCause a new c s u)
  create_next (Ok done) why = tt
  create_next (Err e) why = inr (inr (write_on keeps mounted u c e why))
