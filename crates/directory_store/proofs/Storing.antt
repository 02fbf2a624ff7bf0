-- What a commit makes of what a store keeps.
use Rattle.std.proofs.Common.{◌≡◌, inl, inr, ⊎_elim, ℕ, ◌+◌, ◌-◌, ◌^◌, ◌<◌, ◌≤◌, Bool, true, false, cond, List, [], ◌∷◌, length, map, refl, sym, ap, subst, ◌∙◌, arith}
use Rattle.std.specs.Prelude.{not, ◌==◌, filter, nat_lt, IfErr, IsErrAnd, Result, Ok, Err}
use Rattle.std.specs.List.{list_all}
use Rattle.std.proofs.lemmas.Bool.{true≢false}
use Rattle.bay.specs.Image.{Image, ChangesOnly}
use Rattle.bay.specs.State.{BayState, KeepsAttached}
use Rattle.bay.specs.Counts.{Rose}
use Rattle.bay.specs.Moments.{Runs, NowOnly, LeavesOnly}
use Rattle.bay.proofs.Calls.{leaves_begin, leaves_less, now_only, started, stops}
use Rattle.bay.proofs.Images.{same-refl}
use Rattle.asm_group.specs.Names.{Bytes}
use Rattle.asm_base.specs.declared.block.Block.{Block}
use Rattle.asm_base.specs.Records.{DirectoryRecord}
use Rattle.asm_formats.specs.Among.{IsAmong}
use Rattle.asm_formats.specs.Items.{Key}
use Rattle.asm_formats.specs.Pages.{with_images}
use Rattle.asm_formats.specs.Sets.{has_bit}
use Rattle.asm_formats.proofs.Among.{among_filter, filter_among}
use Rattle.change_directory.specs.declared.copy.DirCopy.{DirCopy}
use Rattle.asm_base.specs.Blocks.{image_of_page}
use Rattle.change_directory.specs.StoreLaws.{SameRegion}
use Rattle.change_directory.proofs.Settled.{logs_stay}
use Rattle.change_directory.proofs.Spares.{region_logs}
use Rattle.change_directory.proofs.Usable.{still_copy, short_sector}
use Rattle.page_map.specs.Tables.{PageTable, IsPageTable, SameTable, Shows, block_of}
use Rattle.page_map.specs.Contents.{AreItems}
use Rattle.page_map.specs.Applying.{Applies, IsCause}
use Rattle.page_map.specs.declared.change.PageError.{PageError}
use Rattle.page_map.specs.declared.change.PageError.TheVariants.{Full as PageFull, NoMemory as PageNoMemory}
use Rattle.directory_store.specs.Answers.{IsFirstRefusal, NoCalls, store_error_of}
use Rattle.directory_store.specs.Commits.{CommitsPages}
use Rattle.directory_store.specs.Contents.{ArePutItems}
use Rattle.directory_store.specs.Copies.{AreCopiesApart, AreKept, AreNamedCopies, Earlier, HasOnlyFailedCopies, HaveEither, IsSlotOfCopy, MayPutOn, RegionsOf, WritesFew, calls_for, due_of}
use Rattle.directory_store.specs.StoreCalls.{CommitsRecords}
use Rattle.directory_store.specs.Stores.{Stored, IsEmpty, Keeps, HaveRecords, HaveEitherRecords, off, others, without_copies}
use Rattle.directory_store.specs.declared.due.Due.{Due}
use Rattle.directory_store.specs.declared.error.StoreError.TheVariants.{NoMemory}
use Rattle.directory_store.proofs.Records.{items_after, pages_decode, is_head, has_records}
use Rattle.directory_store.proofs.CopyLaws.{region_is_same}
use Rattle.directory_store.proofs.Steps.{shaped}

-- ---- the copies that are left

passes : {A : Type 0} (test : A → Bool) (xs : List A) (x : A) → IsAmong (filter test xs) x → test x ≡ true
passes test [] x h = absurd h
passes {A} test (y ∷ xs) x h = go (passes test xs x) (test y) refl h
  where
    go : (IsAmong (filter test xs) x → test x ≡ true) → (b : Bool) → test y ≡ b → IsAmong (cond b (y ∷ filter test xs) (filter test xs)) x → test x ≡ true
    go before true is (inl same) = ap test same ∙ is
    go before true is (inr there) = before there
    go before false is there = before there

not_true : (b : Bool) → not b ≡ true → b ≡ false
not_true true e = absurd (true≢false (sym e))
not_true false e = refl

pub left_is : (failed : ℕ) (copies : List DirCopy) (c : DirCopy) → IsAmong (others failed copies) c → IsAmong copies c × (has_bit failed c.number ≡ false)
left_is failed copies c among = (
  among_filter (λ (c : DirCopy). not (has_bit failed c.number)) copies c among,
  not_true (has_bit failed c.number) (passes (λ (c : DirCopy). not (has_bit failed c.number)) copies c among),
)

pub is_left : (failed : ℕ) (copies : List DirCopy) (c : DirCopy) → IsAmong copies c → has_bit failed c.number ≡ false → IsAmong (others failed copies) c
is_left failed copies c among away = filter_among (λ (c : DirCopy). not (has_bit failed c.number)) copies c (ap not away) among

apart_left : (test : DirCopy → Bool) (copies : List DirCopy) → AreCopiesApart copies → AreCopiesApart (filter test copies)
apart_left test [] apart = tt
apart_left test (c ∷ copies) apart = go (apart_left test copies apart.1) (test c)
  where
    go : AreCopiesApart (filter test copies) → (b : Bool) → AreCopiesApart (cond b (c ∷ filter test copies) (filter test copies))
    go before true = ((λ d among. apart.0 d (among_filter test copies d among)), before)
    go before false = before

-- copies of one number are one
same_copy : (copies : List DirCopy) → AreCopiesApart copies → (c d : DirCopy) → IsAmong copies c → IsAmong copies d → c.number ≡ d.number → c ≡ d
same_copy [] apart c d mine yours e = absurd mine
same_copy (x ∷ copies) apart c d (inl a) (inl b) e = a ∙ sym b
same_copy (x ∷ copies) apart c d (inl a) (inr there) e = absurd ((apart.0 d there).1 (sym (ap (λ (k : DirCopy). k.number) a) ∙ e))
same_copy (x ∷ copies) apart c d (inr there) (inl b) e = absurd ((apart.0 c there).1 (sym (ap (λ (k : DirCopy). k.number) b) ∙ sym e))
same_copy (x ∷ copies) apart c d (inr there) (inr yonder) e = same_copy copies apart.1 c d there yonder e

-- where no copy is left, the slots of all failed
pub all_failed : (copies : List DirCopy) (dues : List Due) (failed : ℕ) (s t : BayState) → AreCopiesApart copies → AreNamedCopies copies dues s → HasOnlyFailedCopies copies failed s t → others failed copies ≡ []
    → (c : DirCopy) → IsAmong copies c → Rose (s.faults c.slot) (t.faults c.slot)
all_failed copies dues failed s t apart named alone none c among = go (has_bit failed c.number) refl
  where
    go : (b : Bool) → has_bit failed c.number ≡ b → Rose (s.faults c.slot) (t.faults c.slot)
    go true is =
        let one = alone c.number (named c among).number is in
        subst (λ (d : DirCopy). Rose (s.faults d.slot) (t.faults d.slot)) (same_copy copies apart one.0 c one.1 among one.2) one.3
    go false is = absurd (subst (λ (l : List DirCopy). IsAmong l c) none (is_left failed copies c among is))

-- ---- nothing changes

pub no_calls : (s : BayState) → NoCalls s s
no_calls s = record { runs = started same-refl; calls = refl }

-- a creation is refused by the table before its first copy
pub creation_refused : (copies : List DirCopy) (pages : ℕ) (put : List DirectoryRecord) (s : BayState) (start : PageTable) (cause : PageError) → IsEmpty start pages → IsCause start put cause
    → IsFirstRefusal copies pages put s s (store_error_of cause)
creation_refused copies pages put s start (PageFull need free) empty is = ((start, empty, is.0, is.1, is.2), no_calls s)
creation_refused copies pages put s start PageNoMemory empty is = no_calls s

pub err_is : {T E : Type 0} (result : Result T E) (P : E → Type 0) (e : E) → IsErrAnd result (λ x. x ≡ e) → P e → IfErr result P
err_is (Ok value) P e is p = tt
err_is (Err x) P e is p = subst P (sym is) p

pub same_shows : (old new : PageTable) (page : ℕ → Bytes) → SameTable old new → Shows old page → Shows new page
same_shows old new page same shows = record {
  taken = λ k p at. shows.taken k p (sym (same.places k) ∙ at) ∙ ap (block_of k) (sym (same.records k));
  free = λ p free. shows.free p (sym (same.free p) ∙ free);
}

pub same_items : (old new : PageTable) → SameTable old new → AreItems old → AreItems new
same_items old new same items = λ k v found. items k v (sym (same.records k) ∙ found)

-- the same store but for equal records keeps
pub unchanged_keeps : (old : Stored) (table : PageTable) (s : BayState) → Keeps old s → SameTable old.table table → IsPageTable table
    → Keeps (record { table = table; number = old.number; copies = old.copies; due = old.due; read = old.read; settled = old.settled }) s
unchanged_keeps old table s keeps same sound = record {
  table = sound;
  items = same_items old.table table same keeps.items;
  named = keeps.named;
  pages = λ c among. keeps.pages c among ∙ sym same.units;
  apart = keeps.apart;
  page = keeps.page;
  shows = same_shows old.table table keeps.page same keeps.shows;
  now = keeps.now;
  logs = keeps.logs;
}

pub kept_have_records : (stored : Stored) (s : BayState) → Keeps stored s → NowOnly s (HaveRecords stored)
kept_have_records stored s keeps = record {
  now = λ x left c among. has_records stored.table stored.number c keeps.page x keeps.table keeps.shows keeps.items (keeps.pages c among) (keeps.now.now x left c among).content.content;
}

pub unchanged_moments : (old new : Stored) (s : BayState) → Keeps old s → LeavesOnly s s (HaveEitherRecords old new)
unchanged_moments old new s keeps = leaves_begin (record { now = λ x left c among. inl ((kept_have_records old s keeps).now x left c among) })

-- a change is refused for want of memory, before any call
pub refused_unchanged : (store : Stored) (put : List DirectoryRecord) (gone : List Key) (s : BayState) → Keeps store s → CommitsRecords store store put gone (Err NoMemory) s s
refused_unchanged store put gone s keeps = record {
  after = tt;
  after_gone = tt;
  copies = tt;
  some = tt;
  full = tt;
  fits = tt;
  refused = record { table = record { records = λ k. refl; places = λ k. refl; free = λ k. refl; units = refl; count = refl }; number = refl; copies = refl; due = refl; calls = no_calls s };
  failed = tt;
  moments = unchanged_moments store store s keeps;
  kept = keeps;
  done = kept_have_records store s keeps;
  attached = record { same = λ k. refl };
  calls = omega arith;
  written = λ copy among. omega arith;
  runs = started (λ x. record { size = λ k. refl; byte = λ k j outside. refl });
}

-- ---- a commit

module _ (old : Stored) (table : PageTable) (put : List DirectoryRecord) (gone : List Key) (pages : List (ℕ × Block)) (s : BayState) (next : ℕ)
    (keeps : Keeps old s) (applies : Applies old.table table put gone pages) (sound : IsPageTable table) (puts : ArePutItems put) (few : length put + length gone ≤ 64)
    (less : old.number < next) (small : next < 2 ^ 64 - 1) where
  pub new_items : AreItems table
  new_items = items_after old.table table put gone puts keeps.items applies.records

  pub new_shows : Shows table (with_images (map image_of_page pages) keeps.page)
  new_shows = applies.shows keeps.page keeps.shows

  pub new_units : (c : DirCopy) → IsAmong old.copies c → c.dir_blocks ≡ table.free.units
  new_units c among = keeps.pages c among ∙ sym applies.units

  pub may_put : MayPutOn old.copies next pages
  may_put c among =
      let is = (keeps.named c among).copy_is in
      record {
        sector = short_sector c.sector is.sector_size;
        least = is.least;
        most = is.most;
        head = is_head c.dir_blocks next pages (omega arith) (omega (arith, applies.few, few)) applies.ascend
            (subst (λ (n : ℕ). list_all (λ (p : ℕ × Block). nat_lt p.0 n) pages ≡ true) (sym (new_units c among)) applies.inside);
        decode = pages_decode table keeps.page pages sound new_items new_shows applies.ascend applies.inside;
      }

  pub earlier : Earlier next (λ before page. NowOnly s (AreKept old.copies old.due before page))
  earlier = record { before = old.number; page = keeps.page; smaller = less; holds = keeps.now }

  module _ (failed : ℕ) (t : BayState) (commits : CommitsPages old.copies old.due next pages failed s t) where
    pub commit_keeps : Keeps (record { table = table; number = next; copies = others failed old.copies; due = []; read = old.read; settled = true }) t
    commit_keeps = record {
      table = sound;
      items = new_items;
      named = λ c among. let is = keeps.named c (left_is failed old.copies c among).0 in record { copy_is = still_copy is.copy_is commits.attached; number = is.number; due = refl };
      pages = λ c among. new_units c (left_is failed old.copies c among).0;
      apart = apart_left (λ (c : DirCopy). not (has_bit failed c.number)) old.copies keeps.apart;
      page = with_images (map image_of_page pages) keeps.page;
      shows = new_shows;
      now = record {
        now = λ x left c among.
            let left_in = left_is failed old.copies c among in
            let settled = (commits.done old.number keeps.page less keeps.now).now x left c left_in.0 left_in.1 in
            record {
              content = settled.content;
              due_are = record { ascend = refl; due = inr (λ p inside. absurd inside); others = λ p lt none. settled.home p lt };
            };
      };
      logs = λ settled c among. let left_in = left_is failed old.copies c among in commits.logs c left_in.0 left_in.1;
    }

    pub commit_moments : (copies : List DirCopy) (due : List Due) → LeavesOnly s t (HaveEitherRecords old (record { table = table; number = next; copies = copies; due = due; read = old.read; settled = true }))
    commit_moments copies due = leaves_less
        {P = HaveEither old.copies old.number next keeps.page (with_images (map image_of_page pages) keeps.page)}
        {Q = HaveEitherRecords old (record { table = table; number = next; copies = copies; due = due; read = old.read; settled = true })}
        (λ x either c among. ⊎_elim
        (λ before. inl (has_records old.table old.number c keeps.page x keeps.table keeps.shows keeps.items (keeps.pages c among) before))
        (λ now. inr (has_records table next c (with_images (map image_of_page pages) keeps.page) x sound new_shows new_items (new_units c among) now))
        (either c among)) (commits.moments old.number keeps.page less keeps.now)

-- ---- the whole call

few_calls : (copies : List DirCopy) (dues : List Due) (a b : ℕ) → a ≤ b → calls_for copies dues a ≤ calls_for copies dues b
few_calls [] dues a b le = omega arith
few_calls (c ∷ copies) dues a b le = omega (arith, few_calls copies dues a b le)

commits_are : (copies copies' : List DirCopy) (dues dues' : List Due) (number : ℕ) (pages pages' : List (ℕ × Block)) (failed : ℕ) (s t : BayState)
    → copies ≡ copies' → dues ≡ dues' → pages ≡ pages' → CommitsPages copies dues number pages failed s t → CommitsPages copies' dues' number pages' failed s t
commits_are copies copies' dues dues' number pages pages' failed s t e d p h =
    subst (λ (l : List DirCopy). CommitsPages l dues' number pages' failed s t) e
    (subst (λ (l : List Due). CommitsPages copies l number pages' failed s t) d
    (subst (λ (l : List (ℕ × Block)). CommitsPages copies dues number l failed s t) p h))

pub may_put_are : (copies copies' : List DirCopy) (number : ℕ) (pages pages' : List (ℕ × Block)) → copies' ≡ copies → pages' ≡ pages → MayPutOn copies number pages → MayPutOn copies' number pages'
may_put_are copies copies' number pages pages' e p h =
    subst (λ (l : List DirCopy). MayPutOn l number pages') (sym e) (subst (λ (l : List (ℕ × Block)). MayPutOn copies number l) (sym p) h)

-- what a commit has done to the store and its copies, some of which may have failed
pub record HasCommitted (old new : Stored) (keys failed : ℕ) (s t : BayState) : Type 0 where
  pub keeps : Keeps new t
  pub moments : LeavesOnly s t (HaveEitherRecords old new)
  pub done : NowOnly t (HaveRecords new)
  pub calls : t.calls ≤ s.calls + calls_for old.copies old.due keys
  pub written : WritesFew old.copies old.due keys s t
  pub attached : KeepsAttached s t
  pub runs : Runs (IsSlotOfCopy old.copies) (ChangesOnly (RegionsOf old.copies)) s t
  pub alone : HasOnlyFailedCopies old.copies failed s t
  pub gone : others failed old.copies ≡ [] → (c : DirCopy) → IsAmong old.copies c → Rose (s.faults c.slot) (t.faults c.slot)

has_committed : (old was : Stored) (table : PageTable) (put : List DirectoryRecord) (gone : List Key) (pages : List (ℕ × Block)) (s t : BayState) (next failed : ℕ) (copies : List DirCopy)
    → was ≡ old → Keeps old s → Applies was.table table put gone pages → IsPageTable table → ArePutItems put → length put + length gone ≤ 64 → was.number < next → next < 2 ^ 64 - 1
    → CommitsPages was.copies was.due next pages failed s t → copies ≡ others failed was.copies
    → HasCommitted old (record { table = table; number = next; copies = copies; due = []; read = was.read; settled = true }) (length put + length gone) failed s t
has_committed old was table put gone pages s t next failed copies is keeps applies sound puts few less small commits left =
    let keeps_was = subst (λ (o : Stored). Keeps o s) (sym is) keeps in
    let kept = subst (λ (l : List DirCopy). Keeps (record { table = table; number = next; copies = l; due = []; read = was.read; settled = true }) t) (sym left)
    (commit_keeps was table put gone pages s next keeps_was applies sound puts few less small failed t commits) in
    subst (λ (o : Stored). HasCommitted o (record { table = table; number = next; copies = copies; due = []; read = was.read; settled = true }) (length put + length gone) failed s t) is
    (record {
      keeps = kept;
      moments = commit_moments was table put gone pages s next keeps_was applies sound puts few less small failed t commits copies [];
      done = kept_have_records (record { table = table; number = next; copies = copies; due = []; read = was.read; settled = true }) t kept;
      calls = omega (arith, commits.calls, few_calls was.copies was.due (length pages) (length put + length gone) applies.few);
      written = λ c among. omega (arith, commits.written c among, applies.few);
      attached = commits.attached;
      runs = commits.runs;
      alone = commits.failed_alone;
      gone = λ none. all_failed was.copies was.due failed s t keeps_was.apart keeps_was.named commits.failed_alone none;
    })

-- the same of what the call was given, and of the due pages that are left
pub whole_commit : {old was : Stored} {table : PageTable} {put : List DirectoryRecord} {gone : List Key} {pages given : List (ℕ × Block)} {s t : BayState} {failed : ℕ} {copies left : List DirCopy} {dues due : List Due}
    → was ≡ old → Keeps old s → Applies was.table table put gone pages → IsPageTable table → ArePutItems put → length put + length gone ≤ 64 → was.number + 1 < 2 ^ 64 - 1
    → copies ≡ was.copies → dues ≡ was.due → given ≡ pages → CommitsPages copies dues (was.number + 1) given failed s t → left ≡ others failed was.copies → due ≡ []
    → HasCommitted old (record { table = table; number = was.number + 1; copies = left; due = due; read = was.read; settled = true }) (length put + length gone) failed s t
whole_commit {old} {was} {table} {put} {gone} {pages} {given} {s} {t} {failed} {copies} {left} {dues} is keeps applies sound puts few small same_copies same_dues same_pages commits left_is none =
    subst (λ (l : List Due). HasCommitted old (record { table = table; number = was.number + 1; copies = left; due = l; read = was.read; settled = true }) (length put + length gone) failed s t) (sym none)
    (has_committed old was table put gone pages s t (was.number + 1) failed left is keeps applies sound puts few (omega arith) small
    (commits_are copies was.copies dues was.due (was.number + 1) given pages failed s t same_copies same_dues same_pages commits) left_is)

pub may_put_on : (old was : Stored) (table : PageTable) (put : List DirectoryRecord) (gone : List Key) (pages : List (ℕ × Block)) (s : BayState) (next : ℕ)
    → was ≡ old → Keeps old s → Applies was.table table put gone pages → IsPageTable table → ArePutItems put → length put + length gone ≤ 64 → was.number < next → next < 2 ^ 64 - 1 → MayPutOn was.copies next pages
may_put_on old was table put gone pages s next is keeps applies sound puts few less small =
    may_put was table put gone pages s next (subst (λ (o : Stored). Keeps o s) (sym is) keeps) applies sound puts few less small

-- ---- between the calls

pub forgotten_keeps : (store : Stored) (slot : ℕ) (s : BayState) → Keeps store s → Keeps (without_copies slot store) s
forgotten_keeps store slot s keeps = record {
  table = keeps.table;
  items = keeps.items;
  named = λ c among. keeps.named c (was c among);
  pages = λ c among. keeps.pages c (was c among);
  apart = apart_left (λ (c : DirCopy). not (c.slot == slot)) store.copies keeps.apart;
  page = keeps.page;
  shows = keeps.shows;
  now = record { now = λ x left c among. keeps.now.now x left c (was c among) };
  logs = λ settled c among. keeps.logs settled c (was c among);
}
  where
    was : (c : DirCopy) → IsAmong (off slot store.copies) c → IsAmong store.copies c
    was c among = among_filter (λ (c : DirCopy). not (c.slot == slot)) store.copies c among

pub keeps_elsewhere : {slots : ℕ → Type 0} {step : Image → Image → Type 0} {s t : BayState} (store : Stored) → ((x y : Image) (c : DirCopy) → IsAmong store.copies c → step x y → SameRegion c x y)
    → KeepsAttached s t → Runs slots step s t → Keeps store s → Keeps store t
keeps_elsewhere {slots} {step} {s} {t} store same attached run keeps = record {
  table = keeps.table;
  items = keeps.items;
  named = λ c among. let is = keeps.named c among in record { copy_is = still_copy is.copy_is attached; number = is.number; due = is.due };
  pages = keeps.pages;
  apart = keeps.apart;
  page = keeps.page;
  shows = keeps.shows;
  now = now_only {P = AreKept store.copies store.due store.number keeps.page} {Q = AreKept store.copies store.due store.number keeps.page}
      (λ x y kept here c among.
      let is = kept c among in
      let copy = region_is_same c x y (shaped (keeps.named c among).copy_is) is.content.pages.sized (same x y c among here) in
      record { content = copy.has_content store.number keeps.page is.content; due_are = copy.has_due (due_of store.due c.slot) is.due_are }) (stops run) keeps.now;
  logs = λ settled c among. logs_stay c (λ x y here. region_logs c x y (keeps.named c among).copy_is.least (same x y c among here)) run (keeps.logs settled c among);
}
