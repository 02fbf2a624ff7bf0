-- The bytes of a span that were read so far.
use Rattle.std.proofs.Common.{◌≡◌, ◌+◌, ◌-◌, ◌≤◌, ℕ, List, [], ◌∷◌, ◌++◌, length, take, drop, refl, sym, ap, subst, ◌∙◌, arith, append_assoc}
use Rattle.std.specs.Prelude.{⊤}
use Rattle.std.proofs.Math.Seq.{take-add}
use Rattle.std.proofs.lemmas.List.{append-nil, drop-drop, length-append}
use Rattle.bay.specs.Image.{Same}
use Rattle.bay.specs.Moments.{Runs}
use Rattle.bay.specs.State.{BayState, IsSound}
use Rattle.bay.proofs.Calls.{attached-trans, goes_on, on_more, started, stops}
use Rattle.bay.proofs.Images.{same-refl, same-trans}
use Rattle.asm_group.specs.Group.{Cell, Free, Group, Known}
use Rattle.asm_group.specs.Names.{Bytes, Path}
use Rattle.asm_world.specs.Files.{Agrees}
use Rattle.asm_world.specs.Text.{read_lines}
use Rattle.asmcmd.specs.Runs.{HoldsRun, RunsView}
use Rattle.session.specs.group_engine.Mounts.{IsOwn, MountedGroup}
use Rattle.session.specs.group_engine.Own.{KeepsGroup}
use Rattle.session.proofs.group_pieces.Keeping.{still_mounted}
use Rattle.session.specs.group_contents.Reading.{ShowsFile}
use Rattle.session.specs.group_contents.declared.opening.OpenFile.{OpenFile}
use Rattle.session.specs.Listing.{IsInGroup}
use Rattle.session.specs.Sessions.{SessionView}
use Rattle.file_commands.specs.Reading.{HasRead, OpensSpan, PutsRead, ReadsLines, ReadsOnly, ShowsBytes}

-- ---- nothing is written

pub no_call : (s : BayState) → ReadsOnly s s
no_call s = record { attached = record { same = λ slot. refl }; runs = started same-refl }

pub group_read : (m : MountedGroup) (s t : BayState) → KeepsGroup m m s t → Runs (IsOwn m) Same s t → ReadsOnly s t
group_read m s t keeps runs = record { attached = keeps.attached; runs = on_more (λ slot own. tt) runs }

pub reads_on : (s t u : BayState) → ReadsOnly s t → ReadsOnly t u → ReadsOnly s u
reads_on s t u first second = record {
  attached = attached-trans first.attached second.attached;
  runs = goes_on same-trans first.runs (stops first.runs) second.runs;
}

-- ---- bytes of a file

agree_both : (xs ys : List Cell) (a b : Bytes) → Agrees xs a → Agrees ys b → Agrees (xs ++ ys) (a ++ b)
agree_both [] ys [] b first second = second
agree_both [] ys (x ∷ a) b first second = absurd first
agree_both (cell ∷ xs) ys [] b first second = absurd first
agree_both (Known k ∷ xs) ys (x ∷ a) b first second = (first.0, agree_both xs ys a b first.1 second)
agree_both (Free ∷ xs) ys (x ∷ a) b first second = agree_both xs ys a b first second

shows_both : (g : Group) (file : OpenFile) (at : ℕ) (a b : Bytes) → ShowsFile g file at a → ShowsFile g file (at + length a) b → ShowsFile g file at (a ++ b)
shows_both g file at a b first second = λ f is stripe le.
    let long : length (a ++ b) ≡ length a + length b = length-append a b in
    let both = agree_both (take (length a) (drop at f.cells)) (take (length b) (drop (at + length a) f.cells)) a b (first f is stripe (omega (arith, le, long))) (second f is stripe (omega (arith, le, long))) in
    let rest : drop (length a) (drop at f.cells) ≡ drop (at + length a) f.cells = drop-drop (length a) at f.cells in
    let parts : take (length (a ++ b)) (drop at f.cells) ≡ take (length a) (drop at f.cells) ++ take (length b) (drop (at + length a) f.cells) =
    ap (λ (n : ℕ). take n (drop at f.cells)) long ∙ take-add (length a) (length b) (drop at f.cells) ∙ ap (λ (l : List Cell). take (length a) (drop at f.cells) ++ take (length b) l) rest in
    subst (λ (l : List Cell). Agrees l (a ++ b)) (sym parts) both

module _ (session : SessionView) (name : Bytes) (file : OpenFile) where
  -- what was read before and what was read then, where nothing was written
  shows_on : (at k : ℕ) (s t u : BayState) (a b : Bytes) → IsSound s → ReadsOnly s t → ReadsOnly t u → k ≡ at + length a → ShowsBytes session name file at s t a → ShowsBytes session name file k t u b
      → ShowsBytes session name file at s u (a ++ b)
  shows_on at k s t u a b sound before after place first second = λ m is n g kept mounts image holds.
      let was = after.runs.held image holds in
      let stays = still_mounted n m s t g kept (λ (slot : ℕ). ⊤) sound before.attached before.runs mounts in
      shows_both g file at a b (first m is n g kept mounts was.0 was.1) (subst (λ (o : ℕ). ShowsFile g file o b) place (second m is n g kept stays image holds))

  -- ---- the runs of the bytes

  pub takes_more : (at n : ℕ) (s t : BayState) (bytes : Bytes) (old new : RunsView) → length bytes ≡ n → ((from : ℕ) (before : Bytes) → HoldsRun old from before → HoldsRun new from (before ++ bytes))
      → ShowsBytes session name file at s t bytes → PutsRead session name file at n s t old new
  takes_more at n s t bytes old new many more shows = record { bytes = bytes; many = many; holds = more; shows = shows }

  pub none_read : (at len : ℕ) (s : BayState) (runs : RunsView) → PutsRead session name file at (len - len) s s runs runs
  none_read at len s runs = record {
    bytes = [];
    many = omega arith;
    holds = λ from before holds. subst (λ (bytes : Bytes). HoldsRun runs from bytes) (sym (append-nil before)) holds;
    shows = λ m is n g kept mounts image holds f there stripe le. tt;
  }

  pub reads_more : (at len left n k from : ℕ) (s t u : BayState) (old mid new : RunsView) → IsSound s → ReadsOnly s t → ReadsOnly t u → k ≡ n → n ≤ left → left ≤ len → from ≡ at + (len - left)
      → PutsRead session name file at (len - left) s t old mid → PutsRead session name file from k t u mid new → PutsRead session name file at (len - (left - n)) s u old new
  reads_more at len left n k from s t u old mid new sound before after same some few place read more = record {
    bytes = read.bytes ++ more.bytes;
    many = length-append read.bytes more.bytes ∙ omega (arith, read.many, more.many, same, some, few);
    holds = λ start put holds. subst (λ (bytes : Bytes). HoldsRun new start bytes) (append_assoc put read.bytes more.bytes) (more.holds start (put ++ read.bytes) (read.holds start put holds));
    shows = shows_on at from s t u read.bytes more.bytes sound before after (omega (arith, place, read.many)) read.shows more.shows;
  }

  pub all_read : (at len left : ℕ) (s t : BayState) (old new : RunsView) → left ≡ 0 → PutsRead session name file at (len - left) s t old new → PutsRead session name file at len s t old new
  all_read at len left s t old new none read = record { bytes = read.bytes; many = read.many ∙ omega (arith, none); holds = read.holds; shows = read.shows }

  pub have_read : (at len : ℕ) (s t : BayState) (old new : RunsView) → HoldsRun old at [] → PutsRead session name file at len s t old new → HasRead session name file at len s t new
  have_read at len s t old new holds read = record { bytes = read.bytes; many = read.many; holds = read.holds at [] holds; shows = read.shows }

  pub lines_read : (path : Path) (at len : ℕ) (s t : BayState) (runs : RunsView) (lines : List Bytes) → IsInGroup session name (λ m. OpensSpan m path at len file) → HasRead session name file at len s t runs
      → ((from : ℕ) (bytes : Bytes) → HoldsRun runs from bytes → lines ≡ read_lines from bytes) → ReadsLines session name path at len s t lines
  lines_read path at len s t runs lines found read all = record {
    file = file;
    found = found;
    bytes = read.bytes;
    many = read.many;
    shows = read.shows;
    prints = all at read.bytes read.holds;
  }
