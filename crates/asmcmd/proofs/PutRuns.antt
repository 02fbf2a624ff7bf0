-- Bytes that come piece by piece.
use Rattle.std.proofs.Common.{Some, None, ◌≡◌, ℕ, zero, suc, ◌+◌, ◌-◌, ◌<◌, ◌≤◌, List, [], ◌∷◌, ◌++◌, length, replicate, refl, sym, ap, ◌∙◌, arith, append_assoc, append-nil}
use Rattle.std.proofs.lemmas.Bool.{ne_eqb}
use Rattle.std.proofs.lemmas.List.{replicate-append-replicate}
use Rattle.asm_group.specs.Names.{Bytes}
use Rattle.asm_world.specs.Text.{read_lines}
use Rattle.asmcmd.specs.Runs.{HoldsRun, RunsView, equal_front, first_run, lines_with, run_line}
use Rattle.asmcmd.proofs.EqualBytes.{first_is, no_run, run_ends}

-- nothing is in a run that begins where it ends
none_in : (at b : ℕ) (more : Bytes) → replicate (at - at) b ++ more ≡ more
none_in at b more = let none : at - at ≡ 0 = omega arith in rw none refl

pub none_yet : (at b : ℕ) → HoldsRun (record { lines = []; at = at; end = at; byte = b }) at []
none_yet at b = λ more. ap (read_lines at) (none_in at b more)

-- the last run ends: another byte comes next
pub ended : (old new : RunsView) → old.at < old.end → new ≡ record { lines = old.lines ++ run_line old.at old.byte (old.end - old.at) ∷ []; at = old.end; end = old.end; byte = old.byte }
    → (more : Bytes) → equal_front old.byte more ≡ 0 → lines_with new more ≡ lines_with old more
ended old new some is more none = rw is (
    ap (λ (bytes : Bytes). (old.lines ++ run_line old.at old.byte (old.end - old.at) ∷ []) ++ read_lines old.end bytes) (none_in old.end old.byte more)
    ∙ append_assoc old.lines (run_line old.at old.byte (old.end - old.at) ∷ []) (read_lines old.end more)
    ∙ ap (λ (lines : List Bytes). old.lines ++ lines) (sym (ends ∙ ap (λ (n : ℕ). run_line old.at old.byte (old.end - old.at) ∷ read_lines n more) behind))) where
      ends : read_lines old.at (replicate (old.end - old.at) old.byte ++ more) ≡ run_line old.at old.byte (old.end - old.at) ∷ read_lines (old.at + (old.end - old.at)) more
      ends = run_ends old.at (old.end - old.at) old.byte more (omega (arith, some)) none

      behind : old.at + (old.end - old.at) ≡ old.end
      behind = omega (arith, some)

-- the last run goes on
pub goes_on : (old new : RunsView) (len : ℕ) → old.at ≤ old.end → new ≡ record old { end = old.end + len } → (more : Bytes) → lines_with new more ≡ lines_with old (replicate len old.byte ++ more)
goes_on old new len order is more = rw is (ap (λ (bytes : Bytes). old.lines ++ read_lines old.at bytes) (sym
    (sym (append_assoc (replicate (old.end - old.at) old.byte) (replicate len old.byte) more)
    ∙ ap (λ (bytes : Bytes). bytes ++ more) (replicate-append-replicate (old.end - old.at) len old.byte ∙ ap (λ (n : ℕ). replicate n old.byte) size)))) where
      size : (old.end - old.at) + len ≡ (old.end + len) - old.at
      size = omega (arith, order)

other_front : (b c : ℕ) (len : ℕ) (more : Bytes) → 0 < len → (b ≡ c → ⊥) → equal_front b (replicate len c ++ more) ≡ 0
other_front b c zero more some other = absurd (omega (arith, some))
other_front b c (suc n) more some other = rw (ne_eqb b c other) refl

-- another run begins behind the last one, which has ended
pub begins : (old mid new : RunsView) (len byte : ℕ) → 0 < len → (byte ≡ old.byte → ⊥) → ((more : Bytes) → equal_front old.byte more ≡ 0 → lines_with mid more ≡ lines_with old more) → mid.at ≡ mid.end
    → new ≡ record mid { end = mid.end + len; byte = byte } → (more : Bytes) → lines_with new more ≡ lines_with old (replicate len byte ++ more)
begins old mid new len byte some other same still is more =
    rw is (ap (λ (bytes : Bytes). mid.lines ++ read_lines mid.at bytes) now ∙ same (replicate len byte ++ more) (other_front old.byte byte len more some (λ e. other (sym e)))) where
      size : (mid.end + len) - mid.at ≡ len
      size = omega (arith, still)

      none : mid.end - mid.at ≡ 0
      none = omega (arith, still)

      now : replicate ((mid.end + len) - mid.at) byte ++ more ≡ replicate (mid.end - mid.at) mid.byte ++ (replicate len byte ++ more)
      now = rw (size, none) refl

-- a run of the bytes that are put
pub puts_run : (old mid new : RunsView) (bytes rest behind : Bytes) (b n : ℕ) → first_run rest ≡ Some (b, n, behind) → ((more : Bytes) → lines_with mid (rest ++ more) ≡ lines_with old (bytes ++ more))
    → ((more : Bytes) → lines_with new more ≡ lines_with mid (replicate n b ++ more)) → (more : Bytes) → lines_with new (behind ++ more) ≡ lines_with old (bytes ++ more)
puts_run old mid new bytes rest behind b n first so_far put more =
    put (behind ++ more) ∙ ap (lines_with mid) (sym (append_assoc (replicate n b) behind more) ∙ ap (λ (xs : Bytes). xs ++ more) (sym (first_is rest b n behind first).0)) ∙ so_far more

-- all were put
pub holds_more : (old new : RunsView) (bytes rest : Bytes) → first_run rest ≡ None → ((more : Bytes) → lines_with new (rest ++ more) ≡ lines_with old (bytes ++ more))
    → (at : ℕ) (before : Bytes) → HoldsRun old at before → HoldsRun new at (before ++ bytes)
holds_more old new bytes rest none all at before holds = λ more.
    ap (λ (xs : Bytes). lines_with new (xs ++ more)) (sym (no_run rest none)) ∙ all more ∙ holds (bytes ++ more) ∙ ap (read_lines at) (sym (append_assoc before bytes more))

-- the lines are those of all bytes
pub all_lines : (old new : RunsView) → ((more : Bytes) → equal_front old.byte more ≡ 0 → lines_with new more ≡ lines_with old more) → new.at ≡ new.end
    → (at : ℕ) (bytes : Bytes) → HoldsRun old at bytes → new.lines ≡ read_lines at bytes
all_lines old new same still at bytes holds =
    sym (append-nil new.lines) ∙ ap (λ (xs : Bytes). new.lines ++ read_lines new.at (xs ++ [])) (sym none) ∙ same [] refl ∙ holds [] ∙ ap (read_lines at) (append-nil bytes) where
      none : replicate (new.end - new.at) new.byte ≡ []
      none = let zero_of : new.end - new.at ≡ 0 = omega (arith, still) in rw zero_of refl
