-- Pages that are read piece by piece.
use Rattle.std.proofs.Common.{◌≡◌, ℕ, ◌+◌, ◌-◌, ◌*◌, ◌<◌, ◌≤◌, List, length, Some, refl, sym, ap, subst, ◌∙◌, arith}
use Rattle.std.specs.Prelude.{Result, Ok, Err, OnOk, IfErr, IfSome, IsErrOf, min}
use Rattle.std.specs.Option.{ForSome}
use Rattle.bay.specs.Image.{Same, window}
use Rattle.bay.specs.State.{BayState}
use Rattle.bay.specs.Moments.{Runs}
use Rattle.asm_group.specs.Names.{Bytes}
use Rattle.change_directory.specs.declared.copy.DirCopy.{DirCopy}
use Rattle.change_directory.specs.declared.loading.Pages.{Pages}
use Rattle.change_directory.specs.declared.loading.LoadFault.{LoadFault}
use Rattle.change_directory.specs.declared.loading.LoadFault.TheVariants.{Fault}
use Rattle.change_directory.specs.declared.open_log.OpenLogs.{OpenLogs}
use Rattle.bay.specs.Told.{Told}
use Rattle.change_directory.specs.Loads.{damaged_block}
use Rattle.change_directory.specs.Slots.{AreTaken, GoesUpTo, all_slots, blocks_of, damaged_page, home_blocks}
use Rattle.change_directory.specs.Works.{OnlyReads}
use Rattle.change_directory.specs.LoadCalls.{Damages, IsPieceDamage, LoadCall, TakesPiece, piece_of_pages}
use Rattle.change_directory.proofs.LoadAnswers.{damage_of_err}
use Rattle.change_directory.proofs.LoadSteps.{damage_step, read_blocks, start_told, taken_step}
use Rattle.change_directory.proofs.Orders.{goes_as, goes_up_more}
use Rattle.change_directory.proofs.Works.{not_err}

-- so many pages of a copy of d behind i pieces
pub record PieceAt (i d count : ℕ) : Type 0 where
  pub so_far : min (i * 64) d ≡ i * 64
  pub more : i * 64 + count ≡ min ((i + 1) * 64) d
  pub inside : i * 64 + count ≤ d

pub piece_at : (i d count : ℕ) → i * 64 < d → count ≡ min 64 (d - i * 64) → PieceAt i d count
piece_at i d count begins is = record { so_far = omega arith; more = omega arith; inside = omega arith }

-- nothing is read yet
pub takes_none : (copy : DirCopy) (logs : OpenLogs) (n : ℕ) (s : BayState) (a : Pages) → n ≡ 0 → TakesPiece (piece_of_pages copy logs 0 n) a a s s
takes_none copy logs n s a none = record { taken = start_told copy (all_slots logs) s s n a none; up_to = goes_as (all_slots logs) a (0 + n) (omega arith) }

module _ (copy : DirCopy) (logs : OpenLogs) (i count : ℕ) (at : PieceAt i copy.dir_blocks count) {s m t : BayState} {early late : ℕ → Type 0} (run : Runs early Same s m) (next : Runs late Same m t) {a b : Pages}
    (before : TakesPiece (piece_of_pages copy logs 0 (min (i * 64) copy.dir_blocks)) a b s m) where
  front : Told s m (λ image. AreTaken (all_slots logs) 0 (home_blocks copy 0 (i * 64) image) a b)
  front = subst (λ (n : ℕ). Told s m (λ image. AreTaken (all_slots logs) 0 (home_blocks copy 0 n image) a b)) at.so_far before.taken

  -- the next piece was taken up
  pub takes_more : {c : Pages} → TakesPiece (piece_of_pages copy logs (i * 64) count) b c m t → TakesPiece (piece_of_pages copy logs 0 (min ((i + 1) * 64) copy.dir_blocks)) a c s t
  takes_more {c} piece = record {
    taken = taken_step copy (all_slots logs) s m t (i * 64) count (min ((i + 1) * 64) copy.dir_blocks) a b c at.more run next front piece.taken;
    up_to = goes_up_more (all_slots logs) (0 + min (i * 64) copy.dir_blocks) (i * 64) (0 + min ((i + 1) * 64) copy.dir_blocks) count a b c (omega (arith, at.so_far)) (omega (arith, at.more)) before.up_to piece.up_to;
  }

  -- a block of it is damaged
  pub damages_more : (e : LoadFault) → Damages (IsPieceDamage (piece_of_pages copy logs (i * 64) count)) e m t → Damages (IsPieceDamage (piece_of_pages copy logs 0 copy.dir_blocks)) e s t
  damages_more e = damage_of_err e (λ (block : ℕ). Told m t (IsPieceDamage (piece_of_pages copy logs (i * 64) count) block)) (λ (block : ℕ). Told s t (IsPieceDamage (piece_of_pages copy logs 0 copy.dir_blocks) block))
      (λ block damage. damage_step copy (all_slots logs) s m t (i * 64) count block a b at.inside run next front damage)

-- a piece was read, and its pages are taken up
pub piece_read : {result : Result (Unit {0}) LoadFault} (copy : DirCopy) (logs : OpenLogs) (first count : ℕ) (bytes : Bytes) (len : ℕ) → length bytes ≡ count * 4096 → len ≡ count * 4096 → {s t : BayState}
    → ForSome s.holds (λ image. bytes ≡ window (image.byte copy.slot) ((10 + first) * 4096) len) → OnlyReads copy.slot 1 s t → {a b : Pages}
    → OnOk result (AreTaken (all_slots logs) first (blocks_of count bytes) a b) → OnOk result (GoesUpTo (all_slots logs) first (first + count) a b)
    → IfErr result (λ e. IfSome (damaged_block e) (λ block. damaged_page (all_slots logs) first (blocks_of count bytes) ≡ Some block)) → (IsErrOf result Fault → ⊥)
    → LoadCall result copy.slot (λ done. TakesPiece (piece_of_pages copy logs first count) a b) (Damages (IsPieceDamage (piece_of_pages copy logs first count))) 1 s t
piece_read {result = Ok done} copy logs first count bytes len long len_is {s} {t} read reads {a} {b} taken up_to damage no_fault = record {
  reads = reads;
  done = record {
    taken = λ now holds image was. subst (λ (l : List Bytes). AreTaken (all_slots logs) first l a b) (read_blocks s t copy.slot (10 + first) _ count bytes refl long len len_is read now holds image was) taken;
    up_to = up_to;
  };
  refusal = tt;
  cause = not_err;
}
piece_read {result = Err e} copy logs first count bytes len long len_is {s} {t} read reads {a} {b} taken up_to damage no_fault = record {
  reads = reads;
  done = tt;
  refusal = damage_of_err e (λ (block : ℕ). damaged_page (all_slots logs) first (blocks_of count bytes) ≡ Some block) (λ (block : ℕ). Told s t (IsPieceDamage (piece_of_pages copy logs first count) block))
      (λ block damage now holds image was. ap (damaged_page (all_slots logs) first) (sym (read_blocks s t copy.slot (10 + first) _ count bytes refl long len len_is read now holds image was)) ∙ damage) damage;
  cause = λ is. absurd (no_fault is);
}
