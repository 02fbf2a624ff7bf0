use Rattle.std.proofs.Common.{◌≡◌, ◌*◌, ◌<◌, ℕ, subst, rules, arith}
use Rattle.std.specs.Prelude.{IfErr, min}
use Rattle.std.proofs.lemmas.Result.{err_from_is_err_and}
use Rattle.change_directory.specs.LoadCalls.{Damages, IsPieceDamage, TakesPiece, piece_of_pages}
use Rattle.change_directory.proofs.LoadPieces.{damages_more, piece_at, takes_more, takes_none}
use Rattle.change_directory.proofs.Works.{no_reads, not_err, reads_fit, reads_on}
use Rattle.change_directory.proofs.loading.read_pages.Goals as goal

pub loop-piece-init : goal.loop-piece-init
loop-piece-init g c = record { reads = no_reads; takes = takes_none c.args.copy c.args.logs.now _ _ _ (omega arith) }

pub loop-piece-preserved : goal.loop-piece-preserved
loop-piece-preserved g c =
    let begins : c.loop-piece.piece * 64 < c.args.copy.dir_blocks = omega (arith, c.div_ceil-pieces.ensures, c.loop-piece-test.true) in
    record {
      reads = reads_on c.loop-piece.invariant.reads c.read_piece.ensures.reads;
      takes = takes_more c.args.copy c.args.logs.now c.loop-piece.piece _ (piece_at _ _ _ begins c.min-count.ensures) c.loop-piece.invariant.reads.calls.runs c.read_piece.ensures.reads.calls.runs c.loop-piece.invariant.takes
          c.in_ok-read_piece.ensures.done;
    }

pub returns : goal.returns
returns g c =
    let all : min (c.loop-piece.piece * 64) c.args.copy.dir_blocks ≡ c.args.copy.dir_blocks = omega (arith, c.div_ceil-pieces.ensures, c.loop-piece-test.false) in
    record {
      reads = reads_fit {m = c.loop-piece.piece} (search rules) c.loop-piece.invariant.reads;
      done = subst (λ (n : ℕ). TakesPiece (piece_of_pages c.args.copy c.args.logs.now 0 n) c.args.pages.now c.loop-piece.pages (g.B.Bay.state c.args.bay.now) (g.B.Bay.state c.loop-piece.bay)) all c.loop-piece.invariant.takes;
      refusal = tt;
      cause = not_err;
    }

pub returns-in_err-read_piece : goal.returns-in_err-read_piece
returns-in_err-read_piece g c =
    let begins : c.loop-piece.piece * 64 < c.args.copy.dir_blocks = omega (arith, c.div_ceil-pieces.ensures, c.loop-piece-test.true) in
    let reads = reads_on c.loop-piece.invariant.reads c.read_piece.ensures.reads in
    let e = err_from_is_err_and c.from_residual.result c.from_residual.ensures.1 in
    let refusal : IfErr c.from_residual.result (λ e. Damages (IsPieceDamage (piece_of_pages c.args.copy c.args.logs.now 0 c.args.copy.dir_blocks)) e (g.B.Bay.state c.args.bay.now) (g.B.Bay.state c.read_piece.new.bay)) =
    rw (e.1, e.2)
    (damages_more c.args.copy c.args.logs.now c.loop-piece.piece _ (piece_at _ _ _ begins c.min-count.ensures) c.loop-piece.invariant.reads.calls.runs c.read_piece.ensures.reads.calls.runs c.loop-piece.invariant.takes
    c.in_err-read_piece.field-0.0 c.in_err-read_piece.ensures.refusal) in search rules
