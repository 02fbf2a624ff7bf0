use Rattle.std.proofs.Common.{◌≡◌, ◌<◌, ◌+◌, ◌*◌, ℕ, take, refl, subst, rules, arith}
use Rattle.std.specs.Prelude.{◌/◌, Ok, min}
use Rattle.bay.specs.Calls.{cost}
use Rattle.bay.specs.Moments.{Holds}
use Rattle.bay.proofs.OneCall.{cheaper, no_call}
use Rattle.change_directory.specs.Formatting.{Zeroes}
use Rattle.change_directory.proofs.Works.{write_call}
use Rattle.change_directory.proofs.Zeroing.{next_piece, zeroes_none}
use Rattle.change_directory.proofs.erase.zero_with.Goals as goal

pub loop-piece-init : goal.loop-piece-init
loop-piece-init g c =
    let none : min (0 * 262144) (c.args.copy.dir_blocks * 4096) ≡ 0 = omega arith in
    record {
      calls = no_call (λ x. record { size = λ s. refl; byte = λ s k outside. refl });
      done = record { held = λ image holds. (image, holds, rw none (zeroes_none c.args.copy image)) };
      cause = tt;
    }

pub loop-piece-preserved : goal.loop-piece-preserved
loop-piece-preserved g c =
    let begins : c.loop-piece.piece * 262144 < c.args.copy.dir_blocks * 4096 = omega (arith, c.div_ceil-pieces.ensures, c.loop-piece-test.true) in
    let write = write_call {E = Unit {0}} (Ok (tt {0})) c.args.copy.slot (40960 + c.loop-piece.piece * 262144) (take c.min-count.result c.args.zeros.now)
    c.write.ensures.attached (omega (arith, c.write.ensures.count)) (omega (arith, c.write.ensures.written)) c.write.ensures.runs c.in_ok-write.ensures.done tt in
    next_piece c.args.copy c.loop-piece.piece c.min-count.result c.args.zeros.now c.requires.piece c.requires.zeros c.min-count.ensures begins c.loop-piece.invariant write

pub returns-in_err-write : goal.returns-in_err-write
returns-in_err-write g c =
    let begins : c.loop-piece.piece * 262144 < c.args.copy.dir_blocks * 4096 = omega (arith, c.div_ceil-pieces.ensures, c.loop-piece-test.true) in
    let write = write_call c.write.result c.args.copy.slot (40960 + c.loop-piece.piece * 262144) (take c.min-count.result c.args.zeros.now)
    c.write.ensures.attached (omega (arith, c.write.ensures.count)) (omega (arith, c.write.ensures.written)) c.write.ensures.runs c.write.ensures.done c.write.ensures.cause in
    let calls = cheaper {most = cost ((c.args.copy.dir_blocks * 4096) / 262144 + 1) (c.args.copy.dir_blocks * 4096)} (record { calls = omega (arith, begins); bytes = λ s. omega arith })
    (next_piece c.args.copy c.loop-piece.piece c.min-count.result c.args.zeros.now c.requires.piece c.requires.zeros c.min-count.ensures begins c.loop-piece.invariant write).calls in search rules

pub returns : goal.returns
returns g c =
    let all : min (c.loop-piece.piece * 262144) (c.args.copy.dir_blocks * 4096) ≡ c.args.copy.dir_blocks * 4096 = omega (arith, c.div_ceil-pieces.ensures, c.loop-piece-test.false) in
    record {
      calls = cheaper (search rules) c.loop-piece.invariant.calls;
      done = subst (λ (n : ℕ). Holds (Zeroes c.args.copy n) (g.B.Bay.state c.args.bay.now) (g.B.Bay.state c.loop-piece.bay)) all c.loop-piece.invariant.done;
      cause = tt;
    }
