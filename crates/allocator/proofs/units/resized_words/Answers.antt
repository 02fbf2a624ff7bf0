use Rattle.std.proofs.Common.{ℕ, ◌≡◌, ◌+◌, ◌/◌, ◌*◌, ◌-◌, length, min, false, true, arith, subst}
use Rattle.allocator.specs.Words.{SetsRun}
use Rattle.allocator.proofs.Resized.{resized_is}
use Rattle.allocator.proofs.units.resized_words.Goals as goal

pub returns : goal.returns
returns c =
    let count : ℕ = c.args.units / 64 + 1 in
    let at : c.min-kept.result ≡ min c.args.before c.args.units = omega (arith, c.min-kept.ensures) in
    let end : c.min-end.result ≡ min c.args.units (64 * length c.args.old.now) = omega (arith, c.min-end.ensures) in
    let low : c.min.result ≡ min c.args.first c.args.units = omega (arith, c.min.ensures) in
    resized_is c.args.first c.args.before c.args.units count c.args.old.now c.in_ok-words.words.items c.set_words.new.words.items c.set_words-2.new.words.items c.set_words-3.new.words.items (omega arith) (omega (arith, c.requires.units)) c.requires.room
    c.in_ok-words.ensures
    (rw (← at, ← end) c.set_words.ensures)
    (rw (← low) c.set_words-2.ensures) c.set_words-3.ensures
