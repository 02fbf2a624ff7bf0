use Rattle.std.proofs.Common.{◌≡◌, ◌*◌, ◌≤◌, ℕ, length, arith}
use Rattle.std.proofs.lemmas.List.{length-take-le}
use Rattle.change_directory.proofs.LoadPieces.{piece_read}
use Rattle.change_directory.proofs.Works.{one_read}
use Rattle.change_directory.proofs.loading.fill_piece.Goals as goal

pub read-requires-clause-inside : goal.read-requires-clause-inside
read-requires-clause-inside g c =
    let n : ℕ = c.args.count * 4096 in
    let few : n ≤ length c.args.all.now = omega (arith, c.requires.few, c.requires.room) in
    let long = length-take-le n c.args.all.now few in
    omega (arith, c.requires.copy.inside, c.requires.inside, c.requires.few, long)

pub returns : goal.returns
returns g c =
    let n : ℕ = c.args.count * 4096 in
    let few : n ≤ length c.args.all.now = omega (arith, c.requires.few, c.requires.room) in
    let long = length-take-le n c.args.all.now few in
    let kept : length c.read.new.buf ≡ n = omega (arith, c.read.auto.buf, long) in
    let reads = one_read c.read.ensures.attached (omega (arith, c.read.ensures.count)) c.read.ensures.written c.read.ensures.runs in
    piece_read c.args.copy c.args.logs.now c.args.first c.args.count c.read.new.buf _ kept long c.in_ok-read.ensures.done reads c.take_pages.ensures.taken c.take_pages.ensures.up_to c.take_pages.ensures.damage
    c.take_pages.ensures.no_fault
