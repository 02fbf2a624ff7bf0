use Rattle.std.proofs.Common.{◌≡◌, ◌+◌, ◌*◌, ◌≤◌, ℕ, length, ap, rules, arith}
use Rattle.std.proofs.lemmas.List.{length-take-le}
use Rattle.change_directory.proofs.Spares.{slot_inside}
use Rattle.change_directory.proofs.LoadTold.{images_told}
use Rattle.change_directory.proofs.Works.{one_read, not_err}
use Rattle.change_directory.proofs.slots.fill_images.Goals as goal

pub read-requires-clause-inside : goal.read-requires-clause-inside
read-requires-clause-inside g c =
    let n : ℕ = length c.args.pages.now * 4096 in
    let few : n ≤ length c.args.all.now = omega (arith, c.requires.few, c.requires.room) in
    let long = length-take-le n c.args.all.now few in
    let inside = slot_inside c.args.copy c.args.log c.requires.copy.least in
    omega (arith, c.requires.copy.inside, inside, c.gate_block.ensures, c.requires.few, long)

pub returns-in_err-read : goal.returns-in_err-read
returns-in_err-read g c =
    let reads = one_read c.read.ensures.attached (omega (arith, c.read.ensures.count)) c.read.ensures.written c.read.ensures.runs in search rules

pub returns-in_err-images : goal.returns-in_err-images
returns-in_err-images g c =
    let reads = one_read c.read.ensures.attached (omega (arith, c.read.ensures.count)) c.read.ensures.written c.read.ensures.runs in search rules

pub returns : goal.returns
returns g c =
    let n : ℕ = length c.args.pages.now * 4096 in
    let few : n ≤ length c.args.all.now = omega (arith, c.requires.few, c.requires.room) in
    let long = length-take-le n c.args.all.now few in
    let kept : length c.read.new.buf ≡ n = omega (arith, c.read.auto.buf, long) in
    record {
      reads = one_read c.read.ensures.attached (omega (arith, c.read.ensures.count)) c.read.ensures.written c.read.ensures.runs;
      done = record {
        len = c.in_ok-images.ensures.len;
        are = images_told c.args.copy c.args.log (g.B.Bay.state c.args.bay.now) (g.B.Bay.state c.read.new.self) _ c.args.pages.now c.read.new.buf _ (ap (λ (k : ℕ). (k + 2) * 4096) c.gate_block.ensures) kept _ long c.in_ok-images.ensures.images c.in_ok-read.ensures.done;
      };
      refusal = tt;
      cause = not_err;
    }
