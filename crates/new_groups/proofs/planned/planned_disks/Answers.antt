use Rattle.std.proofs.Common.{◌≡◌, ◌<◌, ◌∙◌, false, leb, refl, sym, arith}
use Rattle.std.proofs.lemmas.Bool.{leb-false}
use Rattle.refusal_lines.specs.Refusals.{meaning_of}
use Rattle.new_groups.specs.Planning.{disk_count}
use Rattle.new_groups.proofs.planned.planned_disks.Goals as goal

pub returns-then-not-disks_within-clause-refused : goal.returns-then-not-disks_within-clause-refused
unfolding meaning_of
returns-then-not-disks_within-clause-refused c =
    let more : leb (disk_count c.args.groups.now) 64 ≡ false = sym c.disks_within.ensures ∙ c.if-not-disks_within.true in
    let many : 64 < disk_count c.args.groups.now = omega (arith, leb-false (disk_count c.args.groups.now) 64 more) in
    (refl, refl, many)

pub returns-in-Err-clause-refused : goal.returns-in-Err-clause-refused
unfolding meaning_of
returns-in-Err-clause-refused c = tt
