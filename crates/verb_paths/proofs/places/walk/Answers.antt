use Rattle.std.proofs.Common.{ap}
use Rattle.std.specs.Option.{option_copied}
use Rattle.asm_group.specs.Names.{is_part}
use Rattle.verb_paths.proofs.Walking.{further, nowhere, left_falls}
use Rattle.verb_paths.proofs.places.walk.Goals as goal

pub returns-in-None : goal.returns-in-None
returns-in-None c =
    nowhere (is_part 80) c.args.at c.loop-left.at (option_copied c.loop-left.left) c.args.path.now c.in-Some.bytes.now c.split_part.result.0.now c.in_ok-next.field-0
    c.loop-left.invariant (ap option_copied c.in-Some.is) c.split_part.ensures.part c.in_ok-next.ensures c.in-None.is

pub loop-left-smaller : goal.loop-left-smaller
loop-left-smaller c = left_falls (option_copied c.loop-left.left) (option_copied c.split_part.result.1) c.in-Some.bytes.now (ap option_copied c.in-Some.is) c.split_part.ensures.shorter

pub loop-left-preserved : goal.loop-left-preserved
loop-left-preserved c =
    further (is_part 80) c.args.at c.loop-left.at c.in-Some-2.next (option_copied c.loop-left.left) (option_copied c.split_part.result.1) c.args.path.now c.in-Some.bytes.now c.split_part.result.0.now c.in_ok-next.field-0
    c.loop-left.invariant (ap option_copied c.in-Some.is) c.split_part.ensures.part c.split_part.ensures.behind c.in_ok-next.ensures c.in-Some-2.is
