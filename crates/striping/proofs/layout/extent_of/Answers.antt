use Rattle.asm_placement.proofs.Places.{one_place_of, bytes_of_whole}
use Rattle.striping.proofs.layout.extent_of.Goals as goal

pub returns-clause-only : goal.returns-clause-only
returns-clause-only c = λ i q lies. one_place_of c.args.layout.stripe c.args.layout.au c.args.layout.step c.args.offset i q c.place_of.result.0 c.place_of.result.1 c.requires lies c.place_of.ensures

pub returns-clause-whole : goal.returns-clause-whole
returns-clause-whole c = λ n whole. bytes_of_whole c.args.layout.stripe c.args.layout.au c.args.layout.step c.args.offset c.place_of.result.0 c.place_of.result.1 n c.requires c.place_of.ensures whole
