use Rattle.asm_formats.proofs.RecordLists.{one_list}
use Rattle.asm_formats.proofs.pages.ordered_lists_are_one.Goals as goal

pub returns : goal.returns
returns c = λ xs ys a b sub back. one_list xs ys 0 a b sub back
