use Rattle.std.proofs.Common.{◌+◌, ℕ, List, Option, map, sym, ap, ◌∙◌}
use Rattle.asm_base.specs.declared.block.Block.{Block}
use Rattle.change_directory.specs.declared.open_log.OpenLog.{OpenLog}
use Rattle.asm_base.specs.Blocks.{image_of_page}
use Rattle.change_directory.specs.Loads.{counted_block}
use Rattle.change_directory.specs.Slots.{place_in, slots_of_log}
use Rattle.change_directory.proofs.SlotLaws.{block_is_place}
use Rattle.change_directory.proofs.slots.image_in_slot.Goals as goal

pub returns-in-Some-clause-block : goal.returns-in-Some-clause-block
returns-in-Some-clause-block c =
    c.image_from.ensures.block ∙ ap (λ (l : List (ℕ × Block)). place_in (c.in-Some.log.gate + 2) (map image_of_page l) c.args.page) c.deref.ensures.value
    ∙ sym (block_is_place c.in-Some.log c.args.page) ∙ ap (λ (o : Option OpenLog). counted_block (slots_of_log o) c.args.page) (sym c.in-Some.is)
