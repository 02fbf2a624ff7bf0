use Rattle.std.proofs.Common.{List, subst}
use Rattle.allocator.specs.asm_base.Records.{DirectoryRecord}
use Rattle.page_map.specs.Applying.{SetsAll}
use Rattle.page_map.proofs.Applied.{applied}
use Rattle.page_map.proofs.change.change.Goals as goal

pub returns-clause-applies : goal.returns-clause-applies
returns-clause-applies c =
    applied c.args.map.now c.add_new.new.map c.set_all.new.map c.remove_all.new.map c.args.put.now c.args.gone.now c.in_ok-pages.pages.items c.requires.table c.in_ok-pages.ensures.table c.in_ok-pages.ensures.adds c.in_ok-pages.ensures.blocks
    (subst (λ (xs : List DirectoryRecord). SetsAll c.add_new.new.map c.set_all.new.map xs) c.in_ok-values.ensures c.set_all.ensures) c.remove_all.ensures
