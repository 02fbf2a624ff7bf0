use Rattle.std.proofs.Common.{sym, subst}
use Rattle.asm_formats.specs.Sets.{elements}
use Rattle.asm_formats.specs.Status.{Status}
use Rattle.asm_formats.specs.Among.{IsAmong}
use Rattle.group_engine.specs.Trying.{IsRightCopy}
use Rattle.group_engine.proofs.MayGet.{all_among, on_true_map}
use Rattle.group_engine.proofs.mounted.Mounted.names_copies.Goals as goal

pub returns-then-has_copies : goal.returns-then-has_copies
returns-then-has_copies c =
    let m = c.args.self.now in
    let next = c.args.next.now in
    on_true_map c.are_right_copies.result c.are_right_copies.ensures
    (λ all. record {
      each = λ k among. all_among (IsRightCopy m next) m.store.copies all k among;
      all = λ d named. c.if-has_copies.ensures d (subst (λ (x : Status). IsAmong (elements x.directories) d) (sym c.next.view_is) named);
    })
