use Rattle.std.proofs.Common.{◌≡◌, false}
use Rattle.asm_base.specs.asm_group.Names.{folded}
use Rattle.asm_base.specs.asm_formats.Items.{precedes}
use Rattle.directory_page.proofs.Ascending.{after_back}
use Rattle.directory_page.proofs.templates.pass_each.Goals as goal

pub returns-then-not-precedes : goal.returns-then-not-precedes
returns-then-not-precedes c =
    let back : precedes (folded c.loop-i.before.now) (folded c.in_ok-name.name.now) ≡ false = cc in
    after_back c.loop-i.before.now c.in_ok-name.name.now c.args.count c.loop-i.i c.loop-i.from c.take_template.new.from _ c.loop-i-test.true c.in_ok-name.ensures back c.loop-i.invariant
