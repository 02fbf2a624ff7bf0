use Rattle.std.proofs.Common.{refl}
use Rattle.asm_grammar.specs.Syntax.{Maybe}
use Rattle.asm_grammar.specs.Reading.{parse}
use Rattle.asm_grammar.proofs.Outcomes.{mapped_took}
use Rattle.asm_world.specs.Grammar as g
use Rattle.group_sql.specs.Choices.{in_group_at}
use Rattle.group_sql.specs.Rows.{maybe_kind_of}
use Rattle.group_sql.specs.Said.{maybe_kind_said}
use Rattle.group_sql.proofs.disks.in_failgroup.Goals as goal

pub returns : goal.returns
unfolding in_group_at
returns c =
    let p = c.expect.new.place in
    let q = c.failgroup_kind-kind.new.place in
    let k = mapped_took maybe_kind_of (parse (Maybe g.group_word) p.rest.now p.left) (maybe_kind_said c.failgroup_kind-kind.result) q.rest.now q.left c.failgroup_kind-kind.ensures in
    rw (c.in_ok-expect.ensures, k.was, c.in_ok-expect-2.ensures, c.in_ok-name.ensures, k.gives) refl
