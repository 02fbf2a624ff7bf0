use Rattle.std.proofs.Common.{◌≡◌, List, subst}
use Rattle.std.specs.Prelude.{OnErr, OnOk}
use Rattle.extent_map.specs.Extents.{Chunked}
use Rattle.extent_map.proofs.Laws.{new_extent}
use Rattle.extent_map.proofs.table.ExtentMap.put_homes.Goals as goal

pub returns-clause-ok : goal.returns-clause-ok
returns-clause-ok c =
    subst (λ (t : List Chunked). OnOk c.put_new.result (c.put_new.new.self ≡ t)) (new_extent c.args.self.now c.set.new.self c.args.key.file c.args.key.index c.args.item c.if-set.ensures.missing c.if-set.ensures.there) c.put_new.ensures.ok

pub returns-clause-err : goal.returns-clause-err
returns-clause-err c = subst (λ (t : List Chunked). OnErr c.put_new.result (c.put_new.new.self ≡ t)) c.if-set.ensures.missing c.put_new.ensures.err
