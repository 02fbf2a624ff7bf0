use Rattle.std.specs.Prelude.{codes}
use Rattle.event_lines.proofs.Lines.{four_put}
use Rattle.event_lines.proofs.event.Event.put.Goals as goal

-- src/event.rt:156:5
pub returns-in-ExpiryEnds-clause-text : goal.returns-in-ExpiryEnds-clause-text
returns-in-ExpiryEnds-clause-text c =
    rw c.in-ExpiryEnds.is
    (four_put (codes "expired") c.in-ExpiryEnds.group.now (codes "dismounted") c.in-ExpiryEnds.disk.now
    c.requires c.put-in-ExpiryEnds.ensures c.put_name-in-ExpiryEnds.ensures.text c.put_word.ensures.text c.put_name-in-ExpiryEnds-2.ensures.text)
