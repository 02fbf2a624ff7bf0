use Rattle.std.proofs.Common.{◌≡◌}
use Rattle.asmcmd.proofs.NameWords.{named}
use Rattle.asmcmd.proofs.words.maybe_name.Goals as goal

pub owned_name-requires : goal.owned_name-requires
owned_name-requires c = let e = rw c.in-Some.is at c.try_text.ensures in named c.args.place.rest.now c.in-Some.word.now c.try_text.result.1.rest.now e.0
