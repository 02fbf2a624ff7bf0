use Rattle.asmcmd.proofs.NameWords.{named_next}
use Rattle.asmcmd.proofs.words.name_word.Goals as goal

pub owned_name-requires : goal.owned_name-requires
owned_name-requires c = named_next c.args.place.rest.now c.in_ok-word.word.now c.in_ok-word.place.rest.now c.args.place.left c.in_ok-word.place.left c.in_ok-word.ensures
