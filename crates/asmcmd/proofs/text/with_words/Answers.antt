use Rattle.std.proofs.lemmas.Result.{IfOk-weaker}
use Rattle.asmcmd.specs.Texts.{text_of_field}
use Rattle.asmcmd.proofs.Spaced.{words_made}
use Rattle.asmcmd.proofs.text.with_words.Goals as goal

pub returns : goal.returns
returns c = IfOk-weaker c.with_others.result _ _ (λ longer e. words_made text_of_field (text_of_field c.args.first) c.args.others.now c.args.text.items c.in_ok-text.text.items longer.items c.in_ok-text.ensures e) c.with_others.ensures
