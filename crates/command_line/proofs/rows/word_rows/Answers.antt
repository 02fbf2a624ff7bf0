use Rattle.std.proofs.Common.{refl, arith, [], ◌∷◌}
use Rattle.clap.proofs.OnLiterals.{clap_on_literals}
use Rattle.command_line.specs.Rows.{WordRows}
use Rattle.command_line.proofs.Takings.{taken_none}
use Rattle.command_line.proofs.rows.word_rows.Goals as goal

rows : WordRows
unfolding clap_on_literals
rows = record {
  images = (refl, refl, refl);
  number_apart = (refl, refl, refl);
  number_attached = (refl, refl, refl);
  number_between = (refl, refl, refl);
  after_hyphens = (refl, refl, refl);
  one_hyphen = (refl, refl, refl);
  no_words = refl;
  no_image = refl;
  value_missing = refl;
  value_is_hyphens = refl;
  value_is_an_option = refl;
  given_twice = refl;
  unknown_option = refl;
  unknown_letter = refl;
  help = refl;
  zero = λ generate images taken. absurd (cc (taken.plain));
  tab = λ generate images taken. absurd (cc (taken.plain));
  line_feed = λ generate images taken. absurd (cc (taken.plain));
  last_control = λ generate images taken. absurd (cc (taken.plain));
  blank = taken_none ((100 ∷ 32 ∷ 48 ∷ []) ∷ []) (omega arith) refl refl;
  delete = taken_none ((127 ∷ []) ∷ []) (omega arith) refl refl;
  beyond_ascii = taken_none ((195 ∷ 164 ∷ []) ∷ []) (omega arith) refl refl;
}

pub returns : goal.returns
returns c = rows
