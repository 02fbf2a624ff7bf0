use Rattle.asm_world.proofs.Histories as r
use Rattle.asm_world.proofs.runs.calls_grow.Goals as goal

pub returns : goal.returns
returns g c = record {
  reaches = λ s history rise. r.rise_calls s history rise;
  join = λ s first rest. (λ p. r.rise_joined s first rest p.0 p.1, λ p. r.rise_split s first rest p);
  marks = λ s history rise. r.marks_rise_by s history rise;
}
