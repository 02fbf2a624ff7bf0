use Rattle.std.proofs.Common.{rules, ◌∙◌, List, ℕ, Option, Some, cond, refl, sym, ap}
use Rattle.std.specs.Prelude.{is_some}
use Rattle.asm_formats.specs.Items.{Key}
use Rattle.allocator.specs.asm_base.Records.{DirectoryRecord, is_key, record_at}
use Rattle.page_map.specs.Changes.{is_put, last_put}
use Rattle.page_map.specs.Tables.{place_at}
use Rattle.page_map.proofs.Keys.{key_itself}
use Rattle.page_map.proofs.Changing.{is_put_end, last_put_end, or_true}
use Rattle.page_map.proofs.change.+set_all.Goals as goal

pub set_all-requires : goal.set_all-requires
set_all-requires t c = (search rules, λ k e. c.requires.there k (ap (λ (xs : List DirectoryRecord). is_put xs k) c.in-Some.ensures.items ∙ is_put_end c.pop.new.self.items c.in-Some.last k ∙ rw e refl))

pub set-requires : goal.set-requires
set-requires t c =
    let k : Key = c.in-Some.last.0 in
    record {
      there = ap (λ (ps : List (Key × ℕ)). is_some (place_at ps k)) c.set_all.ensures.places
          ∙ c.requires.there k (ap (λ (xs : List DirectoryRecord). is_put xs k) c.in-Some.ensures.items ∙ is_put_end c.pop.new.self.items c.in-Some.last k ∙ rw (key_itself k) (or_true (is_put c.pop.new.self.items k)));
    }

pub returns : goal.returns
returns t c =
    let last : DirectoryRecord = c.in-Some.last in
    record {
      records = λ k. c.set.ensures.records k ∙ ap (λ (v : Option (List ℕ)). cond (is_key last.0 k) (Some last.1) v) (c.set_all.ensures.records k)
          ∙ sym (last_put_end c.pop.new.self.items last k (record_at c.args.map.now.records k)) ∙ sym (ap (λ (xs : List DirectoryRecord). last_put xs k (record_at c.args.map.now.records k)) c.in-Some.ensures.items);
      places = c.set.ensures.places ∙ c.set_all.ensures.places;
      free = c.set.ensures.free ∙ c.set_all.ensures.free;
    }
