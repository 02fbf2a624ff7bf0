use Rattle.std.proofs.Common.{List, ap, ◌∙◌}
use Rattle.asm_formats.specs.Items.{Key}
use Rattle.asm_base.specs.Records.{DirectoryRecord}
use Rattle.page_map.specs.Changes.{value_after}
use Rattle.catalog_tables.specs.Changing.{tables_of}
use Rattle.catalog_tables.specs.Tables.{Tables, records_of}
use Rattle.catalog_tables.proofs.AfterLaws.{After, after_rule, after_tables}
use Rattle.catalog_tables.proofs.parts.Parts.changed.Goals as goal

pub close-requires : goal.close-requires
close-requires c =
    let put = c.args.change.now.put in
    let gone = c.args.change.now.gone in
    let same : After c.args.self put gone (tables_of c.take_up.new.self) = λ k.
    c.in_ok-take_up.ensures.after k
    ∙ (ap (λ (p : List DirectoryRecord). value_after p c.as_slice-2.result.now k (records_of (tables_of c.of-parts.result) k)) c.as_slice.ensures
    ∙ (ap (λ (g : List Key). value_after put g k (records_of (tables_of c.of-parts.result) k)) c.as_slice-2.ensures
    ∙ ap (λ (t : Tables). value_after put gone k (records_of t k)) c.of-parts.ensures.tables)) in
    after_rule c.args.self (tables_of c.take_up.new.self) put gone c.requires.after c.are_items.ensures same

pub returns : goal.returns
returns c =
    let put = c.args.change.now.put in
    let gone = c.args.change.now.gone in
    let same : After c.args.self put gone (tables_of c.take_up.new.self) = λ k.
    c.in_ok-take_up.ensures.after k
    ∙ (ap (λ (p : List DirectoryRecord). value_after p c.as_slice-2.result.now k (records_of (tables_of c.of-parts.result) k)) c.as_slice.ensures
    ∙ (ap (λ (g : List Key). value_after put g k (records_of (tables_of c.of-parts.result) k)) c.as_slice-2.ensures
    ∙ ap (λ (t : Tables). value_after put gone k (records_of t k)) c.of-parts.ensures.tables)) in
    rw c.close.ensures (after_tables c.args.self (tables_of c.take_up.new.self) put gone c.requires.after c.are_items.ensures same)
