-- What the refusals of a load mean.
use Rattle.std.proofs.Common.{◌≡◌, inl, inr, ⊎_elim, ℕ, ◌<◌, List, [], sym, ap, subst, ◌∙◌, Option, arith}
use Rattle.std.specs.Prelude.{nat_lt, unwrap_or}
use Rattle.std.proofs.lemmas.Bool.{ltb-true}
use Rattle.bay.specs.Image.{Image}
use Rattle.bay.specs.State.{BayState}
use Rattle.asm_group.specs.Names.{Bytes}
use Rattle.asm_base.specs.declared.block.Block.{Block}
use Rattle.asm_formats.specs.Among.{IsAmong}
use Rattle.asm_formats.specs.Content.{page_items}
use Rattle.change_directory.specs.declared.copy.DirCopy.{DirCopy}
use Rattle.change_directory.specs.Changes.{copy_disk_bytes}
use Rattle.change_directory.specs.Loads.{open_slots}
use Rattle.change_directory.specs.StoreLaws.{IsShaped, counting_page, zero_page}
use Rattle.directory_store.specs.Copies.{AreNamedCopies}
use Rattle.directory_store.specs.Loading.{HasTwins, LoadCause}
use Rattle.directory_store.specs.Reading.{AreCopiesRead, HasTwin, IsBuildFault, IsMapFault, IsNewest, IsReadFault, IsReading, WasRead, block_in, copies_of_readings}
use Rattle.directory_store.specs.declared.error.LoadError.{LoadError}
use Rattle.directory_store.specs.declared.error.LoadError.TheVariants.{DirectoriesLost, Damaged, NoMemory}
use Rattle.directory_store.specs.declared.reading.Reading.{Reading}
use Rattle.directory_store.proofs.Taken.{least_of}
use Rattle.directory_store.proofs.Loads.{block_row, copy_among, read_content}
use Rattle.directory_store.proofs.ReadingCopies.{part_among}
use Rattle.directory_store.proofs.Records.{image_found, all_are}
use Rattle.directory_store.proofs.Steps.{shaped}

none_of : (readings : List Reading) (q : Reading) → readings ≡ [] → IsAmong readings q → ⊥
none_of readings q e among = subst (λ (l : List Reading). IsAmong l q) e among

module _ (copies : List DirCopy) (readings : List Reading) (s t : BayState) (named : AreNamedCopies copies [] s) (read : AreCopiesRead copies readings s t) where
  given_copy : (q : Reading) → IsAmong readings q → IsAmong copies q.copy
  given_copy q among = part_among (copies_of_readings readings) copies read.parts q.copy (copy_among readings q among)

  shape : (q : Reading) → IsAmong readings q → IsShaped q.copy
  shape q among = shaped (named q.copy (given_copy q among)).copy_is

  twins : (r : Reading) → IsAmong readings r → (block : ℕ) → HasTwin r block → (x : Image) → IsReading r x → HasTwins r.copy block x
  twins r among block has x is =
      let d = r.copy.dir_blocks in
      let blocks = r.pages.blocks.items in
      let content = read_content r x (shape r among) (read.numbers r among) is in
      let twin = has.twin.twin in
      let below : (p : ℕ × Block) → IsAmong blocks p → p.0 < d = λ p h. ltb-true p.0 d (all_are (λ (p : ℕ × Block). nat_lt p.0 d) blocks p has.filled.inside h) in
      let counts : (p : ℕ × Block) → IsAmong blocks p → counting_page r.copy x p.0 ≡ p.1.bytes = λ p h.
      content.pages.pages p.0 (below p h) ∙ ap (λ (o : Option Bytes). unwrap_or o (zero_page p.0)) (image_found 0 blocks p has.filled.ascend h) in
      record {
        earlier = twin.earlier.0;
        page = twin.later.0;
        first = twin.first;
        second = twin.second;
        before = twin.behind;
        inside = below twin.later twin.later_is;
        reads_first = ap page_items (counts twin.earlier twin.earlier_is) ∙ twin.reads_first;
        reads_second = ap page_items (counts twin.later twin.later_is) ∙ twin.reads_second;
        one_key = twin.one_key;
        counts_from =
            sym (block_row (open_slots d (copy_disk_bytes r.copy x)) 0 d twin.later.0 (omega arith) (omega (arith, below twin.later twin.later_is)))
            ∙ ap (λ (l : List (ℕ × ℕ)). block_in l twin.later.0) (sym is.loaded.due)
            ∙ ap (block_in r.pages.due.items) twin.here ∙ sym has.block_is;
      }

  map_cause : (r : Reading) → IsNewest readings r → (e : LoadError) → IsMapFault r e → LoadCause copies s t e
  map_cause r newest DirectoriesLost fault = absurd fault
  map_cause r newest (Damaged slot block) fault =
      inr (record {
        copy = r.copy;
        slot_is = fault.0;
        number = r.number;
        taken = least_of copies readings s t named read r newest;
        twins = λ now holds image was. twins r newest.among block fault.1 image (read.told r newest.among now holds image was);
        undamaged = read.undamaged;
      })
  map_cause r newest NoMemory fault = tt

  pub build_cause : (e : LoadError) → IsBuildFault readings e → LoadCause copies s t e
  build_cause e (inl lost) = subst (LoadCause copies s t) (sym lost.0) (λ c among. ⊎_elim (λ (was : WasRead readings c). absurd (none_of readings was.0 lost.1 was.1)) (λ unread. unread) (read.others c among))
  build_cause e (inr (inl fault)) = map_cause fault.0 fault.1 e fault.2
  build_cause e (inr (inr none)) = subst (LoadCause copies s t) (sym none) tt

pub read_cause : (copies : List DirCopy) (s t : BayState) (e : LoadError) → IsReadFault copies s t e → LoadCause copies s t e
read_cause copies s t DirectoriesLost fault = absurd fault
read_cause copies s t (Damaged slot block) fault = inl fault
read_cause copies s t NoMemory fault = tt
