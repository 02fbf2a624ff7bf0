-- One record more or less, and one entry more of a copy.
use Rattle.std.proofs.Common.{◌≡◌, ℕ, cond, List, ◌∷◌, ◌++◌, Some, None, refl, sym, ap, subst, ◌∙◌}
use Rattle.std.specs.Option.{option_map}
use Rattle.std.specs.BTreeMap.{is_at}
use Rattle.asm_formats.specs.Items.{Homes, chunk_item}
use Rattle.asm_formats.specs.Values.{decoded_item}
use Rattle.asm_base.specs.Chunks.{Chunk, chunk_cmp, is_chunk_before}
use Rattle.asm_base.specs.Records.{Ascend}
use Rattle.asm_base.proofs.Chunks.{chunk_total, same_chunk}
use Rattle.item_table.proofs.Laws as tables
use Rattle.extent_map.specs.Changing.{AreChunks, chunk_value_at}
use Rattle.extent_map.specs.Extents.{Chunked, chunk_at, chunk_key, is_chunk, item_of_chunk, with_chunk, without_chunk}
use Rattle.extent_map.proofs.Laws.{chunk_entries, entry_read, mine}

-- the homes of the chunk whose record is put are those of the record, and the others stay
pub record_put : (old new : List Chunked) (f c : ℕ) (bytes v : List ℕ) (homes : List Homes) → option_map (chunk_item f c) (Some homes) ≡ decoded_item (chunk_key f c) bytes → bytes ≡ v
    → ((d : Chunk) → chunk_at new d ≡ cond (is_at (chunk_cmp (f, c)) d) (Some homes) (chunk_at old d))
    → (d : Chunk) → chunk_value_at new d ≡ cond (is_at (chunk_cmp (f, c)) d) (Some v) (chunk_value_at old d)
record_put old new f c bytes v homes read is all d =
    tables.record_put chunk_entries.0 is_chunk same_chunk old new (chunk_key f c, v) (f, c) homes (mine f c (chunk_key f c) refl) (entry_read (chunk_key f c) f c refl v bytes (Some homes) is read) all d

pub record_gone : (old new : List Chunked) (at : Chunk) → ((c : Chunk) → chunk_at new c ≡ cond (is_at (chunk_cmp at) c) None (chunk_at old c))
    → (c : Chunk) → chunk_value_at new c ≡ cond (is_at (chunk_cmp at) c) None (chunk_value_at old c)
record_gone old new at all c = tables.record_gone chunk_cmp item_of_chunk old new at all c

pub put_keeps_chunks : (bytes : List ℕ) (old new : List Chunked) (f c : ℕ) (homes : List Homes) → option_map (chunk_item f c) (Some homes) ≡ decoded_item (chunk_key f c) bytes → new ≡ with_chunk old (f, c) homes → AreChunks old → AreChunks new
put_keeps_chunks bytes old new f c homes read put are =
    let ok = tables.is_kept chunk_entries.0 is_chunk (chunk_key f c, bytes) (f, c) homes (mine f c (chunk_key f c) refl) (entry_read (chunk_key f c) f c refl bytes bytes (Some homes) refl read) in
    subst (λ (t : List Chunked). AreChunks t) (sym put) (tables.put_keeps_table chunk_total same_chunk item_of_chunk old (f, c) homes ok are)

pub removed_keeps_chunks : (old new : List Chunked) (at : Chunk) → new ≡ without_chunk old at → AreChunks old → AreChunks new
removed_keeps_chunks old new at gone are = subst (λ (t : List Chunked). AreChunks t) (sym gone) (tables.remove_keeps_table chunk_total item_of_chunk old at are)

-- nothing is decoded where nothing is read
pub not_read : (f c : ℕ) (bytes v : List ℕ) → option_map (chunk_item f c) None ≡ decoded_item (chunk_key f c) bytes → bytes ≡ v → decoded_item (chunk_key f c) v ≡ None
not_read f c bytes v e is = ap (decoded_item (chunk_key f c)) (sym is) ∙ sym e

pub copied : (whole done new rest : List Chunked) (c : Chunk) (homes : List Homes) → Ascend is_chunk_before whole → done ++ (c, homes) ∷ rest ≡ whole → new ≡ with_chunk done c homes → new ++ rest ≡ whole
copied whole done new rest c homes up e put = tables.copied chunk_total whole done new rest c homes up e put
