-- The commit of the marks of the copies that a write left behind leads from the group with the piece Free to the group with the bytes.
use Rattle.std.proofs.Common.{ℕ, ◌+◌, ◌-◌, ◌<◌, ◌^◌, List, length, slice_index, refl, sym, subst, ◌∙◌}
use Rattle.bay.specs.Moments.{NowOnly}
use Rattle.bay.specs.State.{BayState, IsSound}
use Rattle.asm_group.specs.Group.{Group, Known}
use Rattle.asm_group.specs.Names.{Bytes}
use Rattle.asm_group.specs.Shape.{Shape}
use Rattle.asm_base.specs.Records.{DirectoryRecord}
use Rattle.asm_base.specs.declared.kinds.ExtentId.{ExtentId}
use Rattle.asm_formats.specs.Items.{Key}
use Rattle.asm_formats.specs.Status.{Status}
use Rattle.asm_images.specs.Describing.{DescribesGroup}
use Rattle.asm_images.specs.Kept.{Kept}
use Rattle.record_laws.specs.catalog.ExtentPlans.{with_marks_changed}
use Rattle.record_laws.specs.catalog.Plans.{IsPlan}
use Rattle.record_laws.proofs.catalog_laws.HavingItems.{have_items}
use Rattle.record_laws.specs.catalog_tables.Tables.{AreTables, Tables}
use Rattle.record_laws.specs.group_of.Describing.{HaveGroup, KeepsPlaces}
use Rattle.record_laws.specs.group_of.Groups.{cells_of}
use Rattle.record_laws.proofs.group_of.Describes.{described_has_cells, described_is_of_tables, next_describe}
use Rattle.record_laws.proofs.group_of.EditedGroups.{names_are_group}
use Rattle.piece_laws.specs.Rewriting.{Rewrites}
use Rattle.piece_laws.proofs.Rewriting.{put_rewrites, rewritten_is_described}
use Rattle.piece_laws.proofs.Again.{put_again}
use Rattle.record_laws.specs.group_engine.Commits.{LeadsTo}
use Rattle.record_laws.specs.group_engine.Mounts.{MountedGroup, Mounts}
use Rattle.group_pieces.specs.Copies.{HaveBut}
use Rattle.group_pieces.specs.Held.{piece_freed, piece_written}
use Rattle.group_pieces.specs.Marking.{left_of}
use Rattle.group_pieces.specs.Usable.{FitsExtent, piece_of, places_at}
use Rattle.group_pieces.proofs.MarkedBytes.{marked_holds}
use Rattle.group_pieces.proofs.Rewritten.{rewritten_name, rewritten_shape}

-- where marks alone change, the same group is described
marks_describe : (r : Status) (t : Tables) (g : Group) (f i set : ℕ) → AreTables t → HaveGroup r t g → KeepsPlaces r g.shape t (with_marks_changed t f i set 0) → HaveGroup r (with_marks_changed t f i set 0) g
marks_describe r t g f i set are have keeps items are_items =
    let its = have_items t are in
    let d = have its.0 its.1 in
    subst (λ (k : Group). DescribesGroup r items k)
    (names_are_group g.name g.shape t (with_marks_changed t f i set 0) (cells_of g) (record { files = refl; nodes = refl; templates = refl }) ∙ sym (described_is_of_tables r its.0 t g are its.1 d))
    (next_describe r t (with_marks_changed t f i set 0) g (cells_of g) are have keeps (described_has_cells r its.0 t g are its.1 d) items are_items)

-- with the bytes in place of the Free cells the group is rewritten
pub settled_rewrites : (x : ExtentId) (inner : ℕ) (bytes : Bytes) (g : Group) → Rewrites (piece_freed x inner (length bytes) g) (piece_written x inner bytes g)
settled_rewrites x inner bytes g = subst (λ (k : Group). Rewrites (piece_freed x inner (length bytes) g) k) (put_again (piece_of x inner (length bytes)) _ _ g)
    (put_rewrites (piece_of x inner (length bytes)) (λ k. Known (slice_index bytes (k - inner))) (piece_freed x inner (length bytes) g))

module _ (n : ℕ) (m : MountedGroup) (s : BayState) (g : Group) (kept : Kept) (sound : IsSound s) (x : ExtentId) (inner : ℕ) (bytes : Bytes)
    (mounts : Mounts n m s (piece_freed x inner (length bytes) g) kept) (piece : FitsExtent m.catalog.shape x.index inner (length bytes)) (failed : ℕ)
    (has : NowOnly s (HaveBut (places_at m x inner) failed bytes)) (put : List DirectoryRecord) (gone : List Key) where
  abbrev h : Group
  h = piece_freed x inner (length bytes) g

  abbrev u : Tables
  u = with_marks_changed m.catalog.tables x.file x.index (left_of m x inner failed) 0

  pub marks_lead : IsPlan m.catalog put gone u → m.register.turn + 1 < 2 ^ 64 → LeadsTo n m put gone s h (piece_written x inner bytes g) kept
  marks_lead plan turns =
      let rewrites = settled_rewrites x inner bytes g in
      let keeps : KeepsPlaces m.register.value h.shape m.catalog.tables u = subst (λ (z : Shape). KeepsPlaces m.register.value z m.catalog.tables u) (sym mounts.represents.shape)
      (record { rules = plan.rules; units = plan.units m.register.value.entries mounts.whole.units; extents = refl; disks = refl }) in
      record {
        mounts = mounts;
        tables = u;
        after = plan.after;
        leads = record {
          name = rewritten_name h (piece_written x inner bytes g) rewrites;
          shape = rewritten_shape h (piece_written x inner bytes g) rewrites;
          describes = λ items are. rewritten_is_described m.register.value items h (piece_written x inner bytes g) rewrites
              (marks_describe m.register.value m.catalog.tables h x.file x.index (left_of m x inner failed) mounts.whole.are_tables mounts.represents.describes keeps items are);
        };
        holds = marked_holds n m s g kept sound x inner bytes mounts piece failed has plan.rules.tables;
        turns = turns;
      }
