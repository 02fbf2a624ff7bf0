-- A group with other bytes in one file.
use Rattle.std.proofs.Common.{◌≡◌, inl, inr, ⊎_elim, ℕ, Bool, ◌||◌, List, length, refl, sym, ap, subst, ◌∙◌, Option, Some, None, arith, IsTrue, ◌==◌}
use Rattle.std.specs.Option.{is_some}
use Rattle.std.specs.FinMap as maps
use Rattle.std.proofs.lemmas.Bool.{cond-false, ne_eqb, cases_eq}
use Rattle.std.proofs.lemmas.Option.{same_Some}
use Rattle.asm_group.specs.Names.{ByNumber}
use Rattle.asm_group.specs.declared.Stripe.{Stripe}
use Rattle.asm_group.specs.Group.{Cell, File, Group}
use Rattle.asm_placement.specs.Layout.{has_extent_by_size}
use Rattle.asm_placement.specs.Tables.{head_of}
use Rattle.asm_formats.specs.Status.{Status}
use Rattle.asm_formats.specs.Items.{Item, FileHead}
use Rattle.asm_images.specs.Tables.{pending_of}
use Rattle.asm_placement.specs.Naming.{is_pending}
use Rattle.asm_images.specs.Describing.{DescribesGroup, SameFile}
use Rattle.asm_images.specs.Spans.{Span, file_with, files_with, group_with}
use Rattle.asm_images.proofs.SpanCells.{length_stays}
use Rattle.asm_world.specs.Files.{with_file_cells}
use Rattle.piece_laws.specs.Rewriting.{RewritesFile, Rewrites, RewrittenIsDescribed}
use Rattle.piece_laws.proofs.Walks.{got, cells_twice, got_same}

module _ (r : Status) (items : List Item) (g h : Group) (w : RewritesFile g h) (d : DescribesGroup r items g) where
  abbrev after : File
  after = record w.file { cells = w.cells }

  abbrev files : ByNumber File
  files = maps.insert g.files w.number after

  -- a file of the group, or the one that is rewritten
  record IsOf (f : ℕ) (new : File) : Type 0 where
    old : File
    is : maps.get g.files f ≡ Some old
    copies : old.copies ≡ new.copies
    stripe : old.stripe ≡ new.stripe
    len : length old.cells ≡ length new.cells

  is_of : (f : ℕ) (new : File) → maps.get files f ≡ Some new → IsOf f new
  is_of f new found = ⊎_elim
      (λ (same : f ≡ w.number).
      let e : after ≡ new = same_Some after new (sym (got_same g.files w.number after) ∙ ap (maps.get files) (sym same) ∙ found) in
      record {
        old = w.file;
        is = ap (λ (k : ℕ). maps.get g.files k) same ∙ w.is_file;
        copies = ap (λ (x : File). x.copies) e;
        stripe = ap (λ (x : File). x.stripe) e;
        len = sym w.length_is ∙ ap (λ (x : File). length x.cells) e;
      })
      (λ differ. record {
        old = new;
        is = sym (got g.files w.number after f ∙ cond-false (f == w.number) (Some after) (maps.get g.files f) (ne_eqb f w.number differ)) ∙ found;
        copies = refl;
        stripe = refl;
        len = refl;
      })
      (cases_eq f w.number)

  same_head : (head : Option FileHead) → SameFile head (Some w.file) → SameFile head (Some after)
  same_head None e = e
  same_head (Some head) e = (e.0, (e.1.0, e.1.1, e.1.2, e.1.3, e.1.4 ∙ sym w.length_is))

  same_file : (f : ℕ) → SameFile (head_of items f) (maps.get files f)
  same_file f = ⊎_elim
      (λ (same : f ≡ w.number).
      subst (λ (o : Option File). SameFile (head_of items f) o) (sym (ap (maps.get files) same ∙ got_same g.files w.number after))
      (same_head (head_of items f) (subst (λ (o : Option File). SameFile (head_of items f) o) (ap (maps.get g.files) same ∙ w.is_file) (d.files f))))
      (λ differ. subst (λ (o : Option File). SameFile (head_of items f) o)
      (sym (got g.files w.number after f ∙ cond-false (f == w.number) (Some after) (maps.get g.files f) (ne_eqb f w.number differ))) (d.files f))
      (cases_eq f w.number)

  still_there : (f : ℕ) → is_some (maps.get files f) ≡ is_some (maps.get g.files f)
  still_there f = ⊎_elim
      (λ (same : f ≡ w.number). ap (λ (o : Option File). is_some o) (ap (maps.get files) same ∙ got_same g.files w.number after)
      ∙ sym (ap (λ (o : Option File). is_some o) (ap (maps.get g.files) same ∙ w.is_file)))
      (λ differ. ap (λ (o : Option File). is_some o) (got g.files w.number after f ∙ cond-false (f == w.number) (Some after) (maps.get g.files f) (ne_eqb f w.number differ)))
      (cases_eq f w.number)

  described : DescribesGroup r items (with_file_cells g w.number w.file w.cells)
  described = record {
    tree = d.tree;
    tree_rules = d.tree_rules;
    templates = d.templates;
    attributes = d.attributes;
    next = d.next;
    files = same_file;
    extents = λ f i copy new found has lt.
        let k = is_of f new found in
        d.extents f i copy k.old k.is
        (subst (λ (t : Stripe). IsTrue (has_extent_by_size t g.shape.au g.shape.step (length k.old.cells) i)) (sym k.stripe)
        (subst (λ (n : ℕ). IsTrue (has_extent_by_size new.stripe g.shape.au g.shape.step n i)) (sym k.len) has))
        (omega (arith, lt, k.copies));
    owned = λ f c has. subst (λ (b : Bool). IsTrue (b || is_pending f (pending_of items))) (sym (still_there f)) (d.owned f c has);
    disks = d.disks;
    regular = d.regular;
    partners = d.partners;
    room = d.room;
    extent_rules = d.extent_rules;
    places = d.places;
  }

pub rewritten_is_described : RewrittenIsDescribed
rewritten_is_described = λ r items g h rewrites d. ⊎_elim
    (λ (same : h ≡ g). subst (λ (k : Group). DescribesGroup r items k) (sym same) d)
    (λ (w : RewritesFile g h). subst (λ (k : Group). DescribesGroup r items k) (sym w.same) (described r items g h w d)) rewrites

-- a span that is put anew rewrites its file
pub put_rewrites : (x : Span) (put : ℕ → Cell) (g : Group) → Rewrites g (group_with x put g)
unfolding group_with
put_rewrites x put g = go (maps.get g.files x.file) refl
  where
    go : (o : Option File) → maps.get g.files x.file ≡ o → Rewrites g (record g { files = files_with g.shape x put g.files (maps.get g.files x.file) })
    go None is = inl (ap (λ (o : Option File). record g { files = files_with g.shape x put g.files o }) is)
    go (Some file) is = inr (record {
      number = x.file;
      file = file;
      is_file = is;
      cells = (file_with g.shape x put file).cells;
      length_is = length_stays g.shape x put file;
      same = ap (λ (o : Option File). record g { files = files_with g.shape x put g.files o }) is;
    })

-- a group that is rewritten twice in one file
pub rewritten_twice : (g : Group) (f : ℕ) (file : File) (a b : List Cell) → maps.get g.files f ≡ Some file → length a ≡ length file.cells → length b ≡ length file.cells
    → Rewrites (with_file_cells g f file a) (with_file_cells g f file b)
rewritten_twice g f file a b is len_a len_b = inr (record {
  number = f;
  file = record file { cells = a };
  is_file = got_same g.files f (record file { cells = a });
  cells = b;
  length_is = len_b ∙ sym len_a;
  same = sym (cells_twice g f file a b);
})
