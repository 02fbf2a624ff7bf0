-- The bytes of a mounted group.
use Rattle.std.proofs.Common.{◌≡◌, inl, ⊎_elim, ℕ, suc, ◌+◌, ◌*◌, ◌/◌, ◌%◌, ◌<◌, List, [], get_or, slice_index, refl, sym, ap, subst, ◌∙◌, Option, Some, None, arith}
use Rattle.std.specs.Option.{unwrap_or}
use Rattle.std.proofs.lemmas.Option.{same_Some}
use Rattle.bay.specs.Image as bay
use Rattle.bay.specs.State.{BayState}
use Rattle.bay.specs.Moments.{NowOnly}
use Rattle.asm_group.specs.Group.{Group}
use Rattle.asm_group.specs.Shape.{Shape}
use Rattle.asm_formats.specs.Items.{Item, Homes, chunk_len}
use Rattle.asm_formats.specs.Metadata.{Metadata}
use Rattle.asm_formats.specs.Sets.{has_bit}
use Rattle.asm_formats.specs.Status.{Status}
use Rattle.asm_formats.specs.Among.{IsAmong}
use Rattle.asm_placement.specs.Tables.{home_of, homes_in, is_stale}
use Rattle.asm_images.specs.Bridge.{disks_in}
use Rattle.asm_images.specs.Copies.{IsCurrent}
use Rattle.asm_images.specs.Describing.{LiesIn}
use Rattle.asm_images.specs.Kept.{Kept}
use Rattle.asm_images.specs.Members.{Member, all_members, byte, within}
use Rattle.asm_images.specs.Directories.{IsNamed}
use Rattle.asm_images.proofs.Bridges.{disks_are_listed}
use Rattle.asm_images.proofs.History.{status_counts}
use Rattle.asm_images.proofs.Membership.{among_within}
use Rattle.asm_images.proofs.OneContent.{found_is_held}
use Rattle.rebalance.specs.catalog_tables.Rules.{marks_of}
use Rattle.rebalance.proofs.catalog_laws.HavingItems.{have_items, items_are_one}
use Rattle.rebalance.proofs.catalog_laws.ItemLists.{items_say}
use Rattle.rebalance.specs.extent_map.Extents.{Chunked, chunk_at}
use Rattle.rebalance.specs.staleness_directory.Marks.{Marked}
use Rattle.group_engine.specs.Becoming.{HoldsIn, SameBytesHold}
use Rattle.group_engine.specs.CommitSteps.{content_of_items}
use Rattle.group_engine.specs.Mounts.{MountedGroup, Mounts}
use Rattle.group_engine.proofs.Calls.{image_of, items, was}
use Rattle.group_engine.proofs.Committing.{held_before}
use Rattle.group_engine.proofs.Images.{is_committing}
use Rattle.group_engine.proofs.Slots.{member_seen, member_there}

-- ---- the bytes of another group

same_home : (a b : List Item) (f i copy : ℕ) → ((c : ℕ) → homes_in a f c ≡ homes_in b f c) → home_of a f i copy ≡ home_of b f i copy
unfolding home_of
same_home a b f i copy same = ap (λ (o : Option (List Homes)). get_or (get_or (unwrap_or o []) (i % chunk_len) []) copy None) (same (i / chunk_len))

pub same_bytes_hold : SameBytesHold
same_bytes_hold = λ id r t u g h image are_t are_u same holds slots later are_later.
    let items = have_items t are_t in
    let say_t = items_say t items.0 are_t items.1 in
    let say_u = items_say u later are_u are_later in
    let homes : (f c : ℕ) → homes_in later f c ≡ homes_in items.0 f c = λ f c. say_u.homes f c ∙ ap (λ (x : List Chunked). chunk_at x (f, c)) same.extents ∙ sym (say_t.homes f c) in
    λ f o b i inner copy file home m is_file cell lies among current.
    let old = same.cells f o b file is_file cell in
    let stale : is_stale later f i copy ≡ is_stale items.0 f i copy = say_u.stale f i copy ∙ ap (λ (x : List Marked). has_bit (marks_of (record t { stale = x }) f i) copy) same.stale ∙ sym (say_t.stale f i copy) in
    let is_current : IsCurrent r items.0 f i copy home m = record {
      home = same_home items.0 later f i copy (λ c. sym (homes f c)) ∙ current.home;
      kept = current.kept;
      fresh = sym stale ∙ current.fresh;
    } in
    subst (λ (s : Shape). byte (disks_in slots image) m.slot (home.unit * s.au + inner) ≡ b) (sym same.shape)
    (holds slots items.0 items.1 f o b i inner copy old.0 home m old.1 old.3
    (subst (λ (s : Shape). LiesIn s old.0.stripe o i inner) same.shape (subst (λ (x : _). LiesIn h.shape x o i inner) (sym old.2) lies)) among is_current)

-- ---- those of a mounted group

module _ (n : ℕ) (m : MountedGroup) (s : BayState) (g : Group) (kept : Kept) (mounts : Mounts n m s g kept) where
  abbrev id : ℕ
  id = m.register.id

  abbrev r : Status
  r = m.register.value

  -- a member in a view, in another one that has its slot
  in_view : (a b : ℕ) (x : bay.Image) (k : Member) → IsAmong (all_members id (disks_in a x)) k → k.slot < b → IsAmong (all_members id (disks_in b x)) k
  in_view a b x k among lt =
      let seen = member_seen id a x k among in
      subst (λ (d : Metadata). IsAmong (all_members id (disks_in b x)) (record { slot = k.slot; header = k.header; disk = d })) (sym seen.disk) (member_there id b k.slot x k.header lt seen.header seen.group)

  -- The known bytes of a mounted group stand in its current copies.
  pub mounted_holds : NowOnly s (HoldsIn id r m.catalog.tables g)
  mounted_holds = record {
    now = λ x left slots mine are.
        let of = image_of n m s g kept mounts x left in
        let b = slots + suc n in
        let standing = of.is_held.standing in
        let ms_n = all_members id (disks_in n x) in
        let is_r : standing.record_ ≡ r = ⊎_elim (λ e. e) (λ none. absurd none) (status_counts id ms_n (Some r) [] kept.slots standing.record_ (of.is_held.sound n).fits standing.status_is) in
        let held = found_is_held standing.record_ (within kept.slots ms_n) standing.content standing.directories_is in
        let k_n : IsAmong ms_n held.0 = among_within kept.slots ms_n held.0 held.1 in
        let k = in_view n b x held.0 k_n (omega (arith, (member_seen id n x held.0 k_n).slot)) in
        let named : IsNamed r held.0.header = subst (λ (t : Status). IsNamed t held.0.header) is_r held.2 in
        let its = items n m s g kept mounts in
        let content = was n m s g kept mounts x left in
        let c = is_committing n m mounts.whole g mounts.represents.shape kept x of x (record { size = λ a. refl; byte = λ a j out. refl }) m.store.number m.store.number its.0 its.0 content (λ a among. inl (content a among)) b in
        let d = held_before id r (content_of_items m.store.number its.0) (content_of_items m.store.number its.0) (disks_in b x) (disks_in b x) c g (of.is_held.sound b) mounts.whole.alive held.0 k named in
        let same : d.items ≡ mine = same_Some d.items its.0 (sym d.decodes) ∙ items_are_one m.catalog.tables its.0 mine its.1 are in
        λ f o v i inner copy file home a is_file cell lies among current.
        let seen = member_seen id slots x a among in
        let lt : a.slot < b = omega (arith, seen.slot) in
        let one = d.bytes f o v i inner copy file home a is_file cell lies (in_view slots b x a among lt) (subst (λ (l : List Item). IsCurrent r l f i copy home a) (sym same) current) in
        let bytes : get_or (disks_in slots x) a.slot [] ≡ get_or (disks_in b x) a.slot [] = (disks_are_listed slots a.slot x seen.slot).1 ∙ sym (disks_are_listed b a.slot x lt).1 in
        ap (λ (l : List ℕ). slice_index l (home.unit * g.shape.au + inner)) bytes ∙ one;
  }
