-- What the disks hold of a mounted group while a piece is written, and once it was.
use Rattle.std.proofs.Common.{◌≡◌, inl, inr, ⊎_elim, ℕ, zero, suc, ◌+◌, ◌/◌, ◌%◌, ◌<◌, ◌≤◌, Bool, true, false, cond, not, List, [], ◌∷◌, length, get_or, refl, sym, ap, subst, ◌∙◌, Option, Some, None, Ok, Err, arith, add-mul, ◌*◌, ◌-◌}
use Rattle.std.specs.Prelude.{◌&&◌, ◌||◌, is_some, slice_index}
use Rattle.std.specs.Option.{option_and_then, unwrap_or}
use Rattle.std.proofs.lemmas.Bool.{and_parts, cases_lt, cond-true, eqb-true, true≢false}
use Rattle.std.proofs.lemmas.List.{get_or_past}
use Rattle.std.proofs.lemmas.Option.{none-some, same_Some}
use Rattle.std.specs.List.{list_all}
use Rattle.bay.specs.Image as bay
use Rattle.bay.specs.Image.{window}
use Rattle.bay.specs.Moments.{LeavesOnly, NowOnly}
use Rattle.bay.specs.State.{BayState, IsSound}
use Rattle.bay.proofs.Calls.{now_of}
use Rattle.asm_group.specs.Group.{Known, Free, Group}
use Rattle.asm_group.specs.Names.{Bytes}
use Rattle.asm_group.specs.Shape.{Shape}
use Rattle.asm_base.specs.declared.kinds.ExtentId.{ExtentId}
use Rattle.asm_formats.specs.Among.{IsAmong}
use Rattle.asm_formats.specs.Items.{Home, Homes, chunk_len, is_home, is_homes}
use Rattle.asm_formats.specs.Sets.{has_bit}
use Rattle.asm_placement.specs.Layout.{units_of}
use Rattle.asm_images.specs.Kept.{Kept, IsHeld}
use Rattle.asm_images.specs.Spans.{FitsIn}
use Rattle.record_laws.proofs.catalog.MovePlans.{all_at, homes_allowed}
use Rattle.record_laws.specs.catalog_tables.Rules.{homes_at, marks_of}
use Rattle.record_laws.specs.catalog_tables.Tables.{AreTables, Tables}
use Rattle.record_laws.specs.extent_map.Extents.{absent_homes, chunk_at, extent_at, has_home}
use Rattle.record_laws.proofs.extent_map.FileEnds.{item_at}
use Rattle.piece_laws.specs.Targets.{AreAllUnmarked, HaveBytes, start_of}
use Rattle.piece_laws.specs.Rewriting.{Rewrites}
use Rattle.piece_laws.proofs.Rewriting.{put_rewrites}
use Rattle.piece_laws.proofs.Settling.{freed_shape, settling_knows}
use Rattle.piece_laws.proofs.Again.{put_again}
use Rattle.piece_laws.proofs.Writing.{writing_frees}
use Rattle.record_laws.specs.group_engine.Mounts.{MountedGroup, Mounts}
use Rattle.group_pieces.specs.declared.copies.Place.{Place}
use Rattle.group_pieces.specs.Bytes.{UserBytes, WritesBytes}
use Rattle.group_pieces.specs.Copies.{HaveBut, PlacesOf}
use Rattle.group_pieces.specs.declared.writing.WriteError.{WriteError}
use Rattle.group_pieces.specs.Held.{WritesHeld, piece_freed, piece_written}
use Rattle.group_pieces.specs.Marking.{is_left, left_of, took}
use Rattle.group_pieces.specs.Usable.{FitsExtent, extent_of, piece_of, place_on_copy, places_at}
use Rattle.group_pieces.proofs.Agreeing.{unmarked}
use Rattle.group_pieces.proofs.Marked.{bit_left}
use Rattle.group_pieces.proofs.Places.{size_is}
use Rattle.group_pieces.proofs.Rewritten.{bytes_mount}
use Rattle.group_pieces.proofs.Several.{no_bit}
use Rattle.group_pieces.proofs.Targeting.{among_places, are_targets, births, fits, found, ranges_change, start_is, targets, three}
use Rattle.group_pieces.proofs.Written.{unwritten, writes_more}

-- ---- homes

-- a copy that has a home is one of three
pub copy_low : (t : Tables) → AreTables t → (f i k : ℕ) (h : Home) → get_or (homes_at t f i) k None ≡ Some h → k < 3
copy_low t tables f i k h has = by (chunk_at t.extents (f, i / 256)) refl
  where
    inside : (hs : Homes) → get_or hs k None ≡ Some h → length hs ≡ 3 → k < 3
    inside hs own three = ⊎_elim (λ lt. lt) (λ past. absurd (none-some h (sym (get_or_past hs k None (omega (arith, three, past))) ∙ own))) (cases_lt k 3)

    by : (o : Option (List Homes)) → chunk_at t.extents (f, i / 256) ≡ o → k < 3
    by None e = absurd (none-some h (ap (λ (o : Option (List Homes)). get_or (get_or (unwrap_or o []) (i % 256) []) k None) (sym e) ∙ has))
    by (Some w) e =
        let own : get_or (get_or w (i % 256) []) k None ≡ Some h = ap (λ (o : Option (List Homes)). get_or (get_or (unwrap_or o []) (i % 256) []) k None) (sym e) ∙ has in
        ⊎_elim
        (λ lt.
        let ok : is_homes (get_or w (i % 256) []) ≡ true = all_at is_homes w (i % 256) [] (homes_allowed f (i / 256) w (item_at t.extents (f, i / 256) w tables.extents.0.1 e)) lt in
        inside (get_or w (i % 256) []) own (eqb-true (length (get_or w (i % 256) [])) 3 (and_parts _ (list_all is_home (get_or w (i % 256) [])) ok).0))
        (λ past. absurd (none-some h (ap (λ (l : Homes). get_or l k None) (sym (get_or_past w (i % 256) [] past)) ∙ own)))
        (cases_lt (i % 256) (length w))

some_home : (hs : Homes) (k : ℕ) (h : Home) → k < 3 → get_or hs k None ≡ Some h → has_home hs ≡ true
some_home hs zero h lt is = ap (λ (o : Option Home). is_some o || (is_some (get_or hs 1 None) || is_some (get_or hs 2 None))) is
some_home hs (suc zero) h lt is =
    ap (λ (o : Option Home). is_some (get_or hs 0 None) || (is_some o || is_some (get_or hs 2 None))) is ∙ or_true (is_some (get_or hs 0 None))
  where
    or_true : (b : Bool) → (b || true) ≡ true
    or_true true = refl
    or_true false = refl
some_home hs (suc (suc zero)) h lt is =
    ap (λ (o : Option Home). is_some (get_or hs 0 None) || (is_some (get_or hs 1 None) || is_some o)) is ∙ both (is_some (get_or hs 0 None)) (is_some (get_or hs 1 None))
  where
    both : (a b : Bool) → (a || (b || true)) ≡ true
    both true b = refl
    both false true = refl
    both false false = refl
some_home hs (suc (suc (suc k))) h lt is = absurd (omega arith)

-- the extent has the home that its chunk has
pub extent_home : (t : Tables) (f i k : ℕ) (h : Home) → k < 3 → get_or (homes_at t f i) k None ≡ Some h → get_or (unwrap_or (extent_at t.extents f i) absent_homes) k None ≡ Some h
extent_home t f i k h lt has = by (chunk_at t.extents (f, i / chunk_len)) has
  where
    by : (o : Option (List Homes)) → get_or (get_or (unwrap_or o []) (i % chunk_len) []) k None ≡ Some h
        → get_or (unwrap_or (option_and_then (λ chunk. cond (has_home (get_or chunk (i % chunk_len) [])) (Some (get_or chunk (i % chunk_len) [])) None) o) absent_homes) k None ≡ Some h
    by None is = absurd (none-some h is)
    by (Some w) is =
        ap (λ (o : Option Homes). get_or (unwrap_or o absent_homes) k None) (cond-true (has_home (get_or w (i % chunk_len) [])) (Some (get_or w (i % chunk_len) [])) None (some_home (get_or w (i % chunk_len) []) k h lt is)) ∙ is

-- ---- copies that aren't left behind

-- a copy took the bytes at a place
pub record Took (o : Option Place) (failed : ℕ) : Type 0 where
  pub place : Place
  pub is : o ≡ Some place
  pub bit : has_bit failed place.disk ≡ false

not_left : (home mark : Bool) (o : Option Place) (failed : ℕ) → (home && (not mark && not (took failed o))) ≡ false → home ≡ true → mark ≡ false → Took o failed
not_left home mark None failed left has fresh = absurd (true≢false (sym (ap (λ (b : Bool). b && (not mark && true)) has ∙ ap (λ (b : Bool). not b && true) fresh) ∙ left))
not_left home mark (Some p) failed left has fresh = record {
  place = p;
  is = refl;
  bit = go (has_bit failed p.disk) (sym (ap (λ (b : Bool). b && (not mark && not (took failed (Some p)))) has ∙ ap (λ (b : Bool). not b && not (took failed (Some p))) fresh) ∙ left);
}
  where
    go : (b : Bool) → not (not b) ≡ false → b ≡ false
    go true is = absurd (true≢false is)
    go false is = refl

-- an unmarked copy that isn't left behind took the bytes
pub copy_took : (m : MountedGroup) (x : ExtentId) (inner failed k : ℕ) (h : Home) → is_left m (extent_of m x) inner failed k ≡ false → get_or (extent_of m x).homes k None ≡ Some h
    → has_bit (extent_of m x).marks k ≡ false → Took (place_on_copy m (extent_of m x) inner k) failed
copy_took m x inner failed k h left home fresh =
    not_left (is_some (get_or (extent_of m x).homes k None)) (has_bit (extent_of m x).marks k) (place_on_copy m (extent_of m x) inner k) failed left (ap (λ (o : Option Home). is_some o) home) fresh

pub all_took : (m : MountedGroup) (x : ExtentId) (inner failed k : ℕ) (h : Home) → k < 3 → left_of m x inner failed ≡ 0 → get_or (extent_of m x).homes k None ≡ Some h → has_bit (extent_of m x).marks k ≡ false
    → Took (place_on_copy m (extent_of m x) inner k) failed
all_took m x inner failed k h few none = copy_took m x inner failed k h (sym (bit_left m x inner failed k few) ∙ ap (λ (n : ℕ). has_bit n k) none ∙ no_bit k)

-- ---- while a piece is written

module _ (n : ℕ) (m : MountedGroup) (s t : BayState) (g : Group) (kept : Kept) (sound : IsSound s) (mounts : Mounts n m s g kept) (x : ExtentId) (inner len : ℕ)
    (piece : FitsExtent m.catalog.shape x.index inner len) (writes : WritesBytes m (PlacesOf (places_at m x inner) len) s t) where
  -- each image is held with the piece's cells Free
  pub held_freed : LeavesOnly s t (IsHeld n m.register.id (piece_freed x inner len g ∷ []) kept)
  held_freed = record {
    later = writes.runs.later;
    ended = writes.runs.ended;
    each = λ k y low high left.
        let from = writes.runs.moments k y low high left in
        (writing_frees n m.register.id g kept (piece_of x inner len) (homes_at m.catalog.tables x.file x.index) (λ j. has_bit (marks_of m.catalog.tables x.file x.index) j)
        (targets n m s g kept sound mounts x inner len piece) from.0 y (mounts.now.now from.0 from.1) (fits n m s g kept sound mounts x inner len piece)
        (are_targets n m s g kept sound mounts x inner len piece from.0 from.1) (ranges_change n m s g kept sound mounts x inner len piece from.0 y from.2)).0;
  }

  -- so it is mounted
  pub mounted_freed : Mounts n m t (piece_freed x inner len g) kept
  mounted_freed = bytes_mount s t n m g (piece_freed x inner len g) kept mounts (put_rewrites (piece_of x inner len) (λ k. Free) g)
      (writes_more m s t (PlacesOf (places_at m x inner) len) (UserBytes m) writes.user (λ slot k user. user) writes) (now_of held_freed)

-- ---- once it was written

module _ (n : ℕ) (m : MountedGroup) (s : BayState) (g : Group) (kept : Kept) (sound : IsSound s) (x : ExtentId) (inner : ℕ) (bytes : Bytes)
    (mounts : Mounts n m s (piece_freed x inner (length bytes) g) kept) (piece : FitsExtent m.catalog.shape x.index inner (length bytes)) (failed : ℕ)
    (has : NowOnly s (HaveBut (places_at m x inner) failed bytes)) (none : left_of m x inner failed ≡ 0) where
  abbrev len : ℕ
  len = length bytes

  abbrev h : Group
  h = piece_freed x inner len g

  shape : g.shape ≡ h.shape
  shape = sym (freed_shape (piece_of x inner len) g)

  fits_g : FitsIn (g ∷ []) (piece_of x inner len)
  fits_g k (inl same) = subst (λ (z : Shape). inner + len ≤ units_of z.step x.index * z.au) (sym (ap (λ (j : Group). j.shape) same ∙ shape ∙ mounts.represents.shape)) piece.inside
  fits_g k (inr absent) = absurd absent

  all_unmarked : AreAllUnmarked (homes_at m.catalog.tables x.file x.index) (λ k. has_bit (marks_of m.catalog.tables x.file x.index) k) (targets n m s h kept sound mounts x inner len piece)
  all_unmarked k home at fresh =
      let few = copy_low m.catalog.tables mounts.whole.are_tables x.file x.index k home at in
      let own = extent_home m.catalog.tables x.file x.index k home few at in
      let took = all_took m x inner failed k home few none own fresh in
      (found n m s h kept sound mounts x inner len piece).all k took.place (in_three k few) took.is
    where
      in_three : (k : ℕ) → k < 3 → IsAmong three k
      in_three zero lt = inl refl
      in_three (suc zero) lt = inr (inl refl)
      in_three (suc (suc zero)) lt = inr (inr (inl refl))
      in_three (suc (suc (suc k))) lt = absurd (omega arith)

  have_bytes : (image : bay.Image) → s.leaves s.calls image → HaveBytes g.shape (piece_of x inner len) (targets n m s h kept sound mounts x inner len piece) bytes image
  have_bytes image left t among =
      let e = (found n m s h kept sound mounts x inner len piece).each t among in
      let is = e.0 in
      let p = is.place in
      let few : t.copy < 3 = below t.copy e.1 in
      let took = all_took m x inner failed t.copy is.is.home few none is.is.at (unmarked m.register.value (extent_of m x) t.copy is.is.readable) in
      let same : took.place ≡ p = same_Some took.place p (sym took.is ∙ is.at) in
      let out : has_bit failed p.disk ≡ false = ap (λ (q : Place). has_bit failed q.disk) (sym same) ∙ took.bit in
      let there = has.now image left p (among_places n m s h kept sound mounts x inner len piece t.copy p e.1 is.at) out in
      let start : start_of g.shape (piece_of x inner len) t ≡ p.at = ap (λ (z : Shape). start_of z (piece_of x inner len) t) shape ∙ start_is n m s h kept sound mounts x inner len piece t among in
      let sized : image.size p.slot ≡ is.is.size = sound.sized p.slot is.is.size image (size_is m s mounts.ready is.is.home.disk p.slot is.is.size is.is.slot is.is.sized) left in
      let whole_in : p.at + len ≤ is.is.size = omega (arith, is.is.byte, is.is.whole, add-mul is.is.home.unit (units_of m.catalog.shape.step x.index) m.catalog.shape.au, piece.inside) in
      let inside : start_of g.shape (piece_of x inner len) t + len ≤ image.size t.slot = subst (λ (k : ℕ). start_of g.shape (piece_of x inner len) t + len ≤ image.size k) (sym is.slot) (omega (arith, start, whole_in, sized)) in (
        inside,
        ap (λ (k : ℕ). window (image.byte k) (start_of g.shape (piece_of x inner len) t) len) is.slot ∙ ap (λ (k : ℕ). window (image.byte p.slot) k len) start ∙ there,
      )
    where
      below : (k : ℕ) → IsAmong three k → k < 3
      below k among = ⊎_elim (λ z. omega (arith, z)) (λ more. ⊎_elim (λ o. omega (arith, o)) (λ last. ⊎_elim (λ w. omega (arith, w)) (λ none. absurd none) last) more) among

  -- each image is held with the bytes
  pub held_written : NowOnly s (IsHeld n m.register.id (piece_written x inner bytes g ∷ []) kept)
  held_written = record {
    now = λ image left. settling_knows n m.register.id g kept (piece_of x inner len) (homes_at m.catalog.tables x.file x.index) (λ k. has_bit (marks_of m.catalog.tables x.file x.index) k)
        (targets n m s h kept sound mounts x inner len piece) bytes image (mounts.now.now image left) fits_g (are_targets n m s h kept sound mounts x inner len piece image left)
        all_unmarked (births n m s h kept sound mounts x inner len piece) (have_bytes image left);
  }

  -- the group with the bytes is the group with the piece Free and then written
  pub written_again : piece_written x inner bytes h ≡ piece_written x inner bytes g
  written_again = put_again (piece_of x inner len) _ _ g

  -- it is mounted
  pub mounted_written : Mounts n m s (piece_written x inner bytes g) kept
  mounted_written = bytes_mount s s n m h (piece_written x inner bytes g) kept mounts
      (subst (λ (k : Group). Rewrites h k) written_again (put_rewrites (piece_of x inner len) (λ k. Known (slice_index bytes (k - inner))) h))
      (unwritten m s (UserBytes m) mounts.whole mounts.ready (λ slot k user. user)) held_written

-- ---- the write of the usable copies

module _ (m : MountedGroup) (s t : BayState) (sound : IsSound s) (sound_after : IsSound t) (x : ExtentId) (inner : ℕ) (bytes : Bytes) (piece : FitsExtent m.catalog.shape x.index inner (length bytes))
    (writes : WritesBytes m (PlacesOf (places_at m x inner) (length bytes)) s t) where
  -- no copy took them
  pub held_failing : (error : WriteError) → WritesHeld m x inner bytes (Err error) s t
  held_failing error = record {
    moments = λ n g kept mounts. held_freed n m s t g kept sound mounts x inner (length bytes) piece writes;
    mounted = λ n g kept mounts. mounted_freed n m s t g kept sound mounts x inner (length bytes) piece writes;
    known = tt;
  }

  -- some did
  pub held_taken : (failed : ℕ) → NowOnly t (HaveBut (places_at m x inner) failed bytes) → WritesHeld m x inner bytes (Ok failed) s t
  held_taken failed has = record {
    moments = λ n g kept mounts. held_freed n m s t g kept sound mounts x inner (length bytes) piece writes;
    mounted = λ n g kept mounts. mounted_freed n m s t g kept sound mounts x inner (length bytes) piece writes;
    known = λ none n g kept mounts. mounted_written n m t g kept sound_after x inner bytes (mounted_freed n m s t g kept sound mounts x inner (length bytes) piece writes) piece failed has none;
  }
