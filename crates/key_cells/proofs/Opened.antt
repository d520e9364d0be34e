-- How the parts of an opening follow one another.
use Rattle.key_cells.proofs.Common.{[], Absent, AreFreeFrom, ap, arith, body, cases_lt, cells_by, cells_of, frame_of, Frame, HoldsSameKeys, HasSize, HasZerosWhereClosed, IsStoreOf, layout_by, layout_of, older_size, Opens, part, Bool, Calm, cell_state, cell_count, CellState, Clearing, closed, cond, Content, content_of, contents_of, count_by, creation_of_state, DamagedCell, Disk, Elapses, false, Finds, found_in, Free, gate, get_or, get_or-map, get_or-replicate, has_id, HasNoOpenCell, HasOneEach, HoldsSinceSync, IfSome, inl, inr, is_open, is_opened, is_some, IsBlankSinceSync, IsDisk, IsFoundIn, IsImageDirectory, IsNamed, IsNumbered, IsOpen, IsOpened, IsOpenFaultOf, IsOpeningRefused, IsRefusal, IsStoreFile, LeavesWhatIsRead, length, length-map, List, map, nil_from_length, None, NoNewImage, NotAStore, Open, opened_gate, Option, Present, Reads, ReadsBelow, refl, replicate, settled_state, settled_states, Shut, Some, SoundBy, Spares, SparesSinceSync, SparesStore, StandsForContents, StillTells, subst, sum_by-cons, sym, take, take-map, true, Unsure, Within, within_both, within_none, within_one, WithinSpares, WritesItsOwn, zeros, ℕ, ⊎_elim, ◌+◌, ◌<◌, ◌∙◌, ◌∷◌, ◌≡◌, ◌≢◌, ◌≤◌, ◌⊎◌, store_size}
use Rattle.disk_face.specs.declared.Disk as Disk
use Rattle.std.proofs.{Common.ne_eqb, lemmas.List.get_or_past}
unfoldable use Rattle.key_cells.specs.Layout.{blank_store}
use Rattle.psa_status.specs.Causes.{Rose}
use Rattle.key_cells.specs.{declared.reading.OpenFault.OpenFault, declared.layout.Layout.Layout, declared.layout.Layout.TheVariants.Older, declared.layout.Layout.TheVariants.Current, Image.IsOpenable, Image.IsWhole, Opened.IsOpenedFile, Opened.KeepsKeysSinceSync}
use Rattle.key_cells.proofs.{CellsRead.content_there, CellsRead.content_within, CellsRead.for_told, CellsRead.some_weaker, Finding.not_damaged, Keeping.cells_most, Keeping.part_same, Marking.within_then, Moves.settled_alike, Moves.settled_open, SameKeys.keys_since, Whole.no_open_zeros, Whole.openable, Whole.whole}

spares_itself : (image : List ℕ) → IsStoreFile image → SparesStore image image
spares_itself image store = record {
  store = store;
  cells = omega arith;
  open_cells = λ cell lt is. (is, refl);
  shut = λ cell lt is. is;
  zeros = λ cell lt zeros. zeros;
  beyond = λ cell past lt. absurd (omega (arith, past, lt));
  cleared = λ more. absurd (⊎_elim (λ longer. omega (arith, longer)) (λ larger. omega (arith, larger)) more);
}

module _ {D : Type 0} (disks : Disk.Ghosts D) where
  -- calls that write nothing
  pub calm_none : (disk : D) → Calm disks disk disk
  calm_none disk = record { same = refl; crash = λ image left. left; within = within_none (disks.moment disk) (disks.left_since disk) (disks.may_leave disk); later = omega arith }

  pub calm_one : (old new : D) → disks.contents new ≡ disks.contents old → NoNewImage (disks.may_leave old) (disks.may_leave new) → Elapses (disks.moment old) (disks.moment new) (disks.left_since old) (disks.left_since new) (disks.may_leave new) → disks.faults old ≤ disks.faults new → Calm disks old new
  calm_one old new same crash time later = record {
    same = same;
    crash = crash;
    within = within_one (disks.moment old) (disks.moment new) (disks.left_since old) (disks.left_since new) (disks.may_leave old) (disks.may_leave new) time crash;
    later = later;
  }

  pub calm_both : (a b c : D) → Calm disks a b → Calm disks b c → Calm disks a c
  calm_both a b c first second = record {
    same = second.same ∙ first.same;
    crash = λ image left. first.crash image (second.crash image left);
    within = within_both (disks.moment a) (disks.moment b) (disks.moment c) (disks.left_since a) (disks.left_since b) (disks.left_since c) (disks.may_leave a) (disks.may_leave b) (disks.may_leave a) first.within second.within (λ image h. h) (λ image h. first.crash image h);
    later = omega (arith, first.later, second.later);
  }

  spares_calm : (old new : D) → Calm disks old new → (image : List ℕ) → WithinSpares (disks.moment old) (disks.moment new) (disks.left_since old) (disks.left_since new) (disks.may_leave old) image
  spares_calm old new calm image = record { later = calm.within.later; each = λ t other le left. ⊎_elim (λ past. inl past) (λ h. inr (inl h)) (calm.within.each t other le left) }

  since_after : (a b c : D) (bytes : List ℕ) (P : List ℕ → Type 0) → Calm disks a b → HoldsSinceSync disks b c bytes P → HoldsSinceSync disks a c bytes P
  since_after a b c bytes P calm h = record { synced = h.synced; told = h.told; only = h.only; began = omega (arith, calm.within.later, h.began); later = h.later; each = h.each }

  wrote_after : (a b c : D) (image : List ℕ) → Calm disks a b → WritesItsOwn disks b c image → WritesItsOwn disks a c image
  wrote_after a b c image calm wrote =
      ⊎_elim
      (λ none. inl (calm_both a b c calm none))
      (λ some. inr (⊎_elim
      (λ store. inl (store.0, since_after a b c image (SparesStore image) calm store.1))
      (λ file. inr (file.0, ⊎_elim (λ read. inl read) (λ blank. inr (since_after a b c blank_store HasNoOpenCell calm blank)) file.1))
      some))
      wrote

  -- since a sync each image is what was read then, or comes of the calls after it
  pub since_sync : (old synced new : D) (bytes : List ℕ) (P Q : List ℕ → Type 0) → disks.contents synced ≡ Some bytes → LeavesWhatIsRead (Some bytes) (disks.may_leave synced) → disks.moment old ≤ disks.moment synced
      → Within (disks.moment synced) (disks.moment new) (disks.left_since synced) (disks.left_since new) Q → ((image : List ℕ) → disks.left_since synced (disks.moment synced) image → disks.may_leave synced image)
      → P bytes → ((image : List ℕ) → Q image → P image) → HoldsSinceSync disks old new bytes P
  since_sync old synced new bytes P Q told only began within only_now here q = record {
    synced = synced;
    told = told;
    only = only;
    began = began;
    later = within.later;
    each = λ image left. ⊎_elim (λ past. subst P (sym (only image (only_now image past))) here) (λ h. q image h) (within.each (disks.moment synced) image (omega arith) left);
  }

  -- an opening that is refused before anything is written
  pub refused_calm : (old new : D) (fault : OpenFault) → Calm disks old new → IfSome (disks.contents old) (λ image. IsOpenFaultOf fault image) → (IsDisk fault → Rose (disks.faults old) (disks.faults new)) → (IsRefusal fault → LeavesWhatIsRead (disks.contents old) (disks.may_leave new))
      → IsOpeningRefused disks old new fault
  refused_calm old new fault calm caused rose durable = record {
    caused = caused;
    tells = ap is_some calm.same;
    later = calm.later;
    rose = rose;
    calm = λ is. calm;
    durable = durable;
    spares = for_told (disks.contents old) _ (λ image is store. spares_calm old new calm image);
    left = for_told (disks.contents old) _ (λ image is store. inl calm.crash);
    wrote = for_told (disks.contents old) _ (λ image is. inl calm);
    keys = for_told (disks.contents old) _ (λ image is opens clean. inl calm);
    spares_read = for_told (disks.contents old) _ (λ image is store. subst (λ (o : Option (List ℕ)). IfSome o (SparesStore image)) (sym (calm.same ∙ is)) (spares_itself image store));
    blank_read = for_told (disks.contents old) _ (λ image is none. subst (λ (o : Option (List ℕ)). IfSome o HasNoOpenCell) (sym (calm.same ∙ is)) (subst HasNoOpenCell (sym none) (no_open_zeros 0)));
  }

  after : (o o' : Option (List ℕ)) (P Q : List ℕ → Type 0) → o' ≡ o → ((image : List ℕ) → P image → Q image) → IfSome o' P → IfSome o Q
  after o o' P Q same f h = subst (λ (x : Option (List ℕ)). IfSome x Q) same (some_weaker o' P Q f h)

  same_told : (o o' : Option (List ℕ)) (P : List ℕ → Type 0) → o' ≡ o → IfSome o' P → IfSome o P
  same_told o o' P same h = subst (λ (x : Option (List ℕ)). IfSome x P) same h

  spares_after : (a b c : D) → Calm disks a b → (image : List ℕ) → (IsStoreFile image → WithinSpares (disks.moment b) (disks.moment c) (disks.left_since b) (disks.left_since c) (disks.may_leave b) image) → IsStoreFile image → WithinSpares (disks.moment a) (disks.moment c) (disks.left_since a) (disks.left_since c) (disks.may_leave a) image
  spares_after a b c calm image later store =
      within_both (disks.moment a) (disks.moment b) (disks.moment c) (disks.left_since a) (disks.left_since b) (disks.left_since c) (disks.may_leave a) (λ other. disks.may_leave b other ⊎ SparesStore image other) (λ other. disks.may_leave a other ⊎ SparesStore image other)
      calm.within (later store) (λ other h. inl h) (λ other h. ⊎_elim (λ left. inl (calm.crash other left)) (λ spared. inr spared) h)

  -- what an opening gives after steps that wrote nothing
  file_after : (a b c : D) → Calm disks a b → IsOpenedFile disks b c → IsOpenedFile disks a c
  file_after a b c calm o = record {
    tells = o.tells ∙ ap is_some calm.same;
    openable = same_told (disks.contents a) (disks.contents b) IsOpenable calm.same o.openable;
    whole = same_told (disks.contents a) (disks.contents b) (λ image. (other : List ℕ) → disks.may_leave c other → IsWhole image other) calm.same o.whole;
    spares = after (disks.contents a) (disks.contents b) _ _ calm.same (λ image h. spares_after a b c calm image h) o.spares;
    since_sync = after (disks.contents a) (disks.contents b) _ _ calm.same (λ image h store. since_after a b c image (SparesStore image) calm (h store)) o.since_sync;
    blank = after (disks.contents a) (disks.contents b) _ _ calm.same (λ image h none. since_after a b c blank_store HasNoOpenCell calm (h none)) o.blank;
    keys = after (disks.contents a) (disks.contents b) _ _ calm.same (λ image h opens clean. since_after a b c image (HoldsSameKeys image) calm (h opens clean)) o.keys;
  }

  pub opened_after : (a b c : D) (states : List CellState) → Calm disks a b → IsOpened disks b c states → IsOpened disks a c states
  opened_after a b c states calm o = record {
    file = file_after a b c calm o.file;
    sized = o.sized;
    one = o.one;
    numbered = o.numbered;
    named = o.named;
    found = same_told (disks.contents a) (disks.contents b) (λ image. IsFoundIn image states) calm.same o.found;
    stands = same_told (disks.contents a) (disks.contents b) (λ image. StandsForContents disks c states (found_in image)) calm.same o.stands;
  }

  pub refused_after : (a b c : D) (fault : OpenFault) → Calm disks a b → IsOpeningRefused disks b c fault → IsOpeningRefused disks a c fault
  refused_after a b c fault calm r = record {
    caused = after (disks.contents a) (disks.contents b) (λ image. IsOpenFaultOf fault image) (λ image. IsOpenFaultOf fault image) calm.same (λ image h. h) r.caused;
    tells = r.tells ∙ ap is_some calm.same;
    later = omega (arith, calm.later, r.later);
    rose = λ is. omega (arith, calm.later, r.rose is);
    calm = λ is. calm_both a b c calm (r.calm is);
    durable = λ is. subst (λ (o : Option (List ℕ)). LeavesWhatIsRead o (disks.may_leave c)) calm.same (r.durable is);
    spares = after (disks.contents a) (disks.contents b) _ _ calm.same (λ image h. spares_after a b c calm image h) r.spares;
    left = after (disks.contents a) (disks.contents b) _ (λ image. IsStoreFile image → NoNewImage (disks.may_leave a) (disks.may_leave c) ⊎ ((other : List ℕ) → disks.may_leave c other → SparesStore image other)) calm.same
        (λ image h store. ⊎_elim (λ none. inl (λ other left. calm.crash other (none other left))) (λ spared. inr spared) (h store)) r.left;
    wrote = after (disks.contents a) (disks.contents b) _ _ calm.same (λ image h. wrote_after a b c image calm h) r.wrote;
    keys = after (disks.contents a) (disks.contents b) _ (λ image. Opens image → HasZerosWhereClosed image → Calm disks a c ⊎ KeepsKeysSinceSync disks a c image) calm.same
        (λ image h opens clean. ⊎_elim (λ none. inl (calm_both a b c calm none)) (λ kept. inr (since_after a b c image (HoldsSameKeys image) calm kept)) (h opens clean)) r.keys;
    spares_read = after (disks.contents a) (disks.contents b) (λ image. IsStoreFile image → IfSome (disks.contents c) (SparesStore image)) _ calm.same (λ image h. h) r.spares_read;
    blank_read = after (disks.contents a) (disks.contents b) (λ image. image ≡ [] → IfSome (disks.contents c) HasNoOpenCell) _ calm.same (λ image h. h) r.blank_read;
  }

pub no_opened_gate : (g : List ℕ) → g ≢ opened_gate → is_opened g ≡ false
no_opened_gate [] differs = refl
no_opened_gate (x ∷ []) differs = ne_eqb x 0xa5 (λ is. differs (ap (λ (y : ℕ). y ∷ []) is))
no_opened_gate (x ∷ y ∷ rest) differs = refl

pub not_opened : (g b : List ℕ) → g ≢ opened_gate → content_of g b ≡ Absent
not_opened g b differs = ap (λ (t : Bool). cond t (Present b) Absent) (no_opened_gate g differs)

-- what is read of a cell is what is spared of it
reads_spares : (state : CellState) (gate body : List ℕ) → Reads state gate body → Spares state (content_of gate body) gate body
reads_spares Free gate body r = subst (λ (g : List ℕ). Spares Free (content_of g body) g body) (sym r.0) (refl, r.1)
reads_spares (Open id creation) gate body r = subst (λ (g : List ℕ). Spares (Open id creation) (content_of g body) g body) (sym r.0) (refl, refl)
reads_spares Shut gate body r = subst (λ (g : List ℕ). Spares Shut (content_of g body) g body) (sym r.0) refl
reads_spares Unsure gate body r = subst (λ (c : Content). Spares Unsure c gate body) (sym (not_opened gate body r.0)) tt

pub content_found : (cell : ℕ) (image : List ℕ) → cell < cells_of image → get_or (contents_of image) cell Absent ≡ content_of (gate cell image) (body cell image)
content_found cell image lt = content_there cell image (omega (arith, lt, cells_most image)) ∙ content_within cell image lt

pub reads_sound : (states : List CellState) (image : List ℕ) → ReadsBelow (cells_of image) states image → SoundBy (frame_of image) Spares states (contents_of image) image
reads_sound states image reads = record {
  size = refl;
  header = refl;
  each = λ cell lt. rw (content_found cell image lt) (reads_spares (cell_state states cell) (gate cell image) (body cell image) (reads cell lt));
}

-- what is spared is each open cell, byte for byte
spares_open : (states : List CellState) (image other : List ℕ) → SoundBy (frame_of image) Spares states (contents_of image) other
    → (cell : ℕ) → cell < cells_of image → IsOpen cell image → IsOpen cell other × (body cell other ≡ body cell image)
spares_open states image other s cell lt is =
    let there : get_or (contents_of image) cell Absent ≡ Present (body cell image) = content_found cell image lt ∙ ap (λ (g : List ℕ). content_of g (body cell image)) is in
    by (cell_state states cell) (gate cell other) (body cell other) (subst (λ (c : Content). Spares (cell_state states cell) c (gate cell other) (body cell other)) there (s.each cell lt))
  where
    by : (state : CellState) (g b : List ℕ) → Spares state (Present (body cell image)) g b → (g ≡ opened_gate) × (b ≡ body cell image)
    by (Open id creation) g b h = h
    by state g b h = absurd h

-- and a cell that was closed by 0, or was all zeros, still is
shut_still : (state : CellState) (b g' b' : List ℕ) → Reads state closed b → Spares state Absent g' b' → g' ≡ closed
shut_still Free b g' b' r s = s.0
shut_still (Open id creation) b g' b' r s = absurd s
shut_still Shut b g' b' r s = s
shut_still Unsure b g' b' r s = absurd (r.1 refl)

zeros_still : (state : CellState) (g' b' : List ℕ) → Reads state closed zeros → Spares state Absent g' b' → (g' ≡ closed) × (b' ≡ zeros)
zeros_still Free g' b' r s = s
zeros_still (Open id creation) g' b' r s = absurd s
zeros_still Shut g' b' r s = absurd (r.1 refl)
zeros_still Unsure g' b' r s = absurd (r.1 refl)

-- the header tells the layout
pub same_layout : (image other : List ℕ) → part 0 64 other ≡ part 0 64 image → layout_of other ≡ layout_of image
same_layout image other same = ap layout_by (part_same 64 8 1 other image (omega arith) same)

pub spares_store : (states : List CellState) (image other : List ℕ) → IsStoreFile image → ReadsBelow (cells_of image) states image → SoundBy (frame_of image) Spares states (contents_of image) other → SparesStore image other
spares_store states image other store reads s = record {
  store = record {
    name = part_same 64 0 8 other image (omega arith) s.header ∙ store.name;
    rest = part_same 64 9 55 other image (omega arith) s.header ∙ store.rest;
    size = subst (λ (n : ℕ). HasSize (layout_of other) n) (sym s.size) (subst (λ (l : Layout). HasSize l (length image)) (sym layout) store.size);
  };
  cells = omega (arith, ap cells_by layout);
  open_cells = spares_open states image other s;
  shut = λ cell lt is. shut_still (cell_state states cell) (body cell image) (gate cell other) (body cell other) (read cell lt is) (spared cell lt is);
  zeros = λ cell lt are. zeros_still (cell_state states cell) (gate cell other) (body cell other) (subst (λ (b : List ℕ). Reads (cell_state states cell) closed b) are.1 (read cell lt are.0)) (spared cell lt are.0);
  beyond = λ cell past lt. absurd (omega (arith, past, lt, ap cells_by layout));
  cleared = λ more. absurd (⊎_elim (λ longer. omega (arith, longer, s.size)) (λ larger. omega (arith, larger, ap cells_by layout)) more);
}
  where
    layout : layout_of other ≡ layout_of image
    layout = same_layout image other s.header

    read : (cell : ℕ) → cell < cells_of image → gate cell image ≡ closed → Reads (cell_state states cell) closed (body cell image)
    read cell lt is = subst (λ (g : List ℕ). Reads (cell_state states cell) g (body cell image)) is (reads cell lt)

    spared : (cell : ℕ) → cell < cells_of image → gate cell image ≡ closed → Spares (cell_state states cell) Absent (gate cell other) (body cell other)
    spared cell lt is = subst (λ (c : Content). Spares (cell_state states cell) c (gate cell other) (body cell other)) (content_found cell image lt ∙ ap (λ (g : List ℕ). content_of g (body cell image)) is) (s.each cell lt)

-- the directory once no cell is left over
settled_has : (id : ℕ) (state : CellState) → has_id id (settled_state state) ≡ has_id id state
settled_has id state = settled_alike (has_id id) refl refl state

key_of : CellState → ℕ
key_of state = cond (is_open state) 1 0

settled_count : (states : List CellState) → count_by is_open (map settled_state states) ≡ count_by is_open states
unfolding key_of
settled_count [] = refl
settled_count (state ∷ states) =
    sum_by-cons key_of (settled_state state) (map settled_state states)
    ∙ (ap (λ (b : Bool). cond b 1 0 + count_by is_open (map settled_state states)) (settled_open state)
    ∙ (ap (λ (n : ℕ). key_of state + n) (settled_count states)
    ∙ sym (sum_by-cons key_of state states)))

module _ (states states' : List CellState) (count : length states ≡ cell_count) (is : states' ≡ settled_states states) where
  at : (cell : ℕ) → cell < cell_count → cell_state states' cell ≡ settled_state (cell_state states cell)
  at cell lt = ap (λ (l : List CellState). cell_state l cell) is ∙ get_or-map settled_state states cell Free Free (omega (arith, count))

  pub settled_one : HasOneEach cell_count states → HasOneEach cell_count states'
  settled_one one id cell other lt lt' has has' =
      one id cell other lt lt'
      (sym (settled_has id (cell_state states cell)) ∙ (ap (has_id id) (sym (at cell lt)) ∙ has))
      (sym (settled_has id (cell_state states other)) ∙ (ap (has_id id) (sym (at other lt')) ∙ has'))

  pub settled_named : IsNamed cell_count states → IsNamed cell_count states'
  settled_named named id cell lt has = named id cell lt (sym (settled_has id (cell_state states cell)) ∙ (ap (has_id id) (sym (at cell lt)) ∙ has))

  pub settled_numbered : IsNumbered cell_count states → IsNumbered cell_count states'
  settled_numbered numbered cell lt open_now =
      ap creation_of_state (at cell lt) ∙ (settled_alike creation_of_state refl refl (cell_state states cell)
      ∙ (numbered cell lt (sym (settled_open (cell_state states cell)) ∙ (ap is_open (sym (at cell lt)) ∙ open_now))
      ∙ (sym (settled_count (take cell states)) ∙ ap (count_by is_open) (sym (ap (take cell) is ∙ take-map settled_state cell states)))))

  finds : (state : CellState) (g b : List ℕ) → Reads state g b → Finds (settled_state state) g b
  finds Free g b r = λ e. let clash : closed ≡ opened_gate = sym r.0 ∙ e in cc
  finds Shut g b r = λ e. let clash : closed ≡ opened_gate = sym r.0 ∙ e in cc
  finds Unsure g b r = r.0
  finds (Open id creation) g b r = r

  pub free_still : (from : ℕ) → AreFreeFrom from states → AreFreeFrom from states'
  free_still from free cell past = ⊎_elim
      (λ lt. at cell lt ∙ ap settled_state (free cell past))
      (λ over. ap (λ (l : List CellState). cell_state l cell) is ∙ get_or_past (settled_states states) cell Free (omega (arith, over, length-map states settled_state, count)))
      (cases_lt cell cell_count)

  pub settled_directory : (image : List ℕ) → IsStoreFile image → ReadsBelow (cells_of image) states image → AreFreeFrom (cells_of image) states → HasOneEach cell_count states → IsImageDirectory states' image
  settled_directory image store reads free one = record {
    opens = record { store = store; sound = λ cell lt damaged. not_damaged (cells_of image) states image reads (λ id c other less less'. one id c other (omega (arith, less, few)) (omega (arith, less', few))) cell lt damaged };
    beyond = free_still (cells_of image) free;
    each = λ cell lt. subst (λ (s : CellState). Finds s (gate cell image) (body cell image)) (sym (at cell (omega (arith, lt, few)))) (finds (cell_state states cell) (gate cell image) (body cell image) (reads cell lt));
  }
    where
      few : cells_of image ≤ cell_count
      few = cells_most image

-- a new store, of an image of no bytes
pub store_long : (image : List ℕ) → IsStoreFile image → older_size ≤ length image
store_long image store = by (layout_of image) store.size
  where
    by : (l : Layout) → HasSize l (length image) → older_size ≤ length image
    by Older size = size.0
    by Current size = omega (arith, size)

pub no_store : (told : Option (List ℕ)) (size : ℕ) (P : List ℕ → Type 0) → size ≡ 0 → IfSome told (λ image. length image ≡ size) → IfSome told (λ image. IsStoreFile image → P image)
no_store None size P none measured = tt
no_store (Some image) size P none measured = λ store. absurd (omega (arith, none, store_long image store, measured))

pub of_nothing : (told : Option (List ℕ)) (size : ℕ) (P : List ℕ → Type 0) → size ≡ 0 → IfSome told (λ image. length image ≡ size) → P [] → IfSome told P
of_nothing None size P none measured h = tt
of_nothing (Some image) size P none measured h = subst P (sym (nil_from_length image (measured ∙ none))) h

-- what a new file is that isn't made yet
abbrev pub IsBlankFile : {D : Type 0} → Disk.Ghosts D → D → D → Type 0
IsBlankFile disks old new = IfSome (disks.contents new) HasNoOpenCell × (IfSome (disks.contents new) (λ read. read ≡ replicate (length read) 0) ⊎ IsBlankSinceSync disks old new)

pub refused_new : {D : Type 0} (disks : Disk.Ghosts D) (old new : D) (size : ℕ)
    → size ≡ 0 → IfSome (disks.contents old) (λ image. length image ≡ size) → StillTells (disks.contents old) (disks.contents new) → disks.faults old ≤ disks.faults new → Rose (disks.faults old) (disks.faults new)
    → ((image : List ℕ) → disks.contents old ≡ Some image → length image ≡ 0 → IsBlankFile disks old new) → IsOpeningRefused disks old new Disk
refused_new disks old new size none measured tells later rose blank = record {
  tells = tells;
  later = later;
  calm = λ is. absurd is;
  caused = of_nothing (disks.contents old) size (λ image. IsOpenFaultOf Disk image) none measured tt;
  rose = λ is. rose;
  durable = λ is. absurd is;
  spares = no_store (disks.contents old) size _ none measured;
  left = no_store (disks.contents old) size _ none measured;
  wrote = for_told (disks.contents old) _ (λ image is. inr (inr (nil_from_length image (empty image is), (blank image is (empty image is)).1)));
  keys = for_told (disks.contents old) _ (λ image is opens clean. absurd (omega (arith, store_long image opens.store, empty image is)));
  spares_read = no_store (disks.contents old) size _ none measured;
  blank_read = for_told (disks.contents old) _ (λ image is nothing. (blank image is (empty image is)).0);
}
  where
    empty : (image : List ℕ) → disks.contents old ≡ Some image → length image ≡ 0
    empty image is = subst (λ (told : Option (List ℕ)). IfSome told (λ bytes. length bytes ≡ size)) is measured ∙ none

-- a store that was read, of an image that isn't empty
pub of_store : (told : Option (List ℕ)) (P : List ℕ → List Content → Type 0) → IfSome told (λ image. IsStoreFile image × P image (contents_of image)) → IfSome told (λ image. P image (found_in image))
of_store None P h = tt
of_store (Some []) P h = absurd (omega (arith, store_long [] h.0))
of_store (Some (byte ∷ rest)) P h = h.1

pub of_directory : (told : Option (List ℕ)) (states : List CellState) → IfSome told (λ image. IsImageDirectory states image) → IfSome told (λ image. IsFoundIn image states)
of_directory None states h = tt
of_directory (Some []) states h = absurd (omega (arith, store_long [] h.opens.store))
of_directory (Some (byte ∷ rest)) states h = h

-- no state of a new store has a key
pub none_has : (f : CellState → Bool) (cell : ℕ) (states : List CellState) → f Free ≡ false → states ≡ replicate cell_count Free → cell < cell_count → f (cell_state states cell) ≡ true → ⊥
none_has f cell states none are lt has =
    let clash : false ≡ true = sym (ap f (ap (λ (l : List CellState). cell_state l cell) are ∙ get_or-replicate cell_count cell Free Free lt) ∙ none) ∙ has in
    cc

-- a fault that isn't for what the image has
others_fault : (fault : OpenFault) (image : List ℕ) → (IsRefusal fault → ⊥) → IsOpenFaultOf fault image
others_fault NotAStore image other = absurd (other tt)
others_fault (DamagedCell cell) image other = absurd (other tt)
others_fault fault image other = tt

-- A store was read, of which nothing is pending.
module _ {D : Type 0} (disks : Disk.Ghosts D) (disk : D) (layout : Layout) (states : List CellState) (durable : LeavesWhatIsRead (disks.contents disk) (disks.may_leave disk)) (store : IfSome (disks.contents disk) (IsStoreOf layout)) (reads : IfSome (disks.contents disk) (ReadsBelow (cells_by layout) states)) where
  only : (image : List ℕ) → disks.contents disk ≡ Some image → LeavesWhatIsRead (Some image) (disks.may_leave disk)
  only image is = subst (λ (o : Option (List ℕ)). LeavesWhatIsRead o (disks.may_leave disk)) is durable

  pub here : (image : List ℕ) → disks.contents disk ≡ Some image → IsStoreOf layout image
  here image is = subst (λ (o : Option (List ℕ)). IfSome o (IsStoreOf layout)) is store

  read : (image : List ℕ) → disks.contents disk ≡ Some image → ReadsBelow (cells_of image) states image
  read image is = subst (λ (l : Layout). ReadsBelow (cells_by l) states image) (sym (here image is).1) (subst (λ (o : Option (List ℕ)). IfSome o (ReadsBelow (cells_by layout) states)) is reads)

  -- what was read, before any cell that is left over is cleared
  pub read_begins : (image : List ℕ) → disks.contents disk ≡ Some image → Clearing disks disk (frame_of image) states states (contents_of image)
  read_begins image is = record {
    now = image;
    is_told = is;
    reads = reads_sound states image (read image is);
    each = λ other left. subst (λ (x : List ℕ). SoundBy (frame_of image) Spares states (contents_of image) x) (sym (only image is other left)) (reads_sound states image (read image is));
    shut = λ cell lt shut. shut;
    unsure = λ cell lt unsure. unsure;
  }

  pub cleared : (image : List ℕ) → disks.contents disk ≡ Some image → (other : List ℕ) → SoundBy (frame_of image) Spares states (contents_of image) other → SparesStore image other
  cleared image is other s = spares_store states image other (here image is).0 (read image is) s

  -- every image within the calls is spared
  abbrev pub SparesWithin : D → Type 0
  SparesWithin new = (image : List ℕ) → disks.contents disk ≡ Some image → Within (disks.moment disk) (disks.moment new) (disks.left_since disk) (disks.left_since new) (SparesStore image)

  pub cleared_within : (new : D) → ((frame : Frame) (contents : List Content) → Clearing disks disk frame states states contents → Within (disks.moment disk) (disks.moment new) (disks.left_since disk) (disks.left_since new) (SoundBy frame Spares states contents)) → SparesWithin new
  cleared_within new within image is =
      within_then (disks.moment disk) (disks.moment new) (disks.left_since disk) (disks.left_since new) (SoundBy (frame_of image) Spares states (contents_of image)) (SparesStore image)
      (within (frame_of image) (contents_of image) (read_begins image is)) (cleared image is)

  read_spares : (new : D) → SparesWithin new → IfSome (disks.contents disk) (λ image. IsStoreFile image → WithinSpares (disks.moment disk) (disks.moment new) (disks.left_since disk) (disks.left_since new) (disks.may_leave disk) image)
  read_spares new within = for_told (disks.contents disk) _ (λ image is file.
      within_then (disks.moment disk) (disks.moment new) (disks.left_since disk) (disks.left_since new) (SparesStore image) (λ other. disks.may_leave disk other ⊎ SparesStore image other) (within image is) (λ other h. inr h))

  abbrev pub IsNow : Type 0
  IsNow = (image : List ℕ) → disks.left_since disk (disks.moment disk) image → disks.may_leave disk image

  read_since : (new : D) → IsNow → SparesWithin new → (image : List ℕ) → disks.contents disk ≡ Some image → SparesSinceSync disks disk new image
  read_since new only_now within image is =
      since_sync disks disk disk new image (SparesStore image) (SparesStore image) is (only image is) (omega arith) (within image is) only_now (spares_itself image (here image is).0) (λ other h. h)

  pub read_opened : (new : D) (states' : List CellState) → IsNow → AreFreeFrom (cells_by layout) states → length states ≡ cell_count → states' ≡ settled_states states → HasOneEach cell_count states → IsNumbered cell_count states → IsNamed cell_count states → StillTells (disks.contents disk) (disks.contents new)
      → ((image : List ℕ) → disks.contents disk ≡ Some image → StandsForContents disks new states' (contents_of image)) → SparesWithin new
      → IsOpened disks disk new states'
  read_opened new states' only_now free count is one numbered named tells stands within = record {
    file = record {
      tells = tells;
      openable = openable (disks.contents disk) states' found;
      whole = whole disks new states' (disks.contents disk) found stand;
      spares = read_spares new within;
      since_sync = for_told (disks.contents disk) _ (λ image told_is file. read_since new only_now within image told_is);
      blank = for_told (disks.contents disk) _ (λ image told_is none. absurd (omega (arith, store_long image (here image told_is).0, ap length none)));
      keys = for_told (disks.contents disk) _ (λ image told_is opens clean. keys_since disks disk new image (read_since new only_now within image told_is) opens clean);
    };
    sized = ap length is ∙ (length-map states settled_state ∙ count);
    one = settled_one states states' count is one;
    numbered = settled_numbered states states' count is numbered;
    named = settled_named states states' count is named;
    found = found;
    stands = stand;
  }
    where
      found : IfSome (disks.contents disk) (λ image. IsFoundIn image states')
      found = of_directory (disks.contents disk) states' (for_told (disks.contents disk) _ (λ image told_is.
          settled_directory states states' count is image (here image told_is).0 (read image told_is) (subst (λ (l : Layout). AreFreeFrom (cells_by l) states) (sym (here image told_is).1) free) one))

      stand : IfSome (disks.contents disk) (λ image. StandsForContents disks new states' (found_in image))
      stand = of_store (disks.contents disk) (λ image contents. StandsForContents disks new states' contents) (for_told (disks.contents disk) _ (λ image told_is. ((here image told_is).0, stands image told_is)))

  read_opens : HasOneEach cell_count states → (image : List ℕ) → disks.contents disk ≡ Some image → Opens image
  read_opens one image is = record { store = (here image is).0; sound = λ cell lt damaged. not_damaged (cells_of image) states image (read image is) (λ id c other less less'. one id c other (omega (arith, less, cells_most image)) (omega (arith, less', cells_most image))) cell lt damaged }

  pub read_refused : (new : D) (fault : OpenFault) → IsNow → HasOneEach cell_count states → (IsRefusal fault → ⊥) → IfSome (disks.contents new) (disks.may_leave new) → StillTells (disks.contents disk) (disks.contents new) → disks.faults disk ≤ disks.faults new → (IsDisk fault → Rose (disks.faults disk) (disks.faults new))
      → ((image : List ℕ) → disks.contents disk ≡ Some image → (other : List ℕ) → disks.may_leave new other → SparesStore image other) → SparesWithin new
      → IsOpeningRefused disks disk new fault
  read_refused new fault only_now one other_fault read_now tells later rose left within = record {
    tells = tells;
    later = later;
    calm = λ is. absurd (other_fault is);
    caused = for_told (disks.contents disk) _ (λ image is. others_fault fault image other_fault);
    rose = rose;
    durable = λ is. absurd (other_fault is);
    spares = read_spares new within;
    left = for_told (disks.contents disk) _ (λ image is file. inr (left image is));
    wrote = for_told (disks.contents disk) _ (λ image is. inr (inl (read_opens one image is, read_since new only_now within image is)));
    keys = for_told (disks.contents disk) _ (λ image is opens clean. inr (keys_since disks disk new image (read_since new only_now within image is) opens clean));
    spares_read = for_told (disks.contents disk) _ (λ image is file. some_weaker (disks.contents new) (disks.may_leave new) (SparesStore image) (λ other has. left image is other has) read_now);
    blank_read = for_told (disks.contents disk) _ (λ image is none. absurd (omega (arith, store_long image (here image is).0, ap length none)));
  }

-- nothing is pending still
pub durable_still : {D : Type 0} (disks : Disk.Ghosts D) (old new : D) → LeavesWhatIsRead (disks.contents old) (disks.may_leave old) → NoNewImage (disks.may_leave old) (disks.may_leave new) → LeavesWhatIsRead (disks.contents old) (disks.may_leave new)
durable_still disks old new durable crash = by (disks.contents old) durable
  where
    by : (o : Option (List ℕ)) → LeavesWhatIsRead o (disks.may_leave old) → LeavesWhatIsRead o (disks.may_leave new)
    by None h = tt
    by (Some bytes) h = λ image left. h image (crash image left)

pub told_nothing : (o : Option (List ℕ)) → IfSome o (λ image. Unit {0})
told_nothing None = tt
told_nothing (Some image) = tt

-- a length that is neither 0 nor a store's
pub no_store_of : (o : Option (List ℕ)) (size : ℕ) → (size ≡ 0 → ⊥) → ((older_size ≤ size) → (size ≤ store_size) → ⊥) → IfSome o (λ image. length image ≡ size) → IfSome o (λ image. IsOpenFaultOf NotAStore image)
no_store_of None size some other measured = tt
no_store_of (Some image) size some other measured = record {
  some = λ none. some (sym measured ∙ none);
  other = λ store. other (omega (arith, measured, store_long image store)) (by (layout_of image) store.size);
}
  where
    by : (l : Layout) → HasSize l (length image) → size ≤ store_size
    by Older h = omega (arith, h.1, measured)
    by Current h = omega (arith, h, measured)
