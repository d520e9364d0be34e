-- What a store is after its file has grown, and that each image keeps its keys.
use Rattle.key_cells.proofs.Common.{Absent, AreFreeFrom, Bool, cell_state, Clearing, Free, get_or, HasZeros, Open, settled_state, settled_states, Shut, Unsure, zeros, Content, Frame, IfSome, LeavesWhatIsRead, ReadsBelow, Spares, StillTells, Within, within_both, HasSize, IsOpen, IsStoreFile, IsStoreOf, List, Option, Shows, Some, None, SoundBy, SparesStore, StandsForContents, CellState, [], ap, arith, body, cases_lt, cell_count, cells_by, cells_of, closed, cond, contents_of, drop, drop-drop, eqb-true, frame_of, gate, header, is_some, layout_by, layout_of, length, older_cell_count, part, refl, store_name, store_size, subst, sym, take, true, false, ℕ, ⊎_elim, ◌++◌, ◌<◌, ◌==◌, ◌∙◌, ◌∷◌, ◌≡◌, ◌≤◌}
use Rattle.disk_face.specs.declared.Disk as Disk
use Rattle.std.proofs.Common.{take-add}
use Rattle.key_cells.specs.{declared.layout.Layout.Layout, declared.layout.Layout.TheVariants.Older, declared.layout.Layout.TheVariants.Current, Growth.Each, Growth.GrowsFrom}
use Rattle.key_cells.proofs.{CellsRead.content_beyond, CellsRead.content_there, CellsRead.for_told, CellsRead.length-contents_of, Clearing.settled_after, Opened.cleared, Opened.cleared_within, Opened.content_found, Opened.free_still, Opened.here, Opened.not_opened, Opened.read_begins, Opened.same_layout}

-- the layout of an image that reads as a store's
told_some : (o : Option (List ℕ)) → is_some o ≡ true → (x : List ℕ) × (o ≡ Some x)
told_some None is = cc
told_some (Some x) is = (x, refl)

-- the header and the length of a file of today's layout
by_byte : (bytes : List ℕ) → layout_by bytes ≡ Current → bytes ≡ 2 ∷ []
by_byte [] is = cc
by_byte (x ∷ []) is = by (x == 2) refl is
  where
    by : (b : Bool) → (x == 2) ≡ b → cond b Current Older ≡ Current → x ∷ [] ≡ 2 ∷ []
    by true two is = ap (λ (y : ℕ). y ∷ []) (eqb-true x 2 two)
    by false other is = cc
by_byte (x ∷ y ∷ rest) is = cc

whole_header : (image : List ℕ) → part 0 64 image ≡ part 0 8 image ++ (part 8 1 image ++ part 9 55 image)
whole_header image =
    take-add 8 56 image ∙ ap (λ (rest : List ℕ). take 8 image ++ rest) (take-add 1 55 (drop 8 image) ∙ ap (λ (x : List ℕ). part 8 1 image ++ take 55 x) (drop-drop 1 8 image))

pub current_header : (image : List ℕ) → IsStoreFile image → layout_of image ≡ Current → part 0 64 image ≡ header
unfolding header
current_header image store is =
    whole_header image
    ∙ ap (λ (x : List ℕ). x ++ (part 8 1 image ++ part 9 55 image)) store.name
    ∙ ap (λ (x : List ℕ). store_name ++ (x ++ part 9 55 image)) (by_byte (part 8 1 image) is)
    ∙ ap (λ (x : List ℕ). store_name ++ (2 ∷ x)) store.rest

pub current_size : (image : List ℕ) → IsStoreFile image → layout_of image ≡ Current → length image ≡ store_size
current_size image store is = subst (λ (l : Layout). HasSize l (length image)) is store.size

-- a store of today's layout of which nothing is left over
pub current_stands : {D : Type 0} (disks : Disk.Ghosts D) (disk : D) (states : List CellState) (image : List ℕ) → IsStoreOf Current image → is_some (disks.contents disk) ≡ true
    → ((other : List ℕ) → disks.may_leave disk other → SoundBy (frame_of image) Shows states (contents_of image) other) → StandsForContents disks disk states (contents_of image)
current_stands disks disk states image store tells sound = record {
  tells = tells;
  count = length-contents_of image;
  each = λ other left.
      let s = sound other left in
      record {
        size = s.size ∙ current_size image store.0 store.1;
        header = s.header ∙ current_header image store.0 store.1;
        each = λ cell lt. s.each cell (omega (arith, lt, ap cells_by store.1));
      };
}

-- what is spared of an older store is spared as its file grows
cells_least : (image : List ℕ) → older_cell_count ≤ cells_of image
cells_least image = by (layout_of image)
  where
    by : (l : Layout) → older_cell_count ≤ cells_by l
    by Older = omega arith
    by Current = omega arith

pub grows_spares : (image bytes other : List ℕ) → layout_of image ≡ Older → SparesStore image bytes → ((cell : ℕ) → cell < cells_of image → (IsOpen cell image → ⊥) → HasZeros cell bytes) → GrowsFrom bytes other → SparesStore image other
grows_spares image bytes other older s clean g = record {
  store = g.store s.store;
  cells = omega (arith, few, cells_least other);
  open_cells = λ cell lt is. let here = s.open_cells cell lt is in (g.gates cell (within cell lt) ∙ here.0, g.bodies cell (within cell lt) ∙ here.1);
  shut = λ cell lt is. g.gates cell (within cell lt) ∙ s.shut cell lt is;
  zeros = λ cell lt are. let here = s.zeros cell lt are in (g.gates cell (within cell lt) ∙ here.0, g.bodies cell (within cell lt) ∙ here.1);
  beyond = λ cell past lt. g.beyond cell (omega (arith, past, few)) lt;
  cleared = λ more cell lt shut. let here = clean cell lt shut in (g.gates cell (within cell lt) ∙ here.0, g.bodies cell (within cell lt) ∙ here.1);
}
  where
    few : cells_of image ≡ older_cell_count
    few = ap cells_by older

    within : (cell : ℕ) → cell < cells_of image → cell < older_cell_count
    within cell lt = omega (arith, lt, few)

-- a cell that isn't open is all zeros once none is left over
shows_zeros : (state : CellState) (g b : List ℕ) → state ≡ settled_state state → Shows state Absent g b → (g ≡ closed) × (b ≡ zeros)
shows_zeros Free g b settled s = s
shows_zeros (Open id creation) g b settled s = absurd s
shows_zeros Shut g b settled s = cc
shows_zeros Unsure g b settled s = cc

-- and the store stands for what it contained
pub grown_stands : {D : Type 0} (disks : Disk.Ghosts D) (disk : D) (states : List CellState) (image bytes : List ℕ) → layout_of image ≡ Older → IsStoreFile bytes → AreFreeFrom older_cell_count states → is_some (disks.contents disk) ≡ true
    → SoundBy (frame_of image) Shows states (contents_of image) bytes → ((other : List ℕ) → disks.may_leave disk other → GrowsFrom bytes other) → ((other : List ℕ) → disks.may_leave disk other → layout_of other ≡ Current)
    → StandsForContents disks disk states (contents_of image)
grown_stands disks disk states image bytes older store free tells sound grows now = record {
  tells = tells;
  count = length-contents_of image;
  each = λ other left.
      let g = grows other left in
      let is = now other left in
      record {
        size = current_size other (g.store store) is;
        header = current_header other (g.store store) is;
        each = λ cell lt. ⊎_elim
            (λ less. rw (g.gates cell less, g.bodies cell less) (sound.each cell (omega (arith, less, few))))
            (λ past. rw (free cell past, content_there cell image lt ∙ content_beyond cell image (omega (arith, past, few))) (g.beyond cell past (omega (arith, lt, ap cells_by is))))
            (cases_lt cell older_cell_count);
      };
}
  where
    few : cells_of image ≡ older_cell_count
    few = ap cells_by older

-- A store was read, and cleared.
module _ {D : Type 0} (disks : Disk.Ghosts D) (disk mid : D) (layout : Layout) (states : List CellState) (durable : LeavesWhatIsRead (disks.contents disk) (disks.may_leave disk)) (store : IfSome (disks.contents disk) (IsStoreOf layout)) (reads : IfSome (disks.contents disk) (ReadsBelow (cells_by layout) states))
    (spares : (frame : Frame) (contents : List Content) → Clearing disks disk frame states states contents → (image : List ℕ) → disks.may_leave mid image → SoundBy frame Spares states contents image)
    (within : (frame : Frame) (contents : List Content) → Clearing disks disk frame states states contents → Within (disks.moment disk) (disks.moment mid) (disks.left_since disk) (disks.left_since mid) (SoundBy frame Spares states contents))
    (tells : StillTells (disks.contents disk) (disks.contents mid)) (read_now : IfSome (disks.contents mid) (disks.may_leave mid)) where
  sound_still : (image : List ℕ) → disks.contents disk ≡ Some image → (other : List ℕ) → disks.may_leave mid other → SoundBy (frame_of image) Spares states (contents_of image) other
  sound_still image is other left = spares (frame_of image) (contents_of image) (read_begins disks disk layout states durable store reads image is) other left

  pub spared : (image : List ℕ) → disks.contents disk ≡ Some image → (other : List ℕ) → disks.may_leave mid other → SparesStore image other
  spared image is other left = cleared disks disk layout states durable store reads image is other (sound_still image is other left)

  pub spared_within : (image : List ℕ) → disks.contents disk ≡ Some image → Within (disks.moment disk) (disks.moment mid) (disks.left_since disk) (disks.left_since mid) (SparesStore image)
  spared_within = cleared_within disks disk layout states durable store reads mid within

  -- an older one still tells that it is one
  pub older_told : layout ≡ Older → IfSome (disks.contents mid) (λ bytes. layout_of bytes ≡ Older)
  older_told older = for_told (disks.contents mid) _ (λ bytes is_mid.
      let was = told_some (disks.contents disk) (sym tells ∙ ap is_some is_mid) in
      let left : disks.may_leave mid bytes = subst (λ (o : Option (List ℕ)). IfSome o (disks.may_leave mid)) is_mid read_now in
      same_layout was.0 bytes (sound_still was.0 was.1 bytes left).header ∙ (here disks disk layout states durable store reads was.0 was.1).1 ∙ older)

  -- and its file grew
  module _ (new : D) (older : layout ≡ Older) (crash : IfSome (disks.contents mid) (λ bytes. Each (disks.may_leave new) (GrowsFrom bytes)))
      (grows : IfSome (disks.contents mid) (λ bytes. Within (disks.moment mid) (disks.moment new) (disks.left_since mid) (disks.left_since new) (GrowsFrom bytes)))
      (states' : List CellState) (sure : (frame : Frame) (contents : List Content) → Clearing disks disk frame states states contents → (image : List ℕ) → disks.may_leave mid image → SoundBy frame Shows states' contents image)
      (are : states' ≡ settled_states states) (free : AreFreeFrom (cells_by layout) states) (sized : length states ≡ cell_count) where
    read_mid : (image : List ℕ) → disks.contents disk ≡ Some image → (bytes : List ℕ) × (disks.contents mid ≡ Some bytes) × disks.may_leave mid bytes
    read_mid image is =
        let t = told_some (disks.contents mid) (tells ∙ ap is_some is) in
        (t.0, t.1, subst (λ (o : Option (List ℕ)). IfSome o (disks.may_leave mid)) t.1 read_now)

    of_older : (image : List ℕ) → disks.contents disk ≡ Some image → layout_of image ≡ Older
    of_older image is = (here disks disk layout states durable store reads image is).1 ∙ older

    each_grows : (image : List ℕ) (is : disks.contents disk ≡ Some image) (other : List ℕ) → disks.may_leave new other → GrowsFrom (read_mid image is).0 other
    each_grows image is = subst (λ (o : Option (List ℕ)). IfSome o (λ bytes. Each (disks.may_leave new) (GrowsFrom bytes))) (read_mid image is).1 crash

    sure_of : (image : List ℕ) (is : disks.contents disk ≡ Some image) → SoundBy (frame_of image) Shows states' (contents_of image) (read_mid image is).0
    sure_of image is =
        let m = read_mid image is in
        sure (frame_of image) (contents_of image) (read_begins disks disk layout states durable store reads image is) m.0 m.2

    clean_of : (image : List ℕ) (is : disks.contents disk ≡ Some image) (cell : ℕ) → cell < cells_of image → (IsOpen cell image → ⊥) → HasZeros cell (read_mid image is).0
    clean_of image is cell lt shut =
        let bytes = (read_mid image is).0 in
        let none : get_or (contents_of image) cell Absent ≡ Absent = content_found cell image lt ∙ not_opened (gate cell image) (body cell image) shut in
        shows_zeros (cell_state states' cell) (gate cell bytes) (body cell bytes) (settled_after states states' are cell)
        (subst (λ (c : Content). Shows (cell_state states' cell) c (gate cell bytes) (body cell bytes)) none ((sure_of image is).each cell lt))

    pub grown_spared : (image : List ℕ) → disks.contents disk ≡ Some image → (other : List ℕ) → disks.may_leave new other → SparesStore image other
    grown_spared image is other left =
        let m = read_mid image is in
        grows_spares image m.0 other (of_older image is) (spared image is m.0 m.2) (clean_of image is) (each_grows image is other left)

    pub grown_within : (image : List ℕ) → disks.contents disk ≡ Some image → Within (disks.moment disk) (disks.moment new) (disks.left_since disk) (disks.left_since new) (SparesStore image)
    grown_within image is =
        let m = read_mid image is in
        within_both (disks.moment disk) (disks.moment mid) (disks.moment new) (disks.left_since disk) (disks.left_since mid) (disks.left_since new) (SparesStore image) (GrowsFrom m.0) (SparesStore image)
        (spared_within image is) (subst (λ (o : Option (List ℕ)). IfSome o (λ bytes. Within (disks.moment mid) (disks.moment new) (disks.left_since mid) (disks.left_since new) (GrowsFrom bytes))) m.1 grows)
        (λ other h. h) (λ other g. grows_spares image m.0 other (of_older image is) (spared image is m.0 m.2) (clean_of image is) g)

    pub grown_stand : is_some (disks.contents new) ≡ is_some (disks.contents mid) → IfSome (disks.contents mid) (λ bytes. Each (disks.may_leave new) (λ image. layout_of image ≡ Current))
        → (image : List ℕ) → disks.contents disk ≡ Some image → StandsForContents disks new states' (contents_of image)
    grown_stand still now image is =
        let m = read_mid image is in
        grown_stands disks new states' image m.0 (of_older image is) (spared image is m.0 m.2).store
        (subst (λ (l : Layout). AreFreeFrom (cells_by l) states') older (free_still states states' sized are (cells_by layout) free)) (still ∙ tells ∙ ap is_some is)
        (sure_of image is) (each_grows image is)
        (subst (λ (o : Option (List ℕ)). IfSome o (λ bytes. Each (disks.may_leave new) (λ image. layout_of image ≡ Current))) m.1 now)
