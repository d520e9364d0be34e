-- How cells are made zeros that are left over from a crash.
use Rattle.key_cells.proofs.Common.{Absent, AreFreeFrom, Clearing, ClearsOn, Content, Doubtful, Elapses, Follows, Frame, Free, HoldsAround, HoldsWritten, IfSome, IsSettled, LeavesWhatIsRead, List, None, Open, Option, Shows, Shut, CellState, Some, SoundBy, Spares, Torn, Unsure, Within, ap, arith, body, cases_eq, cases_lt, cell_state, cell_count, closed, drop, ext_get_or, gate, get_or, get_or-map, get_or-set_other, get_or-set_same, length, length-map, part, place, refl, replicate, set, settled_state, settled_states, subst, sym, take, within_both, within_one, written, written_torn, zeros, ℕ, ⊎_elim, ◌+◌, ◌<◌, ◌∙◌, ◌≡◌, ◌≤◌}
use Rattle.disk_face.specs.declared.Disk as Disk
use Rattle.std.proofs.lemmas.List.{get_or_past}
use Rattle.key_cells.proofs.{Parts.part_written, Images.sound_after, Images.same_all, Images.same_states, Steps.body_torn, Steps.body_whole, Steps.zeros_are, Moves.settled_alike, CellsRead.gate_read, CellsRead.body_read}

spares_shut : (content : Content) (g b b' : List ℕ) → Spares Shut content g b → Spares Shut content g b'
spares_shut Absent g b b' s = s
spares_shut content g b b' s = s

spares_unsure : (content : Content) (g b g' b' : List ℕ) → Spares Unsure content g b → Spares Unsure content g' b'
spares_unsure Absent g b g' b' s = s
spares_unsure content g b g' b' s = s

shut_freed : (content : Content) (g b : List ℕ) → Spares Shut content g b → Spares Free content g (replicate 1087 0)
shut_freed Absent g b s = (s, zeros_are)
shut_freed content g b s = s

unsure_freed : (content : Content) (g b g' b' : List ℕ) → Spares Unsure content g b → g' ≡ closed → b' ≡ zeros → Spares Free content g' b'
unsure_freed Absent g b g' b' s is are = (is, are)
unsure_freed content g b g' b' s is are = s

module _ (frame : Frame) (cell : ℕ) (fits : place cell + 1088 ≤ frame.size) (states : List CellState) (contents : List Content) (p : ℕ) (at : p ≡ place cell) where
  -- a torn write of the body of a shut cell, or of the whole of an unsure one
  pub torn_shut : cell_state states cell ≡ Shut → (before image : List ℕ) → Torn (p + 1) 1087 before image → SoundBy frame Spares states contents before → SoundBy frame Spares states contents image
  torn_shut is before image torn =
      body_torn frame Spares cell fits states states contents contents (same_all cell states contents) p at 1087 refl before image torn (rw is (spares_shut (get_or contents cell Absent) (gate cell before) (body cell before) (body cell image)))

  pub torn_unsure : cell_state states cell ≡ Unsure → (before image : List ℕ) → Torn p 1088 before image → SoundBy frame Spares states contents before → SoundBy frame Spares states contents image
  torn_unsure is before image torn s =
      sound_after frame Spares cell p 1088 states states contents contents before image (omega (arith, at)) (omega (arith, at)) torn (same_all cell states contents)
      (λ lt. rw is (spares_unsure (get_or contents cell Absent) (gate cell before) (body cell before) (gate cell image) (body cell image) (rw is at (s.each cell lt)))) s

  pub shut_cleared : cell < length states → cell_state states cell ≡ Shut → (read : List ℕ) → SoundBy frame Spares states contents read → SoundBy frame Spares (set states cell Free) contents (written read (p + 1) (replicate 1087 0))
  shut_cleared few is read =
      body_whole frame Spares cell fits states (set states cell Free) contents contents (same_states cell states contents Free) p at (replicate 1087 0) read refl
      (rw (is, get_or-set_same states cell Free Free few) (shut_freed (get_or contents cell Absent) (gate cell read) (body cell read)))

  pub unsure_cleared : cell < length states → cell_state states cell ≡ Unsure → (read : List ℕ) → SoundBy frame Spares states contents read → SoundBy frame Spares (set states cell Free) contents (written read p (replicate 1088 0))
  unsure_cleared few is read s =
      let image : List ℕ = written read p (replicate 1088 0) in
      let torn : Torn p 1088 read image = written_torn read (replicate 1088 0) p (omega (arith, s.size, at, fits)) in
      let whole : part (place cell) 1088 image ≡ replicate 1088 0 = ap (λ (k : ℕ). part k 1088 image) (sym at) ∙ part_written read (replicate 1088 0) p 1088 refl (omega (arith, s.size, at, fits)) in
      let now : gate cell image ≡ closed = sym (gate_read cell image) ∙ ap (take 1) whole in
      let are : body cell image ≡ zeros = sym (body_read cell image) ∙ (ap (drop 1) whole ∙ zeros_are) in
      sound_after frame Spares cell p 1088 states (set states cell Free) contents contents read image (omega (arith, at)) (omega (arith, at)) torn (same_states cell states contents Free)
      (λ lt. rw (get_or-set_same states cell Free Free few) (unsure_freed (get_or contents cell Absent) (gate cell read) (body cell read) (gate cell image) (body cell image) (rw is at (s.each cell lt)) now are)) s

held : (told told' : Option (List ℕ)) (now bytes : List ℕ) (p : ℕ) → told ≡ Some now → HoldsWritten told p bytes told' → told' ≡ Some (written now p bytes)
held None told' now bytes p is holds = cc
held (Some old) told' now bytes p is holds = let same : old ≡ now = cc in holds ∙ ap (λ (l : List ℕ). Some (written l p bytes)) same

held_around : (told told' : Option (List ℕ)) (now : List ℕ) (p n : ℕ) → told ≡ Some now → HoldsAround told p n told' → (now' : List ℕ) × (told' ≡ Some now') × Torn p n now now'
held_around None told' now p n is holds = cc
held_around (Some old) None now p n is holds = absurd holds
held_around (Some old) (Some new) now p n is holds = let same : old ≡ now = cc in (new, refl, subst (λ (l : List ℕ). Torn p n l new) same holds)

module _ {D : Type 0} (disks : Disk.Ghosts D) (old new : D) (cell p n : ℕ) (frame : Frame) (first states : List CellState) (contents : List Content) (s : Clearing disks old frame first states contents) (crash : Follows (Torn p n) (disks.may_leave old) (disks.may_leave new))
    (time : Elapses (disks.moment old) (disks.moment new) (disks.left_since old) (disks.left_since new) (disks.may_leave new))
    (torn : (before image : List ℕ) → Torn p n before image → SoundBy frame Spares first contents before → SoundBy frame Spares first contents image) where
  each : (image : List ℕ) → disks.may_leave new image → SoundBy frame Spares first contents image
  each image left = let from = crash image left in torn from.0 image from.2 (s.each from.0 from.1)

  within : Within (disks.moment old) (disks.moment new) (disks.left_since old) (disks.left_since new) (SoundBy frame Spares first contents)
  within = within_one (disks.moment old) (disks.moment new) (disks.left_since old) (disks.left_since new) (SoundBy frame Spares first contents) (disks.may_leave new) time each

  -- a write that was done
  pub clearing_done : (bytes : List ℕ) → length states ≡ cell_count → cell < cell_count → HoldsWritten (disks.contents old) p bytes (disks.contents new)
      → ((read : List ℕ) → SoundBy frame Spares states contents read → SoundBy frame Spares (set states cell Free) contents (written read p bytes))
      → ClearsOn disks old new frame first (set states cell Free) contents
  clearing_done bytes count lt holds cleared = record {
    goes_on = record {
      now = written s.now p bytes;
      is_told = held (disks.contents old) (disks.contents new) s.now bytes p s.is_told holds;
      reads = cleared s.now s.reads;
      each = each;
      shut = λ other less is. s.shut other less (still other less Shut is (λ e. cc));
      unsure = λ other less is. s.unsure other less (still other less Unsure is (λ e. cc));
    };
    within = within;
  }
    where
      still : (other : ℕ) → other < cell_count → (state : CellState) → cell_state (set states cell Free) other ≡ state → (Free ≡ state → ⊥) → cell_state states other ≡ state
      still other less state is not_free =
          ⊎_elim
          (λ same. absurd (not_free (sym (get_or-set_same states cell Free Free (omega (arith, count))) ∙ subst (λ (k : ℕ). cell_state (set states cell Free) k ≡ state) same is)))
          (λ differs. sym (get_or-set_other states cell other Free Free differs) ∙ is)
          (cases_eq other cell)

  -- a write that failed
  pub clearing_failed : HoldsAround (disks.contents old) p n (disks.contents new)
      → ((before image : List ℕ) → Torn p n before image → SoundBy frame Spares states contents before → SoundBy frame Spares states contents image)
      → ClearsOn disks old new frame first states contents
  clearing_failed holds torn_read =
      let now = held_around (disks.contents old) (disks.contents new) s.now p n s.is_told holds in
      record {
        goes_on = record { now = now.0; is_told = now.1; reads = torn_read s.now now.0 now.2 s.reads; each = each; shut = s.shut; unsure = s.unsure };
        within = within;
      }

-- the frame has the size of the disk
pub clearing_size : {D : Type 0} (disks : Disk.Ghosts D) (disk : D) (frame : Frame) (first states : List CellState) (contents : List Content) → IfSome (disks.contents disk) (λ image. length image ≡ disks.size disk)
    → Clearing disks disk frame first states contents → disks.size disk ≡ frame.size
clearing_size disks disk frame first states contents measured s =
    sym (subst (λ (o : Option (List ℕ)). IfSome o (λ image. length image ≡ disks.size disk)) s.is_told measured) ∙ s.reads.size

-- one step more
pub goes_on : {D : Type 0} (disks : Disk.Ghosts D) (a b c : D) (frame : Frame) (first states states' : List CellState) (contents : List Content) → ClearsOn disks a b frame first states contents
    → (Clearing disks b frame first states contents → ClearsOn disks b c frame first states' contents) → ClearsOn disks a c frame first states' contents
goes_on disks a b c frame first states states' contents so_far step =
    let next = step so_far.goes_on in
    let P = SoundBy frame Spares first contents in
    record {
      goes_on = next.goes_on;
      within = within_both (disks.moment a) (disks.moment b) (disks.moment c) (disks.left_since a) (disks.left_since b) (disks.left_since c) P P P so_far.within next.within (λ image h. h) (λ image h. h);
    }

-- once each cell was looked at, and that is made sure of, the directory stands
is_sure : (state : CellState) (content : Content) (g b : List ℕ) → state ≡ settled_state state → Spares state content g b → Shows state content g b
is_sure Free (Doubtful bytes) g b same s = absurd s
is_sure Free content g b same s = s
is_sure (Open id creation) (Doubtful bytes) g b same s = s
is_sure (Open id creation) content g b same s = s
is_sure state content g b same s = cc

pub sure_sound : (frame : Frame) (states : List CellState) (contents : List Content) (image : List ℕ) → ((cell : ℕ) → cell_state states cell ≡ settled_state (cell_state states cell)) → SoundBy frame Spares states contents image → SoundBy frame Shows states contents image
sure_sound frame states contents image settled s = record {
  size = s.size;
  header = s.header;
  each = λ cell lt. is_sure (cell_state states cell) (get_or contents cell Absent) (gate cell image) (body cell image) (settled cell) (s.each cell lt);
}

pub settled_twice : (state : CellState) → settled_state state ≡ settled_state (settled_state state)
settled_twice state = sym (settled_alike settled_state refl refl state)

-- a directory of which no state is left over is as it is once each was looked at
pub all_settled : (states : List CellState) → ((cell : ℕ) → cell_state states cell ≡ settled_state (cell_state states cell)) → settled_states states ≡ states
all_settled states settled = sym (ext_get_or Free states (settled_states states) (sym (length-map states settled_state)) (λ cell lt. settled cell ∙ sym (get_or-map settled_state states cell Free Free lt)))

pub sure_settled : (states : List CellState) → settled_states states ≡ states → (cell : ℕ) → cell_state states cell ≡ settled_state (cell_state states cell)
sure_settled states sure cell = ⊎_elim
    (λ lt. ap (λ (l : List CellState). cell_state l cell) (sym sure) ∙ get_or-map settled_state states cell Free Free lt)
    (λ past. let free = get_or_past states cell Free past in free ∙ sym (ap settled_state free))
    (cases_lt cell (length states))

pub settled_after : (states states' : List CellState) → states' ≡ settled_states states → (cell : ℕ) → cell_state states' cell ≡ settled_state (cell_state states' cell)
settled_after states states' is cell = ⊎_elim
    (λ lt. let here = ap (λ (l : List CellState). cell_state l cell) is ∙ get_or-map settled_state states cell Free Free lt in here ∙ (settled_twice (cell_state states cell) ∙ ap settled_state (sym here)))
    (λ past. let free = ap (λ (l : List CellState). cell_state l cell) is ∙ get_or_past (settled_states states) cell Free (omega (arith, past, length-map states settled_state)) in free ∙ sym (ap settled_state free))
    (cases_lt cell (length states))

-- one cell more was looked at
pub settled_more : (states : List CellState) (cell : ℕ) → cell < length states → IsSettled cell states → IsSettled (cell + 1) (set states cell (settled_state (cell_state states cell)))
settled_more states cell lt settled other less = ⊎_elim
    (λ is. rw is (let here = get_or-set_same states cell (settled_state (cell_state states cell)) Free lt in here ∙ (settled_twice (cell_state states cell) ∙ ap settled_state (sym here))))
    (λ differs. let there = get_or-set_other states cell other (settled_state (cell_state states cell)) Free differs in there ∙ (settled other (omega (arith, less, differs)) ∙ ap settled_state (sym there)))
    (cases_eq other cell)

pub still_free : (states : List CellState) (count cell : ℕ) (state : CellState) → cell < count → AreFreeFrom count states → AreFreeFrom count (set states cell state)
still_free states count cell state lt free other after = get_or-set_other states cell other state Free (λ is. omega (arith, is, after, lt)) ∙ free other after

-- each of the first cells was looked at, and the others are free
pub each_settled : (states : List CellState) (count : ℕ) → IsSettled count states → AreFreeFrom count states → (cell : ℕ) → cell_state states cell ≡ settled_state (cell_state states cell)
each_settled states count settled free cell = ⊎_elim (λ lt. settled cell lt) (λ past. free cell past ∙ sym (ap settled_state (free cell past))) (cases_lt cell count)

-- all that is left is made sure of
pub clear_sure : {D : Type 0} (disks : Disk.Ghosts D) (old new : D) (frame : Frame) (first states : List CellState) (contents : List Content) → ((cell : ℕ) → cell_state states cell ≡ settled_state (cell_state states cell))
    → Clearing disks old frame first states contents → LeavesWhatIsRead (disks.contents old) (disks.may_leave new) → (image : List ℕ) → disks.may_leave new image → SoundBy frame Shows states contents image
clear_sure disks old new frame first states contents settled s durable image left =
    let only : LeavesWhatIsRead (Some s.now) (disks.may_leave new) = subst (λ (o : Option (List ℕ)). LeavesWhatIsRead o (disks.may_leave new)) s.is_told durable in
    subst (λ (x : List ℕ). SoundBy frame Shows states contents x) (sym (only image left)) (sure_sound frame states contents s.now settled s.reads)
