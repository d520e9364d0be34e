-- How calls of the cells lead from keys to keys.
use Rattle.persistent_keys.proofs.Common.{[], Absent, ap, arith, Attributes, body, cell_state, CellState, Content, content_at, count_same, creation_of_state, CreationFailed, Doubt, doubt_after, Doubtful, false, FitsKeys, Free, free_set_after, gate, get_or-map, get_or-set_same, has_id, HoldsKey, IfSome, inl, inr, is_open, IsDoubted, IsFiled, IsOf, IsPut, Keys, Leads, length, length-map, List, map-set, Moves, moves_after_settled, moves_none, moves_settled, MovesEither, None, not_free_as, of_one_key, Open, Present, refl, set, settled, settled_content, settled_state, settled_states, Shows, Some, some_image, StandsForKeys, Stored, stored, subst, sym, true, Unsure, ℕ, ⊎_elim, ◌<◌, ◌∙◌, ◌∷◌, ◌≡◌, cell_count}
use Rattle.disk_face.specs.declared.Disk as Disk
use Rattle.key_cells.specs.Contents as cells
use Rattle.key_cells.proofs.Images.{sound_fits}
use Rattle.persistent_keys.proofs.{Fitting.filed_fits, Fitting.tells_open, Filing.no_doubt, Filing.settles, Filing.resettles, Filing.settled_twice, Filing.adds, Filing.removes, Filing.doubts, Filing.still_has, Filing.settled_shut, Filing.refiled, Filing.no_key, Filing.none_settled}

module _ {D : Type 0} (disks : Disk.Ghosts D) where
  -- contents before and after that are filed
  pub leads : (old new : D) (states states' : List CellState) (from to : List Content) (keys keys' : Keys) (doubt doubt' : Doubt) → length from ≡ cell_count
      → IsFiled keys doubt states from → IsFiled keys' doubt' states' to → Moves disks old new states states' from to → Leads disks old new states states' keys doubt keys' doubt'
  leads old new states states' from to keys keys' doubt doubt' count before after m = record {
    stands = record { contents = to; stands = m.stands; filed = after };
    within = record {
      later = m.within.later;
      each = λ t image le left. ⊎_elim
          (λ past. inl past)
          (λ h. inr (⊎_elim (λ f. inl (filed_fits keys doubt states from count before image f)) (λ f. inr (filed_fits keys' doubt' states' to m.stands.count after image f)) h))
          (m.within.each t image le left);
    };
    zeros = m.zeros;
  }

  -- no call, where the keys are the same
  pub stays : (disk : D) (states : List CellState) (keys keys' : Keys) (doubt : Doubt) → ((id : ℕ) → keys' id ≡ keys id) → StandsForKeys disks disk states keys doubt → Leads disks disk disk states states keys doubt keys' doubt
  stays disk states keys keys' doubt same s =
      leads disk disk states states s.contents s.contents keys keys' doubt doubt s.stands.count s.filed (refiled keys keys' doubt doubt states s.contents same (λ i b z. z) s.filed) (moves_none disks disk states s.contents s.contents s.stands)

  -- what a crash may leave now
  pub stands_fits : (disk : D) (states : List CellState) (keys : Keys) (doubt : Doubt) (image : List ℕ) → StandsForKeys disks disk states keys doubt → disks.may_leave disk image → FitsKeys keys doubt image
  stands_fits disk states keys doubt image s left = filed_fits keys doubt states s.contents s.stands.count s.filed image (sound_fits states s.contents image (s.stands.each image left))

  -- the file's key of an identifier, by its cell
  pub key_of_cell : (disk : D) (states : List CellState) (keys : Keys) (doubt : Doubt) (id cell : ℕ) → cell < cell_count → has_id id (cell_state states cell) ≡ true → StandsForKeys disks disk states keys doubt → (key : Stored) × (keys id ≡ Some key)
  key_of_cell disk states keys doubt id cell lt has s = let o = tells_open keys doubt (cell_state states cell) (content_at s.contents cell) id has (s.filed.each cell lt) in (stored o.0 o.2 o.3, o.8)

  -- what was read of its cell is the file's key
  pub loaded_key : (disk : D) (states : List CellState) (keys : Keys) (doubt : Doubt) (id cell : ℕ) (a : Attributes) (bytes : List ℕ) → cell < cell_count → has_id id (cell_state states cell) ≡ true → StandsForKeys disks disk states keys doubt
      → ((contents : List Content) (body : List ℕ) → content_at contents cell ≡ Present body → cells.StandsForContents disks disk states contents → HoldsKey a bytes body) → keys id ≡ Some (stored (creation_of_state (cell_state states cell)) a bytes)
  loaded_key disk states keys doubt id cell a bytes lt has s loaded =
      let o = tells_open keys doubt (cell_state states cell) (content_at s.contents cell) id has (s.filed.each cell lt) in
      let same = of_one_key o.2 a o.3 bytes o.1 o.6 (loaded s.contents o.1 o.5 s.stands) in
      o.8 ∙ (ap (λ (n : ℕ). Some (stored n o.2 o.3)) (sym (ap creation_of_state o.4)) ∙ (ap (λ (x : Attributes). Some (stored (creation_of_state (cell_state states cell)) x o.3)) same.0 ∙ ap (λ (b : List ℕ). Some (stored (creation_of_state (cell_state states cell)) a b)) same.1))

  -- there is none where no cell has it
  pub no_key_in : (disk : D) (states : List CellState) (keys : Keys) (doubt : Doubt) (id : ℕ) → cells.HasNoKey states id → StandsForKeys disks disk states keys doubt → keys id ≡ None
  no_key_in disk states keys doubt id none s = no_key keys doubt states s.contents id none s.filed

  -- a cell whose content is in doubt isn't open
  doubtful_shut : (disk : D) (states : List CellState) (contents : List Content) (cell : ℕ) (body' : List ℕ) → cell < cell_count → content_at contents cell ≡ Doubtful body' → cells.StandsForContents disks disk states contents → IfSome (disks.contents disk) (disks.may_leave disk) → is_open (cell_state states cell) ≡ false
  doubtful_shut disk states contents cell body' lt is s read =
      let image = some_image disks disk states contents s read in
      shut (cell_state states cell) (gate cell image.0) (body cell image.0) (rw is at ((s.each image.0 image.1).each cell lt))
    where
      shut : (state : CellState) (gate body : List ℕ) → Shows state (Doubtful body') gate body → is_open state ≡ false
      shut (Open id creation) gate body h = absurd h
      shut state gate body h = refl

  -- a call that changes no contents
  pub keeps_leads : (old new : D) (states states' : List CellState) (keys : Keys) (doubt : Doubt) → settled_states states' ≡ settled_states states
      → cells.KeepsContents disks old new states states' → StandsForKeys disks old states keys doubt → Leads disks old new states states' keys doubt keys doubt
  keeps_leads old new states states' keys doubt same keeps s =
      leads old new states states' s.contents s.contents keys keys doubt doubt s.stands.count s.filed (resettles keys doubt states states' s.contents same s.filed) (keeps s.contents s.stands)

  module _ (old mid : D) (states states' : List CellState) (keys : Keys) (doubt : Doubt) (s : StandsForKeys disks old states keys doubt) (are : states' ≡ settled_states states) (keeps : cells.KeepsContents disks old mid states states') (free : cells.StaysFree states states') where
    -- the contents once those in doubt are closed
    abbrev pub sure : List Content
    sure = settled s.contents

    pub settling : Moves disks old mid states states' s.contents sure
    settling = moves_settled disks old mid states states' s.contents s.filed.sized are (keeps s.contents s.stands)

    same : settled_states states' ≡ settled_states states
    same = ap settled_states are ∙ settled_twice states

    sure_filed : (doubt' : Doubt) → IsFiled keys doubt' states' sure
    sure_filed doubt' = resettles keys doubt' states states' sure same (settles keys doubt doubt' states s.contents s.stands.count s.filed)

    surer_filed : (doubt' : Doubt) → IsFiled keys doubt' states' (settled sure)
    surer_filed doubt' = settles keys doubt doubt' states' sure settling.stands.count (sure_filed doubt)

    -- and then a call that leads on from them
    goes_on : (new : D) (last : List CellState) (to : List Content) (keys' : Keys) (doubt' : Doubt) → Moves disks mid new states' last sure to → IsFiled keys' doubt' last to → Leads disks old new states last keys doubt keys' doubt'
    goes_on new last to keys' doubt' m after =
        leads old new states last s.contents to keys keys' doubt doubt' s.stands.count s.filed after (moves_after_settled disks old mid new states states' last s.contents to s.stands.count free settling m)

    -- nothing more
    pub settled_leads : Leads disks old mid states states' keys doubt keys doubt
    settled_leads = leads old mid states states' s.contents sure keys keys doubt doubt s.stands.count s.filed (sure_filed doubt) settling

    -- a key was made
    pub made_leads : (new : D) (last : List CellState) (keys' : Keys) (cell creation : ℕ) (a : Attributes) (bytes made : List ℕ) → cell < cell_count → is_open (cell_state states' cell) ≡ false → last ≡ set (settled_states states') cell (Open a.id.0 creation)
        → HoldsKey a bytes made → keys a.id.0 ≡ None → IsPut keys keys' a.id.0 (Some (stored creation a bytes))
        → ((contents : List Content) → cells.StandsForContents disks mid states' contents → Moves disks mid new states' last contents (set (settled contents) cell (Present made)))
        → Leads disks old new states last keys doubt keys' []
    made_leads new last keys' cell creation a bytes made lt shut is holds none put created =
        let sized = (sure_filed []).sized in
        let filed = resettles keys [] states' (settled_states states') (settled sure) (settled_twice states') (surer_filed []) in
        goes_on new last (set (settled sure) cell (Present made)) keys' [] (created sure settling.stands)
        (subst (λ (l : List CellState). IsFiled keys' [] l (set (settled sure) cell (Present made))) (sym is)
        (adds keys keys' [] (settled_states states') (settled sure) cell creation a bytes made (length-map sure _ ∙ settling.stands.count) lt (settled_shut states' cell sized lt shut) holds none
        (none_settled keys [] (settled_states states') sure a.id.0 settling.stands.count none filed) put filed))

    -- no key was made, and it is in doubt
    pub unmade_leads : (new : D) (last : List CellState) (a : Attributes) (bytes made : List ℕ) → settled_states last ≡ settled_states states' → HoldsKey a bytes made → keys a.id.0 ≡ None → IfSome (disks.contents new) (disks.may_leave new)
        → ((contents : List Content) → cells.StandsForContents disks mid states' contents → CreationFailed disks mid new states' last contents made)
        → Leads disks old new states last keys doubt keys ((a, bytes) ∷ [])
    unmade_leads new last a bytes made alike holds none read failed =
        let doubt' : Doubt = (a, bytes) ∷ [] in
        ⊎_elim
        (λ m. goes_on new last sure keys doubt' m (resettles keys doubt' states' last sure alike (sure_filed doubt')))
        (λ f. let cell = f.0 in let to = set (settled sure) cell (Doubtful made) in
        let lt : cell < cell_count = omega (arith, f.1.within, (sure_filed doubt').sized) in
        let count : length (settled sure) ≡ cell_count = length-map sure _ ∙ settling.stands.count in
        let filed = resettles keys doubt' states' last (settled sure) alike (surer_filed doubt') in
        let shut = doubtful_shut new last to cell made lt (get_or-set_same (settled sure) cell (Doubtful made) Absent (omega (arith, count, lt))) f.2.stands read in
        goes_on new last to keys doubt' f.2 (doubts keys doubt' last (settled sure) cell a.id.0 made count lt shut (a, bytes, holds, refl) (a, bytes, holds, inl (refl, refl))
        (none_settled keys doubt' last sure a.id.0 settling.stands.count none filed) filed))
        (failed sure settling.stands)

    -- a key was destroyed
    pub destroyed_leads : (new : D) (last : List CellState) (keys' : Keys) (cell id : ℕ) → cell < cell_count → has_id id (cell_state states cell) ≡ true → last ≡ set (settled_states states') cell Free → IsPut keys keys' id None
        → ((contents : List Content) (bytes : List ℕ) → content_at contents cell ≡ Present bytes → cells.StandsForContents disks mid states' contents → Moves disks mid new states' last contents (set (settled contents) cell Absent))
        → Leads disks old new states last keys doubt keys' []
    destroyed_leads new last keys' cell id lt has is put destroyed =
        let has' = still_has states states' id cell s.filed.sized lt same has in
        let o = tells_open keys [] (cell_state states' cell) (content_at sure cell) id has' ((sure_filed []).each cell lt) in
        let has'' = still_has states' (settled_states states') id cell ((sure_filed []).sized) lt (settled_twice states') has' in
        goes_on new last (set (settled sure) cell Absent) keys' [] (destroyed sure o.1 o.5 settling.stands)
        (subst (λ (l : List CellState). IsFiled keys' [] l (set (settled sure) cell Absent)) (sym is)
        (removes keys keys' [] [] (settled_states states') (settled sure) cell id Free Absent (length-map sure _ ∙ settling.stands.count) lt has'' refl tt (λ q is. absurd is) (no_doubt []) put
        (resettles keys [] states' (settled_states states') (settled sure) (settled_twice states') (surer_filed []))))

    -- it failed once the others were closed, and the key is in doubt
    pub undestroyed_leads : (new : D) (last : List CellState) (keys' : Keys) (cell id : ℕ) (key : Stored) → cell < cell_count → has_id id (cell_state states cell) ≡ true → settled_states last ≡ set (settled_states states') cell Free → IsPut keys keys' id None → keys id ≡ Some key
        → ((contents : List Content) (bytes : List ℕ) → content_at contents cell ≡ Present bytes → cells.StandsForContents disks mid states' contents
        → MovesEither disks mid new states' last contents (set contents cell (Doubtful bytes)) (set (settled contents) cell (Doubtful bytes)))
        → Leads disks old new states last keys doubt keys' ((key.attributes, key.bytes) ∷ [])
    undestroyed_leads new last keys' cell id key lt has alike put there failed =
        let doubt' : Doubt = (key.attributes, key.bytes) ∷ [] in
        let has' = still_has states states' id cell s.filed.sized lt same has in
        let o = tells_open keys doubt' (cell_state states' cell) (content_at sure cell) id has' ((sure_filed doubt').each cell lt) in
        let is_key : Some key ≡ Some (stored o.0 o.2 o.3) = sym there ∙ o.8 in
        let same_key : key ≡ stored o.0 o.2 o.3 = cc in
        let d : IsDoubted doubt' o.2 o.3 = inl (ap (λ (k : Stored). k.attributes) same_key, ap (λ (k : Stored). k.bytes) same_key) in
        let closed : settled_states last ≡ settled_states (set states' cell Free) = alike ∙ sym (map-set settled_state states' cell Free) in
        let go : (contents : List Content) → length contents ≡ cell_count → IsFiled keys doubt' states' contents → content_at contents cell ≡ Present o.1 → IsFiled keys' doubt' last (set contents cell (Doubtful o.1)) = λ contents count f at.
        resettles keys' doubt' (set states' cell Free) last (set contents cell (Doubtful o.1)) closed (removes keys keys' doubt' doubt' states' contents cell id Free (Doubtful o.1) count lt has' refl (o.2, o.3, o.6, d) (λ q is. subst (λ (c : Content). IsOf q c) (sym at) is) (λ i b z. z) put f) in
        ⊎_elim
        (λ m. goes_on new last (set sure cell (Doubtful o.1)) keys' doubt' m (go sure settling.stands.count (sure_filed doubt') o.5))
        (λ m. goes_on new last (set (settled sure) cell (Doubtful o.1)) keys' doubt' m (go (settled sure) (length-map sure _ ∙ settling.stands.count) (surer_filed doubt') (get_or-map settled_content sure cell Absent Absent (omega (arith, settling.stands.count, lt)) ∙ ap settled_content o.5)))
        (failed sure o.1 o.5 settling.stands)

  -- it failed before the others were closed, and the key is in doubt like them
  pub unreached_leads : (old mid new : D) (states states' last : List CellState) (keys keys' : Keys) (doubt : Doubt) (cell id : ℕ) (key : Stored) → cell < cell_count → has_id id (cell_state states cell) ≡ true → settled_states states' ≡ settled_states states → new ≡ mid → last ≡ set states' cell Unsure
      → IsPut keys keys' id None → keys id ≡ Some key → cells.KeepsContents disks old mid states states'
      → ((contents : List Content) (bytes : List ℕ) → content_at contents cell ≡ Present bytes → cells.StandsForContents disks mid states' contents → cells.StandsForContents disks new last (set contents cell (Doubtful bytes)))
      → StandsForKeys disks old states keys doubt → Leads disks old new states last keys doubt keys' ((key.attributes, key.bytes) ∷ doubt)
  unreached_leads old mid new states states' last keys keys' doubt cell id key lt has same is_mid is put there keeps doubted s =
      let doubt' : Doubt = (key.attributes, key.bytes) ∷ doubt in
      let c = s.contents in
      let o = tells_open keys doubt (cell_state states cell) (content_at c cell) id has (s.filed.each cell lt) in
      let is_key : Some key ≡ Some (stored o.0 o.2 o.3) = sym there ∙ o.8 in
      let same_key : key ≡ stored o.0 o.2 o.3 = cc in
      let d : IsDoubted doubt' o.2 o.3 = inl (ap (λ (k : Stored). k.attributes) same_key, ap (λ (k : Stored). k.bytes) same_key) in
      let m = keeps c s.stands in
      let sized' : length states' ≡ cell_count = count_same states states' cell_count same s.filed.sized in
      let unsure : cell_state last cell ≡ Unsure = ap (λ (l : List CellState). cell_state l cell) is ∙ get_or-set_same states' cell Unsure Free (omega (arith, sized', lt)) in
      let free = free_set_after states states' last cell Unsure is (not_free_as last cell Unsure unsure (λ e. cc)) in
      let to = set c cell (Doubtful o.1) in
      let stands = doubted c o.1 o.5 m.stands in
      let stands' : cells.StandsForContents disks mid last to = subst (λ (d : D). cells.StandsForContents disks d last to) is_mid stands in
      let moves : Moves disks old mid states last c to = doubt_after disks old mid states states' last c to free m stands' in
      let moves' : Moves disks old new states last c to = subst (λ (d : D). Moves disks old d states last c to) (sym is_mid) moves in
      leads old new states last c to keys keys' doubt doubt' s.stands.count s.filed
      (subst (λ (l : List CellState). IsFiled keys' doubt' l to) (sym is)
      (removes keys keys' doubt doubt' states' c cell id Unsure (Doubtful o.1) s.stands.count lt (still_has states states' id cell s.filed.sized lt same has) refl (o.2, o.3, o.6, d) (λ q h. subst (λ (x : Content). IsOf q x) (sym o.5) h) (λ i b z. inr z) put
      (resettles keys doubt states states' c same s.filed)))
      moves'
