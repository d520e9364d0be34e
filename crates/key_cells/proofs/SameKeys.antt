-- Each image of an opening has the keys of a store whose closed cells are all zeros.
use Rattle.key_cells.proofs.Common.{HoldsSameKeys, HasZerosWhereClosed, HoldsKey, HoldsNoKey, IsOpen, List, Opens, SparesSinceSync, SparesStore, ap, arith, body, cases_lt, cells_of, closed, gate, identifier_in, inl, inr, opened_gate, subst, sym, ℕ, ⊎_elim, ◌<◌, ◌∙◌, ◌≡◌}
use Rattle.disk_face.specs.declared.Disk as Disk
use Rattle.key_cells.specs.Opened.{KeepsKeysSinceSync}
use Rattle.key_cells.proofs.Images.{cases_gate}

-- where each closed cell is all zeros, what spares a store has its keys
module _ (image other : List ℕ) (opens : Opens image) (clean : HasZerosWhereClosed image) (s : SparesStore image other) where
  not_open : (g : List ℕ) → g ≡ closed → g ≡ opened_gate → ⊥
  not_open g shut is = let clash : closed ≡ opened_gate = sym shut ∙ is in cc

  was_open : (cell : ℕ) → cell < cells_of other → IsOpen cell other → (cell < cells_of image) × IsOpen cell image × (body cell other ≡ body cell image)
  was_open cell lt is = ⊎_elim
      (λ less. ⊎_elim
      (λ opened. (less, opened, (s.open_cells cell less opened).1))
      (λ shut. absurd (not_open (gate cell other) (s.zeros cell less (clean cell less shut)).0 is))
      (cases_gate (gate cell image)))
      (λ past. absurd (not_open (gate cell other) (s.beyond cell past lt).0 is))
      (cases_lt cell (cells_of image))

  pub same_keys : HoldsSameKeys image other
  same_keys = record {
    opens = record {
      store = s.store;
      sound = λ cell lt damaged.
          let here = was_open cell lt damaged.0 in
          opens.sound cell here.0 (
            here.1,
            ⊎_elim
                (λ none. inl (subst HoldsNoKey here.2 none))
                (λ twice.
                let there = was_open twice.0 (omega (arith, twice.1, lt)) twice.2 in
                inr (twice.0, twice.1, there.1, ap identifier_in (sym there.2) ∙ (twice.3 ∙ ap identifier_in here.2)))
                damaged.1,
          );
    };
    keys = λ a key. (
      λ h. let there = s.open_cells h.0 h.1 h.2 in (h.0, omega (arith, h.1, s.cells), there.0, subst (HoldsKey a key) (sym there.1) h.3),
      λ h. let there = was_open h.0 h.1 h.2 in (h.0, there.0, there.1, subst (HoldsKey a key) there.2 h.3),
    );
  }

pub keys_since : {D : Type 0} (disks : Disk.Ghosts D) (old new : D) (image : List ℕ) → SparesSinceSync disks old new image → Opens image → HasZerosWhereClosed image → KeepsKeysSinceSync disks old new image
keys_since disks old new image since opens clean = record {
  synced = since.synced;
  told = since.told;
  only = since.only;
  began = since.began;
  later = since.later;
  each = λ other left. same_keys image other opens clean (since.each other left);
}
