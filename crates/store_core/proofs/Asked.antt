-- What a creation records, as the store's counts have it.
use Rattle.store_core.proofs.Common.{after_rules, ap, Attributes, Bool, checked, Err, first_row, has_secure_element, Label, List, Model, Ok, Option, recorded_of, Result, room_for_key_rows, Status, unless, ℕ, ◌∙◌, ◌≡◌}
use Rattle.psa_status.specs.Rows.{◌>>=◌}

-- what is recorded, with such an element and labels
abbrev pub asked : Model → ℕ → Attributes → ℕ → Bool → List Label → Result Attributes Status
asked m caller a n element labels = checked a n element >>= (λ filled. after_rules labels filled >>= (λ kept. unless (first_row (room_for_key_rows m caller kept)) kept))

pub asks : (m : Model) (caller : ℕ) (a : Attributes) (n : ℕ) (element : Bool) (labels : List Label) → has_secure_element m ≡ element → m.settings.labels ≡ labels →
    recorded_of m caller a n ≡ asked m caller a n element labels
asks m caller a n element labels driver rules = ap (λ b. asked m caller a n b m.settings.labels) driver ∙ ap (asked m caller a n element) rules

module _ (m : Model) (caller : ℕ) (a : Attributes) (n : ℕ) (element : Bool) (labels : List Label) where
  pub unchecked : (status : Status) → checked a n element ≡ Err status → asked m caller a n element labels ≡ Err status
  unchecked status is = ap (λ r. r >>= (λ filled. after_rules labels filled >>= (λ kept. unless (first_row (room_for_key_rows m caller kept)) kept))) is

  module _ (filled : Attributes) (is : checked a n element ≡ Ok filled) where
    passes : asked m caller a n element labels ≡ (after_rules labels filled >>= (λ kept. unless (first_row (room_for_key_rows m caller kept)) kept))
    passes = ap (λ r. r >>= (λ filled. after_rules labels filled >>= (λ kept. unless (first_row (room_for_key_rows m caller kept)) kept))) is

    pub unruled : (status : Status) → after_rules labels filled ≡ Err status → asked m caller a n element labels ≡ Err status
    unruled status ruled = passes ∙ ap (λ r. r >>= (λ kept. unless (first_row (room_for_key_rows m caller kept)) kept)) ruled

    pub by_room : (kept : Attributes) (o : Option Status) → after_rules labels filled ≡ Ok kept → first_row (room_for_key_rows m caller kept) ≡ o → asked m caller a n element labels ≡ unless o kept
    by_room kept o ruled room = passes ∙ (ap (λ r. r >>= (λ kept. unless (first_row (room_for_key_rows m caller kept)) kept)) ruled ∙ ap (λ x. unless x kept) room)
