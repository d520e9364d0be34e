use Rattle.store_core.proofs.Common.{AlreadyExists, Bool, InsufficientStorage, KeyLimit, None, Some, [], false, first_row, ne_eqb, not, refl, sym, true, ◌%◌, ◌&&◌, ◌^◌, ◌∷◌, ◌≡◌}
use Rattle.store_core.proofs.store.Store.check_room.Goals as goal

-- the rows of a creation's room, where the key is persistent and new
by_rows : (volatile live there full : Bool) → volatile ≡ false → there ≡ false →
    (full ≡ true → first_row ((volatile && live, KeyLimit) ∷ (not volatile && there, AlreadyExists) ∷ (not volatile && full, InsufficientStorage) ∷ []) ≡ Some InsufficientStorage)
    × (full ≡ false → first_row ((volatile && live, KeyLimit) ∷ (not volatile && there, AlreadyExists) ∷ (not volatile && full, InsufficientStorage) ∷ []) ≡ None)
by_rows volatile live there full lasts new = (λ is. rw (lasts, new, is) refl, λ is. rw (lasts, new, is) refl)

pub returns-then-is_full-clause-refused : goal.returns-then-is_full-clause-refused
returns-then-is_full-clause-refused g c = λ start opening h all e s.
    (by_rows _ _ _ _ (ne_eqb (c.args.attributes.now.lifetime.0 % 2 ^ 8) 0 c.if-attributes-eq0.false) (c.if-has.ensures s.model all s.slots s.directory s.sound)).0 (sym (c.if-is_full.ensures start opening h all e s))

pub returns-clause-free : goal.returns-clause-free
returns-clause-free g c = λ start opening h all e s.
    (by_rows _ _ _ _ (ne_eqb (c.args.attributes.now.lifetime.0 % 2 ^ 8) 0 c.if-attributes-eq0.false) (c.if-has.ensures s.model all s.slots s.directory s.sound)).1 (sym (c.if-is_full.ensures start opening h all e s))
