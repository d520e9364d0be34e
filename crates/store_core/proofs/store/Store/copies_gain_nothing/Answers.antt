use Rattle.store_core.proofs.Common.{found_made, GainsNothing, made_after, Model, subst, sym}
use Rattle.store_model.proofs.GainNothing.{gain_nothing}
use Rattle.store_core.proofs.store.Store.copies_gain_nothing.Goals as goal

pub returns : goal.returns
returns g c = λ start opening h all s sound callers told.
    subst (λ (m : Model). GainsNothing (made_after start h (found_made start.store)) m) (sym (s.holds.replayed told)) (gain_nothing start h sound callers)
