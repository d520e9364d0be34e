use Rattle.aes_core.proofs.{Common.List, Common.add_round_key, Common.ap, Common.arith, Common.word_bytes, Common.inr, Common.inv_rounds, Common.number_block, Common.ℕ, Common.◌-◌, Common.◌∙◌, InvColumns.outer_key, InvColumns.eq_inv_next, RoundKeys.inv_rounds_none}
use Rattle.aes_core.proofs.rounds.first_inv_rounds.Goals as goal

pub returns-then-count-eq1 : goal.returns-then-count-eq1
returns-then-count-eq1 c = λ schedule h.
    let vs = c.args.inverse.now in
    let s = number_block c.args.block in
    let nr = c.args.count in
    c.add_round_key-state.ensures ∙ ap (λ (l : List ℕ). add_round_key (word_bytes vs) l nr) c.columns_of.ensures
    ∙ outer_key schedule vs nr nr s h (inr (omega arith)) ∙ inv_rounds_none (word_bytes schedule) s nr _ (omega (arith, c.if-count-eq1.true))

pub returns : goal.returns
returns c = λ schedule h.
    let vs = c.args.inverse.now in
    let s = number_block c.args.block in
    let nr = c.args.count in
    let state =
    c.add_round_key-state.ensures ∙ ap (λ (l : List ℕ). add_round_key (word_bytes vs) l nr) c.columns_of.ensures
    ∙ outer_key schedule vs nr nr s h (inr (omega arith)) ∙ inv_rounds_none (word_bytes schedule) s nr (1 - 1) (omega arith) in
    c.add_round_key.ensures ∙ ap (λ (l : List ℕ). add_round_key (word_bytes vs) l (nr - 1)) c.inv_mixed_columns.ensures
    ∙ eq_inv_next schedule vs s (word_bytes c.add_round_key-state.result) nr 1 h (omega arith) (omega (arith, c.requires.low, c.if-count-eq1.false)) state
    ∙ ap (inv_rounds (word_bytes schedule) nr s) (omega (arith, c.if-count-eq1.false))
