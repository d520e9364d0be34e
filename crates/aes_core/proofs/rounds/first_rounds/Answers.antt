use Rattle.aes_core.proofs.{Common.List, Common.add_round_key, Common.ap, Common.arith, Common.word_bytes, Common.number_block, Common.rounds, Common.ℕ, Common.◌-◌, Common.◌∙◌, RoundKeys.rounds_none, RoundKeys.rounds_next}
use Rattle.aes_core.proofs.rounds.first_rounds.Goals as goal

pub returns-then-count-eq1 : goal.returns-then-count-eq1
returns-then-count-eq1 c =
    let w = word_bytes c.args.schedule.now in
    c.add_round_key-state.ensures ∙ ap (λ (l : List ℕ). add_round_key w l 0) c.columns_of.ensures
    ∙ rounds_none w (number_block c.args.block) _ (omega (arith, c.if-count-eq1.true))

pub returns : goal.returns
returns c =
    let w = word_bytes c.args.schedule.now in
    let s = number_block c.args.block in
    let state = c.add_round_key-state.ensures ∙ ap (λ (l : List ℕ). add_round_key w l 0) c.columns_of.ensures ∙ rounds_none w s (1 - 1) (omega arith) in
    c.add_round_key.ensures ∙ ap (λ (l : List ℕ). add_round_key w l 1) c.mixed_columns.ensures
    ∙ rounds_next w s (word_bytes c.add_round_key-state.result) 1 (omega arith) state ∙ ap (rounds w s) (omega (arith, c.if-count-eq1.false))
