use Rattle.aes_core.proofs.{Common.List, Common.add_round_key, Common.ap, Common.arith, Common.word_bytes, Common.number_block, Common.rounds, Common.shift_rows, Common.sub_bytes, Common.ℕ, Common.◌+◌, Common.◌-◌, Common.◌∙◌, Common.◌≡◌, RoundKeys.rounds_next}
use Rattle.aes_core.proofs.rounds.cipher.Goals as goal

pub rounds-init : goal.rounds-init
rounds-init c =
    let w = word_bytes c.args.schedule.now in
    record {
      some = omega arith;
      within = omega (arith, c.requires.low);
      left_in_pairs = omega arith;
      state_is = c.first_rounds-state.ensures ∙ ap (rounds w (number_block c.args.block)) (omega arith);
    }

pub rounds-preserved : goal.rounds-preserved
rounds-preserved c =
    let w = word_bytes c.args.schedule.now in
    let s = number_block c.args.block in
    let n = c.rounds.round in
    let now = c.rounds.invariant in
    let next = c.add_round_key-next.ensures ∙ ap (λ (l : List ℕ). add_round_key w l n) c.mixed_columns.ensures ∙ rounds_next w s (word_bytes c.rounds.state) n now.some now.state_is in
    record {
      some = omega arith;
      within = omega (arith, c.rounds-test.true, now.left_in_pairs);
      left_in_pairs = omega (arith, now.left_in_pairs);
      state_is = c.add_round_key-state.ensures ∙ ap (λ (l : List ℕ). add_round_key w l (n + 1)) c.mixed_columns-in-rounds.ensures
          ∙ rounds_next w s (word_bytes c.add_round_key-next.result) (n + 1) (omega arith) next ∙ ap (rounds w s) (omega arith);
    }

pub returns : goal.returns
returns c =
    let w = word_bytes c.args.schedule.now in
    let last : c.rounds.round - 1 ≡ c.args.rounds - 1 = omega (arith, c.rounds-test.false, c.rounds.invariant.within) in
    let state = c.rounds.invariant.state_is ∙ ap (rounds w (number_block c.args.block)) last in
    c.block_of.ensures ∙ c.add_round_key.ensures
    ∙ ap (λ (l : List ℕ). add_round_key w l c.args.rounds) (c.last_columns.ensures ∙ ap (λ (l : List ℕ). shift_rows (sub_bytes l)) state)
