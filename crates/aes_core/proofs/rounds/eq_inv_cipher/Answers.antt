use Rattle.aes_core.proofs.{Common.IsInvScheduleOf, Common.List, Common.add_round_key, Common.ap, Common.ap₂, Common.arith, Common.word_bytes, Common.inl, Common.inv_rounds, Common.inv_shift_rows, Common.inv_sub_bytes, Common.number_block, Common.refl, Common.ℕ, Common.◌+◌, Common.◌-◌, Common.◌∙◌, Common.◌≡◌, Common.◌≤◌, InvColumns.outer_key, InvColumns.eq_inv_next}
use Rattle.aes_core.proofs.rounds.eq_inv_cipher.Goals as goal

pub inv_rounds-init : goal.inv_rounds-init
inv_rounds-init c = record {
  some = omega arith;
  within = omega (arith, c.requires.low);
  left_in_pairs = omega arith;
  state_is = λ schedule h. c.first_inv_rounds-state.ensures schedule h ∙ ap (inv_rounds (word_bytes schedule) c.args.rounds (number_block c.args.block)) (omega arith);
}

pub inv_rounds-preserved : goal.inv_rounds-preserved
inv_rounds-preserved c =
    let vs = c.args.inverse.now in
    let s = number_block c.args.block in
    let nr = c.args.rounds in
    let n = c.inv_rounds.round in
    let now = c.inv_rounds.invariant in
    let next : (schedule : List ℕ) → IsInvScheduleOf nr schedule vs → word_bytes c.add_round_key-next.result ≡ inv_rounds (word_bytes schedule) nr s (n + 1 - 1) = λ schedule h.
    c.add_round_key-next.ensures ∙ ap (λ (l : List ℕ). add_round_key (word_bytes vs) l (nr - n)) c.inv_mixed_columns.ensures
    ∙ eq_inv_next schedule vs s (word_bytes c.inv_rounds.state) nr n h now.some c.inv_rounds-test.true (now.state_is schedule h) in
    let more : n + 1 + 1 ≤ nr = omega (arith, c.inv_rounds-test.true, now.left_in_pairs) in
    record {
      some = omega arith;
      within = omega (arith, more);
      left_in_pairs = omega (arith, now.left_in_pairs);
      state_is = λ schedule h.
          c.add_round_key-state.ensures ∙ ap₂ (λ (l : List ℕ) (r : ℕ). add_round_key (word_bytes vs) l r) c.inv_mixed_columns-in-inv_rounds.ensures (omega arith)
          ∙ eq_inv_next schedule vs s (word_bytes c.add_round_key-next.result) nr (n + 1) h (omega arith) (omega (arith, more)) (next schedule h)
          ∙ ap (inv_rounds (word_bytes schedule) nr s) (omega arith);
    }

pub returns : goal.returns
returns c = λ schedule h.
    let last : c.inv_rounds.round - 1 ≡ c.args.rounds - 1 = omega (arith, c.inv_rounds-test.false, c.inv_rounds.invariant.within) in
    let state = c.inv_rounds.invariant.state_is schedule h ∙ ap (inv_rounds (word_bytes schedule) c.args.rounds (number_block c.args.block)) last in
    c.block_of.ensures ∙ c.add_round_key.ensures ∙ outer_key schedule c.args.inverse.now c.args.rounds 0 (word_bytes c.inv_last_columns.result) h (inl refl)
    ∙ ap (λ (l : List ℕ). add_round_key (word_bytes schedule) l 0) (c.inv_last_columns.ensures ∙ ap (λ (l : List ℕ). inv_sub_bytes (inv_shift_rows l)) state)
