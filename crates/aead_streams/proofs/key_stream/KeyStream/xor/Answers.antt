use Rattle.aead_streams.proofs.{Common.IsAt, Common.List, Common.[], Common.aes_encrypt, Common.ap, Common.append-nil, Common.arith, Common.drop, Common.drop_all, Common.length, Common.length-drop, Common.rules, Common.subst, Common.take, Common.take_all, Common.text_xor, Common.ℕ, Common.◌++◌, Common.◌+◌, Common.◌-◌, Common.◌∙◌, Common.◌≡◌, StreamPlaces.run_done}
use borrow.Rule.Slice.PartMut.{put_mid}
use Rattle.aead_streams.proofs.key_stream.KeyStream.xor.Goals as goal

pub runs-init : goal.runs-init
unfolding text_xor
runs-init c = search rules

pub runs-preserved : goal.runs-preserved
runs-preserved c = record {
  within = omega (arith, c.xor_run-done.ensures.within);
  text = λ width start n h.
      let e = aes_encrypt c.args.key.now in
      let now = c.runs.piece in
      let rest = drop c.runs.done now in
      let room = length now - c.runs.done in
      let out = c.xor_run-done.new.piece in
      let all : take room rest ≡ rest = take_all room rest (omega (arith, length-drop c.runs.done now)) in
      let none : drop room rest ≡ [] = drop_all room rest (omega (arith, length-drop c.runs.done now)) in
      let put : put_mid c.runs.done room now out ≡ take c.runs.done now ++ out = ap (λ (l : List ℕ). take c.runs.done now ++ (out ++ l)) none ∙ ap (λ (l : List ℕ). take c.runs.done now ++ l) (append-nil out) in
      put ∙ run_done e width start n c.args.piece.now now out c.runs.done c.xor_run-done.result (omega arith) (c.runs.invariant.text width start n h)
      (c.xor_run-done.ensures.text width start (n + c.runs.done) (c.runs.invariant.at width start n h) ∙ ap (λ (l : List ℕ). text_xor e width start (n + c.runs.done) (take c.xor_run-done.result l) ++ drop c.xor_run-done.result l) all);
  at = λ width start n h.
      subst (λ (m : ℕ). IsAt c.xor_run-done.new.self (aes_encrypt c.args.key.now) width start m) (omega arith) (c.xor_run-done.ensures.at width start (n + c.runs.done) (c.runs.invariant.at width start n h));
}
