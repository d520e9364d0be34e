use Rattle.cmac_ops.proofs.Common.{ChainHolds, List, ap, append_assoc, arith, drop, length, length-drop, subst, sym, take, take_all, ℕ, ◌++◌, ◌+◌, ◌-◌, ◌∙◌, ◌≡◌}
use Rattle.std.proofs.Math.Seq.{take-add}
use Rattle.cmac_ops.proofs.chain.Chain.update.Goals as goal

pub turns-preserved : goal.turns-preserved
turns-preserved c =
    let piece : List ℕ = c.args.piece.now in
    let i : ℕ = c.turns.done in
    let n : ℕ = c.take_in-done.result in
    let rest : take (length piece - i) (drop i piece) ≡ drop i piece = take_all (length piece - i) (drop i piece) (omega (arith, length-drop i piece)) in
    record {
      within = omega (arith, ap length rest, length-drop i piece, c.take_in-done.ensures.within);
      holds = λ m h.
          let front : List ℕ = take i piece in
          let parts : (m ++ front) ++ take n (take (length piece - i) (drop i piece)) ≡ m ++ take (i + n) piece =
          append_assoc m front _ ∙ ap (λ (l : List ℕ). m ++ l) (ap (λ (l : List ℕ). front ++ take n l) rest ∙ sym (take-add i n piece)) in
          subst (λ (l : List ℕ). ChainHolds c.take_in-done.new.self c.args.key.now l) parts (c.take_in-done.ensures.holds _ (c.turns.invariant.holds m h));
    }

pub returns : goal.returns
returns c = λ m h.
    subst (λ (l : List ℕ). ChainHolds c.turns.self c.args.key.now (m ++ l)) (take_all c.turns.done c.args.piece.now (omega arith)) (c.turns.invariant.holds m h)
