use Rattle.std.proofs.Common.{Global, Vec, ap, false, ℕ, ◌∙◌}
use Rattle.psa_names.proofs.Joined.{joined_at, with_hex, with_name, without_hex, without_name}
use Rattle.psa_names.proofs.usages.flags_text.Goals as goal
use Rattle.psa_names.proofs.usages.flags_text.Goals.{else-rest-ne0, else-usage-name-ne0, then-rest-ne0+in_ok-hex+in_ok-push_flag-2, then-usage-name-ne0+in_ok-push_flag}

pub loop-name-preserved : goal.loop-name-preserved
loop-name-preserved c = elim c.if-usage-name-ne0.branch [
  | then-usage-name-ne0+in_ok-push_flag w ↦
      joined_at _ w.push_flag.new.out.items _ false _ (ap (λ (o : Vec ℕ Global). o.items) w.out-is) w.is_first-is
      (with_name c.loop-name.out.items _ c.loop-name.is_first c.args.usage c.loop-name.name-index c.usages-names.result.now _ c.loop-name-test.true w.if-usage-name-ne0.true c.loop-name.invariant w.in_ok-push_flag.ensures)
  | else-usage-name-ne0 w ↦
      joined_at _ c.loop-name.out.items _ c.loop-name.is_first _ (ap (λ (o : Vec ℕ Global). o.items) w.out-is) w.is_first-is
      (without_name c.loop-name.out.items c.loop-name.is_first c.args.usage c.loop-name.name-index c.usages-names.result.now _ c.loop-name-test.true w.if-usage-name-ne0.false c.loop-name.invariant)
]

pub returns : goal.returns
returns c = elim c.if-rest-ne0.branch [
  | then-rest-ne0+in_ok-hex+in_ok-push_flag-2 w ↦
      ap (λ (o : Vec ℕ Global). o.items) w.out-is
      ∙ with_hex c.loop-name.out.items _ _ c.loop-name.is_first c.args.usage c.loop-name.name-index c.usages-names.result.now c.usages-names.ensures c.loop-name-test.false c.loop-name.invariant w.if-rest-ne0.true (w.deref.ensures.value ∙ w.in_ok-hex.ensures) w.in_ok-push_flag-2.ensures
  | else-rest-ne0 w ↦
      ap (λ (o : Vec ℕ Global). o.items) w.out-is
      ∙ without_hex c.loop-name.out.items c.loop-name.is_first c.args.usage c.loop-name.name-index c.usages-names.result.now c.usages-names.ensures c.loop-name-test.false c.loop-name.invariant w.if-rest-ne0.false
]
