use Rattle.std.proofs.Common.{None, Some, ap, arith, bit_or, rules, sym, ◌+◌, ◌∙◌}
use Rattle.std.specs.List.{slice_split}
use Rattle.psa_names.specs.Usages.{with_flags}
use Rattle.psa_names.proofs.Flags.{flags_cut, flags_end, is_comma, rest_from}
use Rattle.psa_names.proofs.usages.flags_of.Goals as goal

pub returns-in_default-flag_of : goal.returns-in_default-flag_of
returns-in_default-flag_of c =
    sym (flags_cut c.loop-comma.usage c.in-Some.comma c.loop-comma.rest.now None c.in-Some.ensures c.in_default-flag_of.ensures) ∙ c.loop-comma.invariant.read

pub overflow_add-rest : goal.overflow_add-rest
overflow_add-rest c = omega (arith, c.in-Some.ensures.0.high, c.loop-comma.invariant.short)

pub loop-comma-preserved : goal.loop-comma-preserved
loop-comma-preserved c = record {
  read = ap (λ l. with_flags (bit_or c.loop-comma.usage c.in-Some-flag_of.flag) (slice_split is_comma l)) (rest_from (c.in-Some.comma + 1) c.loop-comma.rest.now)
      ∙ sym (flags_cut c.loop-comma.usage c.in-Some.comma c.loop-comma.rest.now (Some c.in-Some-flag_of.flag) c.in-Some.ensures c.in-Some-flag_of.ensures)
      ∙ c.loop-comma.invariant.read;
  short = search rules;
}

pub returns-in-Some-flag_of-2 : goal.returns-in-Some-flag_of-2
returns-in-Some-flag_of-2 c =
    sym (flags_end c.loop-comma.usage c.loop-comma.rest.now (Some c.in-Some-flag_of-2.flag) c.in_default.ensures c.in-Some-flag_of-2.ensures) ∙ c.loop-comma.invariant.read

pub returns-in-None : goal.returns-in-None
returns-in-None c =
    sym (flags_end c.loop-comma.usage c.loop-comma.rest.now None c.in_default.ensures c.in-None.ensures) ∙ c.loop-comma.invariant.read
