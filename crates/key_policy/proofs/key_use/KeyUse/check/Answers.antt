use Rattle.std.proofs.{Common.Err, Common.ap, Common.rules, Common.sym, Common.◌∙◌, Common.◌≡◌, lemmas.Result.err_from_is_err_and}
use Rattle.key_policy.proofs.{Common.unless, Devices.refused_alike}
use Rattle.psa_status.proofs.Rows.{unless-err}
use Rattle.key_policy.proofs.key_use.KeyUse.check.Goals as goal

pub returns-in_err-check_use-in-Algorithm-clause-refusal : goal.returns-in_err-check_use-in-Algorithm-clause-refusal
returns-in_err-check_use-in-Algorithm-clause-refusal c = λ key is.
    let wanted = c.in-Algorithm in
    let p = err_from_is_err_and c.from_residual.result c.from_residual.ensures.1 in
    let failed : c.check_use.result ≡ Err p.0 = search rules in
    let refused = refused_alike wanted.class wanted.usage.0 wanted.alg.0 key p.0 (unless-err _ _ p.0 (sym (c.check_use.ensures.refusal key is) ∙ failed)) in
    rw (p.1, wanted.is) (ap (λ o. unless o tt) (sym refused))
