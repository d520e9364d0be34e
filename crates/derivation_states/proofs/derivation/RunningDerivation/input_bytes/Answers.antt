use Rattle.std.proofs.Common.{Bool, List, Option, Some, ap, cond, false, sym, true, ℕ, ◌++◌, ◌==◌, ◌∙◌, ◌≡◌}
use Rattle.derivation_states.proofs.Common.{and_parts, block_at, bytes_or_empty, DerivationWork, eqb-true, HoldsOutput, info_step, input_bytes_rows, is_due, is_info_due, is_salt_due, is_secret_due, not-false, not-true, OutputState, salt_step}
use Rattle.store_model.proofs.Tables.{none_holds}
use Rattle.derivation_states.proofs.derivation.RunningDerivation.input_bytes.Goals as goal

-- an input that comes before any byte was taken leaves the output
unbegun : (o : OutputState) (w : DerivationWork) (salt secret info : Option (List ℕ)) → w.taken ≡ 0 → HoldsOutput o w → HoldsOutput o (record w { salt = salt; secret = secret; info = info })
unbegun o w salt secret info zero h =
    let r = h.running in
    let v : DerivationWork = record w { salt = salt; secret = secret; info = info } in
    record {
      running = record { kdf = r.kdf; capacity = r.capacity; place = r.place; block = r.block ∙ ap (block_at w) (h.fresh zero) ∙ sym (ap (block_at v) (h.fresh zero)); none = r.none; whole = r.whole };
      fresh = h.fresh;
      begun = λ e. zero;
    }

given_at : (o : OutputState) (w : DerivationWork) (bytes : List ℕ) (b c : Bool) → cond b (is_salt_due w) (cond c (is_info_due w) (is_secret_due w)) ≡ true → HoldsOutput o w →
    HoldsOutput o (cond b (record w { salt = Some (bytes_or_empty w.salt ++ bytes) }) (cond c (record w { info = Some bytes }) (record w { secret = Some bytes })))
given_at o w bytes true c due h = unbegun o w (Some (bytes_or_empty w.salt ++ bytes)) w.secret w.info (h.begun (not-true _ (and_parts _ _ due).0)) h
given_at o w bytes false true due h = unbegun o w w.salt w.secret (Some bytes) (eqb-true w.taken 0 (and_parts _ _ due).1) h
given_at o w bytes false false due h = unbegun o w w.salt (Some bytes) w.info (h.begun (not-true _ (and_parts _ _ due).0)) h

pub returns-clause-holds : goal.returns-clause-holds
returns-clause-holds c = λ w h.
    let step = c.args.step in
    let bytes = c.args.bytes.now in
    let told = c.has_begun-has_begun.ensures w h.output in
    let due = not-false (is_due w step) (none_holds (input_bytes_rows w step bytes) 1 (sym (c.in_ok-take_bytes.ensures.refusal w h.output.running.kdf h.inputs told))) in
    record {
      inputs = c.in_ok-take_bytes.ensures.holds w h.output.running.kdf h.inputs told;
      output = given_at c.args.self.now.output w bytes (step == salt_step) (step == info_step) due h.output;
    }
