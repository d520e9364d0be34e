use Rattle.std.proofs.lemmas.Grind.{common_steps}
use Rattle.cipher_states.proofs.Common.{After, AnswersOrSpoils, CipherWork, Err, HoldsCipher, InError, Inactive, List, None, Operation, Option, Reply, Result, Some, [], ap, arith, buffer_after, cipher_finish_rows, drop, first_row, if◌then◌else◌, is_ok, last_length, last_part, length, mode_of, refl, rules, subst, sym, take, unless_failed, whole_text, ℕ, ◌++◌, ◌-◌, ◌∙◌, ◌≡◌, ◌≤◌}
use Rattle.psa_status.specs.declared.Status.{Status}
use Rattle.psa_status.proofs.Rows.{unless-ok}
use Rattle.cipher_states.proofs.running.RunningCipher.finish.Goals as goal

-- a buffer whose front alone is written
front_written : (old : List ℕ) (n : ℕ) (reply : Reply) → reply.needed ≡ n → n ≤ length old → buffer_after (take n old) reply ++ drop n old ≡ buffer_after old reply
front_written old n reply e h = grind (arith, common_steps)

last_needed : (w : CipherWork) (o : Option (List ℕ)) → (last_part w o).reply.needed ≡ last_length (mode_of w.alg)
last_needed w (Some text) = refl
last_needed w None = refl

abbrev end_of : Result ℕ Status → Operation CipherWork
end_of r = if is_ok r then Inactive else InError

-- where a row refuses
module _ (o : Option Status) (end : After CipherWork) (t : Status) (refused : o ≡ Some t) where
  failed_operation : (r : Result ℕ Status) (s : Status) → r ≡ Err s → (unless_failed o end).operation ≡ (if is_ok r then Inactive else InError)
  failed_operation r s e =
      ap (λ (p : Option Status). (unless_failed p end).operation) refused ∙ ap (λ (x : Result ℕ Status). end_of x) (sym e)

pub returns : goal.returns
returns c =
    let out = c.args.out.now in
    let n = c.in_ok-needed.needed in
    let known = c.in_ok-needed.ensures in
    let passed = λ (w : CipherWork) (h : HoldsCipher c.args.self.now w). unless-ok (first_row (cipher_finish_rows w (length out))) (last_length (mode_of w.alg)) n (sym (known.value w h)) in
    record {
      within = search rules;
      reply = λ w h.
          subst (λ (o : Option Status). AnswersOrSpoils c.last_part.result (unless_failed o (last_part w (whole_text w))).reply) (sym (passed w h).0)
          (c.last_part.ensures.reply w h (known.ready w h) (known.whole w h));
      buffer = λ w h.
          let end = last_part w (whole_text w) in
          ap (λ (l : List ℕ). l ++ drop n out) (c.last_part.ensures.buffer w h (known.ready w h) (known.whole w h))
          ∙ front_written out n end.reply (last_needed w (whole_text w) ∙ (passed w h).1) known.room
          ∙ ap (λ (o : Option Status). buffer_after out (unless_failed o end).reply) (sym (passed w h).0);
      operation = λ w h.
          ap (λ (o : Option Status). (unless_failed o (last_part w (whole_text w))).operation) (passed w h).0
          ∙ c.last_part.ensures.operation w h (known.ready w h) (known.whole w h);
    }
