-- What a call with an output buffer answers, by its table.
use Rattle.std.proofs.Common.{Err, IfOk, List, None, Ok, Option, Result, Some, ap, length, refl, subst, sym, ℕ, ◌∙◌, ◌≡◌}
use Rattle.single_part.proofs.{Common.AnswersLength, Common.Computed, Common.RandomStream, Common.Reply, Common.Status, Common.buffer_after, Common.computed_unless, Common.drawn_from, Common.given, Common.reply_unless, Common.result_err, Draws.draws_none}

-- the length of the bytes, unless a row holds
pub given_length : (r : Result ℕ Status) (o : Option Status) (bytes : List ℕ) → result_err r ≡ o → IfOk r (λ n. n ≡ length bytes) → AnswersLength r (reply_unless o (given bytes))
given_length (Ok n) None bytes e f = (refl, f, refl)
given_length (Err s) (Some t) bytes e f = cc
given_length (Ok n) (Some t) bytes e f = cc
given_length (Err s) None bytes e f = cc

pub refused_length : (r : Result ℕ Status) (reply : Reply) (o : Option Status) (s t : Status) → r ≡ Err s → s ≡ t → o ≡ Some t → AnswersLength r (reply_unless o reply)
refused_length r reply o s t e f h =
    subst (λ x. AnswersLength x (reply_unless o reply)) (sym (e ∙ ap Err f)) (ap (λ (x : Option Status). reply_unless x reply) h)

-- a refusal leaves the buffer
pub refused_buffer : (old : List ℕ) (reply : Reply) (o : Option Status) (t : Status) → o ≡ Some t → old ≡ buffer_after old (reply_unless o reply)
refused_buffer old reply o t h = ap (λ (x : Option Status). buffer_after old (reply_unless x reply)) (sym h)

pub refused_answer : (r : Result ℕ Status) (computed : Computed) (o : Option Status) (s t : Status) → r ≡ Err s → s ≡ t → o ≡ Some t → AnswersLength r (computed_unless o computed).reply
refused_answer r computed o s t e f h =
    subst (λ x. AnswersLength x (computed_unless o computed).reply) (sym (e ∙ ap Err f)) (ap (λ (x : Option Status). (computed_unless x computed).reply) h)

pub kept_buffer : (old : List ℕ) (computed : Computed) (o : Option Status) (t : Status) → o ≡ Some t → old ≡ buffer_after old (computed_unless o computed).reply
kept_buffer old computed o t h = ap (λ (x : Option Status). buffer_after old (computed_unless x computed).reply) (sym h)

-- and draws nothing
pub kept_stream : (stream : RandomStream) (computed : Computed) (o : Option Status) (t : Status) → o ≡ Some t → stream ≡ drawn_from stream (computed_unless o computed).drawn
kept_stream stream computed o t h = draws_none stream ∙ ap (λ (x : Option Status). drawn_from stream (computed_unless x computed).drawn) (sym h)
