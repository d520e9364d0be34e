use Rattle.std.proofs.Common.{IfOk, List, None, Option, Result, Some, ap, length, subst, sym, take, ℕ, ◌∙◌, ◌≡◌}
use Rattle.single_part.proofs.{Common.AnswersLength, Common.Status, Common.buffer_after, Common.class_rows, Common.err_from_is_err_and, Common.first_row, Common.first_row-back, Common.first_row-front, Common.given, Common.reply_unless, Common.result_err, Common.room_rows, Replies.given_length, Replies.refused_length, Replies.refused_buffer}
use Rattle.hash_ops.proofs.Digests.{length-hash_of}
use Rattle.hash_ops.specs.Hashes as hashes
use Rattle.hash_ops.specs.declared.Hash.{Hash}
use Rattle.key_policy.specs.Names.{NamesHash}
use Rattle.alg_encoding.specs.declared.table.Class.TheVariants as class
use Rattle.store_model.specs.{Algorithms.hash_length_of, Algorithms.hash_of, Hashes.compute_rows}
use Rattle.single_part.proofs.hashes.hash_compute.Goals as goal

-- a number that names no hash is refused
no_hash : (alg room : ℕ) (s : Status) → Some s ≡ first_row (class_rows class.Hash alg) → first_row (compute_rows alg room) ≡ Some s
no_hash alg room s e = first_row-front (class_rows class.Hash alg) (room_rows (hash_length_of alg) room) s (sym e)

module _ (alg room : ℕ) (which : Hash) (names : NamesHash alg which) (none : None ≡ first_row (class_rows class.Hash alg)) (input bytes : List ℕ) (is : bytes ≡ hashes.hash_of which input) where
  text : bytes ≡ hash_of alg input
  text = is ∙ ap (λ (f : List ℕ → List ℕ). f input) names.digest

  rows : first_row (room_rows (length bytes) room) ≡ first_row (compute_rows alg room)
  rows = ap (λ (n : ℕ). first_row (room_rows n room)) (ap length is ∙ length-hash_of which input ∙ names.length)
      ∙ sym (first_row-back (class_rows class.Hash alg) (room_rows (hash_length_of alg) room) (sym none))

  hashed_length : (r : Result ℕ Status) → result_err r ≡ first_row (room_rows (length bytes) room) → IfOk r (λ n. n ≡ length bytes)
      → AnswersLength r (reply_unless (first_row (compute_rows alg room)) (given (hash_of alg input)))
  hashed_length r e l = given_length r (first_row (compute_rows alg room)) (hash_of alg input) (e ∙ rows) (subst (λ (b : List ℕ). IfOk r (λ n. n ≡ length b)) text l)

  hashed_buffer : (old new : List ℕ) → new ≡ buffer_after old (reply_unless (first_row (room_rows (length bytes) room)) (given bytes))
      → new ≡ buffer_after old (reply_unless (first_row (compute_rows alg room)) (given (hash_of alg input)))
  hashed_buffer old new e =
      e ∙ ap (λ (o : Option Status). buffer_after old (reply_unless o (given bytes))) rows
      ∙ ap (λ (b : List ℕ). buffer_after old (reply_unless (first_row (compute_rows alg room)) (given b))) text

pub returns-in_err-which : goal.returns-in_err-which
returns-in_err-which c =
    let p = err_from_is_err_and c.from_residual.result c.from_residual.ensures.1 in
    let none = no_hash c.args.alg.0 (length c.args.out.now) _ (rw c.of.ensures at c.in_err-which.ensures.refusal) in
    record { reply = refused_length c.from_residual.result _ _ p.0 c.in_err-which.field-0.0 p.1 p.2 none; buffer = refused_buffer c.args.out.now _ _ _ none }

pub returns : goal.returns
returns c =
    let which = c.in_ok-which in let names = rw c.of.ensures at which.ensures.names in let none = rw c.of.ensures at which.ensures.refusal in
    let text = take c.hash-length.result c.hash-length.new.out in record {
      reply = hashed_length c.args.alg.0 (length c.args.out.now) which.which names none c.args.input.now text c.hash-length.ensures.digest c.give_front.result c.give_front.ensures.refusal c.give_front.ensures.length;
      buffer = hashed_buffer c.args.alg.0 (length c.args.out.now) which.which names none c.args.input.now text c.hash-length.ensures.digest c.args.out.now c.give_front.new.out c.give_front.ensures.buffer;
    }
