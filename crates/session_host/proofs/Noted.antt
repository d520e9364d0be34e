-- What is noted of an answer, as the reply that it is.
use Rattle.session_host.proofs.Common.{ArePrintedAlike, Err, Fills, IfOk, IsNoted, List, Memory, NotesLine, Ok, Output, Replies, Reply, Result, Status, [], ap, append_assoc, arith, buffer_bytes, drop, failure_in, failure_told, id_given, inl, inr, leb_tells, length, min, output_bytes, refl, replicate, reply_of, subst, sym, take, take-append_seam, take_all, ℕ, ◌++◌, ◌+◌, ◌-◌, ◌∙◌, ◌≡◌}
use Rattle.service_calls.specs.declared.output.Output.TheVariants.{Done, Identifier, Description, Bytes, Number}

-- a line was noted of this reply, and its identifier handed on
pub noted : (r : Result ℕ Memory) (old new : Replies) (rank : ℕ) (reply : Reply) → IfOk r (λ id. NotesLine old new rank reply.status (output_bytes reply.output)) → IfOk r (λ id. id ≡ id_given reply.output) →
    IfOk r (λ id. IsNoted old new rank reply id)
noted (Ok id) old new rank reply line is = record { line = line; id_is = is }
noted (Err full) old new rank reply line is = tt

-- no more than the buffer has is taken of it
pub take_within : (n : ℕ) (out : List ℕ) → take (min n (length out)) out ≡ take n out
take_within n out = elim (leb_tells n (length out)) [
  | inl short ↦ ap (λ k. take k out) (let l = short.1 in omega arith)
  | inr long ↦ take_all (min n (length out)) out (let l = long.1 in omega arith) ∙ sym (take_all n out (let l = long.1 in omega arith))
]

same : (one other : Reply) → other ≡ one → ArePrintedAlike one other
same one other is = subst (ArePrintedAlike one) (sym is) (record { status = refl; bytes = refl; id = refl })

-- what is printed of an answer is the reply of which it is
pub alike : (answer : Result Output Status) (out : List ℕ) (reply : Reply) → Fills answer out reply → ArePrintedAlike (reply_of answer out) reply
alike (Ok Done) out reply f = same _ reply f.answers
alike (Ok (Identifier id)) out reply f = same _ reply f.answers
alike (Ok (Description attributes)) out reply f = same _ reply f.answers
alike (Ok (Bytes n)) out reply f =
    let given : List ℕ = buffer_bytes reply.output in
    let zeros : List ℕ = replicate (reply.needed - length given) 0 in let rest : List ℕ = zeros ++ drop reply.needed f.before in
    let whole : out ≡ given ++ rest = f.after ∙ append_assoc given zeros (drop reply.needed f.before) in
    let g = f.answers in record {
      status = sym g.0;
      bytes = ap (λ k. take k out) g.1 ∙ (ap (take (length given)) whole ∙ (take-append_seam given rest ∙ sym (ap output_bytes g.2)));
      id = sym (ap id_given g.2);
    }
alike (Ok (Number n)) out reply f = same _ reply f.answers
alike (Err status) out reply f = let g = f.answers in record { status = sym g.0; bytes = sym (ap output_bytes g.1); id = sym (ap id_given g.1) }

-- and it tells of the failure of which the answer does
pub tells : (answer : Result Output Status) (out : List ℕ) → failure_told (reply_of answer out).status ≡ failure_in answer
tells (Ok Done) out = refl
tells (Ok (Identifier id)) out = refl
tells (Ok (Description attributes)) out = refl
tells (Ok (Bytes n)) out = refl
tells (Ok (Number n)) out = refl
tells (Err status) out = refl
