use Rattle.session_host.proofs.Common.{IfOk, IsNoted, List, Memory, NotesLine, Ok, Output, Replies, Result, Status, Success, ap, id_given, length, min, output_bytes, refl, reply_of, subst, sym, take, ℕ, ◌∙◌, ◌≡◌}
use Rattle.session_host.proofs.Noted.{noted, take_within}
use Rattle.session_host.proofs.answers.note_output.Goals as goal

-- the line of an output, where its bytes were made so
noted_of : (r : Result ℕ Memory) (old new : Replies) (rank : ℕ) (asked output : Output) (out bytes : List ℕ) (status : Status) → asked ≡ output → (reply_of (Ok output) out).status ≡ status → bytes ≡ output_bytes (reply_of (Ok output) out).output →
    IfOk r (λ id. NotesLine old new rank status bytes) → IfOk r (λ id. id ≡ id_given (reply_of (Ok output) out).output) → IfOk r (IsNoted old new rank (reply_of (Ok asked) out))
noted_of r old new rank asked output out bytes status is same_status made line id =
    subst (λ x. IfOk r (IsNoted old new rank (reply_of (Ok x) out))) (sym is)
    (noted r old new rank (reply_of (Ok output) out) (subst (λ s. IfOk r (λ id. NotesLine old new rank s (output_bytes (reply_of (Ok output) out).output))) (sym same_status) (subst (λ b. IfOk r (λ id. NotesLine old new rank status b)) made line)) id)

pub returns-in-Done-clause-noted : goal.returns-in-Done-clause-noted
returns-in-Done-clause-noted c =
    noted_of c.note_bytes.result c.args.replies.now c.note_bytes.new.replies c.args.rank c.args.output _ c.args.out.now _ Success c.in-Done.is refl refl c.note_bytes.ensures.noted c.note_bytes.ensures.id

pub returns-in-Identifier-clause-noted : goal.returns-in-Identifier-clause-noted
returns-in-Identifier-clause-noted c =
    noted_of c.note_bytes-in-Identifier.result c.args.replies.now c.note_bytes-in-Identifier.new.replies c.args.rank c.args.output _ c.args.out.now _ Success c.in-Identifier.is refl c.to_be_bytes.ensures c.note_bytes-in-Identifier.ensures.noted c.note_bytes-in-Identifier.ensures.id

pub returns-in-Description-clause-noted : goal.returns-in-Description-clause-noted
returns-in-Description-clause-noted c =
    noted_of c.note_attributes.result c.args.replies.now c.note_attributes.new.replies c.args.rank c.args.output _ c.args.out.now _ Success c.in-Description.is refl refl c.note_attributes.ensures.noted c.note_attributes.ensures.id

pub returns-in-Bytes-clause-noted : goal.returns-in-Bytes-clause-noted
returns-in-Bytes-clause-noted c =
    noted_of c.note_bytes-in-Bytes.result c.args.replies.now c.note_bytes-in-Bytes.new.replies c.args.rank c.args.output _ c.args.out.now _ Success c.in-Bytes.is refl (ap (λ k. take k c.args.out.now) c.min.ensures ∙ take_within c.in-Bytes.length c.args.out.now) c.note_bytes-in-Bytes.ensures.noted c.note_bytes-in-Bytes.ensures.id

pub returns-in-Number-clause-noted : goal.returns-in-Number-clause-noted
returns-in-Number-clause-noted c =
    noted_of c.note_bytes-in-Number.result c.args.replies.now c.note_bytes-in-Number.new.replies c.args.rank c.args.output _ c.args.out.now _ Success c.in-Number.is refl c.to_be_bytes-in-Number.ensures c.note_bytes-in-Number.ensures.noted c.note_bytes-in-Number.ensures.id
