use Rattle.std.proofs.Common.{Err, List, Ok, OnOk, Result, ap, append_assoc, codes, refl, sym, ℕ, ◌++◌, ◌∙◌, ◌≡◌}
use Rattle.script_lang.proofs.Common.{bytes_text, decimal, next_line, reply_text, text_in, unranked_text}
use Rattle.std.specs.declared.alloc.AllocError.{AllocError}
use Rattle.psa_status.specs.Status.{status_name}
use Rattle.script_lang.proofs.replies.Replies.push_line.Goals as goal

ranked : (text a b c d e f g h i : List ℕ) → ((text ++ (a ++ b ++ c)) ++ (d ++ e)) ++ (f ++ g ++ h ++ i) ≡ text ++ (a ++ b ++ c ++ d ++ e ++ f ++ g ++ h ++ i)
ranked text a b c d e f g h i = simp (append_assoc {A = ℕ}) refl

unranked : (text a b c f g h i : List ℕ) → (text ++ (a ++ b ++ c)) ++ (f ++ g ++ h ++ i) ≡ text ++ (a ++ b ++ c ++ f ++ g ++ h ++ i)
unranked text a b c f g h i = simp (append_assoc {A = ℕ}) refl

-- what a text becomes that is appended to, as another sum of the same
appended : (result : Result (Unit {0}) AllocError) (text before piece wanted : List ℕ) → OnOk result (text ≡ before ++ piece) → before ++ piece ≡ wanted → OnOk result (text ≡ wanted)
appended (Ok done) text before piece wanted is same = is ∙ same
appended (Err e) text before piece wanted is same = tt

pub returns-in_ok-push_rank-in-Ranked-clause-text :
    goal.returns-in_ok-push_rank-in-Ranked-clause-text
unfolding reply_text
returns-in_ok-push_rank-in-Ranked-clause-text c =
    let old = c.args.self.now in let line = next_line old c.args.rank c.args.status c.args.bytes.now in
    let place = decimal line.session ++ codes "." ++ decimal line.number in let rank = codes " @" ++ decimal line.rank in
    let before : c.push_rank.new.out.items ≡ (old.text.items ++ place) ++ rank = c.in_ok-push_rank-in-Ranked.ensures ∙ ap (λ t. t ++ rank) (c.in_ok-push_place.ensures ∙ ap (λ t. t ++ place) c.make_room.ensures) in
    appended c.push_answer.result c.push_answer.new.out.items c.push_rank.new.out.items _ _ c.push_answer.ensures
    (ap (λ t. t ++ (codes " " ++ status_name line.status ++ bytes_text line.bytes ++ codes "\n")) before
    ∙ (ranked old.text.items (decimal line.session) (codes ".") (decimal line.number) (codes " @") (decimal line.rank) (codes " ") (status_name line.status) (bytes_text line.bytes) (codes "\n")
    ∙ ap (λ f. old.text.items ++ text_in f line) (sym c.in-Ranked.is)))

pub returns-in-Unranked-clause-text : goal.returns-in-Unranked-clause-text
unfolding unranked_text
returns-in-Unranked-clause-text c =
    let old = c.args.self.now in let line = next_line old c.args.rank c.args.status c.args.bytes.now in
    let place = decimal line.session ++ codes "." ++ decimal line.number in
    appended c.push_answer-in-Unranked.result c.push_answer-in-Unranked.new.out.items c.push_place.new.out.items _ _ c.push_answer-in-Unranked.ensures
    (ap (λ t. t ++ (codes " " ++ status_name line.status ++ bytes_text line.bytes ++ codes "\n")) (c.in_ok-push_place.ensures ∙ ap (λ t. t ++ place) c.make_room.ensures)
    ∙ (unranked old.text.items (decimal line.session) (codes ".") (decimal line.number) (codes " ") (status_name line.status) (bytes_text line.bytes) (codes "\n")
    ∙ ap (λ f. old.text.items ++ text_in f line) (sym c.in-Unranked.is)))
