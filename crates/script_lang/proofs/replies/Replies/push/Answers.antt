use Rattle.std.proofs.{Common.[], Common.ap, Common.ap₂, Common.arith, Common.cond, Common.flat_map, Common.sym, Common.◌++◌, Common.◌+◌, Common.◌∙◌, Common.◌∷◌, lemmas.Grind.flat_map-append}
use Rattle.script_lang.proofs.Common.{append-nil, count_by-le-length, is_success, length_push, next_line, ReplyLine, sum_by_push, text_in}
use Rattle.script_lang.proofs.replies.Replies.push.Goals as goal

pub push_line-requires : goal.push_line-requires
push_line-requires c = record { few = let k = c.requires.few in let n = k.1.count in let m = k.2 in omega arith }

pub counted-self-requires : goal.counted-self-requires
counted-self-requires c =
    let k = c.requires.few in let same = c.in-Ok.ensures.same in
    let n = k.1.successes in let a = count_by-le-length is_success k.0 in let m = k.2 in let s = same.3 in omega arith

pub returns-clause-kept : goal.returns-clause-kept
returns-clause-kept c = λ lines k.
    let old = c.args.self.now in let new = c.push_line.new.self in let same = c.in-Ok.ensures.same in
    let line = next_line old c.args.rank c.args.status c.args.bytes.now in record {
      count = let a = length_push lines line in let b = k.count in let d = same.2 in omega arith;
      successes = c.counted-self.ensures
          ∙ (ap (λ n. n + cond (is_success line) 1 0) (same.3 ∙ k.successes) ∙ sym (sum_by_push (λ (l : ReplyLine). cond (is_success l) 1 0) lines line));
      text = c.in-Ok.ensures.text
          ∙ (ap₂ (λ a b. a ++ b) (k.text ∙ ap (λ f. flat_map (text_in f) lines) (sym same.1)) (sym (append-nil (text_in old.form line)) ∙ ap (λ f. flat_map (text_in f) (line ∷ [])) (sym same.1))
          ∙ sym (flat_map-append (text_in new.form) lines (line ∷ [])));
    }
