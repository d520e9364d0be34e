-- Callers that have seen what others of their thread had.
use Rattle.session_host.proofs.Common.{AreKept, AreTurnsIn, Caller, ChangesAt, Entry, HasAnswered, HasLearned, IsReady, List, Names, Opened, Replies, ScriptLine, Session, StartsWith, View, World, [], ap, arith, begins_itself, caller_of, calls_by, entries_of, get_or, get_or-set_other, get_or-set_same, joined, length, length-set, lines_of, refl, seen_begins, set, subst, sym, ℕ, ◌<◌, ◌∙◌, ◌∷◌, ◌≡◌}
use Rattle.std.specs.Global.{Vec}
use Rattle.callers.specs.Parts.{SameButPass}
use Rattle.session_host.proofs.Told.{own_calls, turns_later}

-- A CALLER THAT HAS SEEN MORE

module _ {D A C : Type 0} (w : World D A C) where
  pub has_learned : (old new : Caller D A C) (replies : Replies) (given : Vec ℕ) (other : View Entry (Opened D A C)) → IsReady w 0 new → new.pass.me.0 ≡ joined old.pass.me.0 other → StartsWith new.pass.me.0.seen old.pass.me.0.seen →
      SameButPass old new → HasLearned w (record { caller = old; replies = replies; given = given }) (record { caller = new; replies = replies; given = given })
  has_learned old new replies given other ready is seen same = record {
    ready = ready;
    number = same.number;
    spent = same.spent;
    calls = ap (λ (v : View Entry (Opened D A C)). v.calls) is;
    seen = seen_begins old.pass.me.0 new.pass.me.0 seen;
    replies = refl;
    given = refl;
  }

module _ {D A C : Type 0} (w : World D A C) (names : Names) where
  pub learned : (lines : List ScriptLine) (old new : Session D A C) → HasLearned w old new → HasAnswered w names lines old → HasAnswered w names lines new
  learned lines old new l h =
      let n : ℕ = old.caller.number in let c : Caller D A C = old.caller in let d : Caller D A C = new.caller in
      let made = h.replies.replies.made in
      let was : calls_by caller_of n (entries_of c.pass.me.0.seen) ≡ c.pass.me.0.calls = own_calls w names c made.ready in
      let now : calls_by caller_of n (entries_of d.pass.me.0.seen) ≡ d.pass.me.0.calls = subst (λ k. calls_by caller_of k (entries_of d.pass.me.0.seen) ≡ d.pass.me.0.calls) l.number (own_calls w names d l.ready) in
      record {
        replies = record {
          replied = h.replies.replied;
          kept = subst (λ k. AreKept k h.replies.replied) (sym l.replies) h.replies.kept;
          session = ap (λ k. k.session) l.replies ∙ (h.replies.session ∙ sym l.number);
          replies = record {
            made = record {
              ready = l.ready;
              spent = let a = made.spent in let b = l.spent in omega arith;
              turns = made.turns;
              made = subst (λ k. AreTurnsIn w names (entries_of d.pass.me.0.seen) k (lines_of k lines) made.turns) (sym l.number)
                  (turns_later w names n (entries_of d.pass.me.0.seen) (entries_of c.pass.me.0.seen) (lines_of n lines) made.turns l.seen (now ∙ (l.calls ∙ sym was)) made.made);
            };
            printed = h.replies.replies.printed;
          };
        };
        given = ap (λ v. v.items) l.given ∙ h.given;
      }

-- A SESSION AMONG OTHERS

pub item_of : {X : Type 0} (xs : List X) (i : ℕ) → i < length xs → X
item_of [] i lt = absurd (omega arith)
item_of (x ∷ xs) i lt = x

pub changes_set : {X : Type 0} (R : X → X → Type 0) (xs : List X) (place : ℕ) (x : X) → place < length xs → ((d : X) → R (get_or xs place d) x) → ChangesAt place R xs (set xs place x)
changes_set R xs place x lt here = record {
  as_many = length-set xs place x;
  here = λ d. subst (R (get_or xs place d)) (sym (get_or-set_same xs place x d lt)) (here d);
  others = λ k d other. get_or-set_other xs place k x d other;
}

pub changes_none : {X : Type 0} (R : X → X → Type 0) (xs : List X) (place : ℕ) → ((d : X) → R (get_or xs place d) (get_or xs place d)) → ChangesAt place R xs xs
changes_none R xs place here = record { as_many = refl; here = here; others = λ k d other. refl }

pub learned_nothing : {D A C : Type 0} (w : World D A C) (s : Session D A C) → IsReady w 0 s.caller → HasLearned w s s
learned_nothing w s ready = record { ready = ready; number = refl; spent = refl; calls = refl; seen = begins_itself (entries_of s.caller.pass.me.0.seen); replies = refl; given = refl }
