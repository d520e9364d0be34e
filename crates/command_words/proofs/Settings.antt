-- Options that are read one after another are those that the words give.
use Rattle.std.proofs.Common.{Bool, List, None, Option, Some, [], add-one, ap, append-nil, append_assoc, arith, cond, count_by, drop, drop-cons, false, find, get_or, is_some, length, map, nat_le, refl, subst, sym, true, ℕ, ◌++◌, ◌+◌, ◌<◌, ◌∙◌, ◌∷◌, ◌≡◌, ◌≤◌}
use Rattle.command_words.proofs.Common.{after_word, after_words, all_options, and_left, and_right, are_single, at_end, find-append, if_new, is_of, list_all, option_in, option_or, options_in, Rules, RunOption, Seed, Setting, settled_texts, State, state, Texts, texts_of, value_of, with_option, Workers}
use Rattle.std.specs.{Option.option_map, Option.option_and_then, Borrow.Bor}
use Rattle.std.proofs.{lemmas.List.at_drop_all, lemmas.List.Sums.sum_by-append, lemmas.Bool.Decides.nat_tests}
use Rattle.command_words.specs.declared.options.Reading.{Reading}

-- settings in front of others
pub behind : List Setting → Option (List Setting) → Option (List Setting)
behind done more = option_map (λ others. done ++ others) more

-- the value of an option among texts
abbrev pub text_at : Texts → RunOption → Option (List ℕ)
text_at texts Workers = texts.workers
text_at texts Seed = texts.seed
text_at texts Rules = texts.rules

abbrev pub put : Texts → RunOption → List ℕ → Texts
put texts Workers value = record texts { workers = Some value }
put texts Seed value = record texts { seed = Some value }
put texts Rules value = record texts { rules = Some value }

-- an option's value is the one that settings have, and where it stands it does so once
pub record Stands (settings : List Setting) (option : RunOption) (value : Option (List ℕ)) : Type 0 where
  pub found : value ≡ value_of option settings
  pub count : count_by (is_of option) settings ≡ cond (is_some value) 1 0

abbrev pub Match : Texts → List Setting → Type 0
Match texts settings = (option : RunOption) → Stands settings option (text_at texts option)

pub with_is : (texts : Texts) (o : RunOption) (value : List ℕ) → with_option texts o value ≡ if_new (text_at texts o) (put texts o value)
with_is texts Workers value = refl
with_is texts Seed value = refl
with_is texts Rules value = refl

pub put_at : (texts : Texts) (o p : RunOption) (value : List ℕ) → text_at (put texts o value) p ≡ cond (is_of p (o, value)) (Some value) (text_at texts p)
put_at texts Workers Workers value = refl
put_at texts Seed Seed value = refl
put_at texts Rules Rules value = refl
put_at texts o p value = refl

pub same_option : (o p : RunOption) (value : List ℕ) → is_of p (o, value) ≡ true → o ≡ p
same_option Workers Workers value e = refl
same_option Seed Seed value e = refl
same_option Rules Rules value e = refl
same_option o p value e = absurd (cc)

pub is_of_itself : (o : RunOption) (value : List ℕ) → is_of o (o, value) ≡ true
is_of_itself Workers value = refl
is_of_itself Seed value = refl
is_of_itself Rules value = refl

pub or_none : {X : Type 0} (o : Option X) → option_or o None ≡ o
or_none None = refl
or_none (Some x) = refl

pub unmapped : {X Y : Type 0} (f : X → Y) (o : Option X) → option_map f o ≡ None → o ≡ None
unmapped f None e = refl
unmapped f (Some x) e = absurd (cc)

-- one more setting, of the option or of another
stands_next : (settings : List Setting) (x : Setting) (p : RunOption) (old : Option (List ℕ)) (b : Bool) → is_of p x ≡ b → (b ≡ true → old ≡ None) →
    Stands settings p old → Stands (settings ++ x ∷ []) p (cond b (Some x.1) old)
stands_next settings x p old true e new h = record {
  found =
      let none : find (is_of p) settings ≡ None = unmapped _ _ (sym (sym (new refl) ∙ h.found)) in
      rw (find-append (is_of p) settings (x ∷ []), none, e) refl;
  count = rw (sum_by-append (λ y. cond (is_of p y) 1 0) settings (x ∷ []), h.count, new refl, e) refl;
}
stands_next settings x p old false e new h = record {
  found = rw (find-append (is_of p) settings (x ∷ []), e, or_none (find (is_of p) settings)) h.found;
  count = rw (sum_by-append (λ y. cond (is_of p y) 1 0) settings (x ∷ []), h.count, e) (omega arith);
}

match_next : (texts : Texts) (settings : List Setting) (o : RunOption) (value : List ℕ) → text_at texts o ≡ None → Match texts settings →
    Match (put texts o value) (settings ++ (o, value) ∷ [])
match_next texts settings o value new h p = subst (λ v. Stands (settings ++ (o, value) ∷ []) p v) (sym (put_at texts o p value))
    (stands_next settings (o, value) p (text_at texts p) (is_of p (o, value)) refl (λ e. subst (λ q. text_at texts q ≡ None) (same_option o p value e) new) (h p))

-- an option that stands twice

one_fails : (f : RunOption → Bool) (o : RunOption) → f o ≡ false → list_all f all_options ≡ false
one_fails f Workers e = and_left _ _ e
one_fails f Seed e = and_right _ _ (and_left _ _ e)
one_fails f Rules e = and_right _ _ (and_right _ _ (and_left _ _ e))

twice : (settings more : List Setting) (o : RunOption) (value text : List ℕ) → Stands settings o (Some text) → texts_of (settings ++ (o, value) ∷ more) ≡ None
twice settings more o value text h =
    let this : count_by (is_of o) ((o, value) ∷ []) ≡ 1 = rw (is_of_itself o value) refl in
    let later : count_by (is_of o) ((o, value) ∷ more) ≡ 1 + count_by (is_of o) more =
    sum_by-append (λ y. cond (is_of o y) 1 0) ((o, value) ∷ []) more ∙ ap (λ n. n + count_by (is_of o) more) this in
    let two : count_by (is_of o) (settings ++ (o, value) ∷ more) ≡ 1 + (1 + count_by (is_of o) more) =
    sum_by-append (λ y. cond (is_of o y) 1 0) settings ((o, value) ∷ more) ∙ ap (λ n. n + count_by (is_of o) ((o, value) ∷ more)) h.count ∙ ap (λ n. 1 + n) later in
    let no : nat_le (count_by (is_of o) (settings ++ (o, value) ∷ more)) 1 ≡ false = rw two (grind (arith, nat_tests)) in
    rw (one_fails (λ p. nat_le (count_by (is_of p) (settings ++ (o, value) ∷ more)) 1) o no) refl

-- where each stands at most once, the texts are theirs

at_most_one : (b : Bool) (n : ℕ) → n ≡ cond b 1 0 → nat_le n 1 ≡ true
at_most_one true n e = rw e refl
at_most_one false n e = rw e refl

single : (texts : Texts) (settings : List Setting) → Match texts settings → are_single settings ≡ true
single texts settings h =
    rw (at_most_one _ _ (h Workers).count, at_most_one _ _ (h Seed).count, at_most_one _ _ (h Rules).count) refl

texts_are : (texts : Texts) (settings : List Setting) → Match texts settings → texts_of settings ≡ Some texts
texts_are texts settings h = rw (single texts settings h, sym (h Workers).found, sym (h Seed).found, sym (h Rules).found) refl

-- the words

append_one : (done : List Setting) (s : Setting) (more : Option (List Setting)) →
    behind done (option_map (λ others. s ∷ others) more) ≡ behind (done ++ s ∷ []) more
unfolding behind
append_one done s None = refl
append_one done s (Some others) = ap Some (sym (append_assoc done (s ∷ []) others))

ends_repeated : (done : List Setting) (o : RunOption) (value text : List ℕ) (more : Option (List Setting)) → Stands done o (Some text) →
    None ≡ option_and_then texts_of (behind done (option_map (λ others. (o, value) ∷ others) more))
unfolding behind
ends_repeated done o value text None h = refl
ends_repeated done o value text (Some others) h = sym (twice done others o value text h)

abbrev pub Reads : List (List ℕ) → Option RunOption → Type 0
Reads words waiting = (texts : Texts) (done : List Setting) → Match texts done → after_words (texts, waiting) words ≡ option_and_then texts_of (behind done (options_in waiting words))

with_value : (words : List (List ℕ)) (texts : Texts) (done : List Setting) (o : RunOption) (value : List ℕ) (old : Option (List ℕ)) → text_at texts o ≡ old →
    Reads words None → Match texts done →
    option_and_then (λ next. after_words next words) (settled_texts (if_new old (put texts o value)))
    ≡ option_and_then texts_of (behind done (option_map (λ others. (o, value) ∷ others) (options_in None words)))
with_value words texts done o value None e reads h =
    reads (put texts o value) (done ++ (o, value) ∷ []) (match_next texts done o value e h)
    ∙ ap (option_and_then texts_of) (sym (append_one done (o, value) (options_in None words)))
with_value words texts done o value (Some text) e reads h =
    ends_repeated done o value text (options_in None words) (subst (λ v. Stands done o v) e (h o))

reads_value : (words : List (List ℕ)) (texts : Texts) (done : List Setting) (o : RunOption) (value : List ℕ) → Reads words None → Match texts done →
    option_and_then (λ next. after_words next words) (settled_texts (with_option texts o value))
    ≡ option_and_then texts_of (behind done (option_map (λ others. (o, value) ∷ others) (options_in None words)))
reads_value words texts done o value reads h = rw (with_is texts o value) (with_value words texts done o value (text_at texts o) refl reads h)

pub reads : (words : List (List ℕ)) (waiting : Option RunOption) → Reads words waiting
unfolding after_words options_in behind
reads [] None texts done h = sym (rw (append-nil done) (texts_are texts done h))
reads [] (Some o) texts done h = refl
reads (word ∷ words) (Some o) texts done h = reads_value words texts done o word (reads words None) h
reads (word ∷ words) None texts done h = elim (option_in word) as (λ (found : Option (RunOption × Option (List ℕ))).
    option_and_then (λ next. after_words next words) (elim found [
      | None ↦ None
      | Some (option, None) ↦ Some (texts, Some option)
      | Some (option, Some value) ↦ settled_texts (with_option texts option value)
    ])
    ≡ option_and_then texts_of (behind done (elim found [
      | None ↦ None
      | Some (option, None) ↦ options_in (Some option) words
      | Some (option, Some value) ↦ option_map (λ settings. (option, value) ∷ settings) (options_in None words)
    ]))) [
      | None ↦ refl
      | Some (option, None) ↦ reads words (Some option) texts done h
      | Some (option, Some value) ↦ reads_value words texts done option value (reads words None) h
    ]

none_stands : Match (record { workers = None; seed = None; rules = None }) []
none_stands Workers = record { found = refl; count = refl }
none_stands Seed = record { found = refl; count = refl }
none_stands Rules = record { found = refl; count = refl }

nothing_before : (o : Option (List Setting)) → behind [] o ≡ o
unfolding behind
nothing_before None = refl
nothing_before (Some s) = refl

-- all words
pub reads_all : (words : List (List ℕ)) → after_words (record { workers = None; seed = None; rules = None }, None) words ≡ option_and_then texts_of (options_in None words)
reads_all words = reads words None _ [] none_stands ∙ ap (option_and_then texts_of) (nothing_before (options_in None words))

-- one word after another, as a reader goes

at_next : (ws : List (Bor (List ℕ))) (i : ℕ) (d : Bor (List ℕ)) (s : State) → i < length ws →
    after_words s (map (λ w. w.now) (drop i ws)) ≡ option_and_then (λ next. after_words next (map (λ w. w.now) (drop (i + 1) ws))) (after_word s (get_or ws i d).now)
unfolding after_words
at_next ws i d s h = rw (drop-cons ws i d, add-one) refl

pub goes_on : (ws : List (Bor (List ℕ))) (i : ℕ) (d : Bor (List ℕ)) (s : State) (read : Option Reading) (next : Reading) (all : Option Texts) → i < length ws →
    all ≡ after_words s (map (λ w. w.now) (drop i ws)) → option_map state read ≡ after_word s (get_or ws i d).now → read ≡ Some next →
    all ≡ after_words (state next) (map (λ w. w.now) (drop (i + 1) ws))
goes_on ws i d s read next all h e f is = e ∙ at_next ws i d s h ∙ rw (sym f, is) refl

pub stops : (ws : List (Bor (List ℕ))) (i : ℕ) (d : Bor (List ℕ)) (s : State) (read : Option Reading) (all : Option Texts) → i < length ws →
    all ≡ after_words s (map (λ w. w.now) (drop i ws)) → option_map state read ≡ after_word s (get_or ws i d).now → read ≡ None → all ≡ None
stops ws i d s read all h e f is = e ∙ at_next ws i d s h ∙ rw (sym f, is) refl

pub ends : (ws : List (Bor (List ℕ))) (i : ℕ) (s : State) (all : Option Texts) → length ws ≤ i → all ≡ after_words s (map (λ w. w.now) (drop i ws)) → all ≡ at_end s
unfolding after_words
ends ws i s all h e = e ∙ at_drop_all (λ rest. after_words s (map (λ w. w.now) rest)) ws i h
