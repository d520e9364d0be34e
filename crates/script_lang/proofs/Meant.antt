-- A text is read as calls where the grammar says that it says them, and refused where it is outside, for the reason that
-- is answered.
use Rattle.std.proofs.Common.{Bool, codes, Err, List, None, Ok, Option, Result, Some, [], ap, append_assoc, ap₂, arith, cond, false, find, inl, inr, length, ltb-false, ltb-true, nat_lt, option_map, refl, subst, suc, sym, true, ℕ, ◌++◌, ◌+◌, ◌==◌, ◌∙◌, ◌∷◌, ◌≡◌, ◌≤◌, ◌⊎◌}
use Rattle.script_lang.proofs.Common.{all_fields, append-nil, AreBadAfter, AreBadFields, AreBadFixed, AreBadWords, AreFields, AreFixed, AreSteps, BadLine, BadName, BadSession, bytes_eq, bytes_eq-Decides, call_of, cut_of, Field, field_name, field_named, Fields, FieldValue, Fixed, has_field, has_required, is_allowed, is_name, IsBadField, IsBadFixed, IsFault, IsField, IsFixed, IsBadCommand, IsBadOwner, IsOneTo, IsOwner, IsRow, IsScript, IsStep, call_line, Kind, LateOwner, BadOwner, has_begun, owner_line, owner_of, Said, said_by, with_owner, line_words, lines_at, MissingField, no_words, none-some, nothing_read, or_bad_line, parts_at, Places, Read, read_field, read_fields, read_fixed, Reason, RepeatedField, row_named, rows, same_Some, script_of, ScriptCall, ScriptFault, session_of, Shape, text_lines, TooLong, TooManyLines, UnknownCommand, UnknownField, with_call, with_word, words_at}
use Rattle.std.proofs.lemmas.Bool.{both_ways, eqb-true}
use Rattle.script_lang.proofs.{Ends.Ends, Ends.asked, Ends.demanded, Ends.denied, Ends.fails, Ends.found, Ends.reads, Ends.step, Ends.weaker, Named.name_cut, Named.named_again, Texts.handle_ends, Texts.key_ends, Texts.name_again, Texts.name_means, Texts.owner_again, Texts.owner_means, Texts.session_again, Texts.session_means, Texts.value_ends}
use Rattle.script_lang.specs.declared.commands.Kind.TheVariants as kind

-- what find found is as the test says
find_test : {X : Type 0} (p : X → Bool) (xs : List X) (x : X) → find p xs ≡ Some x → p x ≡ true
find_test p [] x e = absurd (none-some x e)
find_test {X} p (y ∷ ys) x e = go (p y) refl (find_test p ys x) e
  where
    go : (b : Bool) → p y ≡ b → (find p ys ≡ Some x → p x ≡ true) → cond b (Some y) (find p ys) ≡ Some x → p x ≡ true
    go true t more f = subst (λ z. p z ≡ true) (same_Some y x f) t
    go false t more f = more f

pub cut_joined : (s : ℕ) (xs : List ℕ) (p : List ℕ × List ℕ) → cut_of s xs ≡ Some p → xs ≡ p.0 ++ s ∷ p.1
cut_joined s [] p e = absurd (none-some p e)
cut_joined s (b ∷ bs) p e = go (b == s) (cut_of s bs) refl (cut_joined s bs) e
  where
    go : (t : Bool) (o : Option (List ℕ × List ℕ)) → (b == s) ≡ t → ((q : List ℕ × List ℕ) → o ≡ Some q → bs ≡ q.0 ++ s ∷ q.1) →
        cond t (Some ([], bs)) (option_map (λ parts. (b ∷ parts.0, parts.1)) o) ≡ Some p → b ∷ bs ≡ p.0 ++ s ∷ p.1
    go true o t more f = ap (λ c. c ∷ bs) (eqb-true b s t) ∙ ap (λ (q : List ℕ × List ℕ). q.0 ++ s ∷ q.1) (same_Some ([], bs) p f)
    go false None t more f = absurd (none-some p f)
    go false (Some q) t more f = ap (λ xs. b ∷ xs) (more q refl) ∙ ap (λ (q : List ℕ × List ℕ). q.0 ++ s ∷ q.1) (same_Some (b ∷ q.0, q.1) p f)

-- fields

-- the field that the text before the first `=` names
pub field_joined : (w : List ℕ) (parts : List ℕ × List ℕ) (f : Field) → cut_of 61 w ≡ Some parts → field_named parts.0 ≡ Some f → w ≡ field_name f ++ 61 ∷ parts.1
field_joined w parts f cut named =
    cut_joined 61 w parts cut ∙ ap (λ name. name ++ 61 ∷ parts.1) (sym ((bytes_eq-Decides (field_name f) parts.0).0 (find_test (λ g. bytes_eq (field_name g) parts.0) all_fields f named)))

abbrev IsGood : Shape → Fields → List ℕ → Field × FieldValue → Type 0
IsGood row done w f = IsField w f × (is_allowed row f.0 ≡ true) × (has_field done f.0 ≡ false)

field_ends : (row : Shape) (done : Fields) (w : List ℕ) → Ends (IsGood row done w) (IsBadField row done w) (read_field row done w)
unfolding read_field
field_ends row done w =
    step _ (found (cut_of 61 w) UnknownField) (λ e h. inl (h.0, λ f text is. absurd (none-some _ (sym h.1 ∙ name_cut w f text is)))) (λ parts cut.
    let named : (f : Field) (text : List ℕ) → w ≡ field_name f ++ 61 ∷ text → field_named parts.0 ≡ Some f = λ f text is.
    ap (λ (p : List ℕ × List ℕ). field_named p.0) (same_Some parts (field_name f, text) (sym cut ∙ name_cut w f text is)) ∙ named_again f in
    step _ (found (field_named parts.0) UnknownField) (λ e h. inl (h.0, λ f text is. absurd (none-some f (sym h.1 ∙ named f text is)))) (λ f at.
    let joined = field_joined w parts f cut at in
    step _ (demanded (is_allowed row f) UnknownField) (λ e h. inl (h.0, λ g text is. subst (λ x. is_allowed row x ≡ false) (same_Some f g (sym at ∙ named g text is)) h.1)) (λ _ allowed.
    step _ (denied (has_field done f) RepeatedField) (λ e h. inr (f, parts.1, joined, allowed, inl h)) (λ _ new.
    step _ (value_ends f parts.1) (λ e h. inr (f, parts.1, joined, allowed, inr (h.0, new, h.1))) (λ v is. reads ((parts.1, joined, is), allowed, new))))))

abbrev AreGood : Shape → Fields → List (List ℕ) → Fields → Type 0
AreGood row done ws all = (fs : Fields) × (all ≡ done ++ fs) × AreFields row done ws fs × (has_required row all ≡ false → AreBadFields row done ws MissingField)

fields_end : (row : Shape) (done : Fields) (ws : List (List ℕ)) → Ends (AreGood row done ws) (AreBadFields row done ws) (read_fields row done ws)
unfolding read_fields
fields_end row done [] = reads ([], sym (append-nil done), tt, λ e. (refl, e))
fields_end row done (w ∷ ws) = step _ (field_ends row done w) (λ e h. inl h) (λ f is.
    weaker (fields_end row (done ++ f ∷ []) ws) (λ e h. inr (f, is.0, is.1, is.2, h))
    (λ all h. (f ∷ h.0, h.1 ∙ append_assoc done (f ∷ []) h.0, (is.0, is.1, is.2, h.2), λ e. inr (f, is.0, is.1, is.2, h.3 e))))

-- fixed words

word_ends : (places : Places) (k : Kind) (fixed : Fixed) (w : List ℕ) → Ends (IsFixed places k fixed w) (IsBadFixed places k w) (with_word places k fixed w)
unfolding with_word
word_ends places kind.Name fixed w = step _ (demanded (is_name w) BadName) (λ e h. (h.0, λ is. both_ways _ h.1 (name_again w is))) (λ _ t. reads (name_means w t, refl))
word_ends places kind.Key fixed w = step _ (key_ends places w) (λ e h. h) (λ key is. reads (key, is, refl))
word_ends places kind.Handle fixed w = step _ (handle_ends w) (λ e h. h) (λ handle is. reads (handle, is, refl))

abbrev AreInFront : Places → List Kind → Fixed → List (List ℕ) → Fixed × List (List ℕ) → Type 0
AreInFront places ks fixed ws p = (front : List (List ℕ)) × (ws ≡ front ++ p.1) × AreFixed places ks fixed front p.0

fixed_end : (places : Places) (ks : List Kind) (fixed : Fixed) (ws : List (List ℕ)) → Ends (AreInFront places ks fixed ws) (AreBadFixed places ks fixed ws) (read_fixed places ks fixed ws)
unfolding read_fixed
fixed_end places [] fixed ws = reads ([], refl, refl)
fixed_end places (k ∷ ks) fixed [] = fails refl
fixed_end places (k ∷ ks) fixed (w ∷ ws) = step _ (word_ends places k fixed w) (λ e h. inl h) (λ next is.
    weaker (fixed_end places ks next ws) (λ e h. inr (next, is, h)) (λ p h. (w ∷ h.0, ap (λ xs. w ∷ xs) h.1, (next, is, h.2))))

-- the words after a command

abbrev AreParts : Places → Shape → List (List ℕ) → Option (List ℕ) × ScriptCall → Type 0
AreParts places row ws parts =
    (fixed : Fixed) × (fields : Fields) × (front : List (List ℕ)) × (back : List (List ℕ)) × (ws ≡ front ++ back) × AreFixed places row.fixed no_words front fixed
    × AreFields row [] back fields × (has_required row fields ≡ true) × (parts ≡ (fixed.name, call_of row fixed fields))

parts_end : (places : Places) (row : Shape) (ws : List (List ℕ)) →
    Ends (AreParts places row ws) (λ e. AreBadFixed places row.fixed no_words ws e ⊎ AreBadAfter places row ws e) (parts_at places row ws)
unfolding parts_at
parts_end places row ws = step _ (fixed_end places row.fixed no_words ws) (λ e h. inl h) (λ p f.
    let after : (e : Reason) → AreBadFields row [] p.1 e → AreBadAfter places row ws e = λ e h.
    record { fixed = p.0; fixed_words = f.0; field_words = p.1; joined = f.1; are_fixed = f.2; are_bad = h } in
    step _ (fields_end row [] p.1) (λ e h. inr (after e h)) (λ fs g.
    step _ (demanded (has_required row fs) MissingField) (λ e h. inr (after e (subst (AreBadFields row [] p.1) (sym h.0) (g.3 h.1))))
    (λ _ all. reads (p.0, fs, f.0, p.1, f.1, f.2, subst (AreFields row [] p.1) (sym g.1) g.2, all, refl))))

-- lines

pub named_read : (name : List ℕ) (row : Shape) → row_named name ≡ Some row → row.word ≡ name
unfolding row_named
named_read name row e = (bytes_eq-Decides row.word name).0 (find_test (λ r. bytes_eq r.word name) rows row e)

-- what is found under a word is a row
pub row_read : (name : List ℕ) (row : Shape) → row_named name ≡ Some row → IsRow row
row_read name row e = ap row_named (named_read name row e) ∙ e

-- owner lines

more_words : (ws : List (List ℕ)) → (suc (length ws) == 1) ≡ false → 1 ≤ length ws
more_words [] t = cc
more_words (w ∷ ws) t = omega arith

only_word : (ws : List (List ℕ)) → (suc (length ws) == 1) ≡ true → ws ≡ []
only_word [] t = refl
only_word (w ∷ ws) t = absurd (let same : suc (suc (length ws)) ≡ 1 = eqb-true (suc (suc (length ws))) 1 t in omega arith)

abbrev IsStated : Read → ℕ → List (List ℕ) → Read → Type 0
IsStated read s ws next = (owner : ℕ) × (word : List ℕ) × (ws ≡ word ∷ []) × IsOwner word owner × (has_begun read s ≡ false) × (next ≡ with_owner read s owner)

abbrev IsUnstated : Read → ℕ → List (List ℕ) → Reason → Type 0
IsUnstated read s ws e = ((e ≡ LateOwner) × (has_begun read s ≡ true)) ⊎ ((has_begun read s ≡ false) × IsBadOwner ws e)

owner_ends : (read : Read) (s : ℕ) (ws : List (List ℕ)) → Ends (IsStated read s ws) (IsUnstated read s ws) (owner_line read s ws)
unfolding owner_line
owner_ends read s [] = step _ (denied (has_begun read s) LateOwner) (λ e h. inl h) (λ _ first. fails (inr (first, refl)))
owner_ends read s (w ∷ ws) = step _ (denied (has_begun read s) LateOwner) (λ e h. inl h) (λ _ first.
    step _ (asked (owner_of w) BadOwner (owner_means w) (owner_again w)) (λ e h. inr (first, inl h)) (λ owner is.
    step _ (demanded (suc (length ws) == 1) UnknownField) (λ e h. inr (first, inr (h.0, more_words ws h.1, owner, is)))
    (λ _ one. reads (owner, w, ap (λ vs. w ∷ vs) (only_word ws one), is, first, refl))))

-- calls

abbrev IsCall : Read → ℕ → (name : List ℕ) → List (List ℕ) → Read → Type 0
IsCall read s name ws next = (row : Shape) × (row_named name ≡ Some row) × (parts : Option (List ℕ) × ScriptCall) × AreParts (read.places s) row ws parts × (next ≡ with_call read s parts.0 parts.1)

abbrev IsNoCall : Read → ℕ → (name : List ℕ) → List (List ℕ) → Reason → Type 0
IsNoCall read s name ws e =
    ((e ≡ UnknownCommand) × ((row : Shape) → IsRow row → row.word ≡ name → ⊥))
    ⊎ ((row : Shape) × IsRow row × (row.word ≡ name) × (AreBadFixed (read.places s) row.fixed no_words ws e ⊎ AreBadAfter (read.places s) row ws e))

call_ends : (read : Read) (s : ℕ) (name : List ℕ) (ws : List (List ℕ)) → Ends (IsCall read s name ws) (IsNoCall read s name ws) (call_line read s name ws)
unfolding call_line
call_ends read s name ws =
    step _ (found (row_named name) UnknownCommand) (λ e h. inl (h.0, λ row is_row same. absurd (none-some row (sym h.1 ∙ ap row_named (sym same) ∙ is_row)))) (λ row at.
    step _ (parts_end (read.places s) row ws) (λ e h. inr (row, row_read name row at, named_read name row at, h)) (λ parts p. reads (row, at, parts, p, refl)))

words_end : (read : Read) (ws : List (List ℕ)) → Ends (IsStep read ws) (AreBadWords read ws) (words_at read ws)
unfolding words_at
words_end read [] = reads refl
words_end read (w ∷ []) = step _ (asked (session_of w) BadSession (session_means w) (session_again w)) (λ e h. inl h) (λ s is. fails (inr (s, is, refl)))
words_end read (w ∷ name ∷ ws) = step _ (asked (session_of w) BadSession (session_means w) (session_again w)) (λ e h. inl h) (λ s is. by s is (bytes_eq name (codes "owner")) refl)
  where
    by : (s : ℕ) → IsOneTo 16 w s → (b : Bool) → bytes_eq name (codes "owner") ≡ b →
        Ends (IsStep read (w ∷ name ∷ ws)) (AreBadWords read (w ∷ name ∷ ws)) (cond b (owner_line read s ws) (call_line read s name ws))
    by s is true t =
        let named : name ≡ codes "owner" = (bytes_eq-Decides name (codes "owner")).0 t in
        weaker (owner_ends read s ws) (λ e h. inr (s, is, inr (inl (named, h)))) (λ next h. inr (record {
          session = s;
          owner = h.0;
          session_word = w;
          owner_word = h.1;
          is_session = is;
          is_owner = h.3;
          line = ap₂ (λ (n : List ℕ) xs. w ∷ n ∷ xs) named h.2;
          first = h.4;
          after = h.5;
        }))
    by s is false t =
        weaker (call_ends read s name ws) (λ e h. inr (s, is, no_call e h)) (λ next h.
        let row = h.0 in let at = h.1 in let p = h.3 in inl (record {
          session = s;
          row = row;
          fixed = p.0;
          fields = p.1;
          session_word = w;
          fixed_words = p.2;
          field_words = p.3;
          is_row = row_read name row at;
          is_session = is;
          line = ap₂ (λ (n : List ℕ) xs. w ∷ n ∷ xs) (sym (named_read name row at)) p.4;
          are_fixed = p.5;
          are_fields = p.6;
          all = p.7;
          after = h.4 ∙ ap (λ (q : Option (List ℕ) × ScriptCall). with_call read s q.0 q.1) p.8;
        }))
      where
        no_call : (e : Reason) → IsNoCall read s name ws e → IsBadCommand read s (name ∷ ws) e
        no_call e (inl h) = inl (h.0, λ same. both_ways _ t ((bytes_eq-Decides name (codes "owner")).1 same), h.1)
        no_call e (inr h) = inr (inr h)

-- scripts

abbrev pub AreRead : Read → List (List ℕ) → Said → Type 0
AreRead read texts said = (last : Read) × AreSteps read texts last × (said_by last ≡ said)

-- the first of these lines that is outside
pub record AreBadLines (number : ℕ) (read : Read) (texts : List (List ℕ)) (fault : ScriptFault) : Type 0 where
  before : List (List ℕ)
  line : List ℕ
  after : List (List ℕ)
  last : Read
  reason : Reason
  joined : texts ≡ before ++ line ∷ after
  steps : AreSteps read before last
  bad : AreBadWords last (line_words line) reason
  is_fault : fault ≡ BadLine (number + length before) reason

pub lines_end : (n : ℕ) (read : Read) (texts : List (List ℕ)) → Ends (AreRead read texts) (AreBadLines n read texts) (lines_at n read texts)
unfolding lines_at
lines_end n read [] = reads (read, refl, refl)
lines_end n read (text ∷ texts) = go (words_at read (line_words text)) (words_end read (line_words text)) (λ next. lines_end (n + 1) next texts)
  where
    first : (n : ℕ) → n ≡ n + 0
    first n = omega arith

    later : (n k : ℕ) → n + 1 + k ≡ n + suc k
    later n k = omega arith

    go : (x : Result Read Reason) → Ends (IsStep read (line_words text)) (AreBadWords read (line_words text)) x →
        ((next : Read) → Ends (AreRead next texts) (AreBadLines (n + 1) next texts) (lines_at (n + 1) next texts)) →
        Ends (AreRead read (text ∷ texts)) (AreBadLines n read (text ∷ texts)) (or_bad_line x n (λ next. lines_at (n + 1) next texts))
    go (Err r) (fails bad) more =
        fails (record { before = []; line = text; after = texts; last = read; reason = r; joined = refl; steps = refl; bad = bad; is_fault = ap (λ m. BadLine m r) (first n) })
    go (Ok next) (reads is) more = weaker (more next)
        (λ fault b. record {
          before = text ∷ b.before;
          line = b.line;
          after = b.after;
          last = b.last;
          reason = b.reason;
          joined = ap (λ ts. text ∷ ts) b.joined;
          steps = (next, is, b.steps);
          bad = b.bad;
          is_fault = b.is_fault ∙ ap (λ m. BadLine m b.reason) (later n (length b.before));
        })
        (λ calls h. (h.0, (next, is, h.1), h.2))

pub script_ends : (text : List ℕ) → Ends (IsScript text) (IsFault text) (script_of text)
unfolding script_of
script_ends text = go (nat_lt 4194304 (length text)) (nat_lt 20000 (length (text_lines text))) refl refl
  where
    go : (b d : Bool) → nat_lt 4194304 (length text) ≡ b → nat_lt 20000 (length (text_lines text)) ≡ d →
        Ends (IsScript text) (IsFault text) (cond b (Err TooLong) (cond d (Err TooManyLines) (lines_at 1 nothing_read (text_lines text))))
    go true d t u = fails (ltb-true _ _ t)
    go false true t u = fails (ltb-false _ _ t, ltb-true _ _ u)
    go false false t u =
        let short = ltb-false 4194304 (length text) t in
        let few = ltb-false 20000 (length (text_lines text)) u in
        weaker (lines_end 1 nothing_read (text_lines text))
        (λ fault b. subst (IsFault text) (sym b.is_fault) (record {
          before = b.before;
          line = b.line;
          after = b.after;
          read = b.last;
          short = short;
          few = few;
          joined = b.joined;
          place = omega arith;
          steps = b.steps;
          bad = b.bad;
        }))
        (λ calls h. record { last = h.0; short = short; few = few; steps = h.1; is_said = h.2 })
