-- What is in the grammar is read, and a text that is outside isn't: the answer is its first reason.
use Rattle.std.proofs.Common.{codes, Err, List, None, Ok, Option, Result, Some, [], ap, append_assoc, arith, false, inl, inr, le-ltb, length, lt-ltb, ne_eqb, not, ok_or, refl, subst, suc, sym, true, ℕ, ◌++◌, ◌+◌, ◌∙◌, ◌∷◌, ◌≡◌, ◌⊎◌}
use Rattle.script_lang.proofs.Common.{append-nil, AreBadAfter, AreBadFields, AreBadFixed, AreBadWords, AreFields, AreFixed, AreSteps, BadKey, BadLine, cut_of, demand, false_from_ne_true, Field, field_named, field_value, Fields, FieldValue, Fixed, has_field, has_required, is_allowed, is_name, IsBadField, IsBadFixed, IsBadValue, IsFault, IsField, IsFixed, IsKeyWord, IsLine, IsOwnerLine, IsBadOwner, IsRow, IsScript, IsStep, bytes_eq, bytes_eq-Decides, call_line, LateOwner, has_begun, none-some, owner_line, owner_of, rows, Said, said_by, key_at, KeyWord, Kind, Line, line_words, lines_at, MissingField, no_words, nothing_read, parts_at, Places, Read, read_field, read_fields, read_fixed, Reason, RepeatedField, row_named, script_of, ScriptFault, session_of, Shape, text_lines, UnknownField, with_word, words_at}
use Rattle.script_lang.specs.Steps.{◌>>=◌}
use Rattle.script_lang.proofs.{Ends.Ends, Ends.fails, Ends.reads, Meant.field_joined, Meant.named_read, Meant.row_read, Named.name_cut, Named.named_again, Texts.handle_again, Texts.handle_ends, Texts.key_again, Texts.key_ends, Texts.name_again, Texts.name_means, Texts.owner_again, Texts.owner_means, Texts.session_again, Texts.session_means, Texts.value_again, Texts.value_ends}
use Rattle.script_lang.specs.declared.faults.ScriptFault.TheVariants as faults
use Rattle.script_lang.specs.declared.commands.Kind.TheVariants as kind

-- IN THE GRAMMAR

field_again : (row : Shape) (done : Fields) (w : List ℕ) (f : Field × FieldValue) → IsField w f → is_allowed row f.0 ≡ true → has_field done f.0 ≡ false → read_field row done w ≡ Ok f
unfolding read_field
field_again row done w f p allowed new = rw (name_cut w f.0 p.0 p.1, named_again f.0, allowed, new, value_again f.0 p.0 f.1 p.2) refl

fields_again : (row : Shape) (done : Fields) (ws : List (List ℕ)) (fs : Fields) → AreFields row done ws fs → read_fields row done ws ≡ Ok (done ++ fs)
unfolding read_fields
fields_again row done [] [] h = ap Ok (sym (append-nil done))
fields_again row done (w ∷ ws) (f ∷ fs) h = rw (field_again row done w f h.0 h.1 h.2, fields_again row (done ++ f ∷ []) ws fs h.3) (ap Ok (append_assoc done (f ∷ []) fs))
fields_again row done ws fs h = absurd h

word_again : (places : Places) (k : Kind) (fixed : Fixed) (w : List ℕ) (next : Fixed) → IsFixed places k fixed w next → with_word places k fixed w ≡ Ok next
unfolding with_word
word_again places kind.Name fixed w next h = rw (name_again w h.0) (ap Ok h.1)
word_again places kind.Key fixed w next h = rw (key_again places w h.0 h.1) (ap Ok h.2)
word_again places kind.Handle fixed w next h = rw (handle_again w h.0 h.1) (ap Ok h.2)

fixed_again : (places : Places) (ks : List Kind) (fixed : Fixed) (front rest : List (List ℕ)) (last : Fixed) → AreFixed places ks fixed front last →
    read_fixed places ks fixed (front ++ rest) ≡ Ok (last, rest)
unfolding read_fixed
fixed_again places [] fixed [] rest last h = ap (λ f. Ok (f, rest)) h
fixed_again places (k ∷ ks) fixed (w ∷ ws) rest last h = rw (word_again places k fixed w h.0 h.1) (fixed_again places ks h.0 ws rest last h.2)
fixed_again places ks fixed front rest last h = absurd h

-- no row of a call has the word of owner lines
not_owner : (row : Shape) → IsRow row → bytes_eq row.word (codes "owner") ≡ false
unfolding row_named rows
not_owner row is = false_from_ne_true (bytes_eq row.word (codes "owner")) (λ t.
    let none : row_named (codes "owner") ≡ None = refl in
    none-some row (sym none ∙ ap row_named (sym ((bytes_eq-Decides row.word (codes "owner")).0 t)) ∙ is))

words_again : (read next : Read) (ws : List (List ℕ)) → IsLine read ws next → words_at read ws ≡ Ok next
unfolding words_at call_line parts_at
words_again read next ws l =
    rw (
      l.line,
      session_again l.session_word l.session l.is_session,
      not_owner l.row l.is_row,
      l.is_row,
      fixed_again (read.places l.session) l.row.fixed no_words l.fixed_words l.field_words l.fixed l.are_fixed,
      fields_again l.row [] l.field_words l.fields l.are_fields,
      l.all,
      l.after,
    ) refl

owners_again : (read next : Read) (ws : List (List ℕ)) → IsOwnerLine read ws next → words_at read ws ≡ Ok next
unfolding words_at owner_line
owners_again read next ws l =
    rw (l.line, session_again l.session_word l.session l.is_session, l.first, owner_again l.owner_word l.owner l.is_owner, l.after) refl

line_again : (read next : Read) (ws : List (List ℕ)) → IsStep read ws next → words_at read ws ≡ Ok next
unfolding words_at
line_again read next [] h = ap Ok h
line_again read next (w ∷ ws) (inl h) = words_again read next (w ∷ ws) h
line_again read next (w ∷ ws) (inr h) = owners_again read next (w ∷ ws) h

lines_again : (n : ℕ) (read : Read) (texts : List (List ℕ)) (last : Read) → AreSteps read texts last → lines_at n read texts ≡ Ok (said_by last)
unfolding lines_at
lines_again n read [] last h = ap (λ (r : Read). Ok (said_by r)) h
lines_again n read (text ∷ texts) last h = rw (line_again read h.0 (line_words text) h.1) (lines_again (n + 1) h.0 texts last h.2)

pub script_again : (text : List ℕ) (said : Said) → IsScript text said → script_of text ≡ Ok said
unfolding script_of
script_again text said s =
    rw (le-ltb 4194304 (length text) s.short, le-ltb 20000 (length (text_lines text)) s.few) (lines_again 1 nothing_read (text_lines text) s.last s.steps ∙ ap Ok s.is_said)

-- OUTSIDE IT

no_such : {X : Type 0} (o : Option X) → ((x : X) → o ≡ Some x → ⊥) → o ≡ None
no_such None never = refl
no_such (Some x) never = absurd (never x refl)

-- what can only be refused for one reason
refused : {A : Type 0} {Good : A → Type 0} {More : Reason → Type 0} {x : Result A Reason} {r : Reason} → Ends Good (λ e. (e ≡ r) × More e) x → ((v : A) → Good v → ⊥) → x ≡ Err r
refused (reads {x = v} good) never = absurd (never v good)
refused (fails bad) never = ap Err bad.0

key_unread : (places : Places) (word : List ℕ) (r : Reason) → IsBadFixed places kind.Key word r → key_at places word ≡ Err r
unfolding key_at
key_unread places word r (inl h) = go (key_ends places word) ∙ ap Err (sym h.0)
  where
    go : {x : Result KeyWord Reason} → Ends (IsKeyWord places word) (IsBadFixed places kind.Key word) x → x ≡ Err BadKey
    go (reads {x = key} is) = absurd (h.1 places key is)
    go (fails (inl bad)) = ap Err bad.0
    go (fails (inr bad)) = absurd (h.1 (λ name. Some 0) (Line 0) (subst (λ w. IsKeyWord (λ name. Some 0) w (Line 0)) (sym bad.1.1) (refl, bad.1.2, refl)))
key_unread places word r (inr h) = rw (h.1.1, name_again h.1.0 h.1.2, h.1.3, h.0) refl

word_unread : (places : Places) (k : Kind) (fixed : Fixed) (w : List ℕ) (r : Reason) → IsBadFixed places k w r → with_word places k fixed w ≡ Err r
unfolding with_word
word_unread places kind.Name fixed w r h = rw (false_from_ne_true (is_name w) (λ t. h.1 (name_means w t)), h.0) refl
word_unread places kind.Key fixed w r h = rw (key_unread places w r h) refl
word_unread places kind.Handle fixed w r h = rw (refused (handle_ends w) h.1, h.0) refl

fixed_unread : (places : Places) (ks : List Kind) (fixed : Fixed) (ws : List (List ℕ)) (r : Reason) → AreBadFixed places ks fixed ws r → read_fixed places ks fixed ws ≡ Err r
unfolding read_fixed
fixed_unread places [] fixed ws r h = absurd h
fixed_unread places (k ∷ ks) fixed [] r h = ap Err (sym h)
fixed_unread places (k ∷ ks) fixed (w ∷ ws) r (inl h) = rw (word_unread places k fixed w r h) refl
fixed_unread places (k ∷ ks) fixed (w ∷ ws) r (inr h) = rw (word_again places k fixed w h.0 h.1) (fixed_unread places ks h.0 ws r h.2)

abbrev if_new : Fields → Field → List ℕ → Result (Field × FieldValue) Reason
if_new done f text = demand (not (has_field done f)) RepeatedField >>= λ _. field_value f text >>= λ v. Ok (f, v)

abbrev if_allowed : Shape → Fields → Field → List ℕ → Result (Field × FieldValue) Reason
if_allowed row done f text = demand (is_allowed row f) UnknownField >>= λ _. if_new done f text

field_unread : (row : Shape) (done : Fields) (w : List ℕ) (r : Reason) → IsBadField row done w r → read_field row done w ≡ Err r
unfolding read_field
field_unread row done w r (inl h) = by_parts (cut_of 61 w) refl
  where
    by_field : (parts : List ℕ × List ℕ) → cut_of 61 w ≡ Some parts → (o : Option Field) → field_named parts.0 ≡ o → (ok_or o UnknownField >>= λ f. if_allowed row done f parts.1) ≡ Err r
    by_field parts cut None at = ap Err (sym h.0)
    by_field parts cut (Some f) at = rw (h.1 f parts.1 (field_joined w parts f cut at), h.0) refl

    by_parts : (o : Option (List ℕ × List ℕ)) → cut_of 61 w ≡ o → (ok_or o UnknownField >>= λ parts. ok_or (field_named parts.0) UnknownField >>= λ f. if_allowed row done f parts.1) ≡ Err r
    by_parts None cut = ap Err (sym h.0)
    by_parts (Some parts) cut = by_field parts cut (field_named parts.0) refl
field_unread row done w r (inr h) = rw (name_cut w h.0 h.1 h.2, named_again h.0, h.3) (known h.0 h.1 h.4)
  where
    known : (f : Field) (text : List ℕ) → IsBadValue done f text r → if_new done f text ≡ Err r
    known f text (inl k) = rw (k.1, k.0) refl
    known f text (inr k) = rw (k.1, refused (value_ends f text) k.2, k.0) refl

-- what is read of fields, where the row's are all there
abbrev all_read : {A : Type 0} → Shape → (Fields → A) → Result Fields Reason → Result A Reason
all_read row made x = x >>= λ fs. demand (has_required row fs) MissingField >>= λ _. Ok (made fs)

fields_unread : {A : Type 0} (row : Shape) (made : Fields → A) (done : Fields) (ws : List (List ℕ)) (r : Reason) → AreBadFields row done ws r → all_read row made (read_fields row done ws) ≡ Err r
unfolding read_fields
fields_unread row made done [] r h = rw (h.1, h.0) refl
fields_unread row made done (w ∷ ws) r (inl h) = rw (field_unread row done w r h) refl
fields_unread row made done (w ∷ ws) r (inr h) = rw (field_again row done w h.0 h.1 h.2 h.3) (fields_unread row made (done ++ h.0 ∷ []) ws r h.4)

parts_unread : (places : Places) (row : Shape) (ws : List (List ℕ)) (r : Reason) →
    AreBadFixed places row.fixed no_words ws r ⊎ AreBadAfter places row ws r → parts_at places row ws ≡ Err r
unfolding parts_at
parts_unread places row ws r (inl h) = rw (fixed_unread places row.fixed no_words ws r h) refl
parts_unread places row ws r (inr h) =
    rw (h.joined, fixed_again places row.fixed no_words h.fixed_words h.field_words h.fixed h.are_fixed) (fields_unread row _ [] h.field_words r h.are_bad)

owner_unread : (read : Read) (s : ℕ) (ws : List (List ℕ)) (r : Reason) → has_begun read s ≡ false → IsBadOwner ws r → owner_line read s ws ≡ Err r
unfolding owner_line
owner_unread read s [] r first h = rw (first, h) refl
owner_unread read s (w ∷ ws) r first (inl h) = rw (first, no_such (owner_of w) (λ n e. h.1 n (owner_means w n e)), h.0) refl
owner_unread read s (w ∷ []) r first (inr h) = absurd (let more = h.1 in omega arith)
owner_unread read s (w ∷ v ∷ ws) r first (inr h) = rw (first, owner_again w h.2 h.3, ne_eqb (suc (suc (length ws))) 1 (λ e. omega (arith, e)), h.0) refl

late_unread : (read : Read) (s : ℕ) (ws : List (List ℕ)) (r : Reason) → ((r ≡ LateOwner) × (has_begun read s ≡ true)) ⊎ ((has_begun read s ≡ false) × IsBadOwner ws r) →
    owner_line read s ws ≡ Err r
unfolding owner_line
late_unread read s ws r (inl h) = rw (h.1, h.0) refl
late_unread read s ws r (inr h) = owner_unread read s ws r h.0 h.1

call_unread : (read : Read) (s : ℕ) (row : Shape) (ws : List (List ℕ)) (r : Reason) → IsRow row → AreBadFixed (read.places s) row.fixed no_words ws r ⊎ AreBadAfter (read.places s) row ws r →
    call_line read s row.word ws ≡ Err r
unfolding call_line
call_unread read s row ws r is bad = rw (is, parts_unread (read.places s) row ws r bad) refl

words_unread : (read : Read) (ws : List (List ℕ)) (r : Reason) → AreBadWords read ws r → words_at read ws ≡ Err r
unfolding words_at call_line
words_unread read [] r h = absurd h
words_unread read (w ∷ ws) r (inl h) = rw (no_such (session_of w) (λ s e. h.1 s (session_means w s e)), h.0) refl
words_unread read (w ∷ []) r (inr h) = rw (session_again w h.0 h.1, h.2) refl
words_unread read (w ∷ name ∷ ws) r (inr (s, is, inl h)) =
    rw (
      session_again w s is,
      false_from_ne_true (bytes_eq name (codes "owner")) (λ t. h.1 ((bytes_eq-Decides name (codes "owner")).0 t)),
      no_such (row_named name) (λ row e. h.2 row (row_read name row e) (named_read name row e)),
      h.0,
    ) refl
words_unread read (w ∷ name ∷ ws) r (inr (s, is, inr (inl h))) = rw (session_again w s is, h.0) (late_unread read s ws r h.1)
words_unread read (w ∷ name ∷ ws) r (inr (s, is, inr (inr h))) =
    rw (session_again w s is, sym h.2, not_owner h.0 h.1) (call_unread read s h.0 ws r h.1 h.3)

lines_unread : (n : ℕ) (read last : Read) (before after : List (List ℕ)) (line : List ℕ) (r : Reason) → AreSteps read before last → AreBadWords last (line_words line) r →
    lines_at n read (before ++ line ∷ after) ≡ Err (BadLine (n + length before) r)
unfolding lines_at
lines_unread n read last [] after line r steps bad = let same : n ≡ n + 0 = omega arith in rw (steps, words_unread last (line_words line) r bad) (ap (λ m. Err (BadLine m r)) same)
lines_unread n read last (text ∷ before) after line r steps bad =
    let same : n + 1 + length before ≡ n + suc (length before) = omega arith in
    rw (line_again read steps.0 (line_words text) steps.1) (lines_unread (n + 1) steps.0 last before after line r steps.2 bad ∙ ap (λ m. Err (BadLine m r)) same)

pub fault_again : (text : List ℕ) (fault : ScriptFault) → IsFault text fault → script_of text ≡ Err fault
unfolding script_of
fault_again text faults.TooLong h = rw (lt-ltb 4194304 (length text) h) refl
fault_again text faults.TooManyLines h = rw (le-ltb 4194304 (length text) h.0, lt-ltb 20000 (length (text_lines text)) h.1) refl
fault_again text (faults.BadLine number r) h =
    let place : number ≡ 1 + length h.before = omega (arith, h.place) in
    rw (le-ltb 4194304 (length text) h.short, le-ltb 20000 (length (text_lines text)) h.few, h.joined, place) (lines_unread 1 nothing_read h.read h.before h.after h.line r h.steps h.bad)
fault_again text faults.Memory h = absurd h
