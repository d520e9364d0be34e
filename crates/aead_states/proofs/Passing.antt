-- An update that no row refuses.
use Rattle.std.proofs.{Common.Bool, Common.List, Common.None, Common.Option, Common.Some, Common.ap, Common.arith, Common.cond, Common.drop, Common.false, Common.length, Common.not, Common.refl, Common.replicate, Common.sym, Common.true, Common.ℕ, Common.◌++◌, Common.◌+◌, Common.◌-◌, Common.◌||◌, Common.◌∙◌, Common.◌≡◌, Common.◌≤◌, lemmas.List.append-nil, lemmas.List.drop_at, lemmas.Bool.le-ltb}
use Rattle.psa_status.specs.{declared.Status.Status, Rows.first_row}
use Rattle.psa_status.proofs.Rows.{first_row-back}
use Rattle.store_model.specs.Prelude.{buffer_after, given, reply_unless, room_rows, AeadWork, aead_due, aead_fresh, aead_update_rows, is_past_payload, is_whole_ad, with_payload}
use Rattle.aead_states.specs.Counted.{aead_text_rows}

second_row : (n whole past more : Bool) (s t : Status) → None ≡ cond (not n) (Some s) (cond ((not whole || past) || more) (Some t) None) → (whole ≡ true) × (past ≡ false)
second_row true true false more s t e = (refl, refl)
second_row n whole past more s t e = cc

-- the associated data is whole, and the text isn't past what was declared
pub text_passed : (w : AeadWork) (more : ℕ) → None ≡ first_row (aead_text_rows w more) → (is_whole_ad w.lengths (length w.ad) ≡ true) × (is_past_payload w.lengths (length w.text + more) ≡ false)
text_passed w more e = second_row _ (is_whole_ad w.lengths (length w.ad)) (is_past_payload w.lengths (length w.text + more)) _ _ _ e

pub update_passed : (w : AeadWork) (input : List ℕ) (room : ℕ) → None ≡ first_row (aead_text_rows w (length input)) → length input ≤ room → first_row (aead_update_rows w input room) ≡ None
update_passed w input room e fits =
    first_row-back (aead_text_rows w (length input)) (room_rows (length input) room) (sym e) ∙ rw (le-ltb room (length input) fits) refl

given_after : (old bytes : List ℕ) → buffer_after old (given bytes) ≡ bytes ++ drop (length bytes) old
given_after old bytes =
    let none : length bytes - length bytes ≡ 0 = omega arith in
    ap (λ (n : ℕ). bytes ++ replicate n 0 ++ drop (length bytes) old) none ∙ ap (λ (l : List ℕ). l ++ drop (length bytes) old) (append-nil bytes)

-- the buffer of an update has what came to be due
pub fresh_given : (w : AeadWork) (input out old : List ℕ) (refused : Option Status) → refused ≡ None → aead_due (with_payload w input) ≡ aead_due w ++ out
    → out ++ drop (length out) old ≡ buffer_after old (reply_unless refused (given (aead_fresh w (with_payload w input))))
fresh_given w input out old refused e due =
    let fresh : aead_fresh w (with_payload w input) ≡ out = ap (drop (length (aead_due w))) due ∙ drop_at (aead_due w) out (length (aead_due w)) refl in
    sym (ap (λ (o : Option Status). buffer_after old (reply_unless o (given (aead_fresh w (with_payload w input))))) e
    ∙ ap (λ (bytes : List ℕ). buffer_after old (given bytes)) fresh ∙ given_after old out)
