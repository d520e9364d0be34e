-- What a copy records of its source.
use Rattle.store_core.proofs.Common.{[], after_rules, after_verdict, ap, arith, as_stated, attribute_rows, Attributes, Bool, checked, cond, copy_attributes, eqb-true, Err, false, filled, first_row, has_secure_element, identified, IfOk, InvalidArgument, is_opaque, is_volatile, IsSoundKey, Key, Label, length, List, location, Model, names_ecb, narrowed, none_holds, not, not-false, Ok, ok_or, recorded_copy, recorded_of, refl, Result, room_for_key_rows, Some, source_rows, Status, subst, sym, then_ok, true, unless, unless-ok, ℕ, ◌&&◌, ◌*◌, ◌/◌, ◌==◌, ◌∙◌, ◌∷◌, ◌≡◌}
use Rattle.policy_rules.specs.{declared.narrowing.Label.TheVariants.NoExport, declared.narrowing.Label.TheVariants.NoCopy, declared.narrowing.Label.TheVariants.NoEcb, declared.narrowing.Label.TheVariants.Aes256, declared.narrowing.Verdict.Verdict, declared.narrowing.Verdict.TheVariants.Keep, declared.narrowing.Verdict.TheVariants.Refuse, Policy.meet_of}

-- THE LENGTH OF A KEY

same_bits : (a : Attributes) (b : Bool) → (cond b (identified a 0) a).bits ≡ a.bits
same_bits a true = refl
same_bits a false = refl

pub bytes_by_bits : (m : Model) (id : ℕ) (key : Key) → IsSoundKey m id key → length key.bytes ≡ key.attributes.bits / 8
bytes_by_bits m id key sound =
    let a = as_stated key.attributes in
    let is = (unless-ok (first_row (attribute_rows a (length key.bytes) (has_secure_element m))) (filled a (length key.bytes)) a sound.attributes).1 in
    let bits : 8 * length key.bytes ≡ key.attributes.bits = ap (λ (x : Attributes). x.bits) is ∙ same_bits key.attributes (is_volatile key.attributes) in
    omega arith

-- WHAT THE TABLE OF CREATIONS KEEPS

record IsAlike (a b : Attributes) : Type 0 where
  key_type : b.key_type ≡ a.key_type
  lifetime : b.lifetime ≡ a.lifetime

abbrev IsAlikeIn : Attributes → Verdict → Type 0
IsAlikeIn a (Keep kept) = IsAlike a kept
IsAlikeIn a Refuse = Unit {0}

alike_or_refused : (b : Bool) (a : Attributes) → IsAlikeIn a (cond b Refuse (Keep a))
alike_or_refused true a = tt
alike_or_refused false a = record { key_type = refl; lifetime = refl }

narrowed_alike : (label : Label) (a : Attributes) → IsAlikeIn a (narrowed label a)
narrowed_alike NoExport a = record { key_type = refl; lifetime = refl }
narrowed_alike NoCopy a = record { key_type = refl; lifetime = refl }
narrowed_alike NoEcb a = alike_or_refused (names_ecb a.policy) a
narrowed_alike Aes256 a = alike_or_refused (a.key_type.0 == 0x2400 && not (a.bits == 256)) a

then_alike : (a kept : Attributes) (r : Result Attributes Status) → IsAlike a kept → IfOk r (IsAlike kept) → IfOk r (IsAlike a)
then_alike a kept (Ok last) first h = record { key_type = h.key_type ∙ first.key_type; lifetime = h.lifetime ∙ first.lifetime }
then_alike a kept (Err s) first h = tt

verdict_alike : (a : Attributes) (v : Verdict) (next : Attributes → Result Attributes Status) → IsAlikeIn a v → ((kept : Attributes) → IfOk (next kept) (IsAlike kept)) → IfOk (after_verdict v next) (IsAlike a)
verdict_alike a (Keep kept) next first h = then_alike a kept (next kept) first (h kept)
verdict_alike a Refuse next first h = tt

rules_alike : (labels : List Label) (a : Attributes) → IfOk (after_rules labels a) (IsAlike a)
rules_alike [] a = record { key_type = refl; lifetime = refl }
rules_alike (label ∷ labels) a = verdict_alike a (narrowed label a) (after_rules labels) (narrowed_alike label a) (rules_alike labels)

recorded_alike : (m : Model) (caller : ℕ) (a : Attributes) (n : ℕ) (recorded : Attributes) → recorded_of m caller a n ≡ Ok recorded → IsAlike a recorded
recorded_alike m caller a n recorded e =
    let driver = has_secure_element m in
    let labels = m.settings.labels in
    let one = then_ok (checked a n driver) _ recorded e in
    let passed : filled a n ≡ one.0 = (unless-ok (first_row (attribute_rows a n driver)) (filled a n) one.0 one.1.0).1 in
    let two = then_ok (after_rules labels one.0) _ recorded one.1.1 in
    let last : two.0 ≡ recorded = (unless-ok (first_row (room_for_key_rows m caller two.0)) two.0 recorded two.1.1).1 in
    let alike : IsAlike one.0 two.0 = subst (λ r. IfOk r (IsAlike one.0)) two.1.0 (rules_alike labels one.0) in
    subst (IsAlike a) last (record {
      key_type = alike.key_type ∙ ap (λ (x : Attributes). x.key_type) (sym passed);
      lifetime = alike.lifetime ∙ ap (λ (x : Attributes). x.lifetime) (sym passed);
    })

-- A COPY

pub record IsCopied (m : Model) (caller : ℕ) (key : Key) (recorded : Attributes) : Type 0 where
  pub copy : Attributes
  pub decided : recorded_of m caller copy (length key.bytes) ≡ Ok recorded
  pub key_type : recorded.key_type ≡ key.attributes.key_type
  pub opaque : is_opaque recorded ≡ is_opaque key.attributes

pub copies : (m : Model) (caller : ℕ) (key : Key) (stated recorded : Attributes) → recorded_copy m caller (Some key) stated ≡ Ok recorded → IsCopied m caller key recorded
copies m caller key stated recorded e =
    let rows = source_rows key.attributes stated in
    let one = then_ok (unless (first_row rows) key.attributes) _ recorded e in
    let passed = unless-ok (first_row rows) key.attributes one.0 one.1.0 in
    let two = then_ok (ok_or (meet_of one.0.policy stated.policy) InvalidArgument) _ recorded one.1.1 in
    let copy = copy_attributes one.0 stated two.0 in
    let alike = recorded_alike m caller copy (length key.bytes) recorded two.1.1 in
    let near : location stated.lifetime.0 ≡ location key.attributes.lifetime.0 = eqb-true (location stated.lifetime.0) (location key.attributes.lifetime.0) (not-false (location stated.lifetime.0 == location key.attributes.lifetime.0) (none_holds rows 2 passed.0)) in
    record {
      copy = copy;
      decided = two.1.1;
      key_type = alike.key_type ∙ ap (λ (x : Attributes). x.key_type) (sym passed.1);
      opaque = ap (λ (l : _). location l.0 == 1) alike.lifetime ∙ ap (λ n. n == 1) near;
    }
