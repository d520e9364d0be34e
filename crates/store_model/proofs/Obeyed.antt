-- What the rules leave they leave again, and with another identifier.

-- a rule keeps these attributes as they are
use Rattle.std.proofs.Common.{Bool, List, Ok, Result, [], ap, bit_and, cond, false, not, refl, subst, sym, true, ℕ, ◌&&◌, ◌==◌, ◌∙◌, ◌∷◌, ◌≡◌}
use Rattle.store_model.proofs.Common.{Aes256, Attributes, Keep, Label, NoCopy, NoEcb, NoExport, Refuse, Status, Verdict, after_rules, after_verdict, and_assoc, and_comm, and_self, identified, names_ecb, narrowed, only_usage}

abbrev pub Obeys : Label → Attributes → Type 0
Obeys label a = narrowed label a ≡ Keep a

abbrev pub AreObeyed : List Label → Attributes → Type 0
AreObeyed [] a = Unit {0}
AreObeyed (label ∷ labels) a = Obeys label a × AreObeyed labels a

-- ONE RULE

-- a usage that is within the flags
abbrev IsInside : Attributes → ℕ → Type 0
IsInside a flags = bit_and a.policy.usage.0 flags ≡ a.policy.usage.0

same_usage : (a : Attributes) (flags : ℕ) → IsInside a flags → Keep (only_usage a flags) ≡ Keep a
same_usage a flags e = λ i. Keep (record a { policy = record (a.policy) { usage = record { 0 = e i } } })

inside : (a : Attributes) (flags : ℕ) → Keep (only_usage a flags) ≡ Keep a → IsInside a flags
inside a flags e = let same : only_usage a flags ≡ a = cc in ap (λ (x : Attributes). x.policy.usage.0) same

still_inside : (a : Attributes) (flags other : ℕ) → IsInside a other → IsInside (only_usage a flags) other
still_inside a flags other e =
    let usage = a.policy.usage.0 in
    ap (λ u. bit_and u other) (and_comm usage flags) ∙ and_assoc other flags usage ∙ ap (bit_and flags) e ∙ and_comm flags usage

inside_itself : (a : Attributes) (flags : ℕ) → IsInside (only_usage a flags) flags
inside_itself a flags = and_assoc flags a.policy.usage.0 flags ∙ ap (bit_and a.policy.usage.0) (and_self flags)

-- what a test doesn't refuse, with the same answer of the test
passes : (b : Bool) (a other : Attributes) → cond b Refuse (Keep a) ≡ Keep a → cond b Refuse (Keep other) ≡ Keep other
passes true a other e = cc
passes false a other e = refl

tested : (b : Bool) (a kept : Attributes) → cond b Refuse (Keep a) ≡ Keep kept → a ≡ kept
tested true a kept e = cc
tested false a kept e = cc

with_fewer : (label : Label) (a : Attributes) (flags : ℕ) → Obeys label a → Obeys label (only_usage a flags)
with_fewer NoExport a flags h = same_usage (only_usage a flags) 0xfffffffe (still_inside a flags 0xfffffffe (inside a 0xfffffffe h))
with_fewer NoCopy a flags h = same_usage (only_usage a flags) 0xfffffffd (still_inside a flags 0xfffffffd (inside a 0xfffffffd h))
with_fewer NoEcb a flags h = passes (names_ecb a.policy) a (only_usage a flags) h
with_fewer Aes256 a flags h = passes (a.key_type.0 == 0x2400 && not (a.bits == 256)) a (only_usage a flags) h

with_id : (label : Label) (a : Attributes) (id : ℕ) → Obeys label a → Obeys label (identified a id)
with_id NoExport a id h = same_usage (identified a id) 0xfffffffe (inside a 0xfffffffe h)
with_id NoCopy a id h = same_usage (identified a id) 0xfffffffd (inside a 0xfffffffd h)
with_id NoEcb a id h = passes (names_ecb a.policy) a (identified a id) h
with_id Aes256 a id h = passes (a.key_type.0 == 0x2400 && not (a.bits == 256)) a (identified a id) h

-- what a rule left obeys it
narrowed_obeys : (label : Label) (a kept : Attributes) → narrowed label a ≡ Keep kept → Obeys label kept
narrowed_obeys NoExport a kept e = let same : only_usage a 0xfffffffe ≡ kept = cc in subst (Obeys NoExport) same (same_usage (only_usage a 0xfffffffe) 0xfffffffe (inside_itself a 0xfffffffe))
narrowed_obeys NoCopy a kept e = let same : only_usage a 0xfffffffd ≡ kept = cc in subst (Obeys NoCopy) same (same_usage (only_usage a 0xfffffffd) 0xfffffffd (inside_itself a 0xfffffffd))
narrowed_obeys NoEcb a kept e = ap (narrowed NoEcb) (sym (tested (names_ecb a.policy) a kept e)) ∙ e
narrowed_obeys Aes256 a kept e = ap (narrowed Aes256) (sym (tested (a.key_type.0 == 0x2400 && not (a.bits == 256)) a kept e)) ∙ e

-- and each rule that was obeyed before
still_obeys : (label other : Label) (a kept : Attributes) → narrowed other a ≡ Keep kept → Obeys label a → Obeys label kept
still_obeys label NoExport a kept e h = let same : only_usage a 0xfffffffe ≡ kept = cc in subst (Obeys label) same (with_fewer label a 0xfffffffe h)
still_obeys label NoCopy a kept e h = let same : only_usage a 0xfffffffd ≡ kept = cc in subst (Obeys label) same (with_fewer label a 0xfffffffd h)
still_obeys label NoEcb a kept e h = subst (Obeys label) (tested (names_ecb a.policy) a kept e) h
still_obeys label Aes256 a kept e h = subst (Obeys label) (tested (a.key_type.0 == 0x2400 && not (a.bits == 256)) a kept e) h

-- RULES IN THEIR ORDER

kept_by : (v : Verdict) (next : Attributes → Result Attributes Status) (last : Attributes) → after_verdict v next ≡ Ok last → (kept : Attributes) × ((v ≡ Keep kept) × (next kept ≡ Ok last))
kept_by (Keep kept) next last e = (kept, (refl, e))
kept_by Refuse next last e = cc

obeys_after : (label : Label) (labels : List Label) (a last : Attributes) → after_rules labels a ≡ Ok last → Obeys label a → Obeys label last
obeys_after label [] a last e h = let same : a ≡ last = cc in subst (Obeys label) same h
obeys_after label (other ∷ labels) a last e h =
    let one = kept_by (narrowed other a) (after_rules labels) last e in
    obeys_after label labels one.0 last one.1.1 (still_obeys label other a one.0 one.1.0 h)

pub rules_obeyed : (labels : List Label) (a last : Attributes) → after_rules labels a ≡ Ok last → AreObeyed labels last
rules_obeyed [] a last e = tt
rules_obeyed (label ∷ labels) a last e =
    let one = kept_by (narrowed label a) (after_rules labels) last e in
    (obeys_after label labels one.0 last one.1.1 (narrowed_obeys label a one.0 one.1.0), rules_obeyed labels one.0 last one.1.1)

pub obeyed_again : (labels : List Label) (a : Attributes) → AreObeyed labels a → after_rules labels a ≡ Ok a
obeyed_again [] a h = refl
obeyed_again (label ∷ labels) a h = ap (λ v. after_verdict v (after_rules labels)) h.0 ∙ obeyed_again labels a h.1

pub identified_obeyed : (labels : List Label) (a : Attributes) (id : ℕ) → AreObeyed labels a → AreObeyed labels (identified a id)
identified_obeyed [] a id h = tt
identified_obeyed (label ∷ labels) a id h = (with_id label a id h.0, identified_obeyed labels a id h.1)
