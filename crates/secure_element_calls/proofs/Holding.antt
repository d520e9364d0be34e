-- Facts about the key under a handle, where the device tells it.
use Rattle.std.proofs.Common.{Bool, Err, IsTrue, None, Ok, OnOk, Option, Result, Some, false, if◌then◌else◌, refl, subst, ℕ, ◌==◌, ◌≡◌}
use Rattle.secure_element_calls.proofs.Common.{algorithm_asked, ctr, ElementCall, eqb-true, fits_type, held_key, HeldKey, HeldKeys, HoldsHandle, is_hmac, IsSomeKey}
use Rattle.alg_encoding.specs.{Encoding.base_of, Encoding.entry_of, Table.base_at}

some_with : (o : Option HeldKey) (P Q R : HeldKey → Type 0) → IsSomeKey o P → IsSomeKey o Q → ((key : HeldKey) → P key → Q key → R key) → IsSomeKey o R
some_with None P Q R p q f = p
some_with (Some key) P Q R p q f = f key p q

pub holds_both : (held : Option HeldKeys) (handle : ℕ) (P Q R : HeldKey → Type 0) → HoldsHandle held handle P → HoldsHandle held handle Q →
    ((key : HeldKey) → P key → Q key → R key) → HoldsHandle held handle R
holds_both None handle P Q R p q f = tt
holds_both (Some held) handle P Q R p q f = some_with (held_key held handle) P Q R p q f

pub holds_as : (held : Option HeldKeys) (handle : ℕ) (P R : HeldKey → Type 0) → HoldsHandle held handle P → ((key : HeldKey) → P key → R key) → HoldsHandle held handle R
holds_as held handle P R p f = holds_both held handle P P R p p (λ key a b. f key a)

pub on_ok : {T E : Type 0} (r : Result T E) (P : Type 0) → P → OnOk r P
on_ok (Ok x) P p = p
on_ok (Err e) P p = tt

pub on_ok_as : {T E : Type 0} (r : Result T E) (P Q : Type 0) → OnOk r P → (P → Q) → OnOk r Q
on_ok_as (Ok x) P Q p f = f p
on_ok_as (Err e) P Q p f = tt

ctr_is_no_hmac : is_hmac ctr ≡ false
unfolding base_of entry_of base_at
ctr_is_no_hmac = refl

-- CTR is for AES keys
ctr_fits : (b : Bool) (key_type : ℕ) → b ≡ false → IsTrue (key_type == (if b then 0x1100 else 0x2400)) → key_type ≡ 0x2400
ctr_fits b key_type e fits = eqb-true key_type 0x2400 (subst (λ b. IsTrue (key_type == (if b then 0x1100 else 0x2400))) e fits)

pub is_aes : (call : ElementCall) (key_type : ℕ) → algorithm_asked call ≡ ctr → IsTrue (fits_type (algorithm_asked call) key_type) → key_type ≡ 0x2400
is_aes call key_type e fits = ctr_fits (is_hmac ctr) key_type ctr_is_no_hmac (subst (λ alg. IsTrue (fits_type alg key_type)) e fits)
