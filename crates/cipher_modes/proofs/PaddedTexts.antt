-- PKCS#7 padding of a text of several blocks.
use Rattle.cipher_modes.proofs.Common.{Bool, List, None, Option, Some, ap, arith, bytes_eq, cond, drop, false, get_or-append-add, leb-true, length, length-append, nat_le, pkcs7_unpadded, refl, replicate, slice_index, sym, take, true, ℕ, ◌&&◌, ◌++◌, ◌+◌, ◌-◌, ◌∙◌, ◌≡◌, ◌≤◌}
use Rattle.std.specs.Option.{option_map}
use Rattle.std.proofs.Math.Seq.{drop-append-add, take-append-add}

-- without the padding, by the last byte
unpadded_at : List ℕ → ℕ → Option (List ℕ)
unpadded_at text p = cond (nat_le 1 p && nat_le p 16 && bytes_eq (drop (length text - p) text) (replicate p p)) (Some (take (length text - p) text)) None

by_last : (text : List ℕ) → pkcs7_unpadded text ≡ unpadded_at text (slice_index text (length text - 1))
unfolding pkcs7_unpadded unpadded_at
by_last text = refl

none_past : (a b c : Bool) (x : List ℕ) → b ≡ false → cond (a && b && c) (Some x) None ≡ None
none_past true true c x h = cc
none_past true false c x h = refl
none_past false b c x h = refl

mapped : (b : Bool) (front x : List ℕ) → cond b (Some (front ++ x)) None ≡ option_map (λ m. front ++ m) (cond b (Some x) None)
mapped true front x = refl
mapped false front x = refl

behind_at : (front last : List ℕ) (p : ℕ) → length last ≡ 16 → (b : Bool) → nat_le p 16 ≡ b → unpadded_at (front ++ last) p ≡ option_map (λ m. front ++ m) (unpadded_at last p)
unfolding unpadded_at
behind_at front last p long true t =
    let small : p ≤ 16 = leb-true p 16 t in
    let place : length (front ++ last) - p ≡ length front + (length last - p) = omega (arith, length-append front last) in
    let end = ap (λ n. drop n (front ++ last)) place ∙ drop-append-add front last (length last - p) in
    let kept = ap (λ n. take n (front ++ last)) place ∙ take-append-add front last (length last - p) in
    (λ i. cond (nat_le 1 p && nat_le p 16 && bytes_eq (end i) (replicate p p)) (Some (kept i)) None) ∙ mapped _ front (take (length last - p) last)
behind_at front last p long false t =
    none_past (nat_le 1 p) (nat_le p 16) _ _ t ∙ ap (option_map (λ m. front ++ m)) (sym (none_past (nat_le 1 p) (nat_le p 16) _ _ t))

-- the padding stands in the last block
pub unpadded_behind : (front last : List ℕ) → length last ≡ 16 → pkcs7_unpadded (front ++ last) ≡ option_map (λ m. front ++ m) (pkcs7_unpadded last)
unpadded_behind front last long =
    let place : length (front ++ last) - 1 ≡ length front + (length last - 1) = omega (arith, length-append front last) in
    let byte = ap (slice_index (front ++ last)) place ∙ get_or-append-add front last (length last - 1) 0 in
    by_last (front ++ last) ∙ ap (unpadded_at (front ++ last)) byte ∙ behind_at front last (slice_index last (length last - 1)) long _ refl
    ∙ ap (option_map (λ m. front ++ m)) (sym (by_last last))
