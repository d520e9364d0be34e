-- How the number of live volatile keys of a caller changes.
use Rattle.std.proofs.Common.{Bool, None, Option, Some, ap, arith, cond, false, is_some, refl, sym, true, ℕ, ◌+◌, ◌-◌, ◌==◌, ◌∙◌, ◌≡◌, ◌≤◌}
use Rattle.store_model.proofs.Common.{Equal, nat_cmp, nat_cmp_total, nat_tests, ranked, unsigned_tied}
use Rattle.std.specs.FinMap.{FinMap, empty, get, insert, remove, retain_keys, contains_key, get-empty, len-empty, len, get-insert, get-remove, get-retain_keys, len-insert, len-remove, same_map, nat_cmp-IsAntisymmetric}

both : {X : Type 0} (b c : Bool) (x y : Option X) → (b ≡ true → c ≡ true) → cond c (cond b x y) None ≡ cond b x (cond c y None)
both true true x y h = refl
both true false x y h = let e = h refl in cc
both false c x y h = refl

neither : {X : Type 0} (b c : Bool) (x y : Option X) → (b ≡ true → c ≡ false) → cond c (cond b x y) None ≡ cond c y None
neither true true x y h = let e = h refl in cc
neither true false x y h = refl
neither false c x y h = refl

tied : (p : ℕ → Bool) (q k : ℕ) (b : Bool) → p k ≡ b → (q == k) ≡ true → p q ≡ b
tied p q k b e t = let same : q ≡ k = grind (arith, nat_tests) in ap p same ∙ e

same_arms : {X : Type 0} (b : Bool) (x : X) → cond b x x ≡ x
same_arms true x = refl
same_arms false x = refl

shrunk : (b : Bool) (n : ℕ) → cond b (n - 1) n ≤ n
shrunk true n = omega arith
shrunk false n = omega arith

module _ {X : Type 0} (p : ℕ → Bool) where
  kept : (m : FinMap nat_cmp X) (q : ℕ) → get (retain_keys m p) q ≡ cond (p q) (get m q) None
  kept m q = get-retain_keys m p q (λ x t. ap p (sym (ranked q x Equal (sym t))))

  put : (m : FinMap nat_cmp X) (k : ℕ) (v : X) (q : ℕ) → get (insert m k v) q ≡ cond (q == k) (Some v) (get m q)
  put m k v q = get-insert nat_cmp_total m k v q ∙ ap (λ b. cond b (Some v) (get m q)) (unsigned_tied q k)

  -- the kept entries after an insertion
  at : (m : FinMap nat_cmp X) (k : ℕ) (v : X) (b : Bool) → p k ≡ b → (q : ℕ) →
      get (retain_keys (insert m k v) p) q ≡ get (cond b (insert (retain_keys m p) k v) (retain_keys m p)) q
  at m k v true e q =
      kept (insert m k v) q ∙ ap (λ o. cond (p q) o None) (put m k v q) ∙ both (q == k) (p q) _ _ (tied p q k true e)
      ∙ sym (put (retain_keys m p) k v q ∙ ap (cond (q == k) (Some v)) (kept m q))
  at m k v false e q =
      kept (insert m k v) q ∙ ap (λ o. cond (p q) o None) (put m k v q) ∙ neither (q == k) (p q) _ _ (tied p q k false e) ∙ sym (kept m q)

  grown : (m : FinMap nat_cmp X) (k : ℕ) (v : X) (b : Bool) → p k ≡ b → get m k ≡ None →
      len (cond b (insert (retain_keys m p) k v) (retain_keys m p)) ≡ cond b (len (retain_keys m p) + 1) (len (retain_keys m p))
  grown m k v true e none =
      len-insert nat_cmp_total (retain_keys m p) k v ∙ ap (λ o. cond (is_some o) (len (retain_keys m p)) (len (retain_keys m p) + 1)) (kept m k ∙ ap (λ o. cond (p k) o None) none ∙ same_arms (p k) None)
  grown m k v false e none = refl

  pub len_kept-insert : (m : FinMap nat_cmp X) (k : ℕ) (v : X) → get m k ≡ None →
      len (retain_keys (insert m k v) p) ≡ cond (p k) (len (retain_keys m p) + 1) (len (retain_keys m p))
  len_kept-insert m k v none = ap len (same_map nat_cmp_total nat_cmp-IsAntisymmetric _ _ (at m k v (p k) refl)) ∙ grown m k v (p k) refl none

  -- the kept entries after a removal

  dropped : (m : FinMap nat_cmp X) (k q : ℕ) → get (remove m k) q ≡ cond (q == k) None (get m q)
  dropped m k q = get-remove nat_cmp_total m k q ∙ ap (λ b. cond b None (get m q)) (unsigned_tied q k)

  swapped : (b c : Bool) (o : Option X) → cond b (cond c None o) None ≡ cond c None (cond b o None)
  swapped true c o = refl
  swapped false true o = refl
  swapped false false o = refl

  without : (m : FinMap nat_cmp X) (k : ℕ) → retain_keys (remove m k) p ≡ remove (retain_keys m p) k
  without m k = same_map nat_cmp_total nat_cmp-IsAntisymmetric _ _ (λ q.
      kept (remove m k) q ∙ ap (λ o. cond (p q) o None) (dropped m k q) ∙ swapped (p q) (q == k) (get m q)
      ∙ sym (dropped (retain_keys m p) k q ∙ ap (cond (q == k) None) (kept m q)))

  pub len_kept-remove : (m : FinMap nat_cmp X) (k : ℕ) → len (retain_keys (remove m k) p) ≤ len (retain_keys m p)
  len_kept-remove m k =
      let e = ap len (without m k) ∙ len-remove nat_cmp_total (retain_keys m p) k in
      let l = shrunk (contains_key (retain_keys m p) k) (len (retain_keys m p)) in
      omega arith

no_key : (X : Type 0) (p : ℕ → Bool) (q : ℕ) → get (retain_keys (empty {X = X} {R = nat_cmp}) p) q ≡ get (empty {X = X} {R = nat_cmp}) q
no_key X p q = kept p empty q ∙ ap (λ o. cond (p q) o None) (get-empty nat_cmp q) ∙ same_arms (p q) None ∙ sym (get-empty nat_cmp q)

pub len_kept-empty : (X : Type 0) (p : ℕ → Bool) → len (retain_keys (empty {X = X} {R = nat_cmp}) p) ≡ 0
len_kept-empty X p = ap len (same_map nat_cmp_total nat_cmp-IsAntisymmetric _ _ (no_key X p)) ∙ len-empty nat_cmp X
