-- How many keys of some identifiers a map has, after an insertion and after a removal.
use Rattle.line_generator.proofs.Common.{nat_tests, Bool, None, Option, Some, ap, arith, cond, false, is_some, refl, sym, true, ℕ, ◌+◌, ◌-◌, ◌==◌, ◌∙◌, ◌≡◌}
use Rattle.std.specs.{Ordering.nat_cmp, Cmp.unsigned_tied, FinMap.FinMap, FinMap.get, FinMap.insert, FinMap.remove, FinMap.retain_keys, FinMap.len, FinMap.get-insert, FinMap.get-remove, FinMap.get-retain_keys, FinMap.len-insert, FinMap.len-remove, FinMap.same_map, FinMap.nat_cmp-IsAntisymmetric, declared.cmp.Ordering.TheVariants.Equal}
use Rattle.std.proofs.lemmas.Cmp.{nat_cmp_total, ranked}

both : {X : Type 0} (b c : Bool) (x y : Option X) → (b ≡ true → c ≡ true) → cond c (cond b x y) None ≡ cond b x (cond c y None)
both true true x y h = refl
both true false x y h = let e = h refl in cc
both false true x y h = refl
both false false x y h = refl

neither : {X : Type 0} (b c : Bool) (x y : Option X) → (b ≡ true → c ≡ false) → cond c (cond b x y) None ≡ cond c y None
neither true true x y h = let e = h refl in cc
neither true false x y h = refl
neither false c x y h = refl

tied : (p : ℕ → Bool) (q k : ℕ) (b : Bool) → p k ≡ b → (q == k) ≡ true → p q ≡ b
tied p q k b e t = let same : q ≡ k = grind (arith, nat_tests) in ap p same ∙ e

module _ {X : Type 0} (p : ℕ → Bool) where
  kept : (m : FinMap nat_cmp X) (q : ℕ) → get (retain_keys m p) q ≡ cond (p q) (get m q) None
  kept m q = get-retain_keys m p q (λ x t. ap p (sym (ranked q x Equal (sym t))))

  put : (m : FinMap nat_cmp X) (k : ℕ) (v : X) (q : ℕ) → get (insert m k v) q ≡ cond (q == k) (Some v) (get m q)
  put m k v q = get-insert nat_cmp_total m k v q ∙ ap (λ b. cond b (Some v) (get m q)) (unsigned_tied q k)

  at : (m : FinMap nat_cmp X) (k : ℕ) (v : X) (b : Bool) → p k ≡ b → (q : ℕ) →
      get (retain_keys (insert m k v) p) q ≡ get (cond b (insert (retain_keys m p) k v) (retain_keys m p)) q
  at m k v true e q =
      kept (insert m k v) q ∙ ap (λ o. cond (p q) o None) (put m k v q) ∙ both (q == k) (p q) _ _ (tied p q k true e)
      ∙ sym (put (retain_keys m p) k v q ∙ ap (cond (q == k) (Some v)) (kept m q))
  at m k v false e q =
      kept (insert m k v) q ∙ ap (λ o. cond (p q) o None) (put m k v q) ∙ neither (q == k) (p q) _ _ (tied p q k false e) ∙ sym (kept m q)

  grown : (m : FinMap nat_cmp X) (k : ℕ) (v : X) (b : Bool) → p k ≡ b →
      len (cond b (insert (retain_keys m p) k v) (retain_keys m p)) ≡ cond b (cond (is_some (get m k)) (len (retain_keys m p)) (len (retain_keys m p) + 1)) (len (retain_keys m p))
  grown m k v true e =
      len-insert nat_cmp_total (retain_keys m p) k v
      ∙ ap (λ o. cond (is_some o) (len (retain_keys m p)) (len (retain_keys m p) + 1)) (kept m k ∙ ap (λ b. cond b (get m k) None) e)
  grown m k v false e = refl

  pub len_inserted : (m : FinMap nat_cmp X) (k : ℕ) (v : X) →
      len (retain_keys (insert m k v) p) ≡ cond (p k) (cond (is_some (get m k)) (len (retain_keys m p)) (len (retain_keys m p) + 1)) (len (retain_keys m p))
  len_inserted m k v = ap len (same_map nat_cmp_total nat_cmp-IsAntisymmetric _ _ (at m k v (p k) refl)) ∙ grown m k v (p k) refl

  dropped : (m : FinMap nat_cmp X) (k q : ℕ) → get (remove m k) q ≡ cond (q == k) None (get m q)
  dropped m k q = get-remove nat_cmp_total m k q ∙ ap (λ b. cond b None (get m q)) (unsigned_tied q k)

  swapped : (b c : Bool) (o : Option X) → cond b (cond c None o) None ≡ cond c None (cond b o None)
  swapped true true o = refl
  swapped true false o = refl
  swapped false true o = refl
  swapped false false o = refl

  without : (m : FinMap nat_cmp X) (k : ℕ) → retain_keys (remove m k) p ≡ remove (retain_keys m p) k
  without m k = same_map nat_cmp_total nat_cmp-IsAntisymmetric _ _ (λ q.
      kept (remove m k) q ∙ ap (λ o. cond (p q) o None) (dropped m k q) ∙ swapped (p q) (q == k) (get m q)
      ∙ sym (dropped (retain_keys m p) k q ∙ ap (cond (q == k) None) (kept m q)))

  shrunk : (b : Bool) (o : Option X) (n : ℕ) → cond (is_some (cond b o None)) (n - 1) n ≡ cond b (cond (is_some o) (n - 1) n) n
  shrunk true o n = refl
  shrunk false o n = refl

  pub len_removed : (m : FinMap nat_cmp X) (k : ℕ) →
      len (retain_keys (remove m k) p) ≡ cond (p k) (cond (is_some (get m k)) (len (retain_keys m p) - 1) (len (retain_keys m p))) (len (retain_keys m p))
  len_removed m k =
      ap len (without m k) ∙ len-remove nat_cmp_total (retain_keys m p) k
      ∙ ap (λ o. cond (is_some o) (len (retain_keys m p) - 1) (len (retain_keys m p))) (kept m k) ∙ shrunk (p k) (get m k) (len (retain_keys m p))
