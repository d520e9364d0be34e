use Rattle.ghash.proofs.{Common.List, Common.ap, Common.products_of, Common.shifted, Common.slice_index, Common.sym, Common.ℕ, Common.◌∙◌, Common.◌≡◌, GroupProducts.one_in_products}
use Rattle.ghash.proofs.Ghash.new.Goals as goal

subkey_is : (t : List ℕ) (h : ℕ) → t ≡ products_of h → slice_index t 8 ≡ h
subkey_is t h e = ap (λ (s : List ℕ). slice_index s 8) e ∙ one_in_products h

pub invariant_of-result : goal.invariant_of-result
invariant_of-result c =
    let is_subkey = sym (subkey_is _ _ c.products.ensures) in
    record {
      near_are = c.products.ensures ∙ ap products_of is_subkey;
      far_are = c.products-2.ensures ∙ ap products_of (c.times_x64.ensures ∙ ap (shifted 64) is_subkey);
    }

pub returns : goal.returns
returns c = ap (λ (h : ℕ). (h, 0)) (subkey_is _ _ c.products.ensures)
