use Rattle.ghash.proofs.{Common.ap, Common.products_of, Common.shifted, Common.sym, Common.ℕ, Common.◌∙◌, Common.◌≡◌, GroupProducts.products_of_zero, GroupProducts.far_products_of_zero}
use Rattle.ghash.proofs.Ghash.drop.Goals as goal

pub release-requires-clause-products : goal.release-requires-clause-products
release-requires-clause-products c =
    let none : c.wipe.new.self.0 ≡ 0 = ap (λ (p : ℕ × ℕ). p.0) c.wipe.ensures in
    c.self.invariant.near_are ∙ (ap products_of (ap (λ (p : ℕ × ℕ). p.0) c.self.view_is ∙ none) ∙ sym products_of_zero)

pub release-requires-clause-far_products : goal.release-requires-clause-far_products
release-requires-clause-far_products c =
    let none : c.wipe.new.self.0 ≡ 0 = ap (λ (p : ℕ × ℕ). p.0) c.wipe.ensures in
    c.self.invariant.far_are
    ∙ (ap (λ h. products_of (shifted 64 h)) (ap (λ (p : ℕ × ℕ). p.0) c.self.view_is ∙ none) ∙ sym far_products_of_zero)
