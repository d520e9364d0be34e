use Rattle.store_core.proofs.{Common.ap, Common.false, Common.le-leb, Common.lt-leb, Common.nat_le, Common.refl, Common.sym, Common.arith, Common.◌/◌, Common.◌^◌, Common.◌&&◌, Common.◌||◌, Common.◌∙◌, Ranges.counts_of, Ranges.full_by}
use Rattle.store_model.specs.{Prelude.count_in_range, Prelude.is_per_range, Prelude.persistent_limit, Prelude.range_limit, declared.limits.Limits.TheVariants.Whole, declared.limits.Limits.TheVariants.PerRange}
use Rattle.store_core.proofs.store.Store.is_full.Goals as goal

pub returns-then-self-ge-KEPT_LIMIT : goal.returns-then-self-ge-KEPT_LIMIT
returns-then-self-ge-KEPT_LIMIT g c = λ start opening h all e s.
    let store = c.args.self.now in
    let counted = count_in_range s.model.keys (c.args.id.0 / 2 ^ 26) in
    sym (full_by s.model c.args.id.0 store.kept counted store.limits s.kept s.limits_are refl ∙ ap (λ b. b || (is_per_range store.limits && nat_le range_limit counted)) (le-leb persistent_limit store.kept c.if-self-ge-KEPT_LIMIT.true))

pub returns-in-Whole : goal.returns-in-Whole
returns-in-Whole g c = λ start opening h all e s.
    let store = c.args.self.now in
    let counted = count_in_range s.model.keys (c.args.id.0 / 2 ^ 26) in
    sym (full_by s.model c.args.id.0 store.kept counted Whole s.kept (s.limits_are ∙ c.in-Whole.is) refl ∙ ap (λ b. b || false) (lt-leb persistent_limit store.kept (omega (arith, c.if-self-ge-KEPT_LIMIT.false))))

pub returns-in-PerRange : goal.returns-in-PerRange
returns-in-PerRange g c = λ start opening h all e s.
    let store = c.args.self.now in
    sym (full_by s.model c.args.id.0 store.kept c.in_range.result PerRange s.kept (s.limits_are ∙ c.in-PerRange.is) (sym (counts_of s.model store.file.cells.states s.sound s.directory (c.args.id.0 / 2 ^ 26)) ∙ sym c.in_range.ensures)
    ∙ ap (λ b. b || nat_le range_limit c.in_range.result) (lt-leb persistent_limit store.kept (omega (arith, c.if-self-ge-KEPT_LIMIT.false))))
