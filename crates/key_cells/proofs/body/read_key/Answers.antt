use Rattle.key_cells.proofs.{Common.IsNoRecord, Common.IsRecord, Common.List, Common.false, Common.length, Common.refl, Common.replicate, Common.subst, Common.sym, Common.true, Common.ℕ, Common.◌+◌, Common.◌∙◌, Common.◌≡◌, Bodies.no_id, Bodies.no_front, Bodies.no_size, Bodies.no_record, Bodies.no_rest, Bodies.key_found, Bodies.tail_of, Bodies.record_at}
use Rattle.key_cells.proofs.body.read_key.Goals as goal

pub returns-then-not-is_persistent : goal.returns-then-not-is_persistent
returns-then-not-is_persistent c = no_id c.args.cell.now c.id_of-id.result c.id_of-id.ensures (λ is. let e : false ≡ true = c.if-not-is_persistent.ensures.1 is in cc)

pub returns-then-not-begins_with : goal.returns-then-not-begins_with
returns-then-not-begins_with c = no_front c.args.cell.now c.id_of-id.result c.id_of-id.ensures (λ is. let e : false ≡ true = c.if-not-begins_with.ensures.1 (is ∙ sym c.front.ensures) in cc)

pub returns-in_default : goal.returns-in_default
returns-in_default c = no_size c.args.cell.now c.head_of.result c.head_of.ensures c.in_default.ensures

pub returns-in_default-read : goal.returns-in_default-read
returns-in_default-read c = no_record c.args.cell.now c.head_of.result c.head_of.ensures c.in-Some.length c.in-Some.ensures (subst (λ (l : List ℕ). IsNoRecord l) (record_at c.args.cell.now c.in-Some.length) c.in_default-read.ensures)

pub returns-then-not-is_zero : goal.returns-then-not-is_zero
returns-then-not-is_zero c = no_rest c.args.cell.now c.head_of.result c.head_of.ensures c.in-Some.length c.in-Some.ensures c.told-cell (λ is. let e : false ≡ true = c.if-not-is_zero.ensures.1 (subst (λ (l : List ℕ). l ≡ replicate (length l) 0) (sym (tail_of c.args.cell.now (16 + c.in-Some.length) c.told-cell)) is) in cc)

pub returns : goal.returns
returns c = key_found c.args.cell.now c.head_of.result c.head_of.ensures c.in-Some.length c.in-Some.ensures c.id_of-id.result c.in-Some-read._start c.in-Some-read.attributes c.told-cell
    (c.if-not-is_persistent.ensures.0 refl) (c.if-not-begins_with.ensures.0 refl ∙ c.front.ensures) (subst (λ (l : List ℕ). IsRecord c.in-Some-read.attributes c.in-Some-read._start l) (record_at c.args.cell.now c.in-Some.length) c.in-Some-read.ensures)
    (subst (λ (l : List ℕ). l ≡ replicate (length l) 0) (tail_of c.args.cell.now (16 + c.in-Some.length) c.told-cell) (c.if-not-is_zero.ensures.0 refl))
