use Rattle.slot_table.proofs.{Common.ap, Common.empty_head, Common.replicate, Common.rules, Common.slots_of, Common.◌∙◌, Common.◌≡◌, Views.slots_of-replicate, Views.AreRows-replicate}
use Rattle.slot_table.proofs.rows.SlotRows.new.Goals as goal

pub invariant_of-result : goal.invariant_of-result
invariant_of-result c =
    let heads : c.in-Ok.heads.items ≡ replicate 384 c.empty.result = c.in-Ok.ensures.items_if_clones_equal (λ y h. search rules) in
    rw (heads, c.empty.ensures, c.in_ok-keys.ensures) AreRows-replicate

pub returns : goal.returns
returns c =
    let heads : c.in-Ok.heads.items ≡ replicate 384 c.empty.result = c.in-Ok.ensures.items_if_clones_equal (λ y h. search rules) in
    ap (λ hs. slots_of hs c.in_ok-keys.keys.items) (heads ∙ ap (replicate 384) c.empty.ensures)
    ∙ ap (slots_of (replicate 384 empty_head)) c.in_ok-keys.ensures
    ∙ slots_of-replicate 384
