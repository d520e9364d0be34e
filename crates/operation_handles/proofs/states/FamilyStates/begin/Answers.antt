use Rattle.operation_handles.proofs.{Common.AreStates, Common.Derivations, Common.Deriving, Common.FamilyStates, Common.Hashes, Common.Hashing, Common.Inactive, Common.class_rows, Common.derivation_work, Common.first_row, Common.hash_work, Common.plain_reply, Common.set_up_without_key, Common.None, Common.refl, Common.subst, Common.sym, Common.◌∙◌, Common.◌≡◌, Families.keeps_put}
use Rattle.alg_encoding.specs.declared.table.Class.TheVariants as class
use Rattle.operation_handles.proofs.{Deriving.set_up_has, Deriving.set_up_may, Fresh.set_up_are, Fresh.set_up_reply}
use Rattle.operation_handles.proofs.states.FamilyStates.begin.Goals as goal

pub returns-in-Hash-clause-state : goal.returns-in-Hash-clause-state
returns-in-Hash-clause-state c = λ all.
    let s = c.args.self.now in
    let t : FamilyStates = record s { hash = c.hash_setup.new.self } in
    subst (λ setup. AreStates t None (set_up_without_key Inactive setup).operation) (sym c.in-Hash.is)
    (set_up_are Hashes s t (first_row (class_rows class.Hash c.in-Hash.alg.0)) (hash_work c.in-Hash.alg.0) (keeps_put Hashes s c.hash_setup.new.self) all (c.hash_setup.ensures.state Inactive (all Hashes)) refl)

pub returns-in-Hash-clause-reply : goal.returns-in-Hash-clause-reply
returns-in-Hash-clause-reply c = λ all.
    subst (λ setup. plain_reply c.hash_setup.result ≡ (set_up_without_key Inactive setup).reply) (sym c.in-Hash.is)
    (c.hash_setup.ensures.reply Inactive (all Hashes) ∙ set_up_reply (first_row (class_rows class.Hash c.in-Hash.alg.0)) None Hashing (hash_work c.in-Hash.alg.0))

pub returns-in-Derivation-clause-state : goal.returns-in-Derivation-clause-state
returns-in-Derivation-clause-state c = λ all.
    let s = c.args.self.now in
    let t : FamilyStates = record s { derivation = c.key_derivation_setup.new.self; alg = c.in-Derivation.alg } in
    let refused = first_row (class_rows class.Derivation c.in-Derivation.alg.0) in
    let work = derivation_work c.in-Derivation.alg.0 in
    subst (λ setup. AreStates t None (set_up_without_key Inactive setup).operation) (sym c.in-Derivation.is)
    (set_up_are Derivations s t refused work (keeps_put Derivations s (c.key_derivation_setup.new.self, c.in-Derivation.alg)) all
    (record { state = c.key_derivation_setup.ensures.state Inactive (all Derivations).state; algorithm = set_up_has class.Derivation c.in-Derivation.alg.0 }) (set_up_may refused work))

pub returns-in-Derivation-clause-reply : goal.returns-in-Derivation-clause-reply
returns-in-Derivation-clause-reply c = λ all.
    subst (λ setup. plain_reply c.key_derivation_setup.result ≡ (set_up_without_key Inactive setup).reply) (sym c.in-Derivation.is)
    (c.key_derivation_setup.ensures.reply Inactive (all Derivations).state ∙ set_up_reply (first_row (class_rows class.Derivation c.in-Derivation.alg.0)) None Deriving (derivation_work c.in-Derivation.alg.0))
