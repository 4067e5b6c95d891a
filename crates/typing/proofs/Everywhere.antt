-- A fact that may speak of all types, held beside nothing: what a clause `fact 𝓤 (..) ∗ ⊤ₛ` asks for. The proof of a function with such a
-- clause ends as the generated `close` of its `Tie` does, with `passes` made by this law.
-- Assumes nothing.
use base.Logic.{ent, sep, emp, via, emp∗, comm∗}
use contract.Monad.{fact, fact_i}
use borrow.Fn.World.{World}
use borrow.Fn.Read.{all∗_one}

pub held : (w : World) (φ : Type 1) → φ → ent w.𝓤 (emp w.𝓤) (sep w.𝓤 (sep w.𝓤 (fact w.𝓤 φ) (emp w.𝓤)) (emp w.𝓤))
held w φ h =
    via w.𝓤 (sep w.𝓤 (fact w.𝓤 φ) (emp w.𝓤))
    (via w.𝓤 (fact w.𝓤 φ) (fact_i w.𝓤 φ (emp w.𝓤) h)
    (via w.𝓤 (sep w.𝓤 (emp w.𝓤) (fact w.𝓤 φ)) (emp∗ w.𝓤 (fact w.𝓤 φ)) (comm∗ w.𝓤 (emp w.𝓤) (fact w.𝓤 φ))))
    (all∗_one w (sep w.𝓤 (fact w.𝓤 φ) (emp w.𝓤)))
