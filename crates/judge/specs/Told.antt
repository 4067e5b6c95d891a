-- What a linked function's answer tells: the finding, of which the promise holds.
-- Assumes nothing.
use Rattle.std.specs.Prelude.{◌≡◌, List, ℕ, length}
use Rattle.std.proofs.Common.{sym, ◌∙◌, ap, subst}
use Rattle.pattern.specs.Checks.Finding.{Finding, written}
use Rattle.decision.specs.Judged.{Judged}
use Rattle.model_records.specs.declared.Order.{Order}
use Rattle.model.specs.Judging as model
use Rattle.model_order.specs.Ordering.{ordering_of, OrderPromise}
use Rattle.tableau.specs.declared.finding.Closed.{Closed}
use Rattle.tableau.specs.Judging as tableau
use Rattle.tableau.specs.Closure.{ExcludedEverywhere, Excluded}
use Rattle.typing.specs.Typing.{typing_of, TypePromise}
use Rattle.answers.specs.Packed.{met_kind, closed_kind, answer_kind, met_kind_law, closed_kind_law, model_answer, tableau_answer, written_answer}
use Rattle.answers.specs.Unpacked.{told, unpack_model, unpack_tableau, unpack_written, model_unpacked, tableau_unpacked, written_unpacked, one_told}
use Rattle.answers.specs.Narrow.{Narrow, NarrowFinding, NarrowJudged, NarrowClosed, model_judging_narrow, tableau_judging_narrow, ordering_narrow, typing_narrow}
use Rattle.judge.specs.Promises.{NeverMet, NeverClosed, ModelPromise, TableauPromise}
use Rattle.judge.specs.Together.{closed_everywhere}

-- ---- laws

-- The packed finding of a judgement tells that finding, of which the judgement's promise holds, and demand 3 by its kind.
pub model_told : (bs ds lent left : List ℕ) (f : Finding Judged) (answer : ℕ) → ModelPromise bs ds lent f left → answer ≡ model_answer f
    → (answer ≡ model_answer (model.judging_of bs ds (length lent)))
    × ((unpack_model answer ≡ told (model.judging_of bs ds (length lent)))
    × (((g : Finding Judged) → unpack_model answer ≡ told g → ModelPromise bs ds lent g left) × (answer_kind answer ≡ met_kind → NeverClosed bs)))
model_told bs ds lent left f answer h e =
    let tells = ap unpack_model e ∙ model_unpacked f (subst (NarrowFinding NarrowJudged) (sym h.finding) (model_judging_narrow Order.Rising bs ds (length lent))) in (
      e ∙ ap model_answer h.finding,
      (
        tells ∙ ap told h.finding,
        (
          λ g q. subst (λ (x : Finding Judged). ModelPromise bs ds lent x left) (one_told f g (sym tells ∙ q)) h,
          λ k. let m = met_kind_law f (ap answer_kind (sym e) ∙ k) in h.tableaux m.0 m.1.0 m.1.1,
        ),
      ),
    )

pub tableau_told : (bs ts lent left : List ℕ) (f : Finding Closed) (answer : ℕ) → TableauPromise bs ts lent f left → answer ≡ tableau_answer f
    → (answer ≡ tableau_answer (tableau.judging_of bs ts (length lent)))
    × ((unpack_tableau answer ≡ told (tableau.judging_of bs ts (length lent)))
    × (((g : Finding Closed) → unpack_tableau answer ≡ told g → TableauPromise bs ts lent g left)
    × ((answer_kind answer ≡ closed_kind → Excluded bs) × (answer_kind answer ≡ closed_kind → NeverMet bs))))
tableau_told bs ts lent left f answer h e =
    let tells = ap unpack_tableau e ∙ tableau_unpacked f (subst (NarrowFinding NarrowClosed) (sym h.finding) (tableau_judging_narrow bs ts (length lent))) in (
      e ∙ ap tableau_answer h.finding,
      (
        tells ∙ ap told h.finding,
        (
          λ g q. subst (λ (x : Finding Closed). TableauPromise bs ts lent x left) (one_told f g (sym tells ∙ q)) h,
          (
            λ k. let m = closed_kind_law f (ap answer_kind (sym e) ∙ k) in h.excludes m.0 m.1,
            λ k. let m = closed_kind_law f (ap answer_kind (sym e) ∙ k) in h.models m.0 m.1,
          ),
        ),
      ),
    )

-- The packed finding of an operation that writes a file, whose finding is narrow, tells that finding, of which what is promised holds.
pub written_told : (Promise : Finding ℕ → Type 0) (found_of f : Finding ℕ) (answer : ℕ) → Promise f → f ≡ found_of → NarrowFinding Narrow found_of
    → answer ≡ written_answer f
    → (answer ≡ written_answer found_of)
    × ((unpack_written answer ≡ told found_of) × ((g : Finding ℕ) → unpack_written answer ≡ told g → Promise g))
written_told Promise found_of f answer h is narrow e =
    let tells = ap unpack_written e ∙ written_unpacked f (subst (NarrowFinding Narrow) (sym is) narrow) in
    (e ∙ ap written_answer is, (tells ∙ ap told is, λ g q. subst Promise (one_told f g (sym tells ∙ q)) h))

pub order_told : (ds lent left : List ℕ) (f : Finding ℕ) (answer : ℕ) → OrderPromise ds lent f left → answer ≡ written_answer f
    → (answer ≡ written_answer (written (ordering_of ds (length lent))))
    × ((unpack_written answer ≡ told (written (ordering_of ds (length lent))))
    × ((g : Finding ℕ) → unpack_written answer ≡ told g → OrderPromise ds lent g left))
order_told ds lent left f answer h e =
    written_told (λ g. OrderPromise ds lent g left) (written (ordering_of ds (length lent))) f answer h h.finding (ordering_narrow ds (length lent)) e

pub type_told : (xs lent left : List ℕ) (f : Finding ℕ) (answer : ℕ) → TypePromise xs lent f left → answer ≡ written_answer f
    → (answer ≡ written_answer (written (typing_of xs (length lent))))
    × ((unpack_written answer ≡ told (written (typing_of xs (length lent))))
    × ((g : Finding ℕ) → unpack_written answer ≡ told g → TypePromise xs lent g left))
type_told xs lent left f answer h e =
    written_told (λ g. TypePromise xs lent g left) (written (typing_of xs (length lent))) f answer h h.finding (typing_narrow xs (length lent)) e

-- What an answer of the kind closed tells of every data model, by the clauses `answer`, `finding` and `promise`.
pub told_everywhere : {bs ts lent left : List ℕ} {answer : ℕ} → answer ≡ tableau_answer (tableau.judging_of bs ts (length lent))
    → unpack_tableau answer ≡ told (tableau.judging_of bs ts (length lent))
    → ((f : Finding Closed) → unpack_tableau answer ≡ told f → TableauPromise bs ts lent f left)
    → answer_kind answer ≡ closed_kind → ExcludedEverywhere bs
told_everywhere {bs} {ts} {lent} e tells promise k =
    let f = tableau.judging_of bs ts (length lent) in
    let m = closed_kind_law f (ap answer_kind (sym e) ∙ k) in
    closed_everywhere (promise f tells) m.0 m.1
