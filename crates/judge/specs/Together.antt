-- The two judgements together: a tableau that closes and a model that is met don't stand side by side. So each keeps its promise.
-- Assumes nothing.
use Rattle.std.specs.Prelude.{◌≡◌, refl, List, ℕ, length}
use Rattle.std.proofs.Common.{sym, ◌∙◌}
use Rattle.pattern.specs.Checks.Finding.{Finding, found, refused}
use Rattle.decision.specs.Judged.{Judged, met, unmet}
use Rattle.model_records.specs.declared.Order.{Order}
use Rattle.model_records.specs.Contents.{model_from}
use Rattle.model_records.specs.Valid.{all_named}
use Rattle.model.specs.Judging as model
use Rattle.model.proofs.Judging as model_laws
use Rattle.tableau.specs.declared.finding.Closed.{Closed}
use Rattle.tableau.specs.Judging as tableau
use Rattle.tableau.specs.Closure.{Closure, ExcludedEverywhere}
use Rattle.tableau.proofs.JudgingCloses.{judging_closes, finding_closes}
use Rattle.tableau.proofs.Counting.{clashes_forks, most_lines_law}
use Rattle.tableau.specs.Soundness.{excludes, excluded_finite}
use Rattle.judge.specs.Promises.{Met, IsClosed, NeverMet, NeverClosed, ModelPromise, TableauPromise}

apart : (bs ts ds : List ℕ) (size size' : ℕ) (c : Closed) (lowest number : ℕ)
    → tableau.judging_of bs ts size ≡ found c → model.judging_of bs ds size' ≡ found (met lowest number) → ⊥
apart bs ts ds size size' c lowest number closed m =
    let j = (model_laws.judging_says bs ds size' (met lowest number)).0 m in
    excluded_finite bs (excludes ((judging_closes bs ts size c).0 closed)) (model_from ds) (all_named j.model_valid) (lowest, j.says.0.0) j.says.0.1

closed_never_met : (bs ts : List ℕ) (size : ℕ) (c : Closed) → tableau.judging_of bs ts size ≡ found c → NeverMet bs
closed_never_met bs ts size c closed ds size' = go (model.judging_of bs ds size') refl
  where
    go : (f : Finding Judged) → model.judging_of bs ds size' ≡ f → Met f → ⊥
    go (found (met lowest number)) e h = apart bs ts ds size size' c lowest number closed e
    go (found unmet) e h = h
    go (refused number place) e h = h

met_never_closed : (bs ds : List ℕ) (size lowest number : ℕ) → model.judging_of bs ds size ≡ found (met lowest number) → NeverClosed bs
met_never_closed bs ds size lowest number m ts size' = go (tableau.judging_of bs ts size') refl
  where
    go : (f : Finding Closed) → tableau.judging_of bs ts size' ≡ f → IsClosed f → ⊥
    go (found c) e h = apart bs ts ds size' size c lowest number e m
    go (refused number place) e h = h

-- the rest of the promise follows from the finding and the area
pub model_promised : (bs ds lent left : List ℕ) (f : Finding Judged) → f ≡ model.judging_of bs ds (length lent) → left ≡ model.area_after bs f lent
    → ModelPromise bs ds lent f left
model_promised bs ds lent left f e a =
    record {
      finding = e;
      area = a;
      meaning = model_laws.finding_means bs ds (length lent) f e;
      short = λ l. e ∙ model_laws.short_refused Order.Rising bs ds (length lent) l;
      as_before = λ l. e ∙ model_laws.enough_as_before Order.Rising bs ds (length lent) l;
      tableaux = λ lowest number h. met_never_closed bs ds (length lent) lowest number (sym e ∙ h);
    }

pub tableau_promised : (bs ts lent left : List ℕ) (f : Finding Closed) → f ≡ tableau.judging_of bs ts (length lent) → left ≡ tableau.area_after f lent
    → TableauPromise bs ts lent f left
tableau_promised bs ts lent left f e a =
    record {
      finding = e;
      area = a;
      meaning = finding_closes bs ts (length lent) f e;
      excludes = λ c h. excluded_finite bs (excludes (closure c h));
      models = λ c h. closed_never_met bs ts (length lent) c (sym e ∙ h);
      clashes = λ c h. clashes_forks (closure c h);
      bound = λ c h. most_lines_law (closure c h);
    }
  where
    closure : (c : Closed) → f ≡ found c → Closure bs ts (length lent) c
    closure c h = (finding_closes bs ts (length lent) f e c).0 h

-- 02, Job 11: closed excludes the root in every data model
pub closed_everywhere : {bs ts lent left : List ℕ} {f : Finding Closed} → TableauPromise bs ts lent f left → (c : Closed) → f ≡ found c
    → ExcludedEverywhere bs
closed_everywhere promise c h = excludes ((promise.meaning c).0 h)
