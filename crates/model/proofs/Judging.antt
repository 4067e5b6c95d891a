-- What is proved of judging a model: what the checks pass, what a finding says, what 02's jobs left as it was, and the working area.
-- Assumes nothing.
use Rattle.std.specs.Prelude.{◌≡◌, refl, Bool, true, false, not, ◌&&◌, ◌↔◌, List, ℕ, ◌+◌, ◌≤◌, ◌<◌}
use Rattle.std.proofs.Common.{sym, ◌∙◌, ap, subst, not-suc-le-zero, arith}
use Rattle.std.proofs.lemmas.Bool.{false≢true}
use borrow.Author.Tests.{lt-ltb, le-ltb, ltb-false}
use Rattle.pattern.specs.Checks.Finding.{Finding, found, refused, Check, passes, refuses, ◌then◌, unless, then_passes, passes_last, refuses_if_passes, found_passes}
use Rattle.pattern.specs.Checks.Range.{some_at, none_at, none_below}
use Rattle.pattern.specs.File.Types.{max_name}
use Rattle.pattern.specs.File.Reading.{count_of, pattern_check}
use Rattle.pattern.specs.File.Valid.{Valid}
use Rattle.pattern.proofs.File.Valid.{passes_valid, valid_passes}
use Rattle.pattern.specs.Meaning.Expression.{root_of}
use Rattle.pattern.specs.Meaning.Names.{uses_name, used_in_range}
use Rattle.nodeset.specs.Below.{lowest_below, lowest_holds, lowest_first}
use Rattle.nodeset.specs.declared.NodeSet.{NodeSet}
use Rattle.nodeset.specs.Set.{width, has}
use Rattle.slots.specs.Area.{nodes_few}
use Rattle.decision.specs.Decision.{holds_test}
use Rattle.decision.specs.Judged.{Judged, judged_by, judged_of}
use Rattle.decision.proofs.Judged.{judged_says, judged_same}
use Rattle.model_records.specs.Layout.{node_count, edge_count}
use Rattle.decision.specs.Root.{root_holds, renamed}
use Rattle.decision.proofs.Root.{judged_renamed}
use Rattle.model_records.specs.Contents.{is_listed, NamesListed, node_named, model_from}
use Rattle.model_records.specs.declared.Order.{Order}
use Rattle.model_records.specs.Order.{edge_at, EdgesRise}
use Rattle.model_records.specs.Rising.{Ordered, no_repeat}
use Rattle.model_records.specs.Checks.{model_check}
use Rattle.model_records.specs.Valid.{ValidModel, all_named}
use Rattle.model_records.proofs.Valid.{model_valid, model_accepted, model_unordered}
use Rattle.model.specs.Judging.{area_need, area_check, is_missing, names_check, judging_check, judging_by, judging_of, gave_before, wanted_by, area_wanted, Judgement}

-- ---- the names of the pattern

missing_not : (used listed : Bool) → used && not listed ≡ false → used ≡ true → listed ≡ true
missing_not true true h e = refl
missing_not true false h e = sym h
missing_not false listed h e = absurd (false≢true e)

listed_so : (used listed : Bool) → (used ≡ true → listed ≡ true) → used && not listed ≡ false
listed_so true listed h = ap not (h refl)
listed_so false listed h = refl

-- the check of the names passes exactly where all are listed
names_accepted : (bs ds : List ℕ) → NamesListed bs ds → names_check bs ds ≡ passes
unfolding names_check
names_accepted bs ds h = rw (none_below (is_missing bs ds) (max_name + 1) (λ i l. listed_so (uses_name bs i) (is_listed ds i) (h i)))

names_pass : (bs ds : List ℕ) → Valid bs (count_of bs) → names_check bs ds ≡ passes → NamesListed bs ds
unfolding names_check
names_pass bs ds ok h i used =
    missing_not (uses_name bs i) (is_listed ds i)
    (none_at (is_missing bs ds) (max_name + 1) i (refuses_if_passes _ 27 _ h) (let l = used_in_range ok i used in omega arith)) used

-- it goes by the lowest missing name: one in range is the place of the refusal, and where none is, the check passes
pub lowest_refused : (bs ds : List ℕ) → lowest_below (max_name + 1) (is_missing bs ds) ≤ max_name
    → names_check bs ds ≡ refuses 27 (lowest_below (max_name + 1) (is_missing bs ds))
unfolding names_check
lowest_refused bs ds l =
    let less : lowest_below (max_name + 1) (is_missing bs ds) < max_name + 1 = omega arith in
    rw (some_at (is_missing bs ds) (max_name + 1) _ less (lowest_holds (max_name + 1) (is_missing bs ds) less))

pub lowest_passes : (bs ds : List ℕ) → max_name < lowest_below (max_name + 1) (is_missing bs ds) → names_check bs ds ≡ passes
unfolding names_check
lowest_passes bs ds l = rw (none_below (is_missing bs ds) (max_name + 1) (λ i h. lowest_first (max_name + 1) (is_missing bs ds) i (omega arith)))

-- ---- what is found

module _ (order : Order) (bs ds : List ℕ) (size : ℕ) (ok : pattern_check bs ≡ passes) where
  -- of a pattern that isn't refused, 9 decides where the area is too short
  pub area_decides : size < area_need bs → judging_check order bs ds size ≡ refuses 9 0
  unfolding judging_check
  area_decides short = rw (ok, lt-ltb size (area_need bs) short)

  -- and the model where it isn't. "27 follows all edge records.": what the file is refused for is found whatever names it lists
  pub model_decides : area_need bs ≤ size → judging_check order bs ds size ≡ model_check order ds then names_check bs ds
  unfolding judging_check
  model_decides long = rw (ok, le-ltb size (area_need bs) long)

-- nothing is to be refused
abbrev pub Allowed : Order → List ℕ → List ℕ → ℕ → Type 0
Allowed order bs ds size = Valid bs (count_of bs) × (area_need bs ≤ size) × ValidModel ds × Ordered order ds × NamesListed bs ds

-- the checks pass exactly there
pub checks_pass : (order : Order) (bs ds : List ℕ) (size : ℕ) → (judging_check order bs ds size ≡ passes) ↔ Allowed order bs ds size
unfolding judging_check
checks_pass order bs ds size = (apart, together)
  where
    apart : judging_check order bs ds size ≡ passes → Allowed order bs ds size
    apart h =
        let a = then_passes (pattern_check bs) _ h in
        let b = then_passes (area_check (area_need bs) size) _ a.1 in
        let long = ltb-false size (area_need bs) (refuses_if_passes _ 9 0 b.0) in
        let c = then_passes (model_check order ds) (names_check bs ds) (sym (model_decides order bs ds size a.0 long) ∙ h) in
        let file = model_valid order ds c.0 in
        (passes_valid bs a.0, long, file.0, file.1, names_pass bs ds (passes_valid bs a.0) c.1)

    together : Allowed order bs ds size → judging_check order bs ds size ≡ passes
    together h =
        model_decides order bs ds size (valid_passes bs (count_of bs) h.0) h.1
        ∙ rw (model_accepted order ds h.2 h.3) (names_accepted bs ds h.4)

-- Demand 2 for models: judging finds j exactly where j is so.
pub judging_says : (bs ds : List ℕ) (size : ℕ) (j : Judged) → (judging_of bs ds size ≡ found j) ↔ Judgement bs ds size j
unfolding judging_by
judging_says bs ds size j = (apart, together)
  where
    together : Judgement bs ds size j → judging_of bs ds size ≡ found j
    together h =
        rw ((checks_pass Order.Rising bs ds size).1 (h.pattern_valid, h.area_long, h.model_valid, h.edges_rise, h.names_listed))
        (ap found ((judged_says (model_from ds) (all_named h.model_valid) (root_of bs) j).1 h.says))

    apart : judging_of bs ds size ≡ found j → Judgement bs ds size j
    apart h =
        let r = found_passes (judging_check Order.Rising bs ds size) (judged_of (model_from ds) (root_of bs)) j h in
        let c = (checks_pass Order.Rising bs ds size).0 r.0 in
        record {
          pattern_valid = c.0;
          area_long = c.1;
          model_valid = c.2;
          edges_rise = c.3;
          names_listed = c.4;
          says = (judged_says (model_from ds) (all_named c.2) (root_of bs) j).0 r.1;
        }

-- ---- what 02's jobs left as it was

-- what judging finds without the check of 02's Job 1, the last; in any order (`model_any`), and but for the length of the area, it is what
-- 01 says
abbrev pub judging_before : Order → List ℕ → List ℕ → ℕ → Finding Judged
judging_before order bs ds size =
    unless (pattern_check bs then area_check (area_need bs) size then model_check order ds) (judged_of (model_from ds) (root_of bs))

-- a model that lists the names of the pattern is judged as without that check
pub listed_as_before : (order : Order) (bs ds : List ℕ) (size : ℕ) → NamesListed bs ds
    → judging_by order bs ds size ≡ judging_before order bs ds size
unfolding judging_by judging_check
listed_as_before order bs ds size h =
    rw (names_accepted bs ds h)
    (ap (λ (c : Check). unless (pattern_check bs then area_check (area_need bs) size then c) (judged_of (model_from ds) (root_of bs)))
    (passes_last (model_check order ds)))

-- "Readings without names keep their findings.": so is any model, for a pattern that uses no name
pub nameless_as_before : (order : Order) (bs ds : List ℕ) (size : ℕ) → ((i : ℕ) → uses_name bs i ≡ false)
    → judging_by order bs ds size ≡ judging_before order bs ds size
nameless_as_before order bs ds size none = listed_as_before order bs ds size (λ i used. absurd (false≢true (sym (none i) ∙ used)))

-- a model whose edges rise, as G's do, is judged as without 02's Job 3, refusals included
pub rising_as_before : (bs ds : List ℕ) (size : ℕ) → EdgesRise ds → judging_of bs ds size ≡ judging_by Order.Any bs ds size
unfolding judging_by judging_check
rising_as_before bs ds size h = rw (model_unordered ds h)

-- "A repeat is therefore refused too.": nothing is found of a file that has an edge twice
pub repeat_refused : (bs ds : List ℕ) (size : ℕ) (j : Judged) → judging_of bs ds size ≡ found j
    → (i k : ℕ) → i < k → k < edge_count ds → edge_at ds i ≡ edge_at ds k → ⊥
repeat_refused bs ds size j h = no_repeat (edge_count ds) (edge_at ds) ((judging_says bs ds size j).0 h).edges_rise

-- "node 0 stands in only for names that the pattern doesn't use": whatever nodes they named instead, the finding would be the same
pub stand_in_unseen : (bs ds : List ℕ) (size : ℕ) (j : Judged) → judging_of bs ds size ≡ found j
    → (named : ℕ → ℕ) → ((i : ℕ) → named i < node_count ds) → ((i : ℕ) → is_listed ds i ≡ true → named i ≡ node_named ds i)
    → judged_of (renamed (model_from ds) named) (root_of bs) ≡ j
stand_in_unseen bs ds size j found_j named within same =
    let h = (judging_says bs ds size j).0 found_j in
    let ok = all_named h.model_valid in
    judged_renamed h.pattern_valid (model_from ds) ok named within (λ i used. same i (h.names_listed i used))
    ∙ (judged_says (model_from ds) ok (root_of bs) j).1 h.says

-- ---- the working area

-- of a pattern that isn't refused, what must be lent is what it needs
wanted_passed : (bs : List ℕ) → pattern_check bs ≡ passes → area_wanted bs ≡ area_need bs
wanted_passed bs ok = rw ok

-- 2,040 bytes are always enough
pub wanted_few : (bs : List ℕ) → area_wanted bs ≤ 2040
wanted_few bs = go (pattern_check bs) refl
  where
    go : (c : Check) → pattern_check bs ≡ c → wanted_by c (area_need bs) ≤ 2040
    go passes e = let few = (passes_valid bs e).header.one_byte in omega (arith, nodes_few bs (count_of bs), few)
    go (refuses number place) e = omega arith

-- Job 5: "Refusal 9 for models is given below that length."
pub short_refused : (order : Order) (bs ds : List ℕ) (size : ℕ) → size < area_wanted bs → judging_by order bs ds size ≡ refused 9 0
unfolding judging_by
short_refused order bs ds size short = go (pattern_check bs) refl
  where
    go : (c : Check) → pattern_check bs ≡ c → judging_by order bs ds size ≡ refused 9 0
    go passes e = rw (area_decides order bs ds size e (rw (wanted_passed bs e) at short))
    go (refuses number place) e = absurd (not-suc-le-zero (rw e at short))

-- "Every finding equals the one that 2,040 bytes gave before, refusal 9 apart.": with an area that is long enough, of every pattern and model
pub enough_as_before : (order : Order) (bs ds : List ℕ) (size : ℕ) → area_wanted bs ≤ size → judging_by order bs ds size ≡ gave_before order bs ds
unfolding judging_by judging_check
enough_as_before order bs ds size long = go (pattern_check bs) refl
  where
    go : (c : Check) → pattern_check bs ≡ c → judging_by order bs ds size ≡ gave_before order bs ds
    go passes e = rw (e, le-ltb size (area_need bs) (rw (wanted_passed bs e) at long))
    go (refuses number place) e = rw e

-- ---- what is found

-- a set that has the nodes where the root holds, and no other number, is judged as the definition says
pub root_judged : (bs : List ℕ) {ds : List ℕ} (ok : ValidModel ds) (s : NodeSet) → ((u : ℕ) → has s u ≡ root_holds bs (model_from ds) u)
    → judged_by width (has s) ≡ judged_of (model_from ds) (root_of bs)
unfolding root_holds
root_judged bs {ds} ok s same =
    judged_same (node_count ds) width (has s) (holds_test (model_from ds) (root_of bs)) (λ k l. same k ∙ rw (lt-ltb k (node_count ds) l)) ok.header.narrow
    (λ k l. same k ∙ rw (le-ltb k (node_count ds) l))

-- what is found where the checks pass, and where they don't
pub judging_finds : (bs ds : List ℕ) (size : ℕ) → judging_check Order.Rising bs ds size ≡ passes
    → judging_of bs ds size ≡ found (judged_of (model_from ds) (root_of bs))
unfolding judging_by
judging_finds bs ds size h = rw h

pub judging_refuses : (bs ds : List ℕ) (size number place : ℕ) → judging_check Order.Rising bs ds size ≡ refuses number place
    → judging_of bs ds size ≡ refused number place
unfolding judging_by
judging_refuses bs ds size number place h = rw h

-- a finding that judging gives says what it says
pub finding_means : (bs ds : List ℕ) (size : ℕ) (f : Finding Judged) → f ≡ judging_of bs ds size → (j : Judged)
    → (f ≡ found j) ↔ Judgement bs ds size j
finding_means bs ds size f e j = subst (λ (g : Finding Judged). (g ≡ found j) ↔ Judgement bs ds size j) (sym e) (judging_says bs ds size j)
