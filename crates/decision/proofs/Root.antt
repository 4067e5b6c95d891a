-- A test passes where the root of a pattern holds, and names which the pattern doesn't use bear on nothing found.
-- Assumes nothing.
use Rattle.std.specs.Prelude.{◌≡◌, refl, Bool, true, false, ◌&&◌, ◌↔◌, List, ℕ, ◌-◌, ◌<◌, ltb}
use Rattle.std.proofs.Common.{sym, subst, arith, ltb-true, ltb-false}
use Rattle.std.proofs.Math.Logic.Iff
use Rattle.pattern.specs.Checks.Tests.{same_tests}
use Rattle.pattern.specs.Logic.Finite.{Finite, Named, model_of, naming_of, node_same}
use Rattle.pattern.specs.File.Reading.{count_of}
use Rattle.pattern.specs.File.Valid.{Valid}
use Rattle.pattern.specs.Meaning.Expression.{root_of}
use Rattle.pattern.specs.Meaning.Names.{uses_name}
use Rattle.pattern.proofs.Meaning.Names.{node_coincides}
use Rattle.decision.specs.Decision.{holds_test}
use Rattle.decision.specs.Judged.{Judged, met, unmet, judged_of, Exactly, HoldsNode, Says}
use Rattle.decision.specs.Root.{root_holds, renamed}
use Rattle.decision.proofs.Judged.{holds_node, judged_says}

-- a test that passes exactly where the root holds at a node
pub root_holds_law : (bs : List ℕ) (F : Finite) (ok : Named F) (u : ℕ) (t : Bool) → (t ≡ true) ↔ HoldsNode F ok (root_of bs) u → t ≡ root_holds bs F u
unfolding root_holds
root_holds_law bs F ok u t h = go (ltb u F.size) refl t h
  where
    go : (b : Bool) → ltb u F.size ≡ b → (t : Bool) → (t ≡ true) ↔ HoldsNode F ok (root_of bs) u → t ≡ b && holds_test F (root_of bs) u
    go true l t h = same_tests t _ (Iff.trans h (Iff.symm (holds_node F ok (root_of bs) u (ltb-true u F.size l))))
    go false l true h = absurd (let r = h.0 refl in omega (arith, r.0, ltb-false u F.size l))
    go false l false h = refl

-- the nodes of names that the pattern doesn't use bear on nothing that is found of its root
pub judged_renamed : {bs : List ℕ} → Valid bs (count_of bs) → (F : Finite) → Named F → (named : ℕ → ℕ) → Named (renamed F named)
    → ((i : ℕ) → uses_name bs i ≡ true → named i ≡ F.named i) → judged_of (renamed F named) (root_of bs) ≡ judged_of F (root_of bs)
judged_renamed {bs} ok F all named within agree =
    (judged_says (renamed F named) within (root_of bs) (judged_of F (root_of bs))).1
    (moved (judged_of F (root_of bs)) ((judged_says F all (root_of bs) (judged_of F (root_of bs))).0 refl))
  where
    root : count_of bs - 1 < count_of bs
    root = let some = ok.header.some_entry in omega arith

    same : HoldsNode F all (root_of bs) ≡ HoldsNode (renamed F named) within (root_of bs)
    same i u =
        (l : u < F.size)
        × node_coincides ok (model_of F) (naming_of F all) (naming_of (renamed F named) within) (λ k used. node_same F (sym (agree k used))) (count_of bs - 1) root
        (u, l) i

    moved : (j : Judged) → Says F all (root_of bs) j → Says (renamed F named) within (root_of bs) j
    moved (met lowest number) s =
        subst (λ (P : ℕ → Type 0). P lowest × ((u : ℕ) → u < lowest → P u → ⊥) × Exactly P F.size number) same s
    moved unmet s = subst (λ (P : ℕ → Type 0). (u : ℕ) → P u → ⊥) same s
