-- What judging a model finds at an expression, and what that finding says of the model.
-- Assumes nothing.
use Rattle.std.specs.Prelude.{Bool}
use Rattle.std.proofs.Math.Bool.{true, false}
use Prim.Native.Nat.{ℕ, suc, ◌<◌}
use Rattle.nodeset.specs.Below.{lowest_below}
use Rattle.nodeset.specs.Below.{count_below}
use Rattle.pattern.specs.Checks.Range.{some_below}
use Rattle.pattern.specs.Logic.Syntax.{NExp}
use Rattle.pattern.specs.Logic.Semantics.{Holds}
use Rattle.pattern.specs.Logic.Finite.{Finite, Named, model_of, naming_of}
use Rattle.decision.specs.Decision.{holds_test}

-- 01: "Judging a model gives met (lowest node, number of nodes) or unmet."
pub data Judged : Type 0 where
  met : ℕ → ℕ → Judged
  unmet : Judged

-- met with the lowest of the numbers below n that pass a test and with how many pass, if one does
abbrev pub judged_if : Bool → ℕ → (ℕ → Bool) → Judged
judged_if true n test = met (lowest_below n test) (count_below n test)
judged_if false n test = unmet

-- what is found of a test on the numbers below n: met if some number passes
unfoldable pub judged_by : ℕ → (ℕ → Bool) → Judged
judged_by n test = judged_if (some_below n test) n test

-- what is found of an expression: the nodes are those at which it holds
abbrev pub judged_of : Finite → NExp → Judged
judged_of F φ = judged_by F.size (holds_test F φ)

-- 01, "number of nodes": exactly c of the numbers below n have P
pub data Exactly (P : ℕ → Type 0) : ℕ → ℕ → Type 0 where
  none : Exactly P 0 0
  more : {n c : ℕ} → Exactly P n c → P n → Exactly P (suc n) (suc c)
  no_more : {n c : ℕ} → Exactly P n c → (P n → ⊥) → Exactly P (suc n) c

-- 01, "holds at u": u is a node of the model, and the expression holds at it
abbrev pub HoldsNode : (F : Finite) → Named F → NExp → ℕ → Type 0
HoldsNode F ok φ u = (l : u < F.size) × Holds (model_of F) (naming_of F ok) φ (u, l)

-- 01, "met (lowest node, number of nodes) or unmet": met says that l is the lowest node at which the expression holds and that it holds at
-- exactly c nodes, unmet that it holds at none
abbrev pub Says : (F : Finite) → Named F → NExp → Judged → Type 0
Says F ok φ (met l c) = HoldsNode F ok φ l × ((u : ℕ) → u < l → HoldsNode F ok φ u → ⊥) × Exactly (HoldsNode F ok φ) F.size c
Says F ok φ unmet = (u : ℕ) → HoldsNode F ok φ u → ⊥
