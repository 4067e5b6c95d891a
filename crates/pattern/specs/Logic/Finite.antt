-- 01's data model with finitely many nodes, and the abstract data model of source 000 that it stands for.
-- Assumes nothing.
use Rattle.std.specs.Prelude.{◌≡◌, refl, Bool, true, ℕ, ◌<◌}
use Rattle.std.proofs.Common.{sym, ◌∙◌}
use native.Mathlib.Fin
use Rattle.pattern.specs.Logic.Semantics.{Model, Naming}

-- 01: "A data model has one or more nodes, edges per axis, a property set and four data values per node, and a node for every name. Data
-- values are whole numbers without an upper bound; a model is finite if its nodes are finitely many."
pub record Finite : Type 0 where
  -- the nodes are the numbers below it
  pub size : ℕ
  -- the axis leads from the first node to the second
  pub edge : ℕ → ℕ → ℕ → Bool
  -- the property is in the node's set
  pub label : ℕ → ℕ → Bool
  -- the value on the channel of the node
  pub value : ℕ → ℕ → ℕ
  -- the node of the name
  pub named : ℕ → ℕ

-- "a node for every name", and so one or more nodes
abbrev pub Named : Finite → Type 0
Named F = (i : ℕ) → F.named i < F.size

-- a node of a finite model
abbrev pub NodeOf : Finite → Type 0
NodeOf F = (u : ℕ) × (u < F.size)

-- nodes are alike on a channel where their values are equal
abbrev pub model_of : Finite → Model
model_of F = record {
  Node = NodeOf F;
  alike = λ e x y. F.value e x.0 ≡ F.value e y.0;
  alike_refl = λ e x. refl;
  alike_sym = λ e x y p. sym p;
  alike_trans = λ e x y z p q. p ∙ q;
  edge = λ a x y. F.edge a x.0 y.0 ≡ true;
  label = λ p x. F.label p x.0 ≡ true;
}

abbrev pub naming_of : (F : Finite) → Named F → Naming (model_of F)
naming_of F ok i = (F.named i, ok i)

-- ---- laws

-- its number is all that there is to a node
pub node_same : (F : Finite) {x y : NodeOf F} → x.0 ≡ y.0 → x ≡ y
node_same F {x} {y} e = Fin.val_path {n = F.size} {i = x} {j = y} e
