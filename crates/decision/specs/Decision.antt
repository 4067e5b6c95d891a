-- Whether an expression holds in a finite model, as a test that computes: the clauses of `Logic.Semantics` in their order, with the nodes of
-- the model gone through for "there is some". That the test and the meaning agree is proved in `proofs.Decision`.
-- Assumes nothing.
use Rattle.std.specs.Prelude.{Bool, not, ◌&&◌, ◌||◌, ℕ, eqb}
use Rattle.pattern.specs.declared.types.Comparison.{Comparison}
use Rattle.pattern.specs.Checks.Range.{some_below}
use Rattle.pattern.specs.Logic.Syntax.{NExp, PExp}
use Rattle.pattern.specs.Logic.Finite.{Finite}

-- 01: "equal (unequal) values on the channel", where it is known whether they are equal
abbrev pub compared : Comparison → Bool → Bool
compared Comparison.Same equal = equal
compared Comparison.Differ equal = not equal

-- 01: "What a node entry means and where a path leads are defined by each other."
unfoldable mutual
  -- the path leads from u to v
  pub leads_test : Finite → PExp → ℕ → ℕ → Bool
  leads_test F (PExp.down a) u v = F.edge a u v
  leads_test F (PExp.jump i) u v = eqb (F.named i) v
  leads_test F (PExp.test φ) u v = eqb u v && holds_test F φ u
  leads_test F (PExp.compose α β) u v = some_below F.size (λ w. leads_test F α u w && leads_test F β w v)
  leads_test F (PExp.union α β) u v = leads_test F α u v || leads_test F β u v

  -- the expression holds at u
  pub holds_test : Finite → NExp → ℕ → Bool
  holds_test F (NExp.property p) u = F.label p u
  holds_test F (NExp.name i) u = eqb (F.named i) u
  holds_test F (NExp.not φ) u = not (holds_test F φ u)
  holds_test F (NExp.both φ ψ) u = holds_test F φ u && holds_test F ψ u
  -- 02: "it holds where at least one part holds"
  holds_test F (NExp.either φ ψ) u = holds_test F φ u || holds_test F ψ u
  -- 01: "After holds where some successor has φ."
  holds_test F (NExp.after a φ) u = some_below F.size (λ v. F.edge a u v && holds_test F φ v)
  -- 01: "Same (differ) holds at u if some end of α and some end of β from u have equal (unequal) values on the channel."
  holds_test F (NExp.compare c e α β) u =
      some_below F.size (λ v. some_below F.size (λ w.
      leads_test F α u v && leads_test F β u w && compared c (eqb (F.value e v) (F.value e w))))
