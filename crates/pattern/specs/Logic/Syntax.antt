-- The language: source 000's definition 2, HXPath= with composition, over several axes and data channels, with the direct "after" of
-- source 002 (its diamond) and 02's "either" (Job 6). Names, properties, axes and channels are numbers; the limits on them are the file's.
-- Assumes nothing.
use Rattle.std.specs.Prelude.{ℕ}
use Rattle.pattern.specs.declared.types.Comparison.{Comparison}

mutual
  -- NExp ::= p | i | ¬φ | φ ∧ ψ | ⟨α = β⟩ | ⟨α ≠ β⟩, and before the last two φ ∨ ψ, a case of its own, and 002's ⟨a⟩φ. 000: "we will
  -- always use * for = and ≠"; here * is a comparison.
  pub data NExp : Type 0 where
    property : ℕ → NExp
    name : ℕ → NExp
    not : NExp → NExp
    both : NExp → NExp → NExp
    either : NExp → NExp → NExp
    after : ℕ → NExp → NExp
    compare : Comparison → ℕ → PExp → PExp → NExp

  -- PExp ::= ↓ | i | [φ] | αβ | α ∪ β
  pub data PExp : Type 0 where
    down : ℕ → PExp
    jump : ℕ → PExp
    test : NExp → PExp
    compose : PExp → PExp → PExp
    union : PExp → PExp → PExp

-- 000: "⊤ ≡ p ∨ ¬p", with ∨ "defined as usual", at property 0: ¬(¬p ∧ ¬¬p)
abbrev pub truth : NExp
truth = not (both (not (property 0)) (not (not (property 0))))
