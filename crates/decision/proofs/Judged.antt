-- What judging finds is so, and the laws of findings: when they are met, and when those of two tests are the same.
-- Assumes nothing.
use Rattle.std.specs.Prelude.{◌≡◌, Bool, ◌↔◌, ltb}
use Rattle.std.proofs.Math.Path.{refl}
use Rattle.std.proofs.Common.{sym, ◌∙◌, lt_of_lt_of_le, lt_trans, lt-suc_self, add-zero, add-one, ltb-true, ltb-false}
use Rattle.std.proofs.Math.Bool.{true, false, true≢false}
use Prim.Native.Nat.{ℕ, zero, suc, ◌+◌, ◌≤◌, ◌<◌}
use Rattle.std.proofs.Math.Nat.{le_step}
use Rattle.wire.specs.Choice.{pick}
use Rattle.nodeset.specs.Below.{lowest_below, lowest_holds, lowest_first, lowest_is, lowest_same, lowest_below_law, lowest_wider}
use Rattle.nodeset.specs.Below.{count_below, count_same, count_wider, count_none}
use Rattle.pattern.specs.Checks.Range.{some_below, some_at, some_found, none_at, none_below}
use Rattle.pattern.specs.Logic.Syntax.{NExp}
use Rattle.pattern.specs.Logic.Finite.{Finite, Named}
use Rattle.decision.specs.Decision.{holds_test}
use Rattle.decision.specs.Judged.{Judged, met, unmet, judged_if, judged_by, judged_of, Exactly, none, more, no_more, HoldsNode, Says}
use Rattle.decision.proofs.Decision.{holds_decided}

fails_so : (b : Bool) → (b ≡ true → ⊥) → b ≡ false
fails_so true h = absurd (h refl)
fails_so false h = refl

module _ (P : ℕ → Type 0) (test : ℕ → Bool) where
  count_exactly : (n : ℕ) → ((k : ℕ) → k < n → (test k ≡ true) ↔ P k) → Exactly P n (count_below n test)
  unfolding count_below
  count_exactly zero so = none
  count_exactly (suc n) so = go (test n) refl (count_exactly n (λ k h. so k (le_step h)))
    where
      go : (b : Bool) → test n ≡ b → Exactly P n (count_below n test) → Exactly P (suc n) (count_below n test + pick b 1 0)
      go true e r = rw (add-one (count_below n test)) (more r ((so n (lt-suc_self n)).0 e))
      go false e r = rw (add-zero (count_below n test)) (no_more r (λ p. true≢false (sym ((so n (lt-suc_self n)).1 p) ∙ e)))

  exactly_count : {n c : ℕ} → Exactly P n c → ((k : ℕ) → k < n → (test k ≡ true) ↔ P k) → count_below n test ≡ c
  unfolding count_below
  exactly_count none so = refl
  exactly_count (more {n} {c} r p) so = rw (exactly_count r (λ k h. so k (le_step h)), (so n (lt-suc_self n)).1 p) (add-one c)
  exactly_count (no_more {n} {c} r p) so =
      rw (exactly_count r (λ k h. so k (le_step h)), fails_so (test n) (λ e. p ((so n (lt-suc_self n)).0 e))) (add-zero c)

module _ (F : Finite) (ok : Named F) (φ : NExp) where
  -- the number of the model's nodes, and whether the expression holds at each
  abbrev n : ℕ
  n = F.size

  abbrev test : ℕ → Bool
  test = holds_test F φ

  pub holds_node : (u : ℕ) → u < n → (test u ≡ true) ↔ HoldsNode F ok φ u
  holds_node u l = (λ e. (l, (holds_decided F ok φ (u, l)).0 e), λ h. (holds_decided F ok φ (u, h.0)).1 h.1)

  fails_node : (u : ℕ) → test u ≡ false → HoldsNode F ok φ u → ⊥
  fails_node u e h = true≢false (sym ((holds_node u h.0).1 h) ∙ e)

  node_fails : (u : ℕ) → u < n → (HoldsNode F ok φ u → ⊥) → test u ≡ false
  node_fails u l f = fails_so (test u) (λ e. f ((holds_node u l).0 e))

  -- what is found is so
  finding_says : Says F ok φ (judged_of F φ)
  unfolding judged_by
  finding_says = go (some_below n test) refl
    where
      go : (b : Bool) → some_below n test ≡ b → Says F ok φ (judged_if b n test)
      go true e =
          let r = some_found test n e in
          let l = lowest_below_law n test r.0 r.1 r.2 in (
            (holds_node (lowest_below n test) l).0 (lowest_holds n test l),
            λ u h. fails_node u (lowest_first n test u h),
            count_exactly (HoldsNode F ok φ) test n holds_node,
          )
      go false e = λ u h. fails_node u (none_at test n u e h.0) h

  says_finding : (j : Judged) → Says F ok φ j → judged_of F φ ≡ j
  unfolding judged_by
  says_finding (met l c) s =
      let e = (holds_node l s.0.0).1 s.0 in
      let first : (k : ℕ) → k < l → test k ≡ false = λ k h. node_fails k (lt_trans h s.0.0) (s.1 k h) in
      rw (some_at test n l s.0.0 e, lowest_is n test l s.0.0 e first, exactly_count (HoldsNode F ok φ) test s.2 holds_node)
  says_finding unmet s = rw (none_below test n (λ k h. node_fails k h (s k)))

  -- judging finds exactly what is so
  pub judged_says : (j : Judged) → (judged_of F φ ≡ j) ↔ Says F ok φ j
  judged_says j = (λ e. rw e at finding_says, says_finding j)

-- the finding of a test is met where some number passes, unmet where none does
judged_met : (n : ℕ) (test : ℕ → Bool) (k : ℕ) → k < n → test k ≡ true
    → judged_by n test ≡ met (lowest_below n test) (count_below n test)
unfolding judged_by
judged_met n test k h e = rw (some_at test n k h e)

judged_unmet : (n : ℕ) (test : ℕ → Bool) → ((k : ℕ) → k < n → test k ≡ false) → judged_by n test ≡ unmet
unfolding judged_by
judged_unmet n test fails = rw (none_below test n fails)

-- where the lowest is below n, it is met
pub judged_low : (n : ℕ) (test : ℕ → Bool) → lowest_below n test < n → judged_by n test ≡ met (lowest_below n test) (count_below n test)
judged_low n test l = judged_met n test (lowest_below n test) l (lowest_holds n test l)

-- where none are counted, it is unmet
pub judged_empty : (n : ℕ) (test : ℕ → Bool) → count_below n test ≡ 0 → judged_by n test ≡ unmet
judged_empty n test e = judged_unmet n test (count_none n test e)

-- tests that agree on the numbers below n have the same finding
pub judged_alike : (n : ℕ) (s t : ℕ → Bool) → ((k : ℕ) → k < n → s k ≡ t k) → judged_by n s ≡ judged_by n t
judged_alike n s t same = go (some_below n t) refl
  where
    go : (b : Bool) → some_below n t ≡ b → judged_by n s ≡ judged_by n t
    go true e =
        let r = some_found t n e in
        rw (
          judged_met n s r.0 r.1 (same r.0 r.1 ∙ r.2),
          judged_met n t r.0 r.1 r.2,
          lowest_same n s t same,
          count_same n s t same,
        )
    go false e = judged_unmet n s (λ k h. same k h ∙ none_at t n k e h) ∙ sym (judged_unmet n t (λ k h. none_at t n k e h))

-- numbers that don't pass change nothing
judged_wider : (n m : ℕ) (test : ℕ → Bool) → n ≤ m → ((k : ℕ) → n ≤ k → test k ≡ false) → judged_by m test ≡ judged_by n test
judged_wider n m test w beyond = go (some_below n test) refl
  where
    fails : some_below n test ≡ false → (k : ℕ) (b : Bool) → ltb k n ≡ b → test k ≡ false
    fails e k true l = none_at test n k e (ltb-true k n l)
    fails e k false l = beyond k (ltb-false k n l)

    go : (b : Bool) → some_below n test ≡ b → judged_by m test ≡ judged_by n test
    go true e =
        let r = some_found test n e in
        rw (
          judged_met m test r.0 (lt_of_lt_of_le r.1 w) r.2,
          judged_met n test r.0 r.1 r.2,
          lowest_wider n m test r.0 w r.1 r.2,
          count_wider n m test w beyond,
        )
    go false e = judged_unmet m test (λ k h. fails e k (ltb k n) refl) ∙ sym (judged_unmet n test (λ k h. none_at test n k e h))

-- the finding of a test on the numbers below n is that of a test that agrees with it there and that no further number passes
pub judged_same : (n m : ℕ) (s t : ℕ → Bool) → ((k : ℕ) → k < n → s k ≡ t k) → n ≤ m → ((k : ℕ) → n ≤ k → s k ≡ false)
    → judged_by m s ≡ judged_by n t
judged_same n m s t same w beyond = judged_wider n m s w beyond ∙ judged_alike n s t same
