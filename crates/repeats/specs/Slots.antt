-- Slots, marked and not: what an unmarked one tells, and what marking one adds.
-- Assumes nothing.
use Rattle.std.specs.Prelude.{◌≡◌, refl, Bool, true, false, List, ℕ, ◌+◌, ◌<◌, eqb, length, get_or, set}
use Rattle.std.proofs.Common.{sym, ap, ◌∙◌, arith, get_or-set_same, get_or-set_other, eqb-true, ne_eqb}
use Rattle.std.proofs.Math.Arith.{lt_of_le-ne}
use Rattle.std.proofs.lemmas.Bool.{eqb-false}
use Rattle.wire.specs.Fields.{word32_at}
use Rattle.pattern.specs.Checks.Range.{none_below}
use Rattle.pattern.specs.File.Entries.{offset}
use Rattle.pattern.specs.File.Reading.{repeats_at}
use Rattle.repeats.specs.Seen.{slots, slot_of, slot_at, Seen}
use Rattle.repeats.specs.Words.{word_same}

pub slot_below : (w : ℕ) → slot_of w < slots
unfolding slot_of
slot_below w = omega arith

module _ (bs seen : List ℕ) (k : ℕ) where
  -- equal entries have one slot: so an entry whose slot is unmarked is equal to none of those that were seen
  pub unseen : ((i : ℕ) → get_or bs i 0 < 256) → Seen bs k seen → get_or seen (slot_at bs k) 0 ≡ 0 → repeats_at bs k ≡ false
  unseen byte marked unmarked = none_below _ k (λ j h. sym (word_same bs j k byte) ∙ ne_eqb _ _ (differ j h))
    where
      differ : (j : ℕ) → j < k → word32_at bs (offset j) ≡ word32_at bs (offset k) → ⊥
      differ j h same = omega (arith, marked j h, unmarked, ap (λ (w : ℕ). get_or seen (slot_of w) 0) same)

  -- where the slot of entry k is marked besides, those of the entries below k + 1 are
  pub seen_next : length seen ≡ slots → Seen bs k seen → Seen bs (k + 1) (set seen (slot_at bs k) 1)
  seen_next long marked j h = go (eqb (slot_at bs j) (slot_at bs k)) refl
    where
      go : (t : Bool) → eqb (slot_at bs j) (slot_at bs k) ≡ t → get_or (set seen (slot_at bs k) 1) (slot_at bs j) 0 ≡ 1
      go true e = rw (eqb-true (slot_at bs j) (slot_at bs k) e) (get_or-set_same seen (slot_at bs k) 1 0 (rw long (slot_below _)))
      go false e =
          let other = eqb-false _ _ e in
          let earlier : j < k = lt_of_le-ne (omega (arith, h)) (λ same. other (ap (λ (i : ℕ). slot_at bs i) same)) in
          get_or-set_other seen (slot_at bs k) (slot_at bs j) 1 0 other ∙ marked j earlier
