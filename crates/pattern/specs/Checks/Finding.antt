-- Findings and refusals by the documents' numbers, and checks in a chain.
-- Assumes nothing.
use Rattle.std.specs.Prelude.{◌≡◌, refl, Bool, true, false, List, ℕ, length}
use Rattle.wire.specs.Onto.{onto}

-- 01, "Findings": what an operation finds, or "A refusal gives its number and place". A is what the operation finds where it doesn't
-- refuse, such as n for reading a pattern.
pub data Finding (A : Type 0) : Type 0 where
  found : A → Finding A
  refused : ℕ → ℕ → Finding A

-- the outcome of a check: it passes, or it refuses with a number and a place
pub data Check : Type 0 where
  passes : Check
  refuses : ℕ → ℕ → Check

-- a check that refuses with this number and place where the fault is there
abbrev pub refuses_if : Bool → ℕ → ℕ → Check
refuses_if true number place = refuses number place
refuses_if false number place = passes

-- "Checks run in the order written": the first that refuses decides
infixr 30 ◌then◌
abbrev pub ◌then◌ : Check → Check → Check
passes then d = d
(refuses number place) then d = refuses number place

-- what was found, unless a check refuses
abbrev pub unless : {A : Type 0} → Check → A → Finding A
unless passes value = found value
unless (refuses number place) value = refused number place

-- what follows a check that passes
abbrev pub onward : {A : Type 0} → Check → Finding A → Finding A
onward passes f = f
onward (refuses number place) f = refused number place

-- what follows from what was found; a refusal stays
abbrev pub thereupon : {A B : Type 0} → Finding A → (A → Finding B) → Finding B
thereupon (found value) next = next value
thereupon (refused number place) next = refused number place

-- What an operation that writes a file finds is the file. 02, Job 4: "success gives the new file's length": the answer is the length
abbrev pub written : Finding (List ℕ) → Finding ℕ
written (found file) = found (length file)
written (refused number place) = refused number place

-- "A refusal leaves the destination unchanged; success .. leaves bytes beyond it unchanged."
abbrev pub destination_after : Finding (List ℕ) → List ℕ → List ℕ
destination_after (found file) out = onto file out
destination_after (refused number place) out = out

-- ---- laws

pub then_passes : (c d : Check) → c then d ≡ passes → (c ≡ passes) × (d ≡ passes)
then_passes passes d h = (refl, h)
then_passes (refuses number place) d h = (h, cc)

pub passes_last : (c : Check) → c then passes ≡ c
passes_last passes = refl
passes_last (refuses number place) = refl

pub refuses_if_passes : (fault : Bool) (number place : ℕ) → refuses_if fault number place ≡ passes → fault ≡ false
refuses_if_passes true number place h = cc
refuses_if_passes false number place h = refl

-- a finding says how the checks came out
pub found_passes : {A : Type 0} (c : Check) (value value' : A) → unless c value ≡ found value' → (c ≡ passes) × (value ≡ value')
found_passes passes value value' h = (refl, cc)
found_passes (refuses number place) value value' h = (cc, cc)

pub refused_refuses : {A : Type 0} (c : Check) (value : A) (number place : ℕ) → unless c value ≡ refused number place
    → c ≡ refuses number place
refused_refuses passes value number place h = cc
refused_refuses (refuses n p) value number place h = cc

pub onward_found : {A : Type 0} (c : Check) (f : Finding A) (value : A) → onward c f ≡ found value → (c ≡ passes) × (f ≡ found value)
onward_found passes f value h = (refl, h)
onward_found (refuses number place) f value h = (cc, cc)
