-- What the code's answers mean: the refusals of a model file, and the outcome of a check.
-- Assumes nothing.
use Rattle.std.specs.Prelude.{ℕ, Result, Ok, Err}
use Rattle.pattern.specs.Checks.Finding.{Check, passes, refuses}
use Rattle.model_file.specs.declared.refusal.ModelRefusal.{ModelRefusal}

-- the documents' number and place of each refusal of a model file
abbrev pub refusal_number : ModelRefusal → ℕ
refusal_number ModelRefusal.Mark = 10
refusal_number ModelRefusal.Version = 11
refusal_number ModelRefusal.Count = 12
refusal_number (ModelRefusal.Name j) = 13
refusal_number (ModelRefusal.Edge i) = 14
refusal_number (ModelRefusal.Order i) = 28

abbrev pub refusal_place : ModelRefusal → ℕ
refusal_place ModelRefusal.Mark = 0
refusal_place ModelRefusal.Version = 0
refusal_place ModelRefusal.Count = 0
refusal_place (ModelRefusal.Name j) = j
refusal_place (ModelRefusal.Edge i) = i
refusal_place (ModelRefusal.Order i) = i

-- ---- laws

-- the outcome of a check of a model file
abbrev pub check_of : Result Unit ModelRefusal → Check
check_of (Ok u) = passes
check_of (Err refusal) = refuses (refusal_number refusal) (refusal_place refusal)
