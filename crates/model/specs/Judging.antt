-- Judging a model, 01's "Findings" and 02's Jobs 1, 3 and 5: the refusals in their order, the finding, what becomes of the working area, and
-- what a finding says.
-- Assumes nothing.
use Rattle.std.specs.Prelude.{Bool, not, ◌&&◌, List, ℕ, ◌+◌, ◌*◌, ◌≤◌, ltb, Option, Some, None, Result, Ok, Err}
use Rattle.wire.specs.Cleared.{cleared}
use Rattle.pattern.specs.Checks.Finding.{Finding, found, refused, Check, passes, refuses, refuses_if, ◌then◌, unless}
use Rattle.pattern.specs.Checks.Range.{some_below}
use Rattle.pattern.specs.File.Types.{max_name}
use Rattle.pattern.specs.File.Reading.{count_of, pattern_check}
use Rattle.pattern.specs.File.Valid.{Valid}
use Rattle.pattern.specs.Meaning.Expression.{root_of}
use Rattle.pattern.specs.Meaning.Names.{uses_name}
use Rattle.nodeset.specs.Below.{lowest_below}
use Rattle.slots.specs.Area.{node_entries}
use Rattle.decision.specs.Judged.{Judged, met, unmet, judged_of, Says}
use Rattle.pattern.specs.File.Reading as reading
use Rattle.model_file.specs.Enums as file
use Rattle.model_records.specs.Contents.{is_listed, NamesListed, model_from}
use Rattle.model_records.specs.declared.Order.{Order}
use Rattle.model_records.specs.Order.{EdgesRise}
use Rattle.model_records.specs.Checks.{model_check}
use Rattle.model_records.specs.Valid.{ValidModel, all_named}
use Rattle.model.specs.declared.finding.JudgeRefusal.{JudgeRefusal}
use Rattle.model.specs.declared.finding.Met.{Met}

-- 02, Job 5: "8 bytes for each node entry of the pattern": what judging a model wants of its working area, and zeroes; they are those of
-- evaluation's sets, `area_bytes`
abbrev pub area_need : List ℕ → ℕ
area_need bs = 8 * node_entries bs

-- "9: working area under" so many bytes, before Job 5 2,040 for every pattern; Job 5: "Refusal 9 for models is given below that length."
abbrev pub area_check : ℕ → ℕ → Check
area_check need size = refuses_if (ltb size need) 9 0

-- the pattern uses name i, and the model doesn't list it
abbrev pub is_missing : List ℕ → List ℕ → ℕ → Bool
is_missing bs ds i = uses_name bs i && not (is_listed ds i)

-- 02, Job 1: "27, after every 14 check, when the model doesn't list a name of the pattern, place the lowest such name."
unfoldable pub names_check : List ℕ → List ℕ → Check
names_check bs ds = refuses_if (some_below (max_name + 1) (is_missing bs ds)) 27 (lowest_below (max_name + 1) (is_missing bs ds))

-- "Refused 1 to 8 as above. 9: .. 10: .." and on to 14, with 28 of Job 3 behind each 14 where edges must rise, and then 27 ("27 follows all
-- edge records."), of a file whose edges must stand in that order, for a working area of this many bytes
unfoldable pub judging_check : Order → List ℕ → List ℕ → ℕ → Check
judging_check order bs ds size = pattern_check bs then area_check (area_need bs) size then model_check order ds then names_check bs ds

-- "Judging a model gives met (lowest node, number of nodes) or unmet": of the root, in the data model that the file denotes
unfoldable pub judging_by : Order → List ℕ → List ℕ → ℕ → Finding Judged
judging_by order bs ds size = unless (judging_check order bs ds size) (judged_of (model_from ds) (root_of bs))

-- 02, Job 3: "Edges must rise strictly"
abbrev pub judging_of : List ℕ → List ℕ → ℕ → Finding Judged
judging_of = judging_by Order.Rising

-- Job 5: the finding "that 2,040 bytes gave before", when these were wanted for every pattern
abbrev pub gave_before : Order → List ℕ → List ℕ → Finding Judged
gave_before order bs ds =
    unless (pattern_check bs then area_check 2040 2040 then model_check order ds then names_check bs ds) (judged_of (model_from ds) (root_of bs))

-- the bytes that a caller must lend for a pattern: what it needs, and none for one that is refused
abbrev pub wanted_by : Check → ℕ → ℕ
wanted_by passes need = need
wanted_by (refuses number place) need = 0

abbrev pub area_wanted : List ℕ → ℕ
area_wanted bs = wanted_by (pattern_check bs) (area_need bs)

-- "A refusal leaves the area unchanged; a finding leaves its first 2,040 bytes zero and the rest unchanged." Job 5: "and zero just those"
abbrev pub area_after : List ℕ → Finding Judged → List ℕ → List ℕ
area_after bs (found j) area = cleared (area_need bs) area
area_after bs (refused number place) area = area

-- What a finding says: nothing was to be refused, and j is so of the root under the published satisfaction relation, in the data model
-- that the bytes denote.
pub record Judgement (bs ds : List ℕ) (size : ℕ) (j : Judged) : Type 0 where
  pub pattern_valid : Valid bs (count_of bs)
  pub area_long : area_need bs ≤ size
  pub model_valid : ValidModel ds
  pub edges_rise : EdgesRise ds
  pub names_listed : NamesListed bs ds
  -- `all_named` is the proof that every name has a node; nothing depends on which proof it is
  pub says : Says (model_from ds) (all_named model_valid) (root_of bs) j

-- the code's answers, by the documents' numbers and values
abbrev pub refusal_number : JudgeRefusal → ℕ
refusal_number (JudgeRefusal.Pattern refusal) = reading.refusal_number refusal
refusal_number JudgeRefusal.Area = 9
refusal_number (JudgeRefusal.Model refusal) = file.refusal_number refusal
refusal_number (JudgeRefusal.Unlisted name) = 27

abbrev pub refusal_place : JudgeRefusal → ℕ
refusal_place (JudgeRefusal.Pattern refusal) = reading.refusal_place refusal
refusal_place JudgeRefusal.Area = 0
refusal_place (JudgeRefusal.Model refusal) = file.refusal_place refusal
refusal_place (JudgeRefusal.Unlisted name) = name

abbrev pub judged_as : Option Met → Judged
judged_as (Some m) = met m.lowest m.number
judged_as None = unmet

abbrev pub finding_of : Result (Option Met) JudgeRefusal → Finding Judged
finding_of (Ok m) = found (judged_as m)
finding_of (Err refusal) = refused (refusal_number refusal) (refusal_place refusal)
