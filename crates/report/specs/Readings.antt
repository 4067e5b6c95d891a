-- 01's bench readings A to J, and examples of 02's jobs, in one list, shown of the definitions by one result: what the program prints, what
-- reading a pattern gives, what judging every model gives, what putting a file in order gives and what typing a pattern gives.
-- Assumes nothing.
use Rattle.std.specs.Prelude.{◌≡◌, refl, Bool, true, false, ◌⊎◌, ◌↔◌, List, [], ◌∷◌, ◌++◌, ℕ, ◌+◌, ◌*◌, ◌≤◌, eqb, leb, length, replicate}
use Rattle.std.proofs.Common.{sym, ◌∙◌, ap, subst, inl, inr, arith, eqb-true, leb-true, ltb-true}
use Rattle.std.proofs.lemmas.Bool.{false≢true, eqb-false}
use Prim.Native.String.{String}
use Rattle.nodeset.specs.Below.{lowest_below, count_below}
use Rattle.nodeset.specs.Lists.{list_below}
use Rattle.pattern.specs.declared.types.Comparison.{Comparison}
use Rattle.pattern.specs.Logic.Syntax.{NExp}
use Rattle.pattern.specs.Logic.Semantics.{Model, Naming, Leads, Holds}
use Rattle.pattern.specs.Logic.Finite.{Finite, Named, model_of, naming_of}
use Rattle.pattern.specs.Logic.Compared.{alike_is}
use Rattle.pattern.specs.Checks.Finding.{Finding, found, refused, Check, passes, refuses, written, destination_after}
use Rattle.pattern.specs.Checks.Range.{some_below, each_below}
use Rattle.pattern.specs.File.Fields.{each_field}
use Rattle.pattern.specs.File.Entries.{same_bytes}
use Rattle.pattern.proofs.File.Valid.{valid}
use Rattle.pattern.specs.File.Reading.{mark, header_check, entry_check, root_check, pattern_check, reading_of}
use Rattle.pattern.specs.Meaning.Expression.{end, node_within, path_within, node_at, root_of}
use Rattle.decision.specs.Decision.{holds_test, leads_test}
use Rattle.decision.specs.Judged.{met, unmet, judged_by, judged_of}
use Rattle.decision.proofs.Judged.{judged_says}
use Rattle.pattern.specs.Meaning.Names.{uses_name}
use Rattle.model_records.specs.Layout as layout
use Rattle.model_records.specs.Contents.{leads_in, is_listed, NamesListed, node_named, model_from}
use Rattle.model_records.specs.declared.Order.{Order}
use Rattle.model_records.specs.Order.{EdgesRise, comes_before}
use Rattle.model_records.specs.Checks as file
use Rattle.model_records.specs.Checks.{name_check, edge_check, order_check, record_check, model_check}
use Rattle.model_records.specs.Valid.{ValidModel, all_named}
use Rattle.model.specs.Judging.{area_need, names_check, judging_check, judging_by, judging_of, area_wanted, area_after}
use Rattle.model.proofs.Judging.{checks_pass, judging_finds, judging_refuses}
use Rattle.ordered_file.specs.NewFile.{edges_of, front_of, ordered_file}
use Rattle.model_order.specs.Ordering.{file_within, ordering_of}
use Rattle.lines.specs.Lines.{branch_has}
use Rattle.rules.specs.Rules.{rule_at}
use Rattle.steps.specs.Steps.{step_at, steps_from, stepping}
use Rattle.tableau.specs.declared.finding.Closed.{Closed}
use Rattle.tableau.specs.Run.{run}
use Rattle.tableau.specs.Judging as tableau
use Rattle.tableau.proofs.JudgingCloses.{judging_closes}
use Rattle.tableau.specs.Soundness.{excludes}
use Rattle.typed_text.specs.Text as texts
use Rattle.typed_text.specs.Text.{Numeral, NodeText, RowText}
use Rattle.typed_text.specs.Machine.{place_of, fault}
use Rattle.typed_text.proofs.Viable.{place_faulty}
use Rattle.typing.specs.Typing as typing
use Rattle.typing.proofs.Findings.{typing_long, typing_text, typing_fault}
use Rattle.wire.specs.Fields.{text}
use Rattle.wire.specs.Onto.{onto}
use Rattle.wire.specs.Cleared.{cleared}
use Rattle.line.specs.Line.{digits_within}
use Rattle.report.specs.Report.{line_for}

-- each of the claims
abbrev pub All : List (Type 0) → Type 0
All [] = Unit {0}
All (claim ∷ claims) = claim × All claims

-- a pattern file of version 1 with this count and these bytes for its entries
abbrev pub pattern_file : ℕ → List ℕ → List ℕ
pattern_file n entries = mark ++ (1 ∷ 0 ∷ n ∷ entries)

-- a tableau file of version 1 with this start name and count, below 256, and these bytes for its steps
abbrev pub tableau_file : ℕ → ℕ → List ℕ → List ℕ
tableau_file start s steps = tableau.mark ++ (1 ∷ 0 ∷ start ∷ s ∷ 0 ∷ steps)

-- a step with lines below 256
abbrev pub step : ℕ → ℕ → ℕ → ℕ → List ℕ
step rule P Q argument = rule ∷ P ∷ 0 ∷ Q ∷ 0 ∷ argument ∷ []

-- the program prints this line of a pattern and a proposal
abbrev pub Prints : List ℕ → List ℕ → String → Type 0
Prints bs xs line = line_for bs xs ≡ text line ++ text "\n"

-- "A: 1,0,0,0; 5,0,0,0; 3,1,0,0; 4,1,2,0. Start 0; steps (rule P Q arg) 2 0 0 0; 1 2 0 0; 21 1 3 0. The program prints `closed 3 1 0 4`."
abbrev pub pattern_a : List ℕ
pattern_a = pattern_file 4 (1 ∷ 0 ∷ 0 ∷ 0 ∷ 5 ∷ 0 ∷ 0 ∷ 0 ∷ 3 ∷ 1 ∷ 0 ∷ 0 ∷ 4 ∷ 1 ∷ 2 ∷ 0 ∷ [])

abbrev pub tableau_a : List ℕ
tableau_a = tableau_file 0 3 (step 2 0 0 0 ++ step 1 2 0 0 ++ step 21 1 3 0)

abbrev pub A : Type 0
A = Prints pattern_a (tableau_file 0 3 (step 2 0 0 0 ++ step 1 2 0 0 ++ step 21 1 3 0)) "closed 3 1 0 4"

-- "B: A with its last step dropped: `refused 26 2`."
abbrev pub B : Type 0
B = Prints pattern_a (tableau_file 0 2 (step 2 0 0 0 ++ step 1 2 0 0)) "refused 26 2"

-- "C: A with that step twice: `refused 25 3`."
abbrev pub C : Type 0
C = Prints pattern_a (tableau_file 0 4 (step 2 0 0 0 ++ step 1 2 0 0 ++ step 21 1 3 0 ++ step 21 1 3 0)) "refused 25 3"

-- "D: 1,0,0,0; 1,1,0,0; 4,0,1,0; 3,2,0,0; 4,0,3,0; 4,1,4,0. Start 0; steps 2 0 0 0; 2 2 0 0; 1 4 0 0; 3 5 0 0; 21 3 6 0; 21 1 6 0:
-- `closed 6 2 1 7`."
abbrev pub pattern_d : List ℕ
pattern_d = pattern_file 6
    (1 ∷ 0 ∷ 0 ∷ 0 ∷ 1 ∷ 1 ∷ 0 ∷ 0 ∷ 4 ∷ 0 ∷ 1 ∷ 0 ∷ 3 ∷ 2 ∷ 0 ∷ 0 ∷ 4 ∷ 0 ∷ 3 ∷ 0 ∷ 4 ∷ 1 ∷ 4 ∷ 0 ∷ [])

abbrev pub D : Type 0
D =
    Prints pattern_d
    (tableau_file 0 6 (step 2 0 0 0 ++ step 2 2 0 0 ++ step 1 4 0 0 ++ step 3 5 0 0 ++ step 21 3 6 0 ++ step 21 1 6 0)) "closed 6 2 1 7"

-- "E: n = 0, length 6: 3."
abbrev pub E : Type 0
E = reading_of (pattern_file 0 []) ≡ refused 3 0

-- "F: entry 0 is 3,0,0,0: 6, place 0."
abbrev pub F : Type 0
F = reading_of (pattern_file 1 (3 ∷ 0 ∷ 0 ∷ 0 ∷ [])) ≡ refused 6 0

-- a model file of version 1 with these counts, the last below 256, and these bytes for its records
abbrev pub model_file : ℕ → ℕ → ℕ → List ℕ → List ℕ
model_file n m k records = layout.mark ++ (1 ∷ 0 ∷ n ∷ m ∷ k ∷ 0 ∷ records)

-- a node without properties, with this value on channel 0, below 256, and zero on the others
abbrev pub node : ℕ → List ℕ
node v = 0 ∷ 0 ∷ 0 ∷ 0 ∷ v ∷ 0 ∷ 0 ∷ 0 ∷ 0 ∷ 0 ∷ 0 ∷ 0 ∷ []

-- the first four entries of G and H: forward and reverse settings, same and differ
abbrev pub settings : List ℕ
settings =
    8 ∷ 0 ∷ 255 ∷ 0 ∷ 8 ∷ 1 ∷ 255 ∷ 0 ∷ 6 ∷ 0 ∷ 0 ∷ 1 ∷ 7 ∷ 0 ∷ 0 ∷ 1 ∷ []

-- "G, forward and reverse settings: 8,0,255,0; 8,1,255,0; 6,0,0,1; 7,0,0,1; 4,2,3,0. Four nodes, node 0 with axis 0 to 1, axis 1 to 2 and
-- 3; channel 0 values 0, 10, 10, 20; no names, all else zero: `met 0 1`."
abbrev pub pattern_g : List ℕ
pattern_g = pattern_file 5 (settings ++ (4 ∷ 2 ∷ 3 ∷ 0 ∷ []))

abbrev pub model_g : List ℕ
model_g = model_file 4 0 3 (node 0 ++ node 10 ++ node 10 ++ node 20 ++ (0 ∷ 0 ∷ 1 ∷ 0 ∷ 1 ∷ 2 ∷ 0 ∷ 1 ∷ 3 ∷ []))

abbrev pub G : Type 0
G = Prints pattern_g model_g "met 0 1"

-- "H: not same and not differ over G's paths, one node without edges: `met 0 1`."
abbrev pub H : Type 0
H = Prints (pattern_file 7 (settings ++ (3 ∷ 2 ∷ 0 ∷ 0 ∷ 3 ∷ 3 ∷ 0 ∷ 0 ∷ 4 ∷ 4 ∷ 5 ∷ 0 ∷ []))) (model_file 1 0 0 (node 0)) "met 0 1"

-- "I: root 7,0,255,255: every model unmet": every finite data model; every model file that passes its checks; and any bytes whatever as the
-- model, with any area, are unmet or refused
abbrev pub pattern_i : List ℕ
pattern_i = pattern_file 1 (7 ∷ 0 ∷ 255 ∷ 255 ∷ [])

abbrev pub I : Type 0
I =
    ((model : Finite) → Named model → judged_of model (root_of pattern_i) ≡ unmet)
    × ((ds : List ℕ) (size : ℕ) → ValidModel ds → EdgesRise ds → area_need pattern_i ≤ size → judging_of pattern_i ds size ≡ found unmet)
    × ((ds : List ℕ) (size : ℕ)
    → (judging_of pattern_i ds size ≡ found unmet) ⊎ ((number : ℕ) × ((place : ℕ) × (judging_of pattern_i ds size ≡ refused number place))))

-- "J: name 128: 5; 127 accepted." Of a name as a node, and of one that a path jumps to.
abbrev pub J : Type 0
J =
    (reading_of (pattern_file 1 (2 ∷ 128 ∷ 0 ∷ 0 ∷ [])) ≡ refused 5 0)
    × (reading_of (pattern_file 1 (2 ∷ 127 ∷ 0 ∷ 0 ∷ [])) ≡ found 1)
    × (reading_of (pattern_file 2 (9 ∷ 128 ∷ 255 ∷ 0 ∷ 6 ∷ 0 ∷ 0 ∷ 0 ∷ [])) ≡ refused 5 0)
    × (reading_of (pattern_file 2 (9 ∷ 127 ∷ 255 ∷ 0 ∷ 6 ∷ 0 ∷ 0 ∷ 0 ∷ [])) ≡ found 2)

-- 02, Job 1: "A name used in the pattern must be listed in the model .. Turned away: 27, after every 14 check, when the model doesn't list a
-- name of the pattern, place the lowest such name." Name 6, listed as node 1 and not listed; names 9 and 5, of which the root doesn't reach
-- the first, with 5 listed and with neither; an edge out of range beside a name that isn't listed.
abbrev pub pattern6 : List ℕ
pattern6 = pattern_file 1 (2 ∷ 6 ∷ 0 ∷ 0 ∷ [])

abbrev pub pattern_jump : List ℕ
pattern_jump = pattern_file 2 (9 ∷ 9 ∷ 255 ∷ 0 ∷ 2 ∷ 5 ∷ 0 ∷ 0 ∷ [])

abbrev pub Job1 : Type 0
Job1 =
    Prints pattern6 (model_file 2 1 0 (node 0 ++ node 0 ++ (6 ∷ 1 ∷ []))) "met 1 1"
    × Prints pattern6 (model_file 2 0 0 (node 0 ++ node 0)) "refused 27 6"
    × Prints pattern_jump (model_file 1 1 0 (node 0 ++ (5 ∷ 0 ∷ []))) "refused 27 9"
    × Prints pattern_jump (model_file 1 0 0 (node 0)) "refused 27 5"
    × Prints pattern6 (model_file 1 0 1 (node 0 ++ (0 ∷ 0 ∷ 1 ∷ []))) "refused 14 0"

-- 02, Job 2: "for every branch and name its answer is the one that 01's words give. Findings and areas are unaffected." A name that the first
-- line has, and no other, for there is none; one that the last two lines have; one that an entry has which the root doesn't reach; and one
-- that nothing has, 64 above it.
abbrev pub pattern_after : List ℕ
pattern_after = pattern_file 3 (2 ∷ 5 ∷ 0 ∷ 0 ∷ 1 ∷ 0 ∷ 0 ∷ 0 ∷ 5 ∷ 0 ∷ 1 ∷ 0 ∷ [])

abbrev pub Job2 : Type 0
Job2 =
    Prints pattern_after (tableau_file 9 1 (step 5 0 0 9)) "refused 22 0"
    × Prints pattern_after (tableau_file 9 2 (step 5 0 0 1 ++ step 5 0 0 1)) "refused 22 1"
    × Prints pattern_after (tableau_file 9 1 (step 5 0 0 5)) "refused 22 0"
    × Prints pattern_after (tableau_file 9 1 (step 5 0 0 69)) "refused 26 1"

-- 02, Job 3: "Edges must rise strictly by from, then axis, then to, compared as numbers. A repeat is therefore refused too. .. Turned away: 28,
-- in each edge record after its 14 check, when it doesn't come after the record before it, place that record; 27 follows all edge records."
-- Two nodes: edges that rise though to and then axis fall, and one that is the first; a repeat; a lower to, a lower axis with a higher to,
-- and a lower from; 28 at record 1 before 14 at record 2, 14 before 28 in one record, and 28 before 27.
abbrev pub pattern_p : List ℕ
pattern_p = pattern_file 1 (1 ∷ 0 ∷ 0 ∷ 0 ∷ [])

abbrev pub edges : ℕ → List ℕ → List ℕ
edges k records = model_file 2 0 k (node 0 ++ node 0 ++ records)

abbrev pub Job3 : Type 0
Job3 =
    Prints pattern_p (edges 3 (0 ∷ 0 ∷ 1 ∷ 0 ∷ 1 ∷ 0 ∷ 1 ∷ 0 ∷ 0 ∷ [])) "unmet"
    × Prints pattern_p (edges 1 (1 ∷ 7 ∷ 1 ∷ [])) "unmet"
    × Prints pattern_p (edges 3 (0 ∷ 0 ∷ 1 ∷ 1 ∷ 0 ∷ 0 ∷ 1 ∷ 0 ∷ 0 ∷ [])) "refused 28 2"
    × Prints pattern_p (edges 2 (0 ∷ 0 ∷ 1 ∷ 0 ∷ 0 ∷ 0 ∷ [])) "refused 28 1"
    × Prints pattern_p (edges 2 (0 ∷ 1 ∷ 0 ∷ 0 ∷ 0 ∷ 1 ∷ [])) "refused 28 1"
    × Prints pattern_p (edges 2 (1 ∷ 0 ∷ 0 ∷ 0 ∷ 7 ∷ 1 ∷ [])) "refused 28 1"
    × Prints pattern_p (edges 3 (0 ∷ 0 ∷ 1 ∷ 0 ∷ 0 ∷ 0 ∷ 2 ∷ 0 ∷ 0 ∷ [])) "refused 28 1"
    × Prints pattern_p (edges 2 (1 ∷ 0 ∷ 0 ∷ 0 ∷ 8 ∷ 0 ∷ [])) "refused 14 1"
    × Prints pattern6 (edges 2 (0 ∷ 0 ∷ 0 ∷ 0 ∷ 0 ∷ 0 ∷ [])) "refused 28 1"

-- 02, Job 4: "nodes and names copied as they are, each edge once, in Job 3's order. The old file is checked by 10 to 14 without 28. .. Turned
-- away: 29, after those checks, when the destination is shorter than the new file." An older block of 49 bytes, its names not in order, its
-- edges neither in order nor each once, and the new file of 46: with room for just that, with one byte less, and with room for more than the new
-- file and less than the old one; the new file once more; 14 at a record behind a repeat, and 13, both before 29; what the two files are
-- judged as; and what becomes of a destination of 48 bytes, and of one that is too short.
abbrev pub block : ℕ → List ℕ → List ℕ
block k records = model_file 2 2 k (node 0 ++ node 7 ++ (6 ∷ 1 ∷ 5 ∷ 0 ∷ []) ++ records)

abbrev pub older : List ℕ
older = block 4 (1 ∷ 0 ∷ 0 ∷ 0 ∷ 1 ∷ 1 ∷ 0 ∷ 0 ∷ 1 ∷ 1 ∷ 0 ∷ 0 ∷ [])

abbrev pub newer : List ℕ
newer = block 3 (0 ∷ 0 ∷ 1 ∷ 0 ∷ 1 ∷ 1 ∷ 1 ∷ 0 ∷ 0 ∷ [])

abbrev pub Job4 : Type 0
Job4 =
    (ordering_of older 46 ≡ found newer)
    × (ordering_of older 45 ≡ refused 29 0)
    × (ordering_of older 48 ≡ found newer)
    × (ordering_of newer 46 ≡ found newer)
    × (ordering_of (edges 3 (0 ∷ 0 ∷ 1 ∷ 0 ∷ 0 ∷ 1 ∷ 0 ∷ 8 ∷ 0 ∷ [])) 0 ≡ refused 14 2)
    × (ordering_of (model_file 1 1 0 (node 0 ++ (128 ∷ 0 ∷ []))) 0 ≡ refused 13 0)
    × Prints pattern6 older "refused 28 1"
    × Prints pattern6 newer "met 1 1"
    × (destination_after (ordering_of older 48) (replicate 48 9) ≡ newer ++ (9 ∷ 9 ∷ []))
    × (destination_after (ordering_of older 45) (replicate 45 9) ≡ replicate 45 9)

-- 02, Job 5: "8 bytes for each node entry of the pattern, and zero just those. Refusal 9 for models is given below that length." G's three
-- node entries behind two paths: 24 bytes, and 23; what becomes of areas of 26 and of 23; one node entry, behind a path that it doesn't reach,
-- with 8 bytes and with 7; three node entries of which the root reaches two; a pattern that is refused wants none; and 9 comes behind the
-- pattern's refusals and before 10.
abbrev pub Job5 : Type 0
Job5 =
    (area_wanted pattern_g ≡ 24)
    × (judging_of pattern_g model_g 24 ≡ found (met 0 1))
    × (judging_of pattern_g model_g 23 ≡ refused 9 0)
    × (area_after pattern_g (judging_of pattern_g model_g 26) (replicate 26 9) ≡ replicate 24 0 ++ (9 ∷ 9 ∷ []))
    × (area_after pattern_g (judging_of pattern_g model_g 23) (replicate 23 9) ≡ replicate 23 9)
    × (judging_of pattern_jump (model_file 1 0 0 (node 0)) 8 ≡ refused 27 5)
    × (judging_of pattern_jump (model_file 1 0 0 (node 0)) 7 ≡ refused 9 0)
    × (area_wanted pattern_after ≡ 24)
    × (area_wanted (pattern_file 1 (3 ∷ 0 ∷ 0 ∷ 0 ∷ [])) ≡ 0)
    × (judging_of (pattern_file 1 (3 ∷ 0 ∷ 0 ∷ 0 ∷ [])) [] 0 ≡ refused 6 0)
    × (judging_of pattern_g [] 23 ≡ refused 9 0)
    × (judging_of pattern_g [] 24 ≡ refused 10 0)

-- 02, Job 6: "node kind 12, either, with x and y node references; it holds where at least one part holds. Rule 24: P has either, fork, has φ
-- or has ψ. Rule 25: P lacks either, lacks φ then lacks ψ. Refusals 4 and 19 widen accordingly; neither rule is a clash." Either of two
-- names, nodes 1 and 3 of four, which holds at both, and its three node entries; z not zero, a part that is a path, one that isn't earlier,
-- and a path that goes on by an either; kind 13. Either and not that either: 25 and then 24, which counts as a fork and whose first
-- side is that of φ; the sides closed in the other order; 24 where P lacks it and 25 where P has it; fields that they don't use; rule 26.
abbrev pub pattern_either : List ℕ
pattern_either = pattern_file 3 (2 ∷ 5 ∷ 0 ∷ 0 ∷ 2 ∷ 6 ∷ 0 ∷ 0 ∷ 12 ∷ 0 ∷ 1 ∷ 0 ∷ [])

abbrev pub pattern_neither : List ℕ
pattern_neither = pattern_file 5 (1 ∷ 0 ∷ 0 ∷ 0 ∷ 1 ∷ 1 ∷ 0 ∷ 0 ∷ 12 ∷ 0 ∷ 1 ∷ 0 ∷ 3 ∷ 2 ∷ 0 ∷ 0 ∷ 4 ∷ 2 ∷ 3 ∷ 0 ∷ [])

-- its has either, line 1; its lacks either, line 3
abbrev pub parted : List ℕ
parted = step 2 0 0 0 ++ step 1 2 0 0

abbrev pub Job6 : Type 0
Job6 =
    Prints pattern_either (model_file 4 2 0 (node 0 ++ node 0 ++ node 0 ++ node 0 ++ (5 ∷ 1 ∷ 6 ∷ 3 ∷ []))) "met 1 2"
    × (area_wanted pattern_either ≡ 24)
    × (reading_of (pattern_file 2 (1 ∷ 0 ∷ 0 ∷ 0 ∷ 12 ∷ 0 ∷ 0 ∷ 1 ∷ [])) ≡ refused 5 1)
    × (reading_of (pattern_file 2 (8 ∷ 0 ∷ 255 ∷ 0 ∷ 12 ∷ 0 ∷ 0 ∷ 0 ∷ [])) ≡ refused 6 1)
    × (reading_of (pattern_file 2 (1 ∷ 0 ∷ 0 ∷ 0 ∷ 12 ∷ 0 ∷ 1 ∷ 0 ∷ [])) ≡ refused 6 1)
    × (reading_of (pattern_file 3 (1 ∷ 0 ∷ 0 ∷ 0 ∷ 12 ∷ 0 ∷ 0 ∷ 0 ∷ 8 ∷ 0 ∷ 1 ∷ 0 ∷ [])) ≡ refused 6 2)
    × (reading_of (pattern_file 1 (13 ∷ 0 ∷ 0 ∷ 0 ∷ [])) ≡ refused 4 0)
    × Prints pattern_neither (tableau_file 0 6 (parted ++ step 25 3 0 0 ++ step 24 1 0 0 ++ step 21 4 6 0 ++ step 21 5 6 0)) "closed 6 2 1 7"
    × Prints pattern_neither (tableau_file 0 6 (parted ++ step 25 3 0 0 ++ step 24 1 0 0 ++ step 21 5 6 0 ++ step 21 4 6 0)) "refused 21 4"
    × Prints pattern_neither (tableau_file 0 3 (parted ++ step 24 3 0 0)) "refused 21 2"
    × Prints pattern_neither (tableau_file 0 3 (parted ++ step 25 1 0 0)) "refused 21 2"
    × Prints pattern_neither (tableau_file 0 3 (parted ++ step 24 1 1 0)) "refused 20 2"
    × Prints pattern_neither (tableau_file 0 3 (parted ++ step 25 3 0 1)) "refused 20 2"
    × Prints pattern_neither (tableau_file 0 3 (parted ++ step 26 1 0 0)) "refused 19 2"

-- 02, Job 7: "each entry stands after its parts, which are completed in the order of its fields x, y, z; each different entry stands once, at
-- its first completion; the root is last. .. A refusal leaves the destination unchanged; otherwise its length is given and only the file's bytes
-- change. Turned away: 30, first, text over 1,024 bytes (place 0) or outside the grammar ..; 31, next, the first number out of range, place its
-- first digit; 32, last, over 255 different entries or a destination too short." G typed, with room for just its file and with one byte less;
-- a test's node before the rest of its row, a step behind it; what follows a brace, for both of its paths, once; an empty brace; an equal
-- entry once. Numbers at their limit, and one above it. A fault at the end, and 31 not before it; leading zeros; the empty text; a line feed;
-- Job 8's `^`; 255 entries and 256; 1,024 bytes that begin a text, and 1,025. What becomes of a destination of 12 bytes, and of one that is
-- too short.
abbrev pub Types : String → ℕ → ℕ → List ℕ → Type 0
Types words room n entries = typing.typing_of (text words) room ≡ found (pattern_file n entries)

abbrev pub TurnsAway : String → ℕ → ℕ → Type 0
TurnsAway words number place = typing.typing_of (text words) 1026 ≡ refused number place

abbrev pub Job7 : Type 0
Job7 =
    (typing.typing_of (text "([/0=0/1]&[/0#0/1])") 26 ≡ found pattern_g)
    × (typing.typing_of (text "([/0=0/1]&[/0#0/1])") 25 ≡ refused 32 0)
    × Types "[/0?<0>p0/1=0]" 1026 6
    (1 ∷ 0 ∷ 0 ∷ 0 ∷ 5 ∷ 0 ∷ 0 ∷ 0 ∷ 8 ∷ 1 ∷ 255 ∷ 0 ∷ 10 ∷ 1 ∷ 2 ∷ 0 ∷ 8 ∷ 0 ∷ 3 ∷ 0 ∷ 6 ∷ 0 ∷ 4 ∷ 255 ∷ [])
    × Types "[{/0|/1}/2#1@5]" 1026 6
    (8 ∷ 2 ∷ 255 ∷ 0 ∷ 8 ∷ 0 ∷ 0 ∷ 0 ∷ 8 ∷ 1 ∷ 0 ∷ 0 ∷ 11 ∷ 1 ∷ 2 ∷ 0 ∷ 9 ∷ 5 ∷ 255 ∷ 0 ∷ 7 ∷ 1 ∷ 3 ∷ 4 ∷ [])
    × Types "[{|}=3]" 1026 2 (11 ∷ 255 ∷ 255 ∷ 0 ∷ 6 ∷ 3 ∷ 0 ∷ 255 ∷ [])
    × Types "(p31|!p31)" 1026 3 (1 ∷ 31 ∷ 0 ∷ 0 ∷ 3 ∷ 0 ∷ 0 ∷ 0 ∷ 12 ∷ 0 ∷ 1 ∷ 0 ∷ [])
    × TurnsAway "(n127&n128)" 31 7
    × TurnsAway "[@128#4/8]" 31 2
    × TurnsAway "[#4/8]" 31 2
    × TurnsAway "<8>p0" 31 1
    × TurnsAway "[/7=0/8]" 31 6
    × TurnsAway "(p32&" 30 5
    × TurnsAway "p00" 30 2
    × TurnsAway "[=00]" 30 3
    × TurnsAway "" 30 0
    × TurnsAway "p0\n" 30 2
    × TurnsAway "[^0=0]" 30 1
    × (written (typing.typing_of (replicate 254 33 ++ text "p0") 1026) ≡ found 1026)
    × (typing.typing_of (replicate 255 33 ++ text "p0") 1026 ≡ refused 32 0)
    × (typing.typing_of (replicate 1024 33) 1026 ≡ refused 30 1024)
    × (typing.typing_of (replicate 1025 33) 1026 ≡ refused 30 0)
    × (destination_after (typing.typing_of (text "p7") 12) (replicate 12 9) ≡ pattern_file 1 (1 ∷ 7 ∷ 0 ∷ 0 ∷ []) ++ (9 ∷ 9 ∷ []))
    × (destination_after (typing.typing_of (text "p7") 9) (replicate 9 9) ≡ replicate 9 9)

-- 02, Job 11: "A closed tableau must exclude the root in every data model of source 000's definition 1, with infinitely many nodes allowed and
-- each channel any equivalence relation on them. Existing closed files must be covered as they are." Two such models, which no file has:

-- an estate that keeps being extended: the nodes are the whole numbers, every axis leads from each to the next, the even ones have every
-- property, and on every channel a node is alike to itself alone
abbrev pub estate : Model
estate = record {
  Node = ℕ;
  alike = λ e x y. x ≡ y;
  alike_refl = λ e x. refl;
  alike_sym = λ e x y p. sym p;
  alike_trans = λ e x y z p q. p ∙ q;
  edge = λ a x y. x + 1 ≡ y;
  label = λ p x. (k : ℕ) × (x ≡ 2 * k);
}

-- rows that agree from some place on
abbrev pub Agree : (ℕ → ℕ) → (ℕ → ℕ) → Type 0
Agree x y = (n : ℕ) × ((k : ℕ) → n ≤ k → x k ≡ y k)

-- meters that pulse for ever: a node is an endless row of numbers. On every channel two rows are alike if they agree from some place on. Every
-- axis leads from a row to what follows its first number. A row has property p if its number p is 1.
abbrev pub pulsing : Model
pulsing = record {
  Node = ℕ → ℕ;
  alike = λ e. Agree;
  alike_refl = λ e x. (0, λ k l. refl);
  alike_sym = λ e x y p. (p.0, λ k l. sym (p.1 k l));
  alike_trans = λ e x y z p q. (p.0 + q.0, λ k l. p.1 k (omega (arith, l)) ∙ q.1 k (omega (arith, l)));
  edge = λ a x y. (λ k. x (k + 1)) ≡ y;
  label = λ p x. x p ≡ 1;
}

-- the row with another first number
abbrev pub other_first : ℕ → (ℕ → ℕ) → ℕ → ℕ
other_first v x ℕ.zero = v
other_first v x (ℕ.suc k) = x (ℕ.suc k)

-- the sample `closed_same_chained`: same as name 5, 5 same as 6, differ from 6
abbrev pub pattern_chained : List ℕ
pattern_chained = pattern_file 7
    (9 ∷ 5 ∷ 255 ∷ 0 ∷ 9 ∷ 6 ∷ 255 ∷ 0 ∷ 6 ∷ 0 ∷ 255 ∷ 0 ∷ 6 ∷ 0 ∷ 0 ∷ 1 ∷ 7 ∷ 0 ∷ 255 ∷ 1 ∷ 4 ∷ 3 ∷ 4 ∷ 0 ∷ 4 ∷ 2 ∷ 5 ∷ 0 ∷ [])

abbrev pub tableau_chained : List ℕ
tableau_chained = tableau_file 0 17
    (step 2 0 0 0 ++ step 2 2 0 0 ++ step 7 1 0 0 ++ step 8 5 0 0 ++ step 9 6 0 0 ++ step 8 7 0 0 ++ step 7 3 0 0 ++ step 9 9 0 0 ++ step 8 10 0 0
    ++ step 9 11 0 0 ++ step 8 12 0 0 ++ step 20 8 13 0 ++ step 7 4 0 0 ++ step 8 15 0 0 ++ step 9 16 0 0 ++ step 8 17 0 0 ++ step 22 14 18 0)

-- the root of the pattern holds at no node of the model, whatever the names name
abbrev pub HoldsNowhere : Model → List ℕ → Type 0
HoldsNowhere M bs = (nom : Naming M) (x : M.Node) → Holds M nom (root_of bs) x → ⊥

-- Every file that is found closed is covered as it is, in both. A's root holds nowhere on the estate, though one of its two parts holds at
-- every odd number and the other at every even one. The sample's root holds at no row, whatever 5 and 6 name; its first part holds at every row
-- if name 5 names that row with another first number. That rows agree is no equality of values: if a whole number stood for each row, it would
-- be decided of any two rows whether they agree.
abbrev pub Job11 : Type 0
Job11 =
    ((bs ts : List ℕ) (size : ℕ) (c : Closed) → tableau.judging_of bs ts size ≡ found c → HoldsNowhere estate bs × HoldsNowhere pulsing bs)
    × HoldsNowhere estate pattern_a
    × ((nom : Naming estate) (k : ℕ) → Holds estate nom (node_at pattern_a 1) (2 * k + 1))
    × ((nom : Naming estate) (k : ℕ) → Holds estate nom (node_at pattern_a 2) (2 * k))
    × Prints pattern_chained tableau_chained "closed 17 1 0 19"
    × HoldsNowhere pulsing pattern_chained
    × ((x : ℕ → ℕ) (v : ℕ) → Holds pulsing (λ i. other_first v x) (node_at pattern_chained 2) x)
    × ((value : (ℕ → ℕ) → ℕ) → ((x y : ℕ → ℕ) → Agree x y ↔ (value x ≡ value y)) → (x y : ℕ → ℕ) → Agree x y ⊎ (Agree x y → ⊥))

abbrev pub readings : List (Type 0)
readings = A ∷ B ∷ C ∷ D ∷ E ∷ F ∷ G ∷ H ∷ I ∷ J ∷ Job1 ∷ Job2 ∷ Job3 ∷ Job4 ∷ Job5 ∷ Job6 ∷ Job7 ∷ Job11 ∷ []

-- ---- laws

-- a node differs from itself on no channel
root_I : root_of pattern_i ≡ NExp.compare Comparison.Differ 0 end end
unfolding node_at node_within
root_I = refl

never_differs : (M : Model) (nom : Naming M) (e : ℕ) (u : M.Node) → Holds M nom (NExp.compare Comparison.Differ e end end) u → ⊥
never_differs M nom e u (y, (z, (α, β, differ))) = differ (alike_is M e y z (sym α.0 ∙ β.0))

always_unmet : (F : Finite) → Named F → judged_of F (root_of pattern_i) ≡ unmet
always_unmet F ok =
    (judged_says F ok (root_of pattern_i) unmet).1
    (λ u h. never_differs (model_of F) (naming_of F ok) 0 (u, h.0) (subst (λ (φ : NExp). Holds (model_of F) (naming_of F ok) φ (u, h.0)) root_I h.1))

-- the pattern is valid
reads_I : reading_of pattern_i ≡ found 1
unfolding reading_of pattern_check header_check entry_check root_check each_field some_below each_below same_bytes
reads_I = refl

-- and uses no name
nameless_I : (i : ℕ) → uses_name pattern_i i ≡ false
unfolding uses_name some_below
nameless_I i = refl

I_holds : I
I_holds = (always_unmet, files, any)
  where
    listed : (ds : List ℕ) → NamesListed pattern_i ds
    listed ds i used = absurd (false≢true (sym (nameless_I i) ∙ used))

    files : (ds : List ℕ) (size : ℕ) → ValidModel ds → EdgesRise ds → area_need pattern_i ≤ size → judging_of pattern_i ds size ≡ found unmet
    files ds size ok rise l =
        judging_finds pattern_i ds size ((checks_pass Order.Rising pattern_i ds size).1 (valid pattern_i 1 reads_I, l, ok, rise, listed ds))
        ∙ ap found (always_unmet (model_from ds) (all_named ok))

    any : (ds : List ℕ) (size : ℕ)
        → (judging_of pattern_i ds size ≡ found unmet) ⊎ ((number : ℕ) × ((place : ℕ) × (judging_of pattern_i ds size ≡ refused number place)))
    any ds size = go (judging_check Order.Rising pattern_i ds size) refl
      where
        go : (c : Check) → judging_check Order.Rising pattern_i ds size ≡ c
            → (judging_of pattern_i ds size ≡ found unmet) ⊎ ((number : ℕ) × ((place : ℕ) × (judging_of pattern_i ds size ≡ refused number place)))
        go passes e = let ok = (checks_pass Order.Rising pattern_i ds size).0 e in inl (files ds size ok.2 ok.3 ok.1)
        go (refuses number place) e = inr (number, (place, judging_refuses pattern_i ds size number place e))

-- ---- typed texts, by their trees
-- a text is typed as its tree is
by_tree : (t : NodeText) (xs : List ℕ) (room : ℕ) (f : Finding (List ℕ)) → texts.node t [] ≡ xs → leb (length xs) 1024 ≡ true → typing.text_within t room ≡ f
    → typing.typing_of xs room ≡ f
by_tree t xs room f e short h = typing_text xs room (leb-true (length xs) 1024 short) t e ∙ h

-- and bytes outside the grammar by the automaton's place
by_place : (xs : List ℕ) (room k : ℕ) → leb (length xs) 1024 ≡ true → place_of xs ≡ fault k → typing.typing_of xs room ≡ refused 30 k
by_place xs room k short h = typing_fault xs room (leb-true (length xs) 1024 short) k (place_faulty xs k h)

-- numbers of the texts
abbrev zero : Numeral
zero = Numeral.nought

abbrev digit : (d : ℕ) → texts.begins_number d ≡ true → Numeral
digit d p = Numeral.from d [] p refl

abbrev one : Numeral
one = digit 49 refl

abbrev two : Numeral
two = digit 50 refl

abbrev p31 : NodeText
p31 = NodeText.property (Numeral.from 51 (49 ∷ []) refl refl)

-- a row of one step
abbrev step_on : Numeral → RowText
step_on k = RowText.step k RowText.end

-- so many nots of a text
abbrev nots : ℕ → NodeText → NodeText
nots ℕ.zero t = t
nots (ℕ.suc n) t = NodeText.not (nots n t)

abbrev text_g : NodeText
text_g = NodeText.both (NodeText.same (step_on zero) zero (step_on one)) (NodeText.differ (step_on zero) zero (step_on one))

Job7_holds : Job7
unfolding typing.text_within typing.file_within onto
Job7_holds = (
  by_tree text_g _ 26 _ refl refl refl,
  by_tree text_g _ 25 _ refl refl refl,
  by_tree
      (NodeText.same (RowText.step zero (RowText.test (NodeText.after zero (NodeText.property zero)) (step_on one))) zero RowText.end) _ 1026 _ refl refl refl,
  by_tree (NodeText.differ (RowText.brace (step_on zero) (step_on one) (step_on two)) one (RowText.jump (digit 53 refl) RowText.end)) _ 1026 _ refl refl refl,
  by_tree (NodeText.same (RowText.brace RowText.end RowText.end RowText.end) (digit 51 refl) RowText.end) _ 1026 _ refl refl refl,
  by_tree (NodeText.either p31 (NodeText.not p31)) _ 1026 _ refl refl refl,
  by_tree
      (NodeText.both (NodeText.name (Numeral.from 49 (50 ∷ 55 ∷ []) refl refl)) (NodeText.name (Numeral.from 49 (50 ∷ 56 ∷ []) refl refl))) _ 1026 _ refl refl refl,
  by_tree (NodeText.differ (RowText.jump (Numeral.from 49 (50 ∷ 56 ∷ []) refl refl) RowText.end) (digit 52 refl) (step_on (digit 56 refl))) _ 1026 _ refl refl refl,
  by_tree (NodeText.differ RowText.end (digit 52 refl) (step_on (digit 56 refl))) _ 1026 _ refl refl refl,
  by_tree (NodeText.after (digit 56 refl) (NodeText.property zero)) _ 1026 _ refl refl refl,
  by_tree (NodeText.same (step_on (digit 55 refl)) zero (step_on (digit 56 refl))) _ 1026 _ refl refl refl,
  by_place _ 1026 5 refl refl,
  by_place _ 1026 2 refl refl,
  by_place _ 1026 3 refl refl,
  by_place _ 1026 0 refl refl,
  by_place _ 1026 2 refl refl,
  by_place _ 1026 1 refl refl,
  ap written (by_tree (nots 254 (NodeText.property zero)) _ 1026 _ refl refl refl),
  by_tree (nots 255 (NodeText.property zero)) _ 1026 _ refl refl refl,
  by_place (replicate 1024 33) 1026 1024 refl refl,
  typing_long (replicate 1025 33) 1026 (ltb-true 1024 (length {A = ℕ} (replicate 1025 33)) refl),
  ap (λ (f : Finding (List ℕ)). destination_after f (replicate 12 9)) (by_tree (NodeText.property (digit 55 refl)) _ 12 _ refl refl refl),
  ap (λ (f : Finding (List ℕ)). destination_after f (replicate 9 9)) (by_tree (NodeText.property (digit 55 refl)) _ 9 _ refl refl refl),
)

-- ---- models that no file has
-- "every data model", by the theorem
covered : (bs ts : List ℕ) (size : ℕ) (c : Closed) → tableau.judging_of bs ts size ≡ found c → (M : Model) → HoldsNowhere M bs
covered bs ts size c h = excludes ((judging_closes bs ts size c).0 h)

-- end leads from each node to itself, since ⊤ holds there
ends : (M : Model) (nom : Naming M) (x : M.Node) → Leads M nom end x x
ends M nom x = (refl, λ t. t.1 t.0)

odd : (nom : Naming estate) (k : ℕ) → Holds estate nom (node_at pattern_a 1) (2 * k + 1)
unfolding node_at node_within
odd nom k = (2 * k + 1 + 1, (refl, (k + 1, omega arith)))

even : (nom : Naming estate) (k : ℕ) → Holds estate nom (node_at pattern_a 2) (2 * k)
unfolding node_at node_within
even nom k (y, (next, (j, half))) = omega (arith, next, half)

later : (v : ℕ) (x : ℕ → ℕ) (k : ℕ) → 1 ≤ k → x k ≡ other_first v x k
later v x ℕ.zero l = omega (arith, l)
later v x (ℕ.suc k) l = refl

alike_row_law : (x : ℕ → ℕ) (v : ℕ) → Holds pulsing (λ i. other_first v x) (node_at pattern_chained 2) x
unfolding node_at node_within path_within
alike_row_law x v =
    let nom : Naming pulsing = λ i. other_first v x in
    let named = other_first v x in
    (x, (named, (ends pulsing nom x, (named, (refl, ends pulsing nom named)), (1, later v x))))

by_value : (value : (ℕ → ℕ) → ℕ) → ((x y : ℕ → ℕ) → Agree x y ↔ (value x ≡ value y)) → (x y : ℕ → ℕ) → Agree x y ⊎ (Agree x y → ⊥)
by_value value stands x y = go (eqb (value x) (value y)) refl
  where
    go : (same : Bool) → eqb (value x) (value y) ≡ same → Agree x y ⊎ (Agree x y → ⊥)
    go true e = inl ((stands x y).1 (eqb-true (value x) (value y) e))
    go false e = inr (λ a. eqb-false (value x) (value y) e ((stands x y).0 a))

-- A and the sample are found closed
closed_files : (tableau.judging_of pattern_a tableau_a 8192 ≡ found (record { steps = 3; clashes = 1; forks = 0; most = 4 }))
    × (tableau.judging_of pattern_chained tableau_chained 8192 ≡ found (record { steps = 17; clashes = 1; forks = 0; most = 19 }))
unfolding pattern_check header_check entry_check root_check each_field some_below each_below same_bytes tableau.judging_of tableau.judging_check tableau.header_check tableau.run_of run stepping rule_at step_at steps_from branch_has uses_name
closed_files = (refl, refl)

pub readings_hold : All readings
unfolding reading_of pattern_check header_check entry_check root_check each_field some_below each_below same_bytes judging_by judging_check names_check model_check file.header_check name_check edge_check order_check record_check comes_before is_listed node_at node_within path_within holds_test leads_test judged_by lowest_below count_below leads_in node_named tableau.judging_of tableau.judging_check tableau.header_check tableau.run_of run stepping rule_at step_at steps_from branch_has uses_name digits_within list_below edges_of front_of ordered_file file_within ordering_of onto cleared
readings_hold = (refl, (refl, (refl, (refl, (refl, (refl, (refl, (refl, (I_holds, ((refl, refl, refl, refl), ((refl, refl, refl, refl, refl), ((refl, refl, refl, refl), ((refl, refl, refl, refl, refl, refl, refl, refl, refl), ((refl, refl, refl, refl, refl, refl, refl, refl, refl, refl), ((refl, refl, refl, refl, refl, refl, refl, refl, refl, refl, refl, refl), ((refl, refl, refl, refl, refl, refl, refl, refl, refl, refl, refl, refl, refl, refl), (Job7_holds, ((λ bs ts size c h. (covered bs ts size c h estate, covered bs ts size c h pulsing), covered pattern_a tableau_a 8192 _ closed_files.0 estate, odd, even, refl, covered pattern_chained tableau_chained 8192 _ closed_files.1 pulsing, alike_row_law, by_value), tt))))))))))))))))))
