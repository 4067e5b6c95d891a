-- Judging a tableau, way by way: what is found where the code refuses, and where it goes on.
-- Assumes nothing.
use Rattle.std.specs.Prelude.{Bool, true, false, Some, None, Result, Ok, Err, List, ◌≡◌, refl, ℕ, ◌-◌, ◌*◌, ◌≤◌, ◌<◌, leb, ltb, length, take, drop}
use Rattle.std.proofs.Common.{sym, ◌∙◌, ap, le_of_eq, arith, le-ltb, lt-ltb, leb-true, leb-false, length-drop, take_all}
use Rattle.wire.specs.Choice.{pick}
use Rattle.pattern.specs.declared.types.Name.{Name}
use Rattle.pattern.specs.declared.types.OutOfRange.{OutOfRange}
use Rattle.pattern.specs.declared.finding.PatternRefusal.{PatternRefusal}
use Rattle.pattern.specs.Checks.Finding.{found, refused, found_passes, refused_refuses}
use Rattle.pattern.specs.File.Types.{max_name}
use Rattle.pattern.specs.File.Made.{make, name_made, out_beyond}
use Rattle.pattern.specs.File.Reading.{reading_of, refusal_number}
use Rattle.pattern.specs.File.Valid.{read_passes, read_refuses}
use Rattle.lines.specs.Lines.{name}
use Rattle.tableau.specs.declared.finding.HeaderRefusal.{HeaderRefusal}
use Rattle.tableau_judge.specs.declared.header.Header.{Header}
use Rattle.tableau.specs.Judging.{max_steps, step_bytes, area_need, header_check, judging_check, run_of, judging_of, clears, header_number}
use Rattle.tableau_judge.specs.Headers.{header_at, header_of}
use Rattle.branch_walk.specs.Walk.{steps_found}
use Rattle.tableau.proofs.JudgingCloses.{header_passes, judging_runs, judging_refuses}

-- ---- the start name, as its making function answers
pub start_made : (x : ℕ) (m : Result Name OutOfRange) (i : Name) → name_made m ≡ make max_name x → m ≡ Ok i → (ltb max_name x ≡ false) × (i ≡ name x)
start_made x m i e f = go (leb x max_name) refl (sym (ap name_made f) ∙ e)
  where
    made_number : {k n : ℕ} → Some k ≡ Some n → k ≡ n
    made_number h = cc

    go : (b : Bool) → leb x max_name ≡ b → Some i.number ≡ pick b (Some x) None → (ltb max_name x ≡ false) × (i ≡ name x)
    go true l h = (le-ltb max_name x (leb-true x max_name l), ap name (made_number h))
    go false l h = (cc, cc)

pub start_out : (x : ℕ) (m : Result Name OutOfRange) (o : OutOfRange) → name_made m ≡ make max_name x → m ≡ Err o → ltb max_name x ≡ true
start_out x m o e f = lt-ltb max_name x (leb-false x max_name (sym (out_beyond max_name x (sym (ap name_made f) ∙ e))))

-- ---- what is found where the checks come out so

pub judging_pattern : (bs ts : List ℕ) (size number place : ℕ) → reading_of bs ≡ refused number place → judging_of bs ts size ≡ refused number place
unfolding judging_check
judging_pattern bs ts size number place h = judging_refuses bs ts size number place (rw (read_refuses bs number place h) refl)

pub judging_area : (bs ts : List ℕ) (size n : ℕ) → reading_of bs ≡ found n → size < area_need → judging_of bs ts size ≡ refused 9 0
unfolding judging_check
judging_area bs ts size n h l = judging_refuses bs ts size 9 0 (rw ((read_passes bs n h).0, lt-ltb size area_need l) refl)

pub judging_header : (bs ts : List ℕ) (size n number place : ℕ) → reading_of bs ≡ found n → area_need ≤ size → header_of bs ts ≡ refused number place
    → judging_of bs ts size ≡ refused number place
unfolding judging_check header_of
judging_header bs ts size n number place h l e =
    judging_refuses bs ts size number place
    (rw ((read_passes bs n h).0, le-ltb size area_need l, refused_refuses (header_check bs ts) (header_at ts) number place e) refl)

pub judging_steps : (bs ts : List ℕ) (size n : ℕ) (h : Header) → reading_of bs ≡ found n → area_need ≤ size → header_of bs ts ≡ found h
    → judging_of bs ts size ≡ steps_found bs n (step_bytes ts) h.start h.steps
unfolding judging_check header_of run_of
judging_steps bs ts size n h r l e =
    let p = read_passes bs n r in
    let c = found_passes (header_check bs ts) (header_at ts) h e in
    judging_runs bs ts size (rw (p.0, le-ltb size area_need l, c.0) refl) ∙ rw (sym c.1, sym p.1) refl

-- a header that isn't refused says how long the file is, and so how long the part from byte 8 on
pub steps_there : (bs ts : List ℕ) (h : Header) → header_of bs ts ≡ found h
    → (8 ≤ length ts) × (length (step_bytes ts) ≡ 6 * h.steps) × (h.steps ≤ max_steps)
unfolding header_of
steps_there bs ts h e =
    let c = found_passes (header_check bs ts) (header_at ts) h e in
    let ok = header_passes bs ts c.0 in
    rw (sym c.1) (omega (arith, ok.length_is), rw (length-drop 8 ts, ok.length_is) (omega arith), ok.steps_limited)

pub steps_part : (ts : List ℕ) → take (length ts - 8) (drop 8 ts) ≡ step_bytes ts
steps_part ts = take_all (length ts - 8) (drop 8 ts) (le_of_eq (length-drop 8 ts))

-- "Refusals 1 to 9 and 15 to 18 leave the area unchanged"
pub pattern_early : (refusal : PatternRefusal) → clears (refusal_number refusal) ≡ false
pattern_early PatternRefusal.Mark = refl
pattern_early PatternRefusal.Version = refl
pattern_early PatternRefusal.Count = refl
pattern_early (PatternRefusal.Kind k) = refl
pattern_early (PatternRefusal.Field k) = refl
pattern_early (PatternRefusal.Reference k) = refl
pattern_early (PatternRefusal.Repeat k) = refl
pattern_early (PatternRefusal.RootPath k) = refl

pub header_early : (refusal : HeaderRefusal) → clears (header_number refusal) ≡ false
header_early HeaderRefusal.Mark = refl
header_early HeaderRefusal.Version = refl
header_early HeaderRefusal.Count = refl
header_early HeaderRefusal.Start = refl
