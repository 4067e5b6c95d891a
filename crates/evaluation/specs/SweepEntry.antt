-- What one entry of a sweep asks and does, in every model that the tables stand for.
-- Assumes nothing.
use Rattle.std.specs.Prelude.{Option, Some, None, ◌≡◌, true, false, List, ℕ, ◌+◌, ◌-◌, ◌≤◌, ◌<◌, length}
use Rattle.std.proofs.Common.{◌∙◌, ap, subst, inl, inr, le_trans, le_of_lt, arith, eq-eqb, ne_eqb}
use Rattle.nodeset.specs.declared.NodeSet.{NodeSet}
use Rattle.nodeset.specs.Members.{HasExactly}
use Rattle.nodeset.specs.Set.{is_empty, meet}
use Rattle.nodeset.specs.Stored.{table_bytes, set_at}
use Rattle.pattern.specs.declared.table.Kind.{Kind}
use Rattle.pattern.specs.declared.entry.Entry.{Entry}
use Rattle.pattern.specs.File.Types.{max_axis, max_name}
use Rattle.pattern.specs.File.Table.{end_of_path}
use Rattle.pattern.specs.File.Entries.{max_entries, entry_at}
use Rattle.pattern.specs.File.Reading.{count_of}
use Rattle.pattern.specs.File.Valid.{Valid, EarlierNode, EarlierPath}
use Rattle.relations.specs.declared.kinds.PathKind.{PathKind}
use Rattle.relations.specs.Kinds.{path_kind_of, IsPathKind, path_kind_is}
use Rattle.relations.specs.Tables.{successors_row, name_row}
use Rattle.relations.specs.Members.{Image}
use Rattle.evaluation.specs.Standing.{pending_bytes, Lent, Standing, Evaluates, Ends}
use Rattle.evaluation.specs.Entries.{reference_fits, earlier_path, refers_as, within_as}
use Rattle.evaluation.specs.Evaluated.{lent_valid}
use Rattle.evaluation.specs.Sweep.{add_to, entries_swept, begun, KeepsEnds, Swept, swept_none, swept_one, swept_all, keeps_empty, keeps_no_path, keeps_step, keeps_jump, keeps_test, keeps_fork}

-- entry i of a sweep, read as e, of this kind, with its pending set, which is not empty
pub record PathEntry (bs table alike : List ℕ) (n i : ℕ) (e : Entry) (kind : Option PathKind) (pending : List ℕ) (s : NodeSet) : Type 0 where
  pub lent : Lent bs table alike n
  pub within : i < count_of bs
  pub long : pending_bytes ≤ length pending
  pub same : e ≡ entry_at bs i
  pub by : kind ≡ path_kind_of e.kind
  pub set : s ≡ set_at pending i
  pub some : is_empty s ≡ false

-- one entry of the sweep, in each model that the tables stand for
abbrev pub EntrySwept : (bs table alike : List ℕ) → ℕ → ℕ → List ℕ → List ℕ → Type 0
EntrySwept bs table alike n i before after =
    (w : Standing bs table alike n) → KeepsEnds w.model w.named bs i before after

-- the sweep as a whole, in each model that the tables stand for
abbrev pub SweptAt : (bs table alike : List ℕ) → ℕ → ℕ → ℕ → List ℕ → ℕ → Type 0
SweptAt bs table alike n first from pending j =
    (w : Standing bs table alike n) (l : from < w.model.size) → Swept w.model w.named bs first (from, l) pending j

-- ---- laws
-- nothing is pending
pub sweeps_none : {bs table alike : List ℕ} {n : ℕ} → Lent bs table alike n → (i : ℕ) (pending : List ℕ)
    → is_empty (set_at pending i) ≡ true → EntrySwept bs table alike n i pending pending
sweeps_none {bs} lent i pending none w = keeps_empty w.model w.named bs (lent_valid lent) pending i none

module _ {bs table alike : List ℕ} {n i : ℕ} {e : Entry} {kind : Option PathKind} {pending : List ℕ} {s : NodeSet}
    (q : PathEntry bs table alike n i e kind pending s) where
  kind_is : (t : Option PathKind) → kind ≡ t → IsPathKind t (entry_at bs i).kind
  kind_is t is =
      subst (λ (t' : Option PathKind). IsPathKind t' (entry_at bs i).kind) is
      (path_kind_is (entry_at bs i).kind kind (q.by ∙ ap (λ (e' : Entry). path_kind_of e'.kind) q.same))

  ok : Valid bs (count_of bs)
  ok = lent_valid q.lent

  pub step_axis : kind ≡ Some PathKind.Step → e.x ≤ max_axis
  step_axis is = rw q.same (within_as ok i q.within Kind.Step (kind_is (Some PathKind.Step) is)).0

  pub jump_name : kind ≡ Some PathKind.Jump → e.x ≤ max_name
  jump_name is = rw q.same (within_as ok i q.within Kind.Jump (kind_is (Some PathKind.Jump) is)).0

  pub test_node : kind ≡ Some PathKind.Test → EarlierNode bs i e.x
  test_node is = rw q.same (refers_as ok i q.within Kind.Test (kind_is (Some PathKind.Test) is)).0

  pub test_rest : kind ≡ Some PathKind.Test → table_bytes (e.y + 1) ≤ length pending
  test_rest is = rw q.same
      (le_trans (reference_fits ok (entry_at bs i).y (earlier_path bs i (count_of bs) (entry_at bs i).y (le_of_lt q.within) (refers_as ok i q.within Kind.Test (kind_is (Some PathKind.Test) is)).1)) q.long)

  pub sweeps_step : (t : NodeSet) → kind ≡ Some PathKind.Step
      → HasExactly (Image (λ u. set_at table (successors_row e.x u)) s) t
      → EntrySwept bs table alike n i pending (add_to pending e.y t)
  sweeps_step t is image =
      rw q.same
      (λ w. keeps_step w.model w.named bs ok pending i q.within q.long table t w.tabled (kind_is (Some PathKind.Step) is) (rw (q.same, q.set) at image))

  pub sweeps_jump : kind ≡ Some PathKind.Jump → EntrySwept bs table alike n i pending (add_to pending e.y (set_at table (name_row e.x)))
  sweeps_jump is =
      rw q.same
      (λ w. keeps_jump w.model w.named bs ok pending i q.within q.long table w.tabled (kind_is (Some PathKind.Jump) is) (rw q.set at q.some))

  pub sweeps_test : (t : NodeSet) → kind ≡ Some PathKind.Test → Evaluates bs table alike n e.x t
      → EntrySwept bs table alike n i pending (add_to pending e.y (meet s t))
  sweeps_test t is held =
      rw (q.same, q.set)
      (λ w. keeps_test w.model w.named bs ok pending i q.within q.long t (kind_is (Some PathKind.Test) is) ((rw q.same at held) w))

  pub sweeps_fork : kind ≡ Some PathKind.Fork → EntrySwept bs table alike n i pending (add_to (add_to pending e.x s) e.y s)
  sweeps_fork is =
      rw (q.same, q.set)
      (λ w. keeps_fork w.model w.named bs ok pending i q.within q.long (kind_is (Some PathKind.Fork) is))

  pub sweeps_no_path : kind ≡ None → EntrySwept bs table alike n i pending pending
  sweeps_no_path is w = keeps_no_path w.model w.named bs ok pending i (kind_is None is)

-- the sweep as a whole
module _ {bs table alike : List ℕ} {n : ℕ} (lent : Lent bs table alike n) (first from : ℕ) where
  pub sweep_begins : EarlierPath bs (count_of bs) first → SweptAt bs table alike n first from (begun first from) (entries_swept first)
  sweep_begins earlier w l = swept_none w.model w.named bs (lent_valid lent) first (from, l) w.tabled.narrow earlier

  pub sweep_goes_on : (j : ℕ) (before after : List ℕ) → 0 < j → SweptAt bs table alike n first from before j
      → EntrySwept bs table alike n (j - 1) before after → SweptAt bs table alike n first from after (j - 1)
  sweep_goes_on j before after pos s p w l = swept_one w.model w.named bs first (from, l) j before after pos (s w l) (p w)

  pub sweep_ends : (pending : List ℕ) → SweptAt bs table alike n first from pending 0
      → Ends bs table alike n first from (set_at pending end_of_path)
  sweep_ends pending s w l = swept_all w.model w.named bs first (from, l) pending (s w l)

-- a sweep goes through entries before the one that refers to its first
pub swept_below : (bs : List ℕ) (k r : ℕ) → k ≤ max_entries → EarlierPath bs k r → entries_swept r ≤ k
swept_below bs k r l (inl e) = rw (eq-eqb r end_of_path e) (omega arith)
swept_below bs k r l (inr h) = rw (ne_eqb r end_of_path (λ e. omega (arith, h.0))) h.0
