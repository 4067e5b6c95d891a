-- `names::used_names` meets its contract: the set has the names of the entries passed.
-- Assumes nothing.
use Rattle.std.proofs.Common.{◌≡◌, sym, ◌∙◌, ap, ap₂, subst, Bool, true, ◌||◌, ℕ, ◌≤◌, arith, rules}
use mathlib.Core.Bool.{or-false}
use Rattle.pattern.specs.declared.entry.Entry.{Entry}
use Rattle.pattern.specs.Checks.Range.{some_below, some_next}
use Rattle.pattern.specs.File.Types.{max_name}
use Rattle.pattern.specs.File.Reading.{count_of}
use Rattle.pattern.specs.File.Valid.{Valid}
use Rattle.pattern.proofs.File.Valid.{valid}
use Rattle.pattern.specs.Meaning.Names.{bears_name, has_name, entry_uses, uses_name, name_at}
use Rattle.names.specs.Set.{has, has_none, has_insert}
use Rattle.names.proofs.used_names.Goals.{Start, After-at-e, then-bears_name, else-bears_name}
use Rattle.names.proofs.used_names.Goals as goal

ok : (c : Start) → Valid c.args.p.now c.args.n
ok c = valid c.args.p.now c.args.n c.requires

pub loop-k-init : goal.loop-k-init
unfolding some_below
loop-k-init c i = ap (λ s. has s i) c.empty-names.ensures ∙ has_none i

pub at-e-requires : goal.at-e-requires
at-e-requires c = let v = ok (goal.at.at-e-requires c).Start in omega (arith, v.header.length_is, v.count_is)

-- an entry that bears a name has one in range
small : (c : After-at-e) → bears_name c.at-e.result.kind ≡ true → c.at-e.result.x ≤ max_name
small c =
    subst (λ (e : Entry). bears_name e.kind ≡ true → e.x ≤ max_name) (sym c.at-e.ensures)
    (name_at (ok (goal.at.After-at-e c).Start) c.loop-k.k (search rules))

pub insert-names-requires : goal.insert-names-requires
insert-names-requires c = small (goal.at.insert-names-requires c).After-at-e (sym c.if-bears_name.ensures)

pub loop-k-preserved : goal.loop-k-preserved
loop-k-preserved c i =
    grown
    ∙ ap₂ (λ (t : Bool) (e : Entry). t || has_name e.kind e.x i) (c.loop-k.invariant i) c.at-e.ensures
    ∙ sym (some_next (entry_uses c.args.p.now i) c.loop-k.k)
  where
    grown : has c.if-bears_name.names i ≡ has c.loop-k.names i || has_name c.at-e.result.kind c.at-e.result.x i
    grown = elim c.if-bears_name.branch [
      | then-bears_name w ↦
          let named = sym w.if-bears_name.ensures in
          rw (w.names-is, w.insert-names.ensures, named)
          (has_insert c.loop-k.names c.at-e.result.x i (small (goal.at.loop-k-preserved c).After-at-e named))
      | else-bears_name w ↦ rw (w.names-is, sym w.if-bears_name.ensures) (sym (or-false _))
    ]

pub returns : goal.returns
unfolding uses_name
returns c i =
    let v = ok (goal.at.returns c).Start in
    let bs = c.args.p.now in
    let all : c.loop-k.k ≡ count_of bs = omega (arith, v.count_is) in
    c.loop-k.invariant i ∙ ap (λ (m : ℕ). some_below m (entry_uses bs i)) all
