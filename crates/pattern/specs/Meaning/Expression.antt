-- The expression of source 000 that an entry of a pattern stands for.
-- Assumes nothing.
use Rattle.std.specs.Prelude.{◌≡◌, refl, Bool, true, false, List, eqb}
use Rattle.std.proofs.Common.{◌∙◌, ap₂, inl, inr, not-suc-le-zero, arith, eq-eqb, ne_eqb}
use Rattle.std.proofs.Math.Path.{ap}
use Prim.Native.Nat.{ℕ, zero, suc, ◌-◌, ◌<◌}
use Rattle.pattern.specs.declared.types.Comparison.{Comparison}
use Rattle.pattern.specs.declared.table.Kind.{Kind}
use Rattle.pattern.specs.Logic.Syntax.{NExp, PExp, truth}
use Rattle.pattern.specs.File.Table.{end_of_path}
use Rattle.pattern.specs.File.Entries.{entry_at}
use Rattle.pattern.specs.File.Fields.{OfReferences, map_references}
use Rattle.pattern.specs.File.Reading.{count_of}
use Rattle.pattern.specs.File.Valid.{Valid, EarlierNode, EarlierPath, refers_at}

-- End of path. 000 has no empty path; [⊤], which leads from each node to itself alone, stands for it.
abbrev pub end : PExp
end = PExp.test truth

-- The expression of a node entry with these fields, given the expressions of the entries that it refers to. A path entry is no node, and
-- what stands there is never asked.
abbrev pub node_expression : Kind → ℕ → ℕ → ℕ → (ℕ → NExp) → (ℕ → PExp) → NExp
node_expression Kind.Property x y z N P = NExp.property x
node_expression Kind.Name x y z N P = NExp.name x
node_expression Kind.Not x y z N P = NExp.not (N x)
node_expression Kind.Both x y z N P = NExp.both (N x) (N y)
node_expression Kind.After x y z N P = NExp.after x (N y)
node_expression Kind.Same x y z N P = NExp.compare Comparison.Same x (P y) (P z)
node_expression Kind.Differ x y z N P = NExp.compare Comparison.Differ x (P y) (P z)
node_expression Kind.Step x y z N P = truth
node_expression Kind.Jump x y z N P = truth
node_expression Kind.Test x y z N P = truth
node_expression Kind.Fork x y z N P = truth
node_expression Kind.Either x y z N P = NExp.either (N x) (N y)
node_expression Kind.Unknown x y z N P = truth

-- The same of a path entry: "Source 000's composition is carried by the rest of each path." A node entry is no path, and what
-- stands there is never asked.
abbrev pub path_expression : Kind → ℕ → ℕ → ℕ → (ℕ → NExp) → (ℕ → PExp) → PExp
path_expression Kind.Property x y z N P = end
path_expression Kind.Name x y z N P = end
path_expression Kind.Not x y z N P = end
path_expression Kind.Both x y z N P = end
path_expression Kind.After x y z N P = end
path_expression Kind.Same x y z N P = end
path_expression Kind.Differ x y z N P = end
path_expression Kind.Step x y z N P = PExp.compose (PExp.down x) (P y)
path_expression Kind.Jump x y z N P = PExp.compose (PExp.jump x) (P y)
path_expression Kind.Test x y z N P = PExp.compose (PExp.test (N x)) (P y)
path_expression Kind.Fork x y z N P = PExp.union (P x) (P y)
path_expression Kind.Either x y z N P = end
path_expression Kind.Unknown x y z N P = end

-- "A path reference 255 means end of path."
abbrev pub or_end : Bool → PExp → PExp
or_end true α = end
or_end false α = α

-- The expressions of entry k where references are followed at most `depth` deep.
unfoldable mutual
  pub node_within : List ℕ → ℕ → ℕ → NExp
  node_within bs zero k = truth
  node_within bs (suc depth) k =
      node_expression (entry_at bs k).kind (entry_at bs k).x (entry_at bs k).y (entry_at bs k).z (λ v. node_within bs depth v)
      (λ v. or_end (eqb v end_of_path) (path_within bs depth v))

  pub path_within : List ℕ → ℕ → ℕ → PExp
  path_within bs zero k = end
  path_within bs (suc depth) k =
      path_expression (entry_at bs k).kind (entry_at bs k).x (entry_at bs k).y (entry_at bs k).z (λ v. node_within bs depth v)
      (λ v. or_end (eqb v end_of_path) (path_within bs depth v))

-- The node expression of entry k. References are earlier, so k + 1 is deep enough.
unfoldable pub node_at : List ℕ → ℕ → NExp
node_at bs k = node_within bs (suc k) k

-- "Entries number from 0; the last is the root."
abbrev pub root_of : List ℕ → NExp
root_of bs = node_at bs (count_of bs - 1)

-- ---- laws

-- The path expression of a reference: the end of path, or that of entry v.
unfoldable pub path_at : List ℕ → ℕ → PExp
path_at bs v = or_end (eqb v end_of_path) (path_within bs (suc v) v)

module _ (N N' : ℕ → NExp) (P P' : ℕ → PExp) (x y z : ℕ) where
  -- an expression is made of those of its references alone
  node_same : (κ : Kind) → OfReferences (λ v. N v ≡ N' v) (λ v. P v ≡ P' v) (record { kind = κ; x = x; y = y; z = z })
      → node_expression κ x y z N P ≡ node_expression κ x y z N' P'
  node_same Kind.Property h = refl
  node_same Kind.Name h = refl
  node_same Kind.Not h = ap NExp.not h.0
  node_same Kind.Both h = ap₂ NExp.both h.0 h.1
  node_same Kind.After h = ap (NExp.after x) h.1
  node_same Kind.Same h = ap₂ (NExp.compare Comparison.Same x) h.1 h.2
  node_same Kind.Differ h = ap₂ (NExp.compare Comparison.Differ x) h.1 h.2
  node_same Kind.Step h = refl
  node_same Kind.Jump h = refl
  node_same Kind.Test h = refl
  node_same Kind.Fork h = refl
  node_same Kind.Either h = ap₂ NExp.either h.0 h.1
  node_same Kind.Unknown h = refl

  path_same : (κ : Kind) → OfReferences (λ v. N v ≡ N' v) (λ v. P v ≡ P' v) (record { kind = κ; x = x; y = y; z = z })
      → path_expression κ x y z N P ≡ path_expression κ x y z N' P'
  path_same Kind.Property h = refl
  path_same Kind.Name h = refl
  path_same Kind.Not h = refl
  path_same Kind.Both h = refl
  path_same Kind.After h = refl
  path_same Kind.Same h = refl
  path_same Kind.Differ h = refl
  path_same Kind.Step h = ap (PExp.compose (PExp.down x)) h.1
  path_same Kind.Jump h = ap (PExp.compose (PExp.jump x)) h.1
  path_same Kind.Test h = ap₂ (λ (φ : NExp) (α : PExp). PExp.compose (PExp.test φ) α) h.0 h.1
  path_same Kind.Fork h = ap₂ PExp.union h.0 h.1
  path_same Kind.Either h = refl
  path_same Kind.Unknown h = refl

-- the path expressions that two readings P and P' of earlier entries give a reference
abbrev Agree : (ℕ → PExp) → (ℕ → PExp) → ℕ → Type 0
Agree P P' v = or_end (eqb v end_of_path) (P v) ≡ or_end (eqb v end_of_path) (P' v)

module _ {bs : List ℕ} {n : ℕ} (ok : Valid bs n) where
  -- what agrees on the entries before k agrees on the references of entry k
  agree : (N N' : ℕ → NExp) (P P' : ℕ → PExp) (k : ℕ) → k < n → ((v : ℕ) → v < k → (N v ≡ N' v) × (P v ≡ P' v))
      → OfReferences (λ v. N v ≡ N' v) (Agree P P') (entry_at bs k)
  agree N N' P P' k l same = map_references node path (entry_at bs k) (refers_at ok k l)
    where
      node : (v : ℕ) → EarlierNode bs k v → N v ≡ N' v
      node v h = (same v h.0).0

      path : (v : ℕ) → EarlierPath bs k v → Agree P P' v
      path v (inl e) = rw (eq-eqb v end_of_path e)
      path v (inr h) = ap (or_end (eqb v end_of_path)) (same v h.0).1

  -- the depth does not matter where it is deep enough
  same_within : (d d' k : ℕ) → k < n → k < d → k < d'
      → (node_within bs d k ≡ node_within bs d' k) × (path_within bs d k ≡ path_within bs d' k)
  unfolding node_within path_within
  same_within zero d' k l h h' = absurd (not-suc-le-zero h)
  same_within (suc d) zero k l h h' = absurd (not-suc-le-zero h')
  same_within (suc d) (suc d') k l h h' =
      let e = entry_at bs k in
      let a = agree (node_within bs d) (node_within bs d') (path_within bs d) (path_within bs d') k l
      (λ v m. same_within d d' v (omega arith) (omega arith) (omega arith)) in
      (node_same _ _ _ _ e.x e.y e.z e.kind a, path_same _ _ _ _ e.x e.y e.z e.kind a)

  -- the references of entry k stand for the expressions of the entries themselves
  agree_at : (k : ℕ) → k < n
      → OfReferences (λ v. node_within bs k v ≡ node_at bs v) (λ v. or_end (eqb v end_of_path) (path_within bs k v) ≡ path_at bs v) (entry_at bs k)
  unfolding node_at path_at
  agree_at k l =
      agree (node_within bs k) (λ v. node_within bs (suc v) v) (path_within bs k) (λ v. path_within bs (suc v) v) k l
      (λ v m. same_within k (suc v) v (omega arith) m (omega arith))

  -- the expression of an entry, by the expressions of its references
  pub node_at_law : (k : ℕ) → k < n
      → node_at bs k ≡ node_expression (entry_at bs k).kind (entry_at bs k).x (entry_at bs k).y (entry_at bs k).z (node_at bs) (path_at bs)
  unfolding node_at node_within path_within
  node_at_law k l = let e = entry_at bs k in node_same _ _ _ _ e.x e.y e.z e.kind (agree_at k l)

  pub path_at_law : (k : ℕ) → k < n
      → path_at bs k ≡ path_expression (entry_at bs k).kind (entry_at bs k).x (entry_at bs k).y (entry_at bs k).z (node_at bs) (path_at bs)
  unfolding path_at node_within path_within
  path_at_law k l =
      let e = entry_at bs k in
      let no_end : k ≡ end_of_path → ⊥ = λ h. omega (arith, ok.header.one_byte, ok.count_is) in
      ap (λ (t : Bool). or_end t (path_within bs (suc k) k)) (ne_eqb k end_of_path no_end)
      ∙ path_same _ _ _ _ e.x e.y e.z e.kind (agree_at k l)

pub end_at : (bs : List ℕ) → path_at bs end_of_path ≡ end
unfolding path_at
end_at bs = refl
