-- Entries by first completion: what is completed stands, and stays; what stands is completed again with nothing new; so the first open part
-- may be completed before the rest.
-- Assumes nothing.
use Rattle.std.specs.Prelude.{◌≡◌, refl, Bool, true, false, ◌⊎◌, List, [], ◌∷◌, ◌++◌, ℕ, zero, suc, ◌+◌, ◌≤◌, eqb, length}
use Rattle.std.proofs.Common.{sym, ◌∙◌, ap, subst, inl, inr, append_assoc, append-nil, arith, length-append, eqb-true, eq-eqb}
use Rattle.std.proofs.lemmas.Bool.{false≢true}
use Rattle.pattern.specs.Checks.Tests.{and_is_true}
use Rattle.typed_file.specs.Trees.{Tree, tree, Part, number, entry}
use Rattle.typed_file.specs.Entries.{Entry, same_entry, Found, at, nowhere, found_or, find_from, placed, place, complete, complete_part}

-- entry i is e
abbrev pub At : List Entry → ℕ → Entry → Type 0
At [] i e = ⊥
At (f ∷ fs) zero e = f ≡ e
At (f ∷ fs) (suc i) e = At fs i e

-- the tree stands at i, and the entries that are its parts stand too
abbrev mutual
  pub Stands : List Entry → Tree → ℕ → Type 0
  Stands es (tree k a b c) i =
      (x : ℕ) × ((y : ℕ) × ((z : ℕ) × (PartIs es a x × PartIs es b y × PartIs es c z × At es i (record { kind = k; x = x; y = y; z = z }))))

  pub PartIs : List Entry → Part → ℕ → Type 0
  PartIs es (number n) x = x ≡ n
  PartIs es (entry t) x = Stands es t x

-- ---- entries are added behind
pub at_more : (es fs : List Entry) (i : ℕ) (e : Entry) → At es i e → At (es ++ fs) i e
at_more [] fs i e h = absurd h
at_more (f ∷ es) fs zero e h = h
at_more (f ∷ es) fs (suc i) e h = at_more es fs i e h

mutual
  pub stands_more : (t : Tree) (es fs : List Entry) (i : ℕ) → Stands es t i → Stands (es ++ fs) t i
  stands_more (tree k a b c) es fs i (x, (y, (z, (p, q, r, h)))) =
      (x, (y, (z, (part_more a es fs x p, part_more b es fs y q, part_more c es fs z r, at_more es fs i _ h))))

  pub part_more : (a : Part) (es fs : List Entry) (x : ℕ) → PartIs es a x → PartIs (es ++ fs) a x
  part_more (number n) es fs x h = h
  part_more (entry t) es fs x h = stands_more t es fs x h

-- ---- what is completed stands
same_is : (e f : Entry) → same_entry e f ≡ true → e ≡ f
same_is e f h =
    let a = and_is_true (eqb e.kind f.kind) _ h in
    let b = and_is_true (eqb e.x f.x) _ a.1 in
    let c = and_is_true (eqb e.y f.y) (eqb e.z f.z) b.1 in
    λ k. record {
      kind = eqb-true e.kind f.kind a.0 k;
      x = eqb-true e.x f.x b.0 k;
      y = eqb-true e.y f.y c.0 k;
      z = eqb-true e.z f.z c.1 k;
    }

is_same_law : (e : Entry) → same_entry e e ≡ true
is_same_law e = rw (eq-eqb e.kind e.kind refl, eq-eqb e.x e.x refl, eq-eqb e.y e.y refl, eq-eqb e.z e.z refl)

-- where the search ends
abbrev pub FoundSays : List Entry → Entry → ℕ → Found → Type 0
FoundSays es e k (at i) = (j : ℕ) × ((i ≡ j + k) × At es j e)
FoundSays es e k nowhere = (j : ℕ) → At es j e → ⊥

pub found_says : (es : List Entry) (e : Entry) (k : ℕ) → FoundSays es e k (find_from es e k)
found_says [] e k = λ j h. h
found_says (f ∷ es) e k = go (same_entry f e) refl (find_from es e (suc k)) (found_says es e (suc k))
  where
    go : (t : Bool) → same_entry f e ≡ t → (g : Found) → FoundSays es e (suc k) g → FoundSays (f ∷ es) e k (found_or t k g)
    go true h g s = (0, (omega arith, same_is f e h))
    go false h (at i) s = (suc s.0, (omega (arith, s.1.0), s.1.1))
    go false h nowhere s = λ j a. other j a
      where
        other : (j : ℕ) → At (f ∷ es) j e → ⊥
        other zero a = false≢true (sym h ∙ (ap (λ (g : Entry). same_entry g e) a ∙ is_same_law e))
        other (suc j) a = s j a

at_last : (es : List Entry) (e : Entry) → At (es ++ (e ∷ [])) (length es) e
at_last [] e = refl
at_last (f ∷ es) e = at_last es e

-- entries are only added behind
pub record Grown (es fs : List Entry) : Type 0 where
  pub new : List Entry
  pub is : fs ≡ es ++ new

pub grown_on : (es fs gs : List Entry) → Grown es fs → Grown fs gs → Grown es gs
grown_on es fs gs a b =
    record { new = a.new ++ b.new; is = b.is ∙ (ap (λ (l : List Entry). l ++ b.new) a.is ∙ append_assoc es a.new b.new) }

-- what a part is, it is also among the entries after it
pub still : (a : Part) (es fs : List Entry) (x : ℕ) → Grown es fs → PartIs es a x → PartIs fs a x
still a es fs x g h = subst (λ (l : List Entry). PartIs l a x) (sym g.is) (part_more a es g.new x h)

-- the entry stands where it is placed
placed_at : (e : Entry) (es : List Entry) → At (place e es).entries (place e es).at e × Grown es (place e es).entries
placed_at e es = go (find_from es e 0) (found_says es e 0)
  where
    go : (g : Found) → FoundSays es e 0 g → At (placed g e es).entries (placed g e es).at e × Grown es (placed g e es).entries
    go (at i) s =
        let same : s.0 ≡ i = omega (arith, s.1.0) in
        (subst (λ (n : ℕ). At es n e) same s.1.1, record { new = []; is = sym (append-nil es) })
    go nowhere s = (at_last es e, record { new = e ∷ []; is = refl })

-- the three parts of an entry are these
abbrev pub AllStand : List Entry → Part → Part → Part → ℕ → ℕ → ℕ → Type 0
AllStand es a b c x y z = PartIs es a x × PartIs es b y × PartIs es c z

module _ (a b c : Part) (x y z : ℕ) where
  all_still : (es fs : List Entry) → Grown es fs → AllStand es a b c x y z → AllStand fs a b c x y z
  all_still es fs g h = (still a es fs x g h.0, still b es fs y g h.1, still c es fs z g h.2)

  -- and are so once all are completed
  in_turn : (es fs gs hs : List Entry) → PartIs fs a x × Grown es fs → PartIs gs b y × Grown fs gs → PartIs hs c z × Grown gs hs
      → AllStand hs a b c x y z × Grown es hs
  in_turn es fs gs hs p q r =
      let on = grown_on fs gs hs q.1 r.1 in
      ((still a fs hs x on p.0, still b gs hs y r.1 q.0, r.0), grown_on es fs hs p.1 on)

mutual
  pub completes : (t : Tree) (es : List Entry) → Stands (complete t es).entries t (complete t es).at × Grown es (complete t es).entries
  completes (tree k a b c) es =
      let p = complete_part a es in
      let q = complete_part b p.entries in
      let r = complete_part c q.entries in
      let parts = in_turn a b c p.at q.at r.at es p.entries q.entries r.entries
      (completes_part a es) (completes_part b p.entries) (completes_part c q.entries) in
      let own = placed_at (record { kind = k; x = p.at; y = q.at; z = r.at }) r.entries in
      let all = all_still a b c p.at q.at r.at r.entries _ own.1 parts.0 in
      ((p.at, (q.at, (r.at, (all.0, all.1, all.2, own.0)))), grown_on es r.entries _ parts.1 own.1)

  pub completes_part : (a : Part) (es : List Entry)
      → PartIs (complete_part a es).entries a (complete_part a es).at × Grown es (complete_part a es).entries
  completes_part (number n) es = (refl, record { new = []; is = sym (append-nil es) })
  completes_part (entry t) es = completes t es

-- the three parts of an entry, before it is placed itself
pub parts_stand : (a b c : Part) (es : List Entry)
    → let p = complete_part a es in
    let q = complete_part b p.entries in
    let r = complete_part c q.entries in
    AllStand r.entries a b c p.at q.at r.at
parts_stand a b c es =
    let p = complete_part a es in
    let q = complete_part b p.entries in
    let r = complete_part c q.entries in
    (in_turn a b c p.at q.at r.at es p.entries q.entries r.entries
    (completes_part a es) (completes_part b p.entries) (completes_part c q.entries)).0

-- ---- what stands is completed again with nothing new
abbrev pub Distinct : List Entry → Type 0
Distinct es = (i j : ℕ) (e : Entry) → At es i e → At es j e → i ≡ j

placed_again : (e : Entry) (es : List Entry) (i : ℕ) → Distinct es → At es i e → place e es ≡ record { at = i; entries = es }
placed_again e es i d h = go (find_from es e 0) (found_says es e 0)
  where
    go : (g : Found) → FoundSays es e 0 g → placed g e es ≡ record { at = i; entries = es }
    go (at j) s =
        let same : s.0 ≡ j = omega (arith, s.1.0) in
        ap (λ (n : ℕ). record { at = n; entries = es }) (d j i e (subst (λ (n : ℕ). At es n e) same s.1.1) h)
    go nowhere s = absurd (s i h)

mutual
  pub again : (t : Tree) (es : List Entry) (i : ℕ) → Distinct es → Stands es t i → complete t es ≡ record { at = i; entries = es }
  again (tree k a b c) es i d (x, (y, (z, (p, q, r, h)))) =
      rw (again_part a es x d p, again_part b es y d q, again_part c es z d r)
      (placed_again (record { kind = k; x = x; y = y; z = z }) es i d h)

  pub again_part : (a : Part) (es : List Entry) (x : ℕ) → Distinct es → PartIs es a x → complete_part a es ≡ record { at = x; entries = es }
  again_part (number n) es x d h = ap (λ (m : ℕ). record { at = m; entries = es }) (sym h)
  again_part (entry t) es x d h = again t es x d h

-- ---- no entry stands twice
pub at_split : (es : List Entry) (e f : Entry) (i : ℕ) → At (es ++ (e ∷ [])) i f → At es i f ⊎ ((i ≡ length es) × (e ≡ f))
at_split [] e f zero h = inr (refl, h)
at_split [] e f (suc i) h = absurd h
at_split (g ∷ es) e f zero h = inl h
at_split (g ∷ es) e f (suc i) h = go (at_split es e f i h)
  where
    go : At es i f ⊎ ((i ≡ length es) × (e ≡ f)) → At es i f ⊎ ((suc i ≡ suc (length es)) × (e ≡ f))
    go (inl a) = inl a
    go (inr (p, q)) = inr (ap suc p, q)

placed_distinct : (e : Entry) (es : List Entry) → Distinct es → Distinct (place e es).entries
placed_distinct e es d = go (find_from es e 0) (found_says es e 0)
  where
    go : (g : Found) → FoundSays es e 0 g → Distinct (placed g e es).entries
    go (at i) s = d
    go nowhere s = λ i j f h k. both (at_split es e f i h) (at_split es e f j k)
      where
        both : {i j : ℕ} {f : Entry} → At es i f ⊎ ((i ≡ length es) × (e ≡ f)) → At es j f ⊎ ((j ≡ length es) × (e ≡ f)) → i ≡ j
        both {i} {j} {f} (inl a) (inl b) = d i j f a b
        both {i} {j} {f} (inl a) (inr (p, q)) = absurd (s i (subst (λ (g : Entry). At es i g) (sym q) a))
        both {i} {j} {f} (inr (p, q)) (inl b) = absurd (s j (subst (λ (g : Entry). At es j g) (sym q) b))
        both {i} {j} {f} (inr (p, q)) (inr (r, t)) = p ∙ sym r

mutual
  pub complete_distinct : (t : Tree) (es : List Entry) → Distinct es → Distinct (complete t es).entries
  complete_distinct (tree k a b c) es d =
      let p = complete_part a es in
      let q = complete_part b p.entries in
      let r = complete_part c q.entries in
      placed_distinct (record { kind = k; x = p.at; y = q.at; z = r.at }) r.entries
      (part_distinct c q.entries (part_distinct b p.entries (part_distinct a es d)))

  pub part_distinct : (a : Part) (es : List Entry) → Distinct es → Distinct (complete_part a es).entries
  part_distinct (number n) es d = d
  part_distinct (entry t) es d = complete_distinct t es d

-- ---- the first open part may be completed first
module _ (es : List Entry) (d : Distinct es) where
  pub all_there : (k : ℕ) (a b c : Part) (x y z : ℕ) → PartIs es a x → PartIs es b y → PartIs es c z
      → complete (tree k a b c) es ≡ place (record { kind = k; x = x; y = y; z = z }) es
  all_there k a b c x y z p q r = rw (again_part a es x d p, again_part b es y d q, again_part c es z d r)

  module _ (s : Tree) where
    -- the entries once it is completed: it stands there, and so does what stood before
    abbrev then : List Entry
    then = (complete s es).entries

    twice : complete s then ≡ complete s es
    twice = again s then (complete s es).at (complete_distinct s es d) (completes s es).0

    there : (a : Part) (x : ℕ) → PartIs es a x → complete_part a then ≡ record { at = x; entries = then }
    there a x p = again_part a then x (complete_distinct s es d) (still a es then x (completes s es).1 p)

    pub first_x : (k : ℕ) (b c : Part) → complete (tree k (entry s) b c) then ≡ complete (tree k (entry s) b c) es
    first_x k b c = rw twice

    pub first_y : (k : ℕ) (a c : Part) (x : ℕ) → PartIs es a x
        → complete (tree k a (entry s) c) then ≡ complete (tree k a (entry s) c) es
    first_y k a c x p = rw (there a x p, again_part a es x d p, twice)

    pub first_z : (k : ℕ) (a b : Part) (x y : ℕ) → PartIs es a x → PartIs es b y
        → complete (tree k a b (entry s)) then ≡ complete (tree k a b (entry s)) es
    first_z k a b x y p q = rw (there a x p, there b y q, again_part a es x d p, again_part b es y d q, twice)

grown_long : (es fs : List Entry) → Grown es fs → length es ≤ length fs
grown_long es fs g = rw (g.is, length-append es g.new) (omega arith)

pub placed_grows : (e : Entry) (es : List Entry) → length es ≤ length (place e es).entries
placed_grows e es = grown_long es (place e es).entries (placed_at e es).1

pub grows : (t : Tree) (es : List Entry) → length es ≤ length (complete t es).entries
grows t es = grown_long es (complete t es).entries (completes t es).1

pub part_grows : (a : Part) (es : List Entry) → length es ≤ length (complete_part a es).entries
part_grows a es = grown_long es (complete_part a es).entries (completes_part a es).1
