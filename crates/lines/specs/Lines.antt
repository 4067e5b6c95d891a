-- 01's lines, "Lines and steps": how each form is written, which names it has, and which names are fresh on a branch.
-- Assumes nothing.
use Rattle.std.specs.Prelude.{Bool, false, not, ◌||◌, List, [], ◌∷◌, ◌≡◌, ℕ, zero, suc, ◌<◌, eqb, length, get_or}
use Rattle.std.proofs.Common.{not-suc-le-zero, le_of_suc-le-suc}
use Rattle.pattern.specs.declared.types.Name.{Name}
use Rattle.pattern.specs.declared.types.Axis.{Axis}
use Rattle.pattern.specs.declared.types.Channel.{Channel}
use Rattle.pattern.specs.declared.types.Sign.{Sign}
use Rattle.pattern.specs.declared.types.Comparison.{Comparison}
use Rattle.pattern.specs.Checks.Tests.{or_is_false}
use Rattle.pattern.specs.Meaning.Names.{uses_name}
use Rattle.lines.specs.declared.line.Line.{Line}
use Rattle.lines.specs.declared.line.Side.{Side}

-- "i has or lacks φ"
abbrev pub has : Sign → Name → ℕ → Line
has s i φ = Line.Has (record { sign = s; name = i; node = φ })

-- "i is or is not j"
abbrev pub is : Sign → Name → Name → Line
is s i j = Line.Is (record { sign = s; first = i; second = j })

-- "axis a leads from i to j"
abbrev pub leads : Axis → Name → Name → Line
leads a i j = Line.Edge (record { axis = a; from = i; to = j })

-- "(i, α)"
abbrev pub side : Name → ℕ → Side
side i α = record { name = i; path = α }

-- "a comparison, holding or barred, of same or differ on channel e between (i, α) and (j, β)"
abbrev pub compare : Sign → Comparison → Channel → Side → Side → Line
compare s c e l r = Line.Compare (record { sign = s; comparison = c; channel = e; left = l; right = r })

abbrev pub name : ℕ → Name
name i = record { number = i }

abbrev pub axis : ℕ → Axis
axis a = record { number = a }

-- a line has the name
abbrev pub line_has : Line → ℕ → Bool
line_has (Line.Has l) i = eqb l.name.number i
line_has (Line.Is l) i = eqb l.first.number i || eqb l.second.number i
line_has (Line.Edge l) i = eqb l.from.number i || eqb l.to.number i
line_has (Line.Compare l) i = eqb l.left.name.number i || eqb l.right.name.number i

-- "a branch has a name if its first line has it or the rest, asked the same way, has it"
unfoldable pub branch_has : List Line → ℕ → Bool
branch_has [] i = false
branch_has (l ∷ ls) i = line_has l i || branch_has ls i

-- "Fresh means not used in the pattern and on no line of the branch"
abbrev pub is_fresh : List ℕ → List Line → ℕ → Bool
is_fresh bs b i = not (uses_name bs i || branch_has b i)

-- line k of a branch; "branch lines number from 0"
abbrev pub line_on : List Line → ℕ → Line
line_on b k = get_or b k (is Sign.Positive (name 0) (name 0))

-- ---- laws

-- a name that a branch lacks, each line of it lacks
pub line_lacks : (b : List Line) (i : ℕ) → branch_has b i ≡ false → (j : ℕ) → j < length b → line_has (line_on b j) i ≡ false
unfolding branch_has
line_lacks [] i out j h = absurd (not-suc-le-zero h)
line_lacks (l ∷ ls) i out zero h = (or_is_false (line_has l i) (branch_has ls i) out).0
line_lacks (l ∷ ls) i out (suc j) h = line_lacks ls i (or_is_false (line_has l i) (branch_has ls i) out).1 j (le_of_suc-le-suc h)
