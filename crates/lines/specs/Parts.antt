-- The parts of lines: what must fit, what must be alike, and a comparison with another left side.
-- Assumes nothing.
use Rattle.std.specs.Prelude.{Bool, true, false, ◌&&◌, ◌≡◌, refl, ℕ, zero, suc, eqb}
use Rattle.pattern.specs.declared.types.Name.{Name}
use Rattle.pattern.specs.declared.types.Channel.{Channel}
use Rattle.pattern.specs.declared.types.Sign.{Sign}
use Rattle.pattern.specs.declared.types.Comparison.{Comparison}
use Rattle.pattern.specs.File.Types.{channel_number, opposite, other_of}
use Rattle.pattern.specs.File.Table.{end_of_path}
use Rattle.lines.specs.declared.line.CompareLine.{CompareLine}
use Rattle.lines.specs.declared.line.Side.{Side}
use Rattle.lines.specs.declared.line.Line.{Line}
use Rattle.lines.specs.Lines.{compare}

-- "has", "is", "held"
abbrev pub positive : Sign → Bool
positive Sign.Positive = true
positive Sign.Negative = false

-- "lacks", "is not", "barred"
abbrev pub negative : Sign → Bool
negative s = positive (opposite s)

abbrev pub opposed : Sign → Sign → Bool
opposed Sign.Positive s = negative s
opposed Sign.Negative s = positive s

abbrev pub is_same : Comparison → Bool
is_same Comparison.Same = true
is_same Comparison.Differ = false

abbrev pub is_differ : Comparison → Bool
is_differ c = is_same (other_of c)

abbrev pub same_comparison : Comparison → Comparison → Bool
same_comparison Comparison.Same c = is_same c
same_comparison Comparison.Differ c = is_differ c

abbrev pub same_channel : Channel → Channel → Bool
same_channel e d = eqb (channel_number e) (channel_number d)

abbrev pub same_name : Name → Name → Bool
same_name i j = eqb i.number j.number

abbrev pub same_side : Side → Side → Bool
same_side s t = same_name s.name t.name && eqb s.path t.path

-- "(i, end)"
abbrev pub at_end : Side → Bool
at_end s = eqb s.path end_of_path

abbrev pub both_at_end : CompareLine → Bool
both_at_end l = at_end l.left && at_end l.right

-- the channel of a number up to 3; a pattern that was read has no other
abbrev pub channel_at : ℕ → Channel
channel_at zero = Channel.C0
channel_at (suc zero) = Channel.C1
channel_at (suc (suc zero)) = Channel.C2
channel_at (suc (suc (suc n))) = Channel.C3

-- "the left side becomes .."; "the rest is kept"
abbrev pub with_left : CompareLine → Side → Line
with_left l s = compare l.sign l.comparison l.channel s l.right

-- ---- laws

-- a number that is none of the first three
pub channel_beyond : (n : ℕ) → (n ≡ 0 → ⊥) → (n ≡ 1 → ⊥) → (n ≡ 2 → ⊥) → channel_at n ≡ Channel.C3
channel_beyond zero a b c = absurd (a refl)
channel_beyond (suc zero) a b c = absurd (b refl)
channel_beyond (suc (suc zero)) a b c = absurd (c refl)
channel_beyond (suc (suc (suc n))) a b c = refl

pub channel_back : (e : Channel) → channel_at (channel_number e) ≡ e
channel_back Channel.C0 = refl
channel_back Channel.C1 = refl
channel_back Channel.C2 = refl
channel_back Channel.C3 = refl
