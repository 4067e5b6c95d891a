-- What the making functions of the kind types answer: 01's "a making function that refuses out of range".
-- Assumes nothing.
use Rattle.std.specs.Prelude.{◌≡◌, refl, Bool, true, false, ℕ, ◌≤◌, ◌<◌, leb, Option, Some, None, Result, Ok, Err}
use Rattle.std.proofs.Common.{le-leb}
use Rattle.std.proofs.lemmas.Bool.{lt-leb}
use Rattle.wire.specs.Choice.{pick}
use Rattle.pattern.specs.declared.types.Name.{Name}
use Rattle.pattern.specs.declared.types.Property.{Property}
use Rattle.pattern.specs.declared.types.Axis.{Axis}
use Rattle.pattern.specs.declared.types.Channel.{Channel}
use Rattle.pattern.specs.declared.types.OutOfRange.{OutOfRange}
use Rattle.pattern.specs.File.Types.{channel_number}

-- a number up to the largest is made, any other is out of range
abbrev pub make : ℕ → ℕ → Option ℕ
make largest n = pick (leb n largest) (Some n) None

-- 01's number for each answer of a making function
abbrev pub name_made : Result Name OutOfRange → Option ℕ
name_made (Ok i) = Some i.number
name_made (Err e) = None

abbrev pub property_made : Result Property OutOfRange → Option ℕ
property_made (Ok p) = Some p.number
property_made (Err e) = None

abbrev pub axis_made : Result Axis OutOfRange → Option ℕ
axis_made (Ok a) = Some a.number
axis_made (Err e) = None

abbrev pub channel_made : Result Channel OutOfRange → Option ℕ
channel_made (Ok e) = Some (channel_number e)
channel_made (Err o) = None

-- ---- laws
pub make_in : (largest n : ℕ) → n ≤ largest → make largest n ≡ Some n
make_in largest n h = rw (le-leb n largest h)

pub make_out : (largest n : ℕ) → largest < n → make largest n ≡ None
make_out largest n h = rw (lt-leb n largest h)

pub made_within : (largest n k : ℕ) → Some k ≡ make largest n → true ≡ leb n largest
made_within largest n k e = go (leb n largest) e
  where
    go : (b : Bool) → Some k ≡ pick b (Some n) None → true ≡ b
    go true h = refl
    go false h = cc

pub out_beyond : (largest n : ℕ) → None ≡ make largest n → false ≡ leb n largest
out_beyond largest n e = go (leb n largest) e
  where
    go : (b : Bool) → None ≡ pick b (Some n) None → false ≡ b
    go true h = cc
    go false h = refl
