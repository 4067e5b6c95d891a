-- 01's ranges of names, properties, axes and channels, and the enums that go with them.
-- Assumes nothing.
use Rattle.std.specs.Prelude.{ℕ}
use Rattle.pattern.specs.declared.types.Channel.{Channel}
use Rattle.pattern.specs.declared.types.Sign.{Sign}
use Rattle.pattern.specs.declared.types.Comparison.{Comparison}

-- 01: "Names run from 0 to 127, properties 0 to 31, axes 0 to 7, channels 0 to 3."
abbrev pub max_name : ℕ
max_name = 127

abbrev pub max_property : ℕ
max_property = 31

abbrev pub max_axis : ℕ
max_axis = 7

abbrev pub max_channel : ℕ
max_channel = 3

-- 01's number of each channel
abbrev pub channel_number : Channel → ℕ
channel_number Channel.C0 = 0
channel_number Channel.C1 = 1
channel_number Channel.C2 = 2
channel_number Channel.C3 = 3

-- has for lacks, is for is not, held for barred, and back
abbrev pub opposite : Sign → Sign
opposite Sign.Positive = Sign.Negative
opposite Sign.Negative = Sign.Positive

-- 01, rule 16: "the other of same and differ"
abbrev pub other_of : Comparison → Comparison
other_of Comparison.Same = Comparison.Differ
other_of Comparison.Differ = Comparison.Same
