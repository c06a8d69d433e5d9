-- A channel's coder in the code, and in the file's description.
use Rattle.std.specs.Prelude.{◌≡◌, ℕ, ◌%◌, ◌<◌, ◌≤◌, true, false, Some, None, Option}
use Rattle.forms.specs.Coding.{Coding}
use Rattle.forms.specs.Coders.{plain, turn, delta_if}
use Rattle.coders.specs.Chosen.{coding_of}
use Rattle.coders.specs.Flagged.{is_on, inner_of}
use Rattle.coders.specs.declared.kinds.Algorithm.{Algorithm}
use Rattle.coder.specs.declared.turn.Turn.{Turn}
use Rattle.coders.specs.declared.flagged.FlaggedDelta.{FlaggedDelta}
use Rattle.layout.specs.Recording as recordings
use Rattle.layout.specs.Channels.{width, suits, ruled, algorithm, pile}
use Rattle.channel.specs.declared.channel_coder.ChannelCoder.{ChannelCoder}
use Rattle.channel.specs.declared.channel_coder.ChannelCoder.TheVariants.{Byte, Half, Full}

-- the settings' algorithm at a width, which is there where the settings suit it
abbrev pub AlgorithmOf : (W : ℕ) → recordings.Channel → Option (Algorithm W) → Type 0
AlgorithmOf W c None = 0 < W → W ≤ 32 → suits W c.algorithm c.narrow c.value ≡ false
AlgorithmOf W c (Some a) = W ≡ width c.kind → coding_of W a ≡ plain (algorithm c)

-- a pile's coding: the turn, then the delta if it is on, then the algorithm
abbrev pub pile_coding : (W : ℕ) → Turn (FlaggedDelta (Algorithm W)) → Coding (ℕ × Unit {0})
pile_coding W p = turn W (p.by % W) (delta_if W (is_on p.inner) (coding_of W (inner_of p.inner)))

abbrev pub coder_coding : ChannelCoder → Coding (ℕ × Unit {0})
coder_coding (Byte p) = pile_coding 8 p
coder_coding (Half p) = pile_coding 16 p
coder_coding (Full p) = pile_coding 32 p

abbrev pub coder_width : ChannelCoder → ℕ
coder_width (Byte p) = 8
coder_width (Half p) = 16
coder_width (Full p) = 32

-- the pile of settings at a width
abbrev pub PileOf : (W : ℕ) → recordings.Channel → Option (Turn (FlaggedDelta (Algorithm W))) → Type 0
PileOf W c None = 0 < W → W ≤ 32 → suits W c.algorithm c.narrow c.value ≡ false
PileOf W c (Some p) = W ≡ width c.kind → pile_coding W p ≡ pile c

-- the coder of settings: there is one exactly where they keep the rules, and it is that of the file's description
abbrev pub CoderOf : recordings.Channel → Option ChannelCoder → Type 0
CoderOf c None = ruled c ≡ false
CoderOf c (Some k) = (ruled c ≡ true) × (coder_coding k ≡ pile c) × (coder_width k ≡ width c.kind)
