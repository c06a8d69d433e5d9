-- Channel records as the settings of recordings.
use Rattle.std.specs.Prelude.{ℕ, false, cond}
use Rattle.faults.specs.Faults.{Answer, gives, fault}
use Rattle.layout.specs.Recording as recordings
use Rattle.layout.specs.Channels.{ruled}
use Rattle.channel.specs.declared.record.Settings.{Settings}
use Rattle.channel.specs.declared.record.Channel.{Channel}

-- the settings of a row
abbrev pub described : Settings → recordings.Channel
described s = record
    { repeats = s.repeats; delta = s.delta; turn = s.turn; algorithm = s.algorithm; kind = s.kind; narrow = s.narrow; value = s.value }

abbrev pub settings_of : Channel → recordings.Channel
settings_of c = described c.settings

-- a row at its starting memory
abbrev pub rested : Channel → Channel
rested c = record { settings = c.settings; memory = 0 }

-- a row with another memory
abbrev pub remembering : Channel → ℕ → Channel
remembering c m = record { settings = c.settings; memory = m }

-- making a record: fault 6 at place 0 unless the settings keep the rules
abbrev pub channel_answer : recordings.Channel → Answer (recordings.Channel × ℕ)
channel_answer c = cond (ruled c) (gives (c, 0)) (fault 6 0)

abbrev pub parts : Channel → recordings.Channel × ℕ
parts c = (settings_of c, c.memory)

-- plain settings: words of 8 bits as they are
abbrev pub plain : recordings.Channel
plain = record { repeats = 1; delta = false; turn = 0; algorithm = 0; kind = 7; narrow = 0; value = 0 }
