-- A file as it is read: its head, and what follows the head.
use Rattle.format.specs.Format.{Format, whole, ◌>>=◌, ◌∈◌, judged}
use Rattle.layout.specs.Recording.{Recording}
use Rattle.layout.specs.Slim as slim
use Rattle.layout.specs.Slim.{most_sections, flag, raw_total, Body, chain}
use Rattle.reading.specs.Heads as heads
use Rattle.reader.specs.Sections.{agrees}

-- the flags that sections go by
abbrev pub section_flags : heads.Head → slim.Flags
section_flags h = record { pointed = flag 3 h.flags; single = flag 4 h.flags; unrepeated = flag 5 h.flags }

-- a recording: what its head says, and its sections and leftovers
abbrev pub recording_of : heads.Head → Body → Recording
recording_of h b = record {
  stamp = h.stamp;
  sized = flag 0 h.flags;
  pointed = flag 3 h.flags;
  single = flag 4 h.flags;
  unrepeated = flag 5 h.flags;
  name = h.name;
  extra = h.extra;
  sections = b.sections;
  leftovers = b.leftovers;
}

abbrev pub body_of : Recording → Body
body_of r = record { sections = r.sections; leftovers = r.leftovers }

-- the sections and the leftovers; the size is judged last
unfoldable pub after_head : heads.Head → Format Recording
after_head h = judged (do
  b ← body_of ∈ chain (section_flags h) most_sections 0
  whole (recording_of h b)) (λ r q. agrees h.size (raw_total r.sections)) 14
