-- Which recordings have a file, in plain words.
use Rattle.std.specs.Prelude.{◌≡◌, ℕ, ◌^◌, ◌<◌, ◌≤◌, Bool, true, false, List, [], ◌∷◌, length, Some, None, Option}
use Rattle.bits.specs.Bits.{Bytes}
use Rattle.forms.specs.Code.{Means}
use Rattle.layout.specs.Recording.{Channel, Section, Recording}
use Rattle.layout.specs.Channels.{ruled, code_at}
use Rattle.layout.specs.Turns.{Turn, channel_of, memory_of, next_turn, first_turn}
use Rattle.layout.specs.Slim.{most_bytes, most_sections, most_channels, most_name, Flags, recorded, raw_total}
use Rattle.layout.specs.Claims.{file, Valid}

-- every element keeps a fact
unfoldable pub Every : {A : Type 0} → (A → Type 0) → List A → Type 0
Every P [] = Unit {0}
Every P (x ∷ xs) = P x × Every P xs

-- a fact of what is given, if it is
abbrev pub IfGiven : Option (List ℕ) → (List ℕ → Type 0) → Type 0
IfGiven None P = Unit {0}
IfGiven (Some bs) P = P bs

-- each word has a form
unfoldable pub Formed : List Channel → Turn → List ℕ → Type 0
Formed cs t [] = Unit {0}
Formed cs t (x ∷ xs) = ((s : List Bool) × Means (code_at (channel_of cs t.spot) (memory_of t)) s (Some x)) × Formed cs (next_turn cs t x) xs

pub record NameFits (bs : List ℕ) : Type 0 where
  pub short : length bs ≤ most_name
  pub letters : Every (λ b. (0 < b) × (b < 256)) bs

pub record ExtraFits (bs : List ℕ) : Type 0 where
  pub short : length bs ≤ 65535
  pub bytes : Bytes bs

pub record SectionFits (g : Flags) (s : Section) : Type 0 where
  pub some_channels : 0 < length s.channels
  pub few_channels : length s.channels ≤ most_channels
  pub one_channel : g.single ≡ true → length s.channels ≡ 1
  pub settings : Every (λ c. ruled c ≡ true) s.channels
  -- repeats that are not recorded are 1
  pub repeats : recorded g (length s.channels) ≡ false → Every (λ c. c.repeats ≡ 1) s.channels
  pub some_words : 0 < length s.words
  pub forms : Formed s.channels (first_turn s.channels) s.words

abbrev pub flags_of : Recording → Flags
flags_of r = record { pointed = r.pointed; single = r.single; unrepeated = r.unrepeated }

pub record RecordingFits (r : Recording) : Type 0 where
  pub stamp : r.stamp < 2 ^ 32
  pub name : IfGiven r.name NameFits
  pub extra : IfGiven r.extra ExtraFits
  pub some_sections : 0 < length r.sections
  pub few_sections : length r.sections ≤ most_sections
  pub sections : Every (SectionFits (flags_of r)) r.sections
  pub raw : raw_total r.sections ≤ most_bytes
  pub few_leftovers : length r.leftovers ≤ 7
  pub leftovers : Bytes r.leftovers
  pub small : length (file r) ≤ most_bytes

-- a recording has a file exactly when it keeps these limits and each word has a form
pub record ValidityIsPlain : Type 0 where
  pub fits : (r : Recording) → Valid r → RecordingFits r
  pub valid : (r : Recording) → RecordingFits r → Valid r
