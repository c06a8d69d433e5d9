-- A worked example: a recording and its file.
use Rattle.std.specs.Prelude.{◌≡◌, ℕ, true, false, List, [], ◌∷◌, None}
use Rattle.format.specs.Format.{got}
use Rattle.layout.specs.Recording.{Channel, Recording}
use Rattle.layout.specs.Slim.{read}
use Rattle.layout.specs.Claims.{file}

-- one channel of 8-bit words in reduced binary, R 3 and pedestal 10
abbrev pub example_channel : Channel
example_channel = record { repeats = 1; delta = false; turn = 0; algorithm = 1; kind = 7; narrow = 3; value = 10 }

-- four words, the last of them odd; only the size is flagged
abbrev pub example : Recording
example = record {
  stamp = 0;
  sized = true;
  pointed = false;
  single = false;
  unrepeated = false;
  name = None;
  extra = None;
  sections = record { channels = example_channel ∷ []; words = 0x0a ∷ 0x0c ∷ 0x10 ∷ 0x11 ∷ [] } ∷ [];
  leftovers = [];
}

abbrev pub example_file : List ℕ
example_file =
    0x53 ∷ 0x4c ∷ 0x00 ∷ 0x00 ∷ 0x00 ∷ 0x00 ∷ 0x01 ∷ 0x04 ∷ 0x00 ∷ 0x00 ∷ 0x00 ∷ 0x04 ∷ 0x00 ∷ 0x00 ∷ 0x00 ∷ 0x01 ∷
    0x00 ∷ 0x00 ∷ 0x40 ∷ 0x9c ∷ 0x82 ∷ 0x80 ∷ 0xfc ∷ 0x88 ∷ 0x07 ∷ []

-- the file of the recording, and what is read from it: the place behind it, and the last field, which is the tag
pub record ExampleStands : Type 0 where
  pub written : file example ≡ example_file
  pub read_back : read example_file ≡ got example 200 191
