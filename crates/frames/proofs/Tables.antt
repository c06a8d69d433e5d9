-- What the rules say of a table's rows.
use Rattle.std.proofs.Common.{◌≡◌, ℕ, ◌+◌, ◌<◌, ◌≤◌, true, ◌&&◌, ltb, leb, List, [], ◌∷◌, length, get_or, drop, sym, ap, ◌∙◌, arith}
use lib.ListN.{length-map}
use Rattle.std.proofs.lemmas.List.{drop_more, get_or-map}
use Rattle.std.proofs.lemmas.Bool.{and_parts, ltb-true, leb-true}
use Rattle.layout.specs.Recording as recordings
use Rattle.layout.specs.Channels.{width, suits, ruled}
use Rattle.layout.specs.Turns.{no_channel}
use Rattle.layout.specs.Plain.{Every}
use Rattle.layout.specs.Slim.{most_channels}
use Rattle.layout.proofs.Spots.{every-at, word_some}
use Rattle.channel.specs.declared.record.Channel.{Channel}
use Rattle.channel.specs.Records.{settings_of}
use Rattle.calls.specs.Calls.{settings, describable, no_row}
use Rattle.frames.specs.Frames.{countable}
use Rattle.frames.proofs.Counts.{SomeBytes}
use Rattle.frames.proofs.Rows.{row}
use Rattle.frames.proofs.Whole.{SomeWords}

-- ## Do all rows keep the rules?

-- the settings of the row at an index
abbrev pub described : List Channel → ℕ → recordings.Channel
described t i = settings_of (get_or t i no_row)

ruled-next : (t : List Channel) (i : ℕ) → i < length t → describable true (settings (drop i t)) ≡ (ruled (described t i) && describable true (settings (drop (i + 1) t)))
unfolding describable
ruled-next t i l = ap (λ z. describable true (settings z)) (drop_more t i no_row l)

-- ## A table whose words can be counted

all-ruled : (cs : List recordings.Channel) → describable true cs ≡ true → Every (λ c. ruled c ≡ true) cs
unfolding describable Every
all-ruled [] h = tt
all-ruled (c ∷ cs) h = let (r, d) = and_parts (ruled c) (describable true cs) h in (r, all-ruled cs d)

-- the repeats of a row
pub record Repeats (c : recordings.Channel) : Type 0 where
  pub some : 0 < c.repeats
  pub few : c.repeats ≤ 16777215

pub repeats-kept : (c : recordings.Channel) → ruled c ≡ true → Repeats c
repeats-kept c h =
    let w = width c.kind in
    let (a, p) = and_parts (ltb 0 c.repeats) (leb c.repeats 16777215 && (ltb c.turn w && suits w c.algorithm c.narrow c.value)) h in
    let (b, _) = and_parts (leb c.repeats 16777215) (ltb c.turn w && suits w c.algorithm c.narrow c.value) p in
    record { some = ltb-true 0 c.repeats a; few = leb-true c.repeats 16777215 b }

pub record Table (cs : List recordings.Channel) : Type 0 where
  pub some : 0 < length cs
  pub few : length cs ≤ 32
  pub rules : (i : ℕ) → i < length cs → ruled (row cs i) ≡ true
  pub bytes : SomeBytes cs
  pub words : SomeWords cs

pub table_kept : (cs : List recordings.Channel) → countable cs ≡ true → Table cs
table_kept cs h =
    let (a, p) = and_parts (ltb 0 (length cs)) (leb (length cs) most_channels && describable true cs) h in
    let (b, d) = and_parts (leb (length cs) most_channels) (describable true cs) p in
    let e = all-ruled cs d in
    let r : (i : ℕ) → i < length cs → ruled (row cs i) ≡ true = λ i l. every-at (λ c. ruled c ≡ true) cs e i no_channel l in
    record { some = ltb-true 0 (length cs) a; few = leb-true (length cs) most_channels b; rules = r; bytes = word_some cs e; words = λ i l. (repeats-kept (row cs i) (r i l)).some }

-- a row of the table, and of its settings
pub rows-many : (t : List Channel) → length (settings t) ≡ length t
rows-many t = length-map t settings_of

pub row_is : (t : List Channel) (i : ℕ) → i < length t → row (settings t) i ≡ described t i
row_is t i l = get_or-map settings_of t i no_row no_channel l

pub row-ruled : (t : List Channel) (i : ℕ) → countable (settings t) ≡ true → i < length t → ruled (described t i) ≡ true
row-ruled t i h l = ap ruled (sym (row_is t i l)) ∙ (table_kept (settings t) h).rules i (omega (arith, rows-many t))
