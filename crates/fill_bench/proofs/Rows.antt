-- From a row's settings to the section that is filled.
use Rattle.std.proofs.Common.{◌≡◌, ℕ, Bool, true, false, cond, List, [], ◌∷◌, None, Ok, Result, sym, refl, ap, ◌∙◌, arith}
use Rattle.faults.specs.Faults.{Answer, gives, fault}
use Rattle.layout.specs.Recording as recordings
use Rattle.layout.specs.Channels.{ruled}
use Rattle.channel.specs.declared.record.Settings.{Settings}
use Rattle.channel.specs.declared.record.Channel.{Channel}
use Rattle.channel.specs.Records.{settings_of, rested, channel_answer, parts}
use Rattle.state.specs.declared.Edge.{Edge}
use Rattle.state.specs.declared.Spot.{Spot}
use Rattle.calls.specs.Calls.{Trouble, begin_result, begin_bytes, fill_result, fill_bytes}
use Rattle.fill_bench.specs.Files.{sized_only, sum, sum_behind, bytes_behind, filled_bits, filled_bytes}

-- a row is made: at its starting memory
made : (s c : Channel) → gives (parts c) ≡ channel_answer (settings_of s) → (ruled (settings_of s) ≡ true) × (c ≡ rested s)
made s c e = go (ruled (settings_of s)) e
  where
    settings_by : recordings.Channel → Settings
    settings_by x = record { repeats = x.repeats; delta = x.delta; turn = x.turn; algorithm = x.algorithm; kind = x.kind; narrow = x.narrow; value = x.value }

    row_by : Answer (recordings.Channel × ℕ) → Channel
    row_by (gives (x, m)) = record { settings = settings_by x; memory = m }
    row_by (fault k p) = s

    go : (t : Bool) → ◌≡◌ {A = Answer (recordings.Channel × ℕ)} (gives (parts c)) (cond t (gives (settings_of s, 0)) (fault 6 0)) → (t ≡ true) × (c ≡ rested s)
    go true d = (refl, ap row_by d)
    go false d = let z : ◌≡◌ {A = ℕ} 0 1 = cc in absurd (omega arith)

-- and its section is filled
pub fills : (s c : Channel) → gives (parts c) ≡ channel_answer (settings_of s) → s ≡ rested s → (raw b b1 b2 : List ℕ) (e : Edge) → Ok e ≡ begin_result 0 sized_only None None b → b1 ≡ begin_bytes 0 sized_only None None b →
    (x : Result (ℕ × Spot) (Edge × Trouble)) → x ≡ fill_result e b1 (c ∷ []) raw → b2 ≡ fill_bytes e b1 (c ∷ []) raw → (sum x ≡ filled_bits s raw b) × (b2 ≡ filled_bytes s raw b)
fills s c m i raw b b1 b2 e a w x y z =
    let (t, r) = made s c m in
    let q : c ≡ s = r ∙ sym i in (
      ap sum y ∙ ap (λ h. sum (fill_result e b1 (h ∷ []) raw)) q ∙ ap (λ h. sum_behind (Ok e) s raw h) w ∙ ap (λ h. sum_behind h s raw (begin_bytes 0 sized_only None None b)) a
          ∙ sym (ap (λ h. cond h (sum_behind (begin_result 0 sized_only None None b) s raw (begin_bytes 0 sized_only None None b)) 0) t),
      z ∙ ap (λ h. fill_bytes e b1 (h ∷ []) raw) q ∙ ap (λ h. bytes_behind (Ok e) s raw h) w ∙ ap (λ h. bytes_behind h s raw (begin_bytes 0 sized_only None None b)) a
          ∙ sym (ap (λ h. cond h (bytes_behind (begin_result 0 sized_only None None b) s raw (begin_bytes 0 sized_only None None b)) b) t),
    )
