use Rattle.std.proofs.Common.{◌≡◌, of_calls, sym, ap, ◌∙◌}
use Rattle.bits.specs.Bits.{bits_of}
use Rattle.faults.specs.declared.kind.Kind.TheVariants.{BadSetting}
use Rattle.faults.specs.Faults.{answered}
use Rattle.format.specs.Format.{got}
use Rattle.layout.specs.Recording as recordings
use Rattle.channel.specs.Records.{settings_of, parts}
use Rattle.channel.specs.declared.record.Channel.{Channel}
use Rattle.reading.specs.declared.taken.Taken.{Taken}
use Rattle.reading.specs.Descriptions.{with_added}
use Rattle.reading.proofs.Looks.{fault-is}
use Rattle.reading.proofs.Steps.{passed, with-is}
use Rattle.reading.proofs.Describing.{no-repeats, no-delta, no-turn, no-algorithm, no_kind, no-added, accepted, refused, made, unmade, row-made, row-unmade}
use Rattle.reading.proofs.source.Source.take_channel.Goals as goal

pub returns-in_err-repeats-clause-settings : goal.returns-in_err-repeats-clause-settings
returns-in_err-repeats-clause-settings c l =
    passed settings_of _ _ _ c.from_residual.ensures.1
    (no-repeats c.args.recorded (bits_of c.args.self.bytes.now) c.args.at.bits l c.in_err-repeats.ensures)

pub returns-in_err-delta-clause-settings : goal.returns-in_err-delta-clause-settings
returns-in_err-delta-clause-settings c l =
    passed settings_of _ _ _ c.from_residual-in_err-delta.ensures.1
    (no-delta c.args.recorded (bits_of c.args.self.bytes.now) c.args.at.bits l c.in_ok-repeats.ensures (c.in_err-delta.ensures _))

pub returns-in_err-turn-clause-settings : goal.returns-in_err-turn-clause-settings
returns-in_err-turn-clause-settings c l =
    passed settings_of _ _ _ c.from_residual-in_err-turn.ensures.1
    (no-turn c.args.recorded (bits_of c.args.self.bytes.now) c.args.at.bits l c.in_ok-repeats.ensures (c.in_ok-delta.ensures _) (c.in_err-turn.ensures _))

pub returns-in_err-algorithm-clause-settings : goal.returns-in_err-algorithm-clause-settings
returns-in_err-algorithm-clause-settings c l =
    passed settings_of _ _ _ c.from_residual-in_err-algorithm.ensures.1
    (no-algorithm c.args.recorded (bits_of c.args.self.bytes.now) c.args.at.bits l c.in_ok-repeats.ensures (c.in_ok-delta.ensures _) (c.in_ok-turn.ensures _)
    (c.in_err-algorithm.ensures _))

pub returns-in_err-kind-clause-settings : goal.returns-in_err-kind-clause-settings
returns-in_err-kind-clause-settings c l =
    passed settings_of _ _ _ c.from_residual-in_err-kind.ensures.1
    (no_kind c.args.recorded (bits_of c.args.self.bytes.now) c.args.at.bits l c.in_ok-repeats.ensures (c.in_ok-delta.ensures _) (c.in_ok-turn.ensures _)
    (c.in_ok-algorithm.ensures _) (c.in_err-kind.ensures _))

pub returns-in_err-added-clause-settings : goal.returns-in_err-added-clause-settings
returns-in_err-added-clause-settings c l =
    passed settings_of _ _ _ c.from_residual-in_err-added.ensures.1
    (no-added c.args.recorded (bits_of c.args.self.bytes.now) c.args.at.bits l c.in_ok-repeats.ensures (c.in_ok-delta.ensures _) (c.in_ok-turn.ensures _)
    (c.in_ok-algorithm.ensures _) (c.in_ok-kind.ensures _)
    (c.in_err-added.ensures c.in_ok-repeats.repeats.value c.in_ok-delta.delta.value c.in_ok-turn.turn.value))

pub returns-in_err-row-clause-settings : goal.returns-in_err-row-clause-settings
returns-in_err-row-clause-settings c l =
    let n = c.in_ok-repeats.repeats.value in
    let d = c.in_ok-delta.delta.value in
    let b = c.in_ok-turn.turn.value in
    let x = c.in_ok-added.added in
    let s : recordings.Channel = with_added n d b c.in_ok-algorithm.algorithm.value c.in_ok-kind.kind.value x.value in
    let (e, was, is) = row-unmade _ c.channel.result c.map_err.result c.in_err-row.field-0.0 (sym c.in_err-row.was) c.map_err.ensures.cases in
    let bad : c.in_err-row.field-0.0 ≡ record { kind = BadSetting; place = x.end.last } = search (of_calls, is) in
    let unruled = unmade s _ _ (ap (answered parts) (sym was) ∙ c.channel.ensures) in
    passed settings_of _ _ _ c.from_residual-in_err-row.ensures.1
    (fault-is bad
    (refused c.args.recorded (bits_of c.args.self.bytes.now) c.args.at.bits l c.in_ok-repeats.ensures (c.in_ok-delta.ensures _) (c.in_ok-turn.ensures _)
    (c.in_ok-algorithm.ensures _) (c.in_ok-kind.ensures _) (c.in_ok-added.ensures n d b) unruled))

pub returns : goal.returns
returns c =
    let n = c.in_ok-repeats.repeats.value in
    let d = c.in_ok-delta.delta.value in
    let b = c.in_ok-turn.turn.value in
    let x = c.in_ok-added.added in
    let s : recordings.Channel = with_added n d b c.in_ok-algorithm.algorithm.value c.in_ok-kind.kind.value x.value in
    let (ruled, same, start) = made s (parts c.in_ok-row.row) (ap (answered parts) (sym (row-made _ c.channel.result c.map_err.result c.in_ok-row.row (sym c.in_ok-row.was) c.map_err.ensures.cases)) ∙ c.channel.ensures) in
    record {
      settings = λ l. with-is settings_of c.with.ensures
          (ap (λ (z : recordings.Channel). got z x.end.at.bits x.end.last.bits) same
          ∙ accepted c.args.recorded (bits_of c.args.self.bytes.now) c.args.at.bits l c.in_ok-repeats.ensures (c.in_ok-delta.ensures _) (c.in_ok-turn.ensures _)
          (c.in_ok-algorithm.ensures _) (c.in_ok-kind.ensures _) (c.in_ok-added.ensures n d b) ruled);
      rest = ap (λ (z : Taken Channel). z.value.memory) c.with.ensures ∙ start;
    }
