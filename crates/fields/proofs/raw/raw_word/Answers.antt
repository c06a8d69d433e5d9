use Rattle.std.proofs.Common.{◌≡◌, ℕ, length, sym, ◌∙◌, arith}
use Rattle.bits.proofs.Laws.{field-one, field-two, field-three, field-four}
use Rattle.fields.proofs.Within.{raw-room, raw-there}
use Rattle.fields.proofs.raw.raw_word.Goals as goal

pub returns-in-1 : goal.returns-in-1
returns-in-1 c =
    let f = c.args.raw.now in
    let p : ℕ = c.bytes-p.result in
    let (a, b, h) = raw-room p c.args.size (length f) c.lies_raw.result c.lies_raw.ensures c.if-not-lies_raw.false in
    raw-there f p c.args.at.bytes c.args.size 1 c.lies_raw.result c.lies_raw.ensures c.if-not-lies_raw.false c.bytes-p.ensures c.in-1.is _ (sym (field-one f p (omega (arith, h, c.in-1.is)) (λ i. (c.type_inv.raw i).fits)))

pub returns-in-2 : goal.returns-in-2
returns-in-2 c =
    let f = c.args.raw.now in
    let p : ℕ = c.bytes-p.result in
    let (a, b, h) = raw-room p c.args.size (length f) c.lies_raw.result c.lies_raw.ensures c.if-not-lies_raw.false in
    raw-there f p c.args.at.bytes c.args.size 2 c.lies_raw.result c.lies_raw.ensures c.if-not-lies_raw.false c.bytes-p.ensures c.in-2.is c.from_le_bytes.result (c.from_le_bytes.ensures ∙ sym (field-two f p (omega (arith, h, c.in-2.is)) (λ i. (c.type_inv.raw i).fits)))

pub returns-in-3 : goal.returns-in-3
returns-in-3 c =
    let f = c.args.raw.now in
    let p : ℕ = c.bytes-p.result in
    let (a, b, h) = raw-room p c.args.size (length f) c.lies_raw.result c.lies_raw.ensures c.if-not-lies_raw.false in
    let m = field-three f p (omega (arith, h, c.in-3.is)) (λ i. (c.type_inv.raw i).fits) in
    raw-there f p c.args.at.bytes c.args.size 3 c.lies_raw.result c.lies_raw.ensures c.if-not-lies_raw.false c.bytes-p.ensures c.in-3.is c.from_le_bytes-in-3.result (c.from_le_bytes-in-3.ensures ∙ omega (arith, m))

pub returns-in_default : goal.returns-in_default
returns-in_default c =
    let f = c.args.raw.now in
    let p : ℕ = c.bytes-p.result in
    let (a, b, h) = raw-room p c.args.size (length f) c.lies_raw.result c.lies_raw.ensures c.if-not-lies_raw.false in
    let k : c.args.size ≡ 4 = omega (arith, a, b) in
    raw-there f p c.args.at.bytes c.args.size 4 c.lies_raw.result c.lies_raw.ensures c.if-not-lies_raw.false c.bytes-p.ensures k c.from_le_bytes-in_default.result (c.from_le_bytes-in_default.ensures ∙ sym (field-four f p (omega (arith, h, k)) (λ i. (c.type_inv.raw i).fits)))
