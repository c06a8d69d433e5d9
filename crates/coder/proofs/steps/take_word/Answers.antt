use Rattle.coder.proofs.Words.{looked}
use Rattle.coder.proofs.steps.take_word.Goals as goal

pub returns-in-Ok : goal.returns-in-Ok
returns-in-Ok g c =
    looked (g.C.Coder.coding c.args.coder.now) (g.C.Coder.sound c.args.coder.now) c.args.memory c.args.file.now c.args.at.bits c.window_at.result c.window_at.ensures.bits c.window_at.ensures.len _ c.in-Ok.ensures

pub returns-in-Err-Dead : goal.returns-in-Err-Dead
returns-in-Err-Dead g c = rw c.at.ensures (looked (g.C.Coder.coding c.args.coder.now) (g.C.Coder.sound c.args.coder.now) c.args.memory c.args.file.now c.args.at.bits c.window_at.result c.window_at.ensures.bits c.window_at.ensures.len _ (rw c.in-Err-Dead.field-0-is at c.in-Err-Dead.ensures))

pub returns-in-Err-Partial : goal.returns-in-Err-Partial
returns-in-Err-Partial g c = rw c.at-in-Err-Partial.ensures (looked (g.C.Coder.coding c.args.coder.now) (g.C.Coder.sound c.args.coder.now) c.args.memory c.args.file.now c.args.at.bits c.window_at.result c.window_at.ensures.bits c.window_at.ensures.len _ (rw c.in-Err-Partial.field-0-is at c.in-Err-Partial.ensures))
