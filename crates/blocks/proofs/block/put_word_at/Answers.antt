use Rattle.blocks.proofs.Parts.{lent-put}
use Rattle.blocks.proofs.block.put_word_at.Goals as goal

pub returns : goal.returns
returns c =
    lent-put c.args.raw.now c.args.index c.args.size c.new.result.bytes c.requires.some c.requires.most c.requires.room c.new.ensures c.put_raw_word.new.raw c.args.word c.are_bytes.ensures c.put_raw_word.ensures.bytes
