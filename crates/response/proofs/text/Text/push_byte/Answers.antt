use Rattle.std.proofs.Common.{◌∷◌, [], arith}
use Rattle.response.proofs.Onto.{push_room, push_full}
use Rattle.response.proofs.text.Text.push_byte.Goals as goal

pub returns-then-self-lt256 : goal.returns-then-self-lt256
returns-then-self-lt256 c = push_room c.args.self.now.bytes c.args.self.now.len c.args.byte (omega arith) (omega arith)

pub returns-else-self-lt256 : goal.returns-else-self-lt256
returns-else-self-lt256 c = push_full c.args.self.now.bytes (c.args.byte ∷ []) c.args.self.now.len (omega arith) (omega arith) (omega arith)
