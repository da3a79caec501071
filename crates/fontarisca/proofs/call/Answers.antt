-- What is told of the reply is what the call's definition says.
use Rattle.fontarisca.proofs.Told.{told_call}
use Rattle.fontarisca.proofs.call.Goals as goal

pub returns : goal.returns
returns c = rw (c.number.ensures, c.tell_reply.ensures) (told_call _ _ _ _ _ _ c.reply_to-reply.ensures)
