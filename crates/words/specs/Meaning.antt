-- What the code's answer says of a channel word, in the rules' terms.
use Rattle.rules.specs.State.{ChannelWord, nobody, plain, choosing}
use Rattle.words.specs.declared.Holder.{Holder}
use Rattle.words.specs.declared.Holder.TheVariants.{Nobody, Plain, Choosing}

abbrev pub meaning : Holder → ChannelWord
meaning Nobody = nobody
meaning (Plain p) = plain p
meaning (Choosing p) = choosing p
