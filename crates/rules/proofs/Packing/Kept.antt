-- What is kept of a queue: its last process and its size, and of a run queue its last head.
use Prim.Native.Nat.{◌-◌}
use mathlib.Core.Path.{◌∙◌}
use lib.Dec.{lit<}
use lib.ListN.{length}
use Rattle.rules.specs.Lists.{last}
use Rattle.rules.specs.Layout.{core_first, core_last, core_size, core_last_head, process_next, process_last, process_size}
use Rattle.rules.specs.Claims.{KeptWords}
use Rattle.rules.proofs.Packing.Reflect.{valid_means}
use Rattle.rules.proofs.Packing.Chains.{head_range, head_keeps}
use Rattle.rules.proofs.Packing.Reading.{queue_word, link_word}

pub kept_words : KeptWords
kept_words = record {
  cores = λ s k b. let at = queue_word s k b in
      (at (core_last - core_first) (lit< tt), at (core_size - core_first) (lit< tt), at (core_last_head - core_first) (lit< tt));
  batches = λ s k i good b c.
      let v = valid_means s good in
      let (low, high) = head_range s v k b i c in
      let link = link_word s _ low high in (
        link (process_last - process_next) (lit< tt) ∙ head_keeps s v last k b i c,
        link (process_size - process_next) (lit< tt) ∙ head_keeps s v length k b i c,
      );
}
