use Rattle.std.proofs.Common.{rules, refl, ◌%◌, ◌^◌, ◌==◌, not, length, sym, ◌∙◌}
use Rattle.std.specs.Char.{is_ascii_digit}
use Rattle.std.specs.List.{slice_split}
use Rattle.std.proofs.lemmas.List.{map-id}
use Rattle.std.proofs.lemmas.Iterator.{YieldsList-from_take, YieldsList-from_map}
use Rattle.std.proofs.lemmas.Iterator.Consumers.{YieldsList-at, YieldsList-from_filter, YieldsList-end}
use Rattle.std.proofs.lemmas.Iterator.Adapters.{YieldsList-from_flat_map}
use Rattle.std.proofs.lemmas.Iterator.Splits.{YieldsList-from_slice_split}
use borrow.Author.Tests.{tests}
use Rattle.script.specs.Numbers.{decimal_value, line_before_comment}
use Rattle.script.proofs.number.numbers.Goals as goal

pub returns : goal.returns
returns c =
    let t = YieldsList-end
    (YieldsList-at c.into_iter-number-iterator.ensures.into_iter_gives
    (YieldsList-from_take (length c.args.out.now) (YieldsList-at c.take-number-items.ensures.source
    (YieldsList-from_map _ (λ run. decimal_value run % 2 ^ 32) (YieldsList-at c.map-found.ensures.source
    (YieldsList-from_filter _ (λ run. not (length run == 0)) (YieldsList-at c.filter.ensures.source
    (YieldsList-from_flat_map _ _ _ (λ run. run.now) (λ line. slice_split (λ b. not (is_ascii_digit b)) (line_before_comment line)) _
    (λ x u q k. (search (rules, tests), λ j e. YieldsList-from_slice_split _ (λ b. not (is_ascii_digit b)) (line_before_comment x.now) (search (rules, tests)) (search (rules, tests)) refl (λ y b f h. search (rules, tests))))
    (YieldsList-at c.flat_map.ensures.source
    (YieldsList-from_slice_split _ (λ b. b == 10) c.args.s.now c.split.ensures.rest c.split.ensures.done c.split.ensures.closure (λ x b q k. search (rules, tests))))
    c.flat_map.ensures.closure c.flat_map.ensures.front c.flat_map.ensures.back c.flat_map.ensures.done))
    c.filter.ensures.closure (λ x r q k. search (rules, tests))))
    c.map-found.ensures.closure (λ x r q k. search (rules, tests))))
    c.take-number-items.ensures.count))
    c.loop-number.yielded _ c.loop-number.yielded_by _ _ c.in-None.is c.next.ensures.steps in
    c.loop-number.invariant.1 ∙ sym (map-id c.loop-number.yielded) ∙ t.0
