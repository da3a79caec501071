use Rattle.std.proofs.Common.{ℕ, suc, ◌+◌, ◌<◌, ◌≤◌, ◌≡◌, sym, ap, ◌∙◌, List, [], add-one, add-zero, refl, arith, length, get_or, set, drop, drop-cons, drop_of_length-le}
use Rattle.std.proofs.lemmas.List.Edits.{sets}
use Rattle.table.proofs.set_words.Goals as goal

-- one word more is written
next_word : (t words : List ℕ) (at i : ℕ) → i < length words
    → sets t (at + i) (drop i words) ≡ sets (set t (at + i) (get_or words i 0)) (at + (i + 1)) (drop (i + 1) words)
next_word t words at i h =
    let e : suc (at + i) ≡ at + suc i = omega arith in
    rw (add-one, drop-cons words i 0) (ap (λ (a : ℕ). sets (set t (at + i) (get_or words i 0)) a (drop (suc i) words)) e)

-- none is left
no_word : (t words : List ℕ) (at i : ℕ) → length words ≤ i → sets t (at + i) (drop i words) ≡ t
no_word t words at i h = let none : drop i words ≡ [] = drop_of_length-le words h in rw none refl

pub loop-i-init : goal.loop-i-init
loop-i-init c = rw add-zero refl

pub loop-i-preserved : goal.loop-i-preserved
loop-i-preserved c =
    let now = c.loop-i in
    now.invariant ∙ next_word now.t c.args.words.now c.args.at now.i c.loop-i-test.true

pub returns : goal.returns
returns c =
    let now = c.loop-i in
    sym (now.invariant ∙ no_word now.t c.args.words.now c.args.at now.i (omega arith))
