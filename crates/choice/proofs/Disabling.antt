-- What the wait and the steps of disabling come to: by a word that the code reads, the words that it writes then.
use Rattle.std.specs.Prelude.{if◌then◌else◌}
use Prim.Native.Nat.{ℕ, zero, suc, ◌+◌}
use mathlib.Core.Path.{◌≡◌, refl, sym, ap, ◌∙◌, subst}
use mathlib.Core.Bool.{Bool, true, false}
use mathlib.Core.List.{List, [], ◌∷◌}
use mathlib.Core.Option.{Option, none}
use native.Mathlib.Omega.{arith}
use lib.Dec.{eqb, lit<}
use lib.ListN.{get_or, set}
use lib.Seq.{set-set, get_or-set_same}
use borrow.Author.Tests.{eq-eqb, ne_eqb}
use Rattle.rules.specs.Lists.{bit}
use Rattle.rules.specs.Numbers.{Answer, Refusal, Said, MOVED, SLEPT, yes_with, no_because}
use Rattle.rules.specs.State.{wait, disable, lower, finish, Progress, doing, Alternation, Process, no_task, ChannelWord, nobody, plain, choosing, State}
use Rattle.rules.specs.Items.{process_of, no_process, put, alternation, progress}
use Rattle.rules.specs.Rule.{Rule, done, refuse, run, becomes, ◌>>◌}
use Rattle.rules.specs.Steps.{next}
use Rattle.rules.specs.Choice.{guard, counting, flags, waits, wait_step, disable_next, keep_first, disabled, disable_step, lower_step, lowered}
use Rattle.rules.specs.Layout.{process_at, channel_at, at_disable, at_finish, at_lower, at_wait, channel_holder, process_count}
use Rattle.rules.specs.Layout.{process_enabling, process_first_ready, process_not_ready, process_progress, process_waiting}
use Rattle.rules.specs.Layout.{task_none}
use Rattle.rules.specs.Packing.{ready_number, progress_words, pack, view, word_numbered}
use Rattle.parts.specs.Does.{At, Comes, Does}
use Rattle.parts.specs.Shared.{asleep_table}
use Rattle.parts.proofs.Card.{card_inside}
use Rattle.parts.proofs.Packs.{IsProcess, still_process, process_read, asleep_written}
use Rattle.parts.proofs.Flags.{clear_flag, set_flag}
use Rattle.guards.specs.Read.{word_of, index_at, count_at, counted_table, guard_word_at, AtGuard, stage_table, next_table, flags_table, kept_table}
use Rattle.guards.proofs.Guards.{in_alternation, Chooses, at_chooses, index_reads, ready_reads, same_guard, other_guard, next_packs}
use Rattle.guards.proofs.Guards.{alternation_chooses, ready_chooses, word_chooses}
use Rattle.guards.proofs.Rules.{kept_number, by_count}
use Rattle.guards.proofs.Stands.{Stands, disabling_stands, guard_among, guard_is, has_guard, found_word}

-- Two changes of one process's progress are one.
pub put_twice : (s : State) (p : ℕ) (x y : Progress) → IsProcess s p → put progress p y (put progress p x s) ≡ put progress p y s
put_twice s zero x y among = absurd (omega arith)
put_twice s (suc p) x y among =
    ap (λ (q : Process). with_processes (set (set s.processes p between) p (with_progress y q)))
    (get_or-set_same s.processes p between no_process (omega arith))
    ∙ ap with_processes (set-set s.processes p between (with_progress y old))
  where
    with_progress : Progress → Process → Process
    with_progress z r = record { place = r.place; data_word = r.data_word; alternation = r.alternation; progress = z }

    with_processes : List Process → State
    with_processes l = record { cores = s.cores; processes = l; channels = s.channels }

    old : Process
    old = process_of s (suc p)

    between : Process
    between = with_progress x old

-- From a guard that is disabled the choice goes to the next.
disabled_packs : {t : List ℕ} {cores processes : ℕ} {s : State} {p n : ℕ} {gs : List ℕ} {i : ℕ} {x : Option ℕ}
    → Chooses t cores processes s p n gs i x → next_table t cores p at_disable at_finish ≡ pack (put progress p (doing (disable_next gs i x)) s)
unfolding progress_words
disabled_packs {gs = gs} {i} {x} h = next_packs h (disable gs (i + 1) x) (finish gs x) at_disable at_finish refl refl

module _ {t : List ℕ} {cores processes k p : ℕ} {gs : List ℕ} where
  -- Wait

  module _ (at : At t cores processes k p (wait gs)) where
    wait_chooses : Chooses t cores processes (view t) p at_wait gs 0 none
    unfolding progress_words
    wait_chooses = at_chooses at at_wait gs 0 none refl

    abbrev waiter : Alternation
    waiter = (process_of (view t) p).alternation

    flag_is : word_of t cores p process_not_ready ≡ bit waiter.not_ready
    flag_is = process_read wait_chooses.packs p wait_chooses.among process_not_ready (lit< tt)

    -- a guard is ready
    pub wait_ready : {r : Said} {u : List ℕ} → word_of t cores p process_not_ready ≡ 0 → r ≡ yes_with MOVED
        → u ≡ stage_table (set t (process_at cores p process_enabling) 0) cores p 1 at_disable → Does (wait_step k p gs) t r u
    unfolding progress_words
    wait_ready {r} {u} e a b =
        let clear : waiter.not_ready ≡ false = clear_flag waiter.not_ready (sym flag_is ∙ e) in
        subst (λ (y : Bool). Comes (run (waits k p gs waiter y) (view t)) t r u) (sym clear) (
          a,
          b ∙ (other_guard (alternation_chooses wait_chooses (flags false false waiter.waiting waiter) ((in_alternation process_enabling, 0) ∷ []) tt
              (ap (λ (y : Bool). 0 ∷ bit y ∷ bit waiter.waiting ∷ waiter.count ∷ []) clear)) (disable gs 1 none) at_disable 1 refl).is_pack,
        )

    -- none is. The word read is n, the tables on the way are v and w.
    pub wait_asleep : {r : Said} {u v w : List ℕ} {n : ℕ} → n ≡ word_of t cores p process_not_ready → (n ≡ 0 → ⊥)
        → v ≡ flags_table t cores p 0 0 1 → w ≡ stage_table v cores p 1 at_disable → r ≡ yes_with (SLEPT p)
        → u ≡ asleep_table w cores k p task_none 0 → Does (wait_step k p gs) t r u
    unfolding progress_words
    wait_asleep {r} {u} reads ne first second a b =
        let put_flags =
        alternation_chooses wait_chooses (flags false false true waiter)
        ((in_alternation process_enabling, 0) ∷ (in_alternation process_not_ready, 0) ∷ (in_alternation process_waiting, 1) ∷ []) tt refl in
        let waiting : State = put alternation p (flags false false true waiter) (view t) in
        let none_ready : waiter.not_ready ≡ true = set_flag waiter.not_ready (λ e. ne (reads ∙ flag_is ∙ e)) in
        subst (λ (y : Bool). Comes (run (waits k p gs waiter y) (view t)) t r u) (sym none_ready) (
          a,
          b ∙ ap (λ (l : List ℕ). asleep_table l cores k p task_none 0) (second ∙ ap (λ (l : List ℕ). stage_table l cores p 1 at_disable) first)
              ∙ (asleep_written (other_guard put_flags (disable gs 1 none) at_disable 1 refl) k (card_inside at.card) p
              (still_process waiting p p _ put_flags.among) no_task task_none 0 refl).is_pack,
        )

  -- Disable

  module _ {i : ℕ} {x : Option ℕ} (at : At t cores processes k p (disable gs i x)) where
    disable_stands : Stands t cores processes k p at_disable gs i x
    unfolding progress_words
    disable_stands = disabling_stands at refl refl

    pub disable_guard : AtGuard t cores processes p
    disable_guard = has_guard disable_stands

    -- the code has read the word as n, the number of w
    module _ {w : ChannelWord} {n : ℕ} (found : w ≡ word_numbered n) (reads : n ≡ get_or t (guard_word_at t cores processes p) 0) where
      by_word : (r : Said) (u : List ℕ) → Comes (run (disabled p gs i x w) (view t)) t r u → Does (disable_step p gs i x) t r u
      by_word r u =
          subst (λ (y : ChannelWord). Comes (run (disabled p gs i x y) (view t)) t r u)
          (found ∙ ap word_numbered reads ∙ found_word disable_stands)

    module _ {n : ℕ} {r : Said} {u : List ℕ} where
      pub disable_nobody : nobody ≡ word_numbered n → n ≡ get_or t (guard_word_at t cores processes p) 0
          → r ≡ yes_with MOVED → u ≡ next_table t cores p at_disable at_finish → Does (disable_step p gs i x) t r u
      disable_nobody found reads a b = by_word found reads r u (a, b ∙ disabled_packs disable_stands.chooses)

      pub disable_ready : {q : ℕ} → plain q ≡ word_numbered n → n ≡ get_or t (guard_word_at t cores processes p) 0
          → r ≡ yes_with MOVED → u ≡ next_table (kept_table t cores p) cores p at_disable at_finish → Does (disable_step p gs i x) t r u
      unfolding progress_words
      disable_ready found reads a b =
          let was : ℕ = word_of t cores p process_first_ready in
          let kept : (if eqb was 0 then index_at t cores p else was) ≡ ready_number (keep_first x i) =
          rw (ready_reads disable_stands.chooses, index_reads disable_stands.chooses) (kept_number gs x i disable_stands.ready) in
          by_word found reads r u (
            a,
            b ∙ disabled_packs (ready_chooses disable_stands.chooses (disable gs i (keep_first x i)) _ (keep_first x i) kept refl)
                ∙ ap pack (put_twice (view t) p _ _ disable_stands.chooses.among),
          )

      pub disable_own : {q : ℕ} → choosing q ≡ word_numbered n → n ≡ get_or t (guard_word_at t cores processes p) 0 → q ≡ p
          → r ≡ yes_with MOVED → u ≡ set (set t (guard_word_at t cores processes p) 0) (process_at cores p process_progress) at_lower
          → Does (disable_step p gs i x) t r u
      unfolding progress_words
      disable_own {q} found reads own a b =
          by_word found reads r u
          (rw (eq-eqb q p own) (
            a,
            b
                ∙ ap (λ (c : ℕ). set (set t (channel_at cores processes c channel_holder) 0) (process_at cores p process_progress) at_lower)
                (guard_is disable_stands)
                ∙ same_guard (word_chooses disable_stands.chooses (guard gs i) (guard_among disable_stands) nobody) (lower gs i x) at_lower refl,
          ))

      pub disable_other : {q : ℕ} → choosing q ≡ word_numbered n → n ≡ get_or t (guard_word_at t cores processes p) 0
          → (q ≡ p → ⊥) → r ≡ yes_with MOVED → u ≡ next_table t cores p at_disable at_finish → Does (disable_step p gs i x) t r u
      disable_other {q} found reads other a b =
          by_word found reads r u (rw (ne_eqb q p other) (a, b ∙ disabled_packs disable_stands.chooses))

  -- Lower

  module _ {i : ℕ} {x : Option ℕ} (at : At t cores processes k p (lower gs i x)) where
    lower_stands : Stands t cores processes k p at_lower gs i x
    unfolding progress_words
    lower_stands = disabling_stands at refl refl

    -- what follows the count
    abbrev lowering : ℕ → Rule Answer
    lowering n = becomes alternation p (counting n (process_of (view t) p).alternation) >> next p (disable_next gs i x)

    pub lower_fault : {why : Refusal} {r : Said} {u : List ℕ} → refuse why ≡ lowered (count_at t cores p) → r ≡ no_because why → u ≡ t
        → Does (lower_step p gs i x) t r u
    lower_fault {why} {r} {u} made a b = by_count lower_stands.chooses.packs p lower_stands.chooses.among lowered lowering (refuse why) made r u (a, b)

    pub lower_done : {n : ℕ} {r : Said} {u : List ℕ} → done n ≡ lowered (count_at t cores p) → r ≡ yes_with MOVED
        → u ≡ next_table (counted_table t cores p n) cores p at_disable at_finish → Does (lower_step p gs i x) t r u
    lower_done {n} {r} {u} made a b =
        by_count lower_stands.chooses.packs p lower_stands.chooses.among lowered lowering (done n) made r u (
          a,
          b ∙ disabled_packs (alternation_chooses lower_stands.chooses (counting n (process_of (view t) p).alternation)
              ((in_alternation process_count, n) ∷ []) tt refl),
        )
