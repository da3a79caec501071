-- The steps of choosing keep a state valid.
use Rattle.std.specs.Prelude.{if◌then◌else◌}
use Prim.Native.Nat.{ℕ, zero, suc, ◌+◌, ◌≤◌, ◌<◌}
use native.Mathlib.Omega.{arith}
use mathlib.Core.Path.{◌≡◌, refl, ◌∙◌}
use mathlib.Core.Bool.{Bool, true, false, ◌||◌}
use mathlib.Core.List.{List}
use mathlib.Core.Option.{Option, none, some}
use lib.Dec.{T, eqb, ltb}
use lib.ListN.{length}
use borrow.Author.Tests.{ltb-true, eqb-false}
use Rattle.rules.specs.Numbers.{FAULT}
use Rattle.rules.specs.State.{
  receiving,
  Stage,
  enable_look,
  wait,
  disable,
  lower,
  finish,
  chose,
  due,
  Alternation,
  no_task,
  trigger,
  wake_up,
  free,
  ChannelWord,
  nobody,
  plain,
  choosing,
  State,
  Wiring,
}
use Rattle.rules.specs.Items.{alternation, channel_word, get, put, core_of}
use Rattle.rules.specs.Rule.{Rule, done, refuse, becomes, ◌>>=◌, ◌>>◌, run}
use Rattle.rules.specs.Steps.{next}
use Rattle.rules.specs.Choice.{
  guard,
  lowered,
  raised,
  enable_next,
  after_enable_look,
  enable_look_step,
  raise_step,
  name_placed,
  place_name_step,
  ready_from_look_step,
  ready_from_place_step,
  waits,
  wait_step,
  disable_next,
  keep_first,
  disabled,
  disable_step,
  lower_step,
  finished,
  finish_step,
  trigger_step,
  wake_task_step,
}
use Rattle.rules.specs.Soundness.{
  is_process,
  own_end,
  own_guards,
  in_list,
  ready_in_list,
  valid_enabling,
  valid_disabling,
  valid_stage,
  valid_word,
  valid_work,
}
use Rattle.rules.proofs.Tests.{tests, and_means, both, together, all_nth}
use Rattle.rules.proofs.Validity.Reflect.{Valid, good_of}
use Rattle.rules.proofs.Validity.Places.{Runs, running_good}
use Rattle.rules.proofs.Validity.Channels.{word_written}
use Rattle.rules.proofs.Validity.Rules.{
  Accepts,
  still_runs,
  alternation_written,
  next_keeps,
  reports_keeps,
  sleeps_keeps,
  work_written,
  task_given,
  wakes_keeps,
}

module _ {A : Type 0} (P : State → Type 0) (s : State) (rest : ℕ → Rule A) (after : (m : ℕ) → m ≤ 9 → Accepts P (run (rest m) s)) where
  -- a count raised stays in its range
  raised_keeps : (n : ℕ) → n ≤ 9 → Accepts P (run (raised n >>= rest) s)
  raised_keeps n small = by_test (eqb n 9) refl
    where
      by_test : (b : Bool) → eqb n 9 ≡ b → Accepts P (run ((if b then refuse FAULT else done (n + 1)) >>= rest) s)
      by_test true e = tt
      by_test false e = after (n + 1) (omega (arith, eqb-false n 9 e))

  -- and so does one lowered
  lowered_keeps : (n : ℕ) → n ≤ 9 → Accepts P (run (lowered n >>= rest) s)
  lowered_keeps zero small = tt
  lowered_keeps (suc n) small = after n (omega arith)

-- p may be at the stage that a test decides
either_stage : (w : Wiring) (p : ℕ) (b : Bool) (x y : Stage) → (b ≡ true → T (valid_stage w p x)) → T (valid_stage w p y)
    → T (valid_stage w p (if b then x else y))
either_stage w p true x y h g = h refl
either_stage w p false x y h g = g

module _ {w : Wiring} {k p : ℕ} {s : State} (h : Runs w k p s) where
  -- p's count is in its range
  count_small : (get alternation s p).count ≤ 9
  count_small = (running_good h).count

  -- with another alternation state p runs on
  counted : (a : Alternation) → a.count ≤ 9 → Runs w k p (put alternation p a s)
  counted a small = still_runs h refl (alternation_written h.valid p h.named a small)

  -- a guard is a channel that p reads
  own_guard : (gs : List ℕ) (i : ℕ) → T (own_guards w p gs) → T (in_list gs i) → T (own_end w receiving p (guard gs i))
  own_guard gs i own inside = all_nth (own_end w receiving p) gs i 0 (simp and_means at own).0.1 inside

  -- Stages with a guard
  module _ (gs : List ℕ) (i : ℕ) (its : T (valid_enabling w p gs i)) where
    own : T (own_guards w p gs)
    own = (both (own_guards w p gs) (in_list gs i) its).0

    inside : T (in_list gs i)
    inside = (both (own_guards w p gs) (in_list gs i) its).1

    -- p may be at the next guard, if there is one
    at_next : ltb i (length gs) ≡ true → T (valid_enabling w p gs (i + 1))
    at_next e = together (own_guards w p gs) (in_list gs (i + 1)) own (simp tests (omega arith, omega (arith, ltb-true i (length gs) e)))

    -- p may go on after this guard
    enabled : T (valid_stage w p (enable_next gs i))
    enabled = either_stage w p (ltb i (length gs)) (enable_look gs (i + 1)) (wait gs) at_next own

    -- with another word in the guard p runs on
    its_word : (x : ChannelWord) → T (valid_word w x) → Runs w k p (put channel_word (guard gs i) x s)
    its_word x named = still_runs h refl (word_written receiving p (guard gs i) h.valid (own_guard gs i own inside) x named)

    -- look
    pub enable_look_keeps : Accepts (Valid w) (run (enable_look_step p gs i) s)
    enable_look_keeps = next_keeps h _ (by_word (get channel_word s (guard gs i)))
      where
        by_word : (x : ChannelWord) → T (valid_stage w p (after_enable_look gs i x))
        by_word nobody = its
        by_word (plain q) = its
        by_word (choosing q) = its

    -- raise
    pub raise_keeps : Accepts (Valid w) (run (raise_step p gs i) s)
    raise_keeps = raised_keeps (Valid w) s _ (λ m small. next_keeps (counted _ small) _ its) _ count_small

    -- place
    pub place_keeps : Accepts (Valid w) (run (place_name_step p gs i) s)
    place_keeps = by_word (get channel_word s (guard gs i))
      where
        by_word : (x : ChannelWord) → Accepts (Valid w) (run (name_placed p gs i x) s)
        by_word nobody = next_keeps (its_word (choosing p) h.named) _ enabled
        by_word (plain q) = next_keeps h _ its
        by_word (choosing q) = next_keeps h _ its

    -- ready, from look
    pub ready_from_look_keeps : Accepts (Valid w) (run (ready_from_look_step p gs i) s)
    ready_from_look_keeps = next_keeps (counted _ count_small) _ enabled

    -- ready, from place
    pub ready_from_place_keeps : Accepts (Valid w) (run (ready_from_place_step p gs i) s)
    ready_from_place_keeps = lowered_keeps (Valid w) s _ (λ m small. next_keeps (counted _ small) _ enabled) _ count_small

  -- Stages with a guard and a first ready guard
  module _ (gs : List ℕ) (i : ℕ) (r : Option ℕ) (its : T (valid_disabling w p gs i r)) where
    here : T (valid_enabling w p gs i)
    here = (both (valid_enabling w p gs i) (ready_in_list gs r) its).0

    ready : T (ready_in_list gs r)
    ready = (both (valid_enabling w p gs i) (ready_in_list gs r) its).1

    -- p may go on after this guard
    disabled_next : (r' : Option ℕ) → T (ready_in_list gs r') → T (valid_stage w p (disable_next gs i r'))
    disabled_next r' ready' =
        either_stage w p (ltb i (length gs)) (disable gs (i + 1) r') (finish gs r')
        (λ e. together (valid_enabling w p gs (i + 1)) (ready_in_list gs r') (at_next gs i here e) ready')
        (together (own_guards w p gs) (ready_in_list gs r') (own gs i here) ready')

    -- the first ready guard lies in the list
    first_kept : (r' : Option ℕ) → T (ready_in_list gs r') → T (ready_in_list gs (keep_first r' i))
    first_kept none _ = inside gs i here
    first_kept (some j) lies = lies

    -- disable
    pub disable_keeps : Accepts (Valid w) (run (disable_step p gs i r) s)
    disable_keeps = by_word (get channel_word s (guard gs i))
      where
        by_owner : (b : Bool)
            → Accepts (Valid w)
            (run (if b then (becomes channel_word (guard gs i) nobody >> next p (lower gs i r)) else next p (disable_next gs i r)) s)
        by_owner true = next_keeps (its_word gs i here nobody tt) _ its
        by_owner false = next_keeps h _ (disabled_next r ready)

        by_word : (x : ChannelWord) → Accepts (Valid w) (run (disabled p gs i r x) s)
        by_word nobody = next_keeps h _ (disabled_next r ready)
        by_word (plain q) = next_keeps h _ (disabled_next (keep_first r i) (first_kept r ready))
        by_word (choosing q) = by_owner (eqb q p)

    -- lower
    pub lower_keeps : Accepts (Valid w) (run (lower_step p gs i r) s)
    lower_keeps = lowered_keeps (Valid w) s _ (λ m small. next_keeps (counted _ small) _ (disabled_next r ready)) _ count_small

  -- wait
  pub wait_keeps : (gs : List ℕ) → T (own_guards w p gs) → Accepts (Valid w) (run (wait_step k p gs) s)
  wait_keeps gs own = by_flag (get alternation s p).not_ready
    where
      first : T (valid_stage w p (disable gs 1 none))
      first =
          together (valid_enabling w p gs 1) true
          (together (own_guards w p gs) (in_list gs 1) own (simp tests (omega arith, (simp tests at own).0.0.0))) tt

      by_flag : (b : Bool) → Accepts (Valid w) (run (waits k p gs (get alternation s p) b) s)
      by_flag true = sleeps_keeps (counted _ count_small) _ no_task first tt tt
      by_flag false = next_keeps (counted _ count_small) _ first

  -- finish
  pub finish_keeps : (gs : List ℕ) (r : Option ℕ) → T (valid_stage w p (finish gs r)) → Accepts (Valid w) (run (finish_step k p gs r) s)
  finish_keeps gs none its = tt
  finish_keeps gs (some i) its = lowered_keeps (Valid w) s _ (λ m small. ends m (counted _ small)) _ count_small
    where
      ends : {s : State} (m : ℕ) → Runs w k p s → Accepts (Valid w) (run (finished k p (guard gs i) m) s)
      ends zero h' = reports_keeps h' (chose (guard gs i))
      ends (suc n) h' =
          let (own, ready) = both (own_guards w p gs) (in_list gs i) its in
          sleeps_keeps h' (due (chose (guard gs i))) no_task (own_guard gs i own ready) tt tt

-- The kernel tasks

module _ {w : Wiring} {k : ℕ} {s : State} (q : ℕ) (v : Valid w s) (on : k < w.K) (named : T (is_process w q)) where
  -- trigger q
  pub trigger_keeps : (core_of s k).work ≡ free (trigger q) → Accepts (Valid w) (run (trigger_step k q) s)
  trigger_keeps work =
      lowered_keeps (Valid w) s _
      (λ m small. task_given k (alternation_written v q named _ small) on (trigger q) _ work (by_test ((get alternation s q).waiting || eqb m 0)))
      _
      (good_of q v named).count
    where
      by_test : (b : Bool) → T (valid_work w (free (if b then wake_up q else no_task)))
      by_test true = named
      by_test false = tt

  -- wake q
  pub wake_task_keeps : (core_of s k).work ≡ free (wake_up q) → Accepts (Valid w) (run (wake_task_step k q) s)
  wake_task_keeps work =
      wakes_keeps k v on (Valid w) q _ named
      (λ v'. task_given k v' on (wake_up q) no_task (work_written k v on _ ∙ work) tt)
