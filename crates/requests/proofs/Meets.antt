-- The replies and the tables of the code are those of the rules.
use Rattle.std.specs.Prelude.{⊤, Some, None, Result, Ok, Err}
use Prim.Native.Nat.{ℕ, ◌≤◌, ◌<◌}
use mathlib.Core.Path.{◌≡◌, refl, sym, ap, ◌∙◌, subst, subst₂}
use mathlib.Core.Bool.{Bool, true}
use mathlib.Core.List.{List, []}
use native.Mathlib.Omega.{arith}
use lib.ListN.{length, set}
use borrow.Author.Tests.{le-leb}
use Rattle.rules.specs.Lists.{within}
use Rattle.rules.specs.Numbers.{Answer, TAKEN, BUSY, GUARDS, Said, yes_with, no_because}
use Rattle.rules.specs.State.{Way, sending, receiving, look, enable_look, doing, due, go, ended, no_task, State, users}
use Rattle.rules.specs.Items.{data_word, alternation, progress, put}
use Rattle.rules.specs.Rule.{Rule, Ran, run, done, write, ◌>>◌}
use Rattle.rules.specs.Requests.{Request, send, receive, choose, yield, end, request, asks, unless, proper_end, proper_guards, choice_begun}
use Rattle.rules.specs.Layout.{process_at, process_place, process_data, process_progress, channel_writer, channel_reader, place_queued, place_ended, task_none, at_send_look, at_receive_look, due_go}
use Rattle.rules.specs.Packing.{view, m_of}
use Rattle.rules.proofs.Nth.{length_set_nth}
use Rattle.packing.specs.Queues.{push_table, Queued}
use Rattle.packing.proofs.Queued.{queued_put}
use Rattle.answers.specs.Said.{because}
use Rattle.answers.specs.declared.Refusal.{Refusal}
use Rattle.table.specs.declared.Sizes.{Sizes}
use Rattle.table.specs.declared.Process as code
use Rattle.queues.specs.Fits.{CanJoin}
use Rattle.queues.proofs.Joined.{may_join, joined, joined_inside}
use Rattle.parts.specs.Does.{Card, Comes, Does}
use Rattle.parts.specs.Shared.{task_table}
use Rattle.parts.proofs.Card.{facts, card_inside, card_order}
use Rattle.parts.proofs.Packs.{Packs, IsProcess, card_packs, still_process, progress_kept, place_written, data_written, task_written}
use Rattle.requests.specs.Asked.{Idle, asker, found, check_end, check_guards, look_table, begun_table, enabling_table}
use Rattle.requests.proofs.Running.{run_asks, running_range, Finds, finds}
use Rattle.requests.proofs.ChannelEnds.{Settled, passes, stops, end_word, end_settled, end_same}
use Rattle.requests.proofs.Guards.{same_ends, guards_settled}
use Rattle.requests.proofs.Written.{begun, looks, goes, enables}

-- what is left of a request once the ends of its channels are proper
abbrev send_rest : (p c v : ℕ) → Rule Answer
send_rest p c v = write data_word p v (write progress p (doing (look sending c)) (done (TAKEN p c)))

abbrev receive_rest : (p c : ℕ) → Rule Answer
receive_rest p c = write progress p (doing (look receiving c)) (done (TAKEN p c))

abbrev choose_rest : (p : ℕ) → List ℕ → Rule Answer
choose_rest p guards = write alternation p choice_begun (write progress p (doing (enable_look guards 1)) (done (TAKEN p 0)))

-- what is said, a, and the table u are what the rule says of a request x of process p on core k of the table t
abbrev pub Asks : List ℕ → (k p : ℕ) → Request → Said → List ℕ → Type 0
Asks t k p x a u = Does (asks (users (view t)) k p x) t a u

module _ {t : List ℕ} {sizes : Sizes} {k : ℕ} (card : Card t sizes.cores sizes.processes k) (all_channels : sizes.channels ≡ m_of t) where
  -- BUSY where no process is found
  pub busy_does : None ≡ found sizes (asker t sizes.cores k) → (x : Request) {a : Said} → a ≡ no_because BUSY
      → Does (request (users (view t)) x k) t a t
  busy_does none x {a} busy =
      let refusal = subst (Finds t sizes k card all_channels) (sym none) (finds t sizes k card all_channels) (users (view t)) x in
      subst (λ (z : Ran Answer). Comes z t a t) (sym refusal) (busy, refl)

  -- a process that is found has nothing in hand
  pub idle_found : {p : code.Process} → Some p ≡ found sizes (asker t sizes.cores k) → Idle t p.sizes k p.number
  idle_found some = subst (Finds t sizes k card all_channels) (sym some) (finds t sizes k card all_channels)

-- who has nothing in hand does what it is asked for
pub asked_does : {t : List ℕ} {sizes : Sizes} {k p : ℕ} → Idle t sizes k p → (x : Request) (a : Said) (u : List ℕ)
    → Asks t k p x a u → Does (request (users (view t)) x k) t a u
asked_does {t} {k = k} {p = p} idle x a u =
    subst (λ (z : Ran Answer). Comes z t a u) (sym (run_asks (view t) (users (view t)) x k p idle.runs idle.progress))

module _ {t : List ℕ} {sizes : Sizes} {k p : ℕ} (idle : Idle t sizes k p) where
  card : Card t sizes.cores sizes.processes k
  card = idle.card

  is : IsProcess (view t) p
  is = running_range card idle.runs

  packs : Packs t sizes.cores sizes.processes (view t)
  packs = card_packs card

  -- End
  pub end_does : {u : List ℕ} → u ≡ task_table (set t (process_at sizes.cores p process_place) place_ended) k task_none 0
      → Asks t k p end (yes_with (TAKEN p 0)) u
  end_does e = (refl, e ∙ (task_written (place_written packs p is ended) k (card_inside card) no_task task_none 0 refl).is_pack)

  -- Yield
  module _ {m : List ℕ} (stored : m ≡ set t (process_at sizes.cores p process_progress) due_go) where
    -- the state with GO due
    yielding : State
    yielding = put progress p (due go) (view t)

    yields : Packs m sizes.cores sizes.processes yielding
    unfolding yielding
    yields = rw stored (goes packs p is idle.progress)

    is_yielding : IsProcess yielding p
    unfolding yielding
    is_yielding = still_process (view t) p p _ is

    order : Queued yielding
    unfolding yielding
    order = queued_put progress p (due go) (view t) tt (card_order card)

    inside : k < length yielding.cores
    unfolding yielding
    inside = card_inside card

    -- what it needs to be queued
    pub yield_joins : CanJoin m sizes.cores k p
    unfolding yielding
    yield_joins = may_join yields k inside order p is_yielding (rw length_set_nth (facts t card.is_sound).sizes.processes.1)

    pub yield_does : {u : List ℕ} → u ≡ task_table (push_table (set m (process_at sizes.cores p process_place) place_queued) sizes.cores k p) k task_none 0
        → Asks t k p yield (yes_with (TAKEN p 0)) u
    unfolding yielding
    yield_does e =
        (refl, e ∙ (task_written (joined yields k inside order p is_yielding) k (joined_inside yields k inside order p is_yielding) no_task task_none 0 refl).is_pack)

  -- a request at an end of a channel, of which the rule q is left once the end is proper
  end_tested : (way : Way) (c : ℕ) (q : Rule Answer)
      → Settled (check_end t sizes p (end_word way) c) (run (proper_end (users (view t)) way p c >> q) (view t)) (run q (view t))
  end_tested way c q =
      subst (λ (r : Result ⊤ Refusal). Settled r (run (proper_end (users (view t)) way p c >> q) (view t)) (run q (view t)))
      (sym (end_same t sizes k card idle.all_channels way p c))
      (end_settled (view t) q (users (view t)) way p c)

  -- Send
  module _ (c v : ℕ) where
    pub send_refused : {why : Refusal} → Err why ≡ check_end t sizes p channel_writer c → {a : Said}
        → a ≡ no_because (because why) → Asks t k p (send c v) a t
    send_refused = stops t _ _ _ (end_tested sending c (send_rest p c v))

    pub send_does : {done : ⊤} → Ok done ≡ check_end t sizes p channel_writer c → {u : List ℕ}
        → u ≡ look_table (set t (process_at sizes.cores p process_data) v) sizes.cores p at_send_look c → Asks t k p (send c v) (yes_with (TAKEN p c)) u
    send_does good {u} e =
        passes t _ _ _ (end_tested sending c (send_rest p c v)) good _ u (
          refl,
          e ∙ (looks (data_written packs p is v) p (still_process (view t) p p _ is)
              (progress_kept data_word tt p v (view t) p ∙ idle.progress) sending c).is_pack,
        )

  -- Receive
  module _ (c : ℕ) where
    pub receive_refused : {why : Refusal} → Err why ≡ check_end t sizes p channel_reader c → {a : Said}
        → a ≡ no_because (because why) → Asks t k p (receive c) a t
    receive_refused = stops t _ _ _ (end_tested receiving c (receive_rest p c))

    pub receive_does : {done : ⊤} → Ok done ≡ check_end t sizes p channel_reader c → {u : List ℕ}
        → u ≡ look_table t sizes.cores p at_receive_look c → Asks t k p (receive c) (yes_with (TAKEN p c)) u
    receive_does good {u} e =
        passes t _ _ _ (end_tested receiving c (receive_rest p c)) good _ u
        (refl, e ∙ (looks packs p is idle.progress receiving c).is_pack)

  -- Choose
  module _ (guards : List ℕ) where
    after_number : Bool → Ran Answer
    after_number right = run (unless right GUARDS >> (proper_guards (users (view t)) p [] guards >> choose_rest p guards)) (view t)

    module _ (some : length guards ≡ 0 → ⊥) (few : length guards ≤ 8) where
      choose_tested : Settled (check_guards (check_end t sizes p channel_reader) [] guards)
          (run (asks (users (view t)) k p (choose guards)) (view t)) (run (choose_rest p guards) (view t))
      unfolding after_number
      choose_tested =
          let right : within 1 8 (length guards) ≡ true = rw (le-leb 1 (length guards) (omega arith), le-leb (length guards) 8 few) in
          let same = same_ends _ _ guards (λ c. end_same t sizes k card idle.all_channels receiving p c) in
          subst₂ (λ (r : Result ⊤ Refusal) (z : Ran Answer). Settled r z (run (choose_rest p guards) (view t))) (sym same)
          (sym (ap after_number right))
          (guards_settled (view t) (choose_rest p guards) (users (view t)) p [] guards)

      pub choose_refused : {why : Refusal} → Err why ≡ check_guards (check_end t sizes p channel_reader) [] guards → {a : Said}
          → a ≡ no_because (because why) → Asks t k p (choose guards) a t
      choose_refused = stops t _ _ _ choose_tested

      pub choose_does : {done : ⊤} → Ok done ≡ check_guards (check_end t sizes p channel_reader) [] guards → {u : List ℕ}
          → u ≡ enabling_table (begun_table t sizes.cores p) sizes.cores p guards → Asks t k p (choose guards) (yes_with (TAKEN p 0)) u
      choose_does good {u} e =
          passes t _ _ _ choose_tested good _ u (
            refl,
            e ∙ (enables (begun packs p is) p (still_process (view t) p p _ is)
                (progress_kept alternation tt p choice_begun (view t) p ∙ idle.progress) guards few).is_pack,
          )
