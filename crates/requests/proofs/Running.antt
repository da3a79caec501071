-- The process that runs on a core of a sound table, and whether it has anything in hand.
use Rattle.std.specs.Prelude.{Option, Some, None, if◌then◌else◌}
use Prim.Native.Nat.{ℕ, ◌<◌}
use mathlib.Core.Path.{◌≡◌, refl, sym, ap, ◌∙◌, subst}
use mathlib.Core.Bool.{Bool, true, false}
use mathlib.Core.List.{List, [], ◌∷◌}
use native.Mathlib.Omega.{arith}
use lib.Dec.{eqb, lit<}
use lib.ListN.{length, get_or}
use borrow.Author.Tests.{eqb-true, eqb-false, eq-eqb, ne_eqb}
use Rattle.rules.specs.Numbers.{Answer, BUSY}
use Rattle.rules.specs.State.{Progress, nothing, doing, due, Task, no_task, trigger, wake_up, Work, runs, free, State, Wiring}
use Rattle.rules.specs.Items.{core_of, process_of}
use Rattle.rules.specs.Rule.{Ran, run, refused, ◌>>=◌}
use Rattle.rules.specs.Requests.{Request, request, requester, nothing_in_hand, asks}
use Rattle.rules.specs.Layout.{process_at, core_runs, core_task, core_task_process, process_progress, at_nothing}
use Rattle.rules.specs.Packing.{view, m_of, work_numbered, progress_numbered, progress_words, word_at, word_of_core, word_of_process}
use Rattle.rules.proofs.Tests.{within_means}
use Rattle.parts.specs.Does.{Card}
use Rattle.parts.proofs.Card.{card_core, card_process, work_valid, cores_are, processes_are, n_is, m_is, length_is}
use Rattle.parts.proofs.Seen.{work_seen, progress_seen}
use Rattle.parts.proofs.Packs.{IsProcess, card_packs, progress_read}
use Rattle.table.specs.declared.Sizes.{Sizes}
use Rattle.table.specs.declared.Process as code
use Rattle.requests.specs.Asked.{Idle, HasRunning, asker, found}

-- what a request comes to, from the core's work and from the running process's progress
module _ (s : State) (w : Wiring) (x : Request) (k : ℕ) where
  abbrev from_work : Work → Ran Answer
  from_work y = run (requester y >>= (λ p. asks w k p x)) s

  abbrev from_progress : ℕ → Progress → Ran Answer
  from_progress p y = run (nothing_in_hand p y >>= (λ p. asks w k p x)) s

  -- a process with nothing in hand is asked for its request
  pub run_asks : (p : ℕ) → (core_of s k).work ≡ runs p → (process_of s p).progress ≡ nothing → run (request w x k) s ≡ run (asks w k p x) s
  run_asks p on idle = ap from_work on ∙ ap (from_progress p) idle

  -- any other is refused
  refused_free : (y : Task) → (core_of s k).work ≡ free y → run (request w x k) s ≡ refused BUSY
  refused_free y e = ap from_work e

  refused_busy : (p : ℕ) → (core_of s k).work ≡ runs p → ((process_of s p).progress ≡ nothing → ⊥)
      → run (request w x k) s ≡ refused BUSY
  refused_busy p e busy = ap from_work e ∙ cases (process_of s p).progress refl
    where
      cases : (y : Progress) → (process_of s p).progress ≡ y → from_progress p y ≡ refused BUSY
      cases nothing e' = absurd (busy e')
      cases (doing y) e' = refl
      cases (due y) e' = refl

-- the process that core k runs, 0 for none, and its task, as the table has them
abbrev runner : List ℕ → ℕ → ℕ
runner t k = word_of_core t k core_runs

abbrev task_of : List ℕ → ℕ → Task
task_of t k =
    get_or (no_task ∷ trigger (word_of_core t k core_task_process) ∷ wake_up (word_of_core t k core_task_process) ∷ []) (word_of_core t k core_task) no_task

-- the running process is one of the state's
pub running_range : {t : List ℕ} {cores processes k p : ℕ} → Card t cores processes k → (core_of (view t) k).work ≡ runs p → IsProcess (view t) p
running_range {t} {p = p} card on = within_means 1 (length (view t).processes) p (work_valid card on)

module _ (t : List ℕ) (sizes : Sizes) (k : ℕ) (card : Card t sizes.cores sizes.processes k) where
  -- what the core does
  work_viewed : (core_of (view t) k).work ≡ work_numbered (runner t k) (word_of_core t k core_task) (word_of_core t k core_task_process)
  work_viewed = work_seen t k (subst (λ (n : ℕ). k < n) card.all_cores card.inside)

  work_free : runner t k ≡ 0 → (core_of (view t) k).work ≡ free (task_of t k)
  work_free e = work_viewed ∙ rw (eq-eqb (runner t k) 0 e)

  work_runs : (runner t k ≡ 0 → ⊥) → (core_of (view t) k).work ≡ runs (runner t k)
  work_runs e = work_viewed ∙ rw (ne_eqb (runner t k) 0 e)

  -- whether a process has anything in hand
  progress_none : (p : ℕ) → IsProcess (view t) p → word_at t (process_at sizes.cores p process_progress) ≡ 0 → (process_of (view t) p).progress ≡ nothing
  unfolding progress_numbered
  progress_none p is e =
      let n = n_is t card.is_sound in
      let high = is.1 in
      let same : word_of_process t p process_progress ≡ 0 = ap (λ (m : ℕ). word_at t (process_at m p process_progress)) (sym card.all_cores) ∙ e in
      progress_seen t p is.0 (omega arith) ∙ rw same

  progress_some : (p : ℕ) → IsProcess (view t) p → (word_at t (process_at sizes.cores p process_progress) ≡ 0 → ⊥) → (process_of (view t) p).progress ≡ nothing → ⊥
  unfolding progress_words
  progress_some p is e idle =
      e (progress_read (card_packs card) p is 0 (lit< tt) ∙ ap (λ (y : Progress). get_or (progress_words y) 0 0) idle)

  -- the words that the code reads are there
  pub has_running : HasRunning t sizes.cores k
  has_running =
      record {
        core = card_core t sizes.cores sizes.processes k card;
        process = λ low.
            let range = running_range card (work_runs (λ e. omega arith)) in
            card_process t sizes.cores sizes.processes k card (runner t k) range.0 range.1;
      }

  module _ (all_channels : sizes.channels ≡ m_of t) where
    -- a process that runs with nothing in hand
    idle : (p : ℕ) → (core_of (view t) k).work ≡ runs p → (process_of (view t) p).progress ≡ nothing → Idle t sizes k p
    idle p on none =
        let range = running_range card on in
        let cores = cores_are t sizes.cores sizes.processes k card in
        let processes = processes_are t sizes.cores sizes.processes k card in
        let channels = m_is t card.is_sound in
        let size = length_is t card.is_sound in
        record {
          card = card;
          all_channels = all_channels;
          runs = on;
          progress = none;
          core = card_core t sizes.cores sizes.processes k card;
          process = card_process t sizes.cores sizes.processes k card p range.0 range.1;
          reaches = omega arith;
        }

    -- Where the code finds no process, every request is refused; one that it finds has nothing in hand.
    abbrev pub Finds : Option code.Process → Type 0
    Finds None = (w : Wiring) (x : Request) → run (request w x k) (view t) ≡ refused BUSY
    Finds (Some p) = Idle t p.sizes k p.number

    pub finds : Finds (found sizes (asker t sizes.cores k))
    finds = cases (eqb q 0) (eqb in_hand at_nothing) refl refl
      where
        q : ℕ
        q = runner t k

        in_hand : ℕ
        in_hand = word_at t (process_at sizes.cores q process_progress)

        cases : (none ready : Bool) → eqb q 0 ≡ none → eqb in_hand at_nothing ≡ ready
            → Finds (found sizes (if none then 0 else if ready then q else 0))
        cases true ready f g = λ w x. refused_free (view t) w x k (task_of t k) (work_free (eqb-true q 0 f))
        cases false true f g =
            let on = work_runs (eqb-false q 0 f) in
            rw f (idle q on (progress_none q (running_range card on) (eqb-true in_hand at_nothing g)))
        cases false false f g =
            let on = work_runs (eqb-false q 0 f) in
            λ w x. refused_busy (view t) w x k q on (progress_some q (running_range card on) (eqb-false in_hand at_nothing g))
