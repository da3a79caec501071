-- What a core does, by the words that are read: a process runs, or it has a kernel task, or none; and what waking comes to.
use Prim.Native.Nat.{ℕ, zero, suc, ◌≤◌, ◌<◌}
use mathlib.Core.Path.{◌≡◌, refl, sym, ap, ◌∙◌, subst}
use mathlib.Core.Bool.{false}
use Rattle.std.specs.Prelude.{Result, Ok}
use mathlib.Core.List.{List, [], ◌∷◌}
use native.Mathlib.Omega.{arith}
use lib.Dec.{eqb, lit<, lit≤}
use lib.ListN.{length, get_or}
use borrow.Author.Tests.{ne_eqb}
use Rattle.rules.specs.Numbers.{Said, Answer, MOVED, yes_with}
use Rattle.rules.specs.State.{Task, no_task, trigger, wake_up, Work, runs, free}
use Rattle.rules.specs.Items.{core_of}
use Rattle.rules.specs.Rule.{Ran, run, done, ◌>>◌}
use Rattle.rules.specs.Steps.{has_task}
use Rattle.rules.specs.Choice.{trigger_step}
use Rattle.rules.specs.CoreStep.{work_step, step}
use Rattle.rules.specs.Layout.{core_at, core_runs, core_task, core_task_process, task_none, task_wake}
use Rattle.rules.specs.Packing.{view, work_words, work_numbered, word_of_core}
use Rattle.rules.proofs.Tests.{within_means}
use Rattle.answers.specs.declared.Refusal.{Refusal}
use Rattle.table.specs.Has.{HasCore}
use Rattle.parts.specs.Does.{Card, Comes, Does}
use Rattle.parts.specs.Tasks.{task_numbered}
use Rattle.parts.specs.Shared.{task_table}
use Rattle.parts.proofs.Card.{card_core, card_process, card_inside, processes_are, work_valid}
use Rattle.parts.proofs.Seen.{work_seen}
use Rattle.parts.proofs.Packs.{card_packs, core_read, task_written}
use Rattle.steps.specs.Wakes.{CanWake, Wakes}
use Rattle.steps.proofs.Waking.{GoesOn, woken}
use Rattle.scheduler.specs.Free.{Free}
use Rattle.core_step.specs.Running.{Running, Idle}

-- the step of a core is that of its work
does_work : (t : List ℕ) (k : ℕ) (w : Work) → (core_of (view t) k).work ≡ w → (r : Said) (u : List ℕ)
    → Comes (run (work_step k (core_of (view t) k) w) (view t)) t r u → Does (step k) t r u
does_work t k w e r u h = subst (λ (x : Work). Comes (run (work_step k (core_of (view t) k) x) (view t)) t r u) (sym e) h

-- the number of a task is at most task_wake
task_number : (w : Work) → get_or (work_words w) core_task 0 ≤ task_wake
task_number (runs p) = lit≤ tt
task_number (free no_task) = lit≤ tt
task_number (free (trigger q)) = lit≤ tt
task_number (free (wake_up q)) = lit≤ tt

module _ {t : List ℕ} {cores processes k : ℕ} (card : Card t cores processes k) where
  -- the work of the core, as it is read
  work_is : (core_of (view t) k).work ≡ work_numbered (word_of_core t k core_runs) (word_of_core t k core_task) (word_of_core t k core_task_process)
  work_is = work_seen t k (subst (λ (n : ℕ). k < n) card.all_cores card.inside)

  module _ {p : ℕ} (read : p ≡ get_or t (core_at k core_runs) 0) where
    pub is_running : (p ≡ 0 → ⊥) → Running t cores processes k p
    is_running h =
        let somebody : eqb p 0 ≡ false = ne_eqb p 0 h in
        let work : (core_of (view t) k).work ≡ runs p = work_is ∙ rw (← read, somebody) refl in
        let is = within_means 1 (length (view t).processes) p (work_valid card work) in
        record { card = card; work = work; process = card_process t cores processes k card p is.0 is.1 }

    pub is_idle : p ≡ 0 → Idle t cores processes k
    is_idle e = record { card = card; core = card_core t cores processes k card; nobody = sym read ∙ e }

-- among those of a work, the kinds up to task_wake are those of the tasks
kinds_are : (n q : ℕ) → n ≤ task_wake → get_or (no_task ∷ trigger q ∷ wake_up q ∷ []) n no_task ≡ task_numbered n q
kinds_are zero q h = refl
kinds_are (suc zero) q h = refl
kinds_are (suc (suc zero)) q h = refl
kinds_are (suc (suc (suc n))) q h = absurd (omega arith)

pub has_the_task : {t : List ℕ} {cores processes k : ℕ} → Idle t cores processes k → {x : Task}
    → x ≡ task_numbered (get_or t (core_at k core_task) 0) (get_or t (core_at k core_task_process) 0) → Free t cores processes k x
has_the_task {t} {k = k} idle is =
    let card = idle.card in
    let read : get_or t (core_at k core_task) 0 ≡ get_or (work_words (core_of (view t) k).work) core_task 0 = core_read (card_packs card) k (card_inside card) core_task (lit< tt) in
    let least : get_or t (core_at k core_task) 0 ≤ task_wake = omega (arith, task_number (core_of (view t) k).work) in
    record { card = card; work = work_is card ∙ rw idle.nobody (ap free (kinds_are _ _ least ∙ sym is)) }

module _ {t : List ℕ} {cores processes k q : ℕ} (pre : Free t cores processes k (trigger q)) where
  pub is_trigger : (core_of (view t) k).work ≡ free (trigger q)
  is_trigger = pre.work

  pub does_trigger : (r : Said) (u : List ℕ) → Does (trigger_step k q) t r u → Does (step k) t r u
  does_trigger r u h = does_work t k (free (trigger q)) pre.work r u h

pub free_core : {t u : List ℕ} {cores processes k : ℕ} {x : Task} → Free t cores processes k x → length u ≡ length t → HasCore u k
free_core {t} {u} {cores} {processes} {k} pre same = let has = card_core t cores processes k pre.card in omega arith

module _ {t : List ℕ} {cores processes k q : ℕ} (pre : Free t cores processes k (wake_up q)) where
  pub can_wake : CanWake t cores processes k q
  can_wake =
      let is = within_means 1 (length (view t).processes) q (work_valid pre.card pre.work) in
      record { card = pre.card; from_one = is.0; inside = subst (λ (n : ℕ). q ≤ n) (sym (processes_are t cores processes k pre.card)) is.1 }

  module _ {woke : Result (Unit {0}) Refusal} {u : List ℕ} (wakes : Wakes t k q woke u) where
    -- it was asleep, and the task is over
    pub task_over : woke ≡ Ok tt → {r : Said} {v : List ℕ} → v ≡ task_table u k task_none 0 → r ≡ yes_with MOVED → Does (step k) t r v
    task_over was {r} {v} written said =
        does_work t k _ pre.work r v
        (subst (λ (x : Ran Answer). Comes x t r v) (sym (goes.rest_runs (has_task k no_task >> done MOVED)))
        (said, written ∙ (task_written goes.packs k inside no_task task_none 0 refl).is_pack))
      where
        goes : GoesOn t u cores processes k q
        goes = woken can_wake wakes was

        inside : k < length goes.state.cores
        inside = subst (λ (n : ℕ). k < n) goes.packs.all_cores pre.card.inside
