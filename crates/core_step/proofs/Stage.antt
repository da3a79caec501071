-- The progress of a running process, by the words that are read, and what the step of its core then is.
use Prim.Native.Nat.{ℕ, ◌≤◌, ◌<◌}
use mathlib.Core.Path.{◌≡◌, refl, sym, ap, ◌∙◌, subst}
use mathlib.Core.List.{List}
use native.Mathlib.Decide.{ℕ_discrete}
use native.Mathlib.Omega.{arith}
use lib.Dec.{lit≤}
use lib.ListN.{length, get_or, get_or-eq_default}
use Rattle.rules.specs.Numbers.{Said, AWAITED, no_because}
use Rattle.rules.specs.State.{Way, sending, receiving, Stage, Progress, nothing, doing, due, Work}
use Rattle.std.proofs.Math.Option.{Option}
use Rattle.layout.specs.Numbers.{of_way, exchange_number, choice_number, outcome_number, number_of}
use Rattle.layout.specs.declared.progress.Progress as code
use Rattle.layout.specs.declared.progress.Progress.TheVariants.{Due}
use Rattle.layout.specs.declared.progress.Outcome.{Outcome}
use Rattle.layout.specs.declared.progress.Outcome.TheVariants.{Go, Sent, Got, Chose}
use Rattle.layout.specs.declared.progress.Exchange.{Exchange}
use Rattle.layout.specs.declared.progress.Exchange.TheVariants.{Look, Park, Copy, Clear, Wake}
use Rattle.layout.specs.declared.progress.Choice.{Choice}
use Rattle.layout.specs.declared.progress.Choice.TheVariants.{EnableLook, Raise, PlaceName, ReadyFromLook, ReadyFromPlace, Wait, Disable, Lower, Finish}
use Rattle.rules.specs.Items.{core_of, process_of}
use Rattle.rules.specs.Rule.{run}
use Rattle.rules.specs.CoreStep.{running_step, work_step, step}
use Rattle.rules.specs.Layout.{process_at, process_progress, process_channel, process_partner, at_nothing, due_go, due_sent, due_got, due_chose}
use Rattle.rules.specs.Packing.{view, progress_list, progress_numbered}
use Rattle.rules.proofs.Tests.{within_means}
use Rattle.rules.proofs.Packing.Numbered.{progress_by_place}
use Rattle.parts.specs.Does.{At, Comes, Does}
use Rattle.parts.proofs.Card.{work_valid, n_is, runs_process}
use Rattle.parts.proofs.Seen.{progress_seen}
use Rattle.guards.specs.Read.{guards_at, index_at, ready_at}
use Rattle.core_step.specs.Running.{Running, exchanged, chosen, chosen_by}

-- the progress of a number, with a channel, a partner, and the other words that are read
abbrev pub progress_at : List ℕ → (cores p n c q : ℕ) → Progress
progress_at t cores p n c q = progress_numbered n c q (guards_at t cores p) (index_at t cores p) (ready_at t cores p)

-- no stage: nothing in hand, or an outcome
abbrev NoStage : Progress → Type 0
NoStage nothing = Unit {0}
NoStage (doing x) = ⊥
NoStage (due o) = Unit {0}

-- the numbers from due_go on are of no stage
no_stage : (t : List ℕ) (cores p n c q : ℕ) → due_go ≤ n → NoStage (progress_at t cores p n c q)
unfolding progress_numbered
no_stage t cores p n c q h = by_number (ℕ_discrete n due_go) (ℕ_discrete n due_sent) (ℕ_discrete n due_got) (ℕ_discrete n due_chose)
  where
    by_number : Dec (n ≡ due_go) → Dec (n ≡ due_sent) → Dec (n ≡ due_got) → Dec (n ≡ due_chose) → NoStage (progress_at t cores p n c q)
    by_number (yes e) b c d = rw e tt
    by_number (no a) (yes e) c d = rw e tt
    by_number (no a) (no b) (yes e) d = rw e tt
    by_number (no a) (no b) (no c) (yes e) = rw e tt
    by_number (no a) (no b) (no c) (no d) = let long : due_chose < n = omega arith in
        rw (progress_by_place, get_or-eq_default (progress_list _ _ _ _ _) nothing long) tt

-- the stage that the code calls so has its number
exchange_numbered : (w : Way) (x : Exchange) (c q : ℕ) (gs : List ℕ) (i : ℕ) (r : Option ℕ)
    → progress_numbered (of_way w (exchange_number x)) c q gs i r ≡ doing (exchanged w x c q)
unfolding progress_numbered
exchange_numbered sending Look c q gs i r = refl
exchange_numbered sending Park c q gs i r = refl
exchange_numbered sending Copy c q gs i r = refl
exchange_numbered sending Clear c q gs i r = refl
exchange_numbered sending Wake c q gs i r = refl
exchange_numbered receiving Look c q gs i r = refl
exchange_numbered receiving Park c q gs i r = refl
exchange_numbered receiving Copy c q gs i r = refl
exchange_numbered receiving Clear c q gs i r = refl
exchange_numbered receiving Wake c q gs i r = refl

choice_numbered : (x : Choice) (c q : ℕ) (gs : List ℕ) (i : ℕ) (r : Option ℕ) → progress_numbered (choice_number x) c q gs i r ≡ doing (chosen x gs i r)
unfolding progress_numbered
choice_numbered EnableLook c q gs i r = refl
choice_numbered Raise c q gs i r = refl
choice_numbered PlaceName c q gs i r = refl
choice_numbered ReadyFromLook c q gs i r = refl
choice_numbered ReadyFromPlace c q gs i r = refl
choice_numbered Wait c q gs i r = refl
choice_numbered Disable c q gs i r = refl
choice_numbered Lower c q gs i r = refl
choice_numbered Finish c q gs i r = refl

module _ {t : List ℕ} {cores processes k p : ℕ} (running : Running t cores processes k p) where
  -- the step of the core is that of its progress
  stepped : {x : Progress} → (process_of (view t) p).progress ≡ x → run (step k) (view t) ≡ run (running_step k p x) (view t)
  stepped e =
      ap (λ (w : Work). run (work_step k (core_of (view t) k) w) (view t)) running.work
      ∙ ap (λ (x : Progress). run (running_step k p x) (view t)) e

  module _ {n c q : ℕ} (number : n ≡ get_or t (process_at cores p process_progress) 0) (channel : c ≡ get_or t (process_at cores p process_channel) 0)
      (partner : q ≡ get_or t (process_at cores p process_partner) 0) where
    -- the progress is that of the words that were read
    progress_is : (process_of (view t) p).progress ≡ progress_at t cores p n c q
    unfolding guards_at
    progress_is =
        let card = running.card in
        let is = within_means 1 (length (view t).processes) p (work_valid card running.work) in
        rw (number, channel, partner, card.all_cores) (progress_seen t p is.0 (subst (λ (m : ℕ). p ≤ m) (sym (n_is t card.is_sound)) is.1))

    at_stage : {x : Stage} → progress_at t cores p n c q ≡ doing x → At t cores processes k p x
    at_stage is = record { card = running.card; runs = running.work; stage = progress_is ∙ is }

    pub at_exchange : (w : Way) (x : Exchange) → of_way w (exchange_number x) ≡ n → At t cores processes k p (exchanged w x c q)
    at_exchange w x e =
        at_stage (ap (λ (n : ℕ). progress_at t cores p n c q) (sym e) ∙ exchange_numbered w x c q _ _ _)

    -- with no stage, its process waits for a request
    awaits : NoStage (progress_at t cores p n c q) → {r : Said} → r ≡ no_because AWAITED → Does (step k) t r t
    awaits none {r} reply = by_progress (progress_at t cores p n c q) none progress_is
      where
        by_progress : (x : Progress) → NoStage x → (process_of (view t) p).progress ≡ x → Does (step k) t r t
        by_progress nothing h e = subst (λ y. Comes y t r t) (sym (stepped e)) (reply, refl)
        by_progress (doing y) h e = absurd h
        by_progress (due o) h e = subst (λ y. Comes y t r t) (sym (stepped e)) (reply, refl)

  -- what the number alone says
  module _ {n : ℕ} (number : n ≡ get_or t (process_at cores p process_progress) 0) where
    pub at_choice : (x : Choice) → choice_number x ≡ n → At t cores processes k p (chosen_by t cores p x)
    at_choice x e =
        let c = get_or t (process_at cores p process_channel) 0 in
        let q = get_or t (process_at cores p process_partner) 0 in
        at_stage number refl refl (ap (λ (n : ℕ). progress_at t cores p n c q) (sym e) ∙ choice_numbered x c q _ _ _)

    -- it is of an outcome, or beyond all
    late : due_go ≤ n → {r : Said} → r ≡ no_because AWAITED → Does (step k) t r t
    late after = awaits number refl refl (no_stage t cores p n _ _ after)

    due_number : (o : Outcome) → due_go ≤ outcome_number o
    due_number Go = lit≤ tt
    due_number Sent = lit≤ tt
    due_number Got = lit≤ tt
    due_number Chose = lit≤ tt

    pub awaited_due : {x : code.Progress} → number_of x ≡ n → {o : Outcome} → x ≡ Due o → {r : Said} → r ≡ no_because AWAITED → Does (step k) t r t
    awaited_due e {o} is = late (subst (λ (m : ℕ). due_go ≤ m) (ap number_of (sym is) ∙ e) (due_number o))

    pub awaited_beyond : due_chose < n → {r : Said} → r ≡ no_because AWAITED → Does (step k) t r t
    awaited_beyond beyond = late (omega arith)

    -- or nothing is in hand
    pub awaited_nothing : n ≡ at_nothing → {r : Said} → r ≡ no_because AWAITED → Does (step k) t r t
    unfolding progress_numbered
    awaited_nothing e = awaits number refl refl (rw e tt)

-- at a stage, the step of the core is that stage's
pub does_stage : {t : List ℕ} {cores processes k p : ℕ} {x : Stage} → At t cores processes k p x → (r : Said) (u : List ℕ)
    → Does (running_step k p (doing x)) t r u → Does (step k) t r u
does_stage {t} {cores} {processes} {k} {p} at r u does =
    let running : Running t cores processes k p = record { card = at.card; work = at.runs; process = runs_process t cores processes k p _ at } in
    subst (λ y. Comes y t r u) (sym (stepped running at.stage)) does
