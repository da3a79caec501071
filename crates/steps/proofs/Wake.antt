-- What wake comes to: it does its rule.
use Rattle.std.proofs.Common.{◌≡◌, ℕ, ◌≤◌, List, Result, Ok, get_or, sym, refl, ◌∙◌, subst, lit<}
use Rattle.rules.specs.Numbers.{Said, Answer, yes_with}
use Rattle.rules.specs.State.{Way, sending, receiving, wake, nothing, State}
use Rattle.rules.specs.Items.{process_of, put, progress}
use Rattle.rules.specs.Layout.{process_at, process_data}
use Rattle.rules.specs.Rule.{Ran, accepted, run}
use Rattle.rules.specs.Steps.{outcome, reports, wake_step}
use Rattle.answers.specs.declared.Refusal.{Refusal}
use Rattle.parts.specs.Does.{At, Comes, Does}
use Rattle.parts.specs.Shared.{cleared, reported}
use Rattle.parts.proofs.Packs.{IsProcess, process_read, progress_cleared}
use Rattle.steps.specs.Outcomes.{due_of}
use Rattle.steps.specs.Wakes.{CanWake, Wakes}
use Rattle.steps.proofs.Near.{at_wake}
use Rattle.steps.proofs.Waking.{GoesOn, woken}

-- what the report of an outcome comes to
report_runs : (p : ℕ) (w : Way) (c : ℕ) (s : State)
    → run (reports p (outcome w c)) s ≡ accepted (reported (due_of w) p c (process_of s p).data_word) (put progress p nothing s)
report_runs p sending c s = refl
report_runs p receiving c s = refl

module _ {t : List ℕ} {cores processes k p c q : ℕ} {w : Way} (at : At t cores processes k p (wake w c q)) where
  pub can_wake : CanWake t cores processes k q
  can_wake =
      let near = (at_wake at).0 in
      let is = (at_wake at).1.is_process in
      record { card = at.card; from_one = is.0; inside = subst (λ (n : ℕ). q ≤ n) (sym near.packs.all_processes) is.1 }

  module _ {woke : Result (Unit {0}) Refusal} {u : List ℕ} (wakes : Wakes t k q woke u) where
    -- the partner was asleep: the outcome is reported
    pub wake_reports : woke ≡ Ok tt → {m : ℕ} → m ≡ due_of w → {r : Said} {v : List ℕ}
        → r ≡ yes_with (reported m p c (get_or u (process_at cores p process_data) 0)) → v ≡ cleared u cores p
        → Does (wake_step k p w c q) t r v
    wake_reports was number {r} {v} reply written =
        subst (λ (x : Ran Answer). Comes x t r v) (sym (goes.rest_runs (reports p (outcome w c)) ∙ report_runs p w c goes.state))
        (rw (number, process_read goes.packs p is process_data (lit< tt)) at reply, written ∙ (progress_cleared goes.packs p is).is_pack)
      where
        goes : GoesOn t u cores processes k q
        goes = woken can_wake wakes was

        is : IsProcess goes.state p
        is =
            let was = (at_wake at).0 in
            (was.is_process.0, subst (λ (n : ℕ). p ≤ n) (sym was.packs.all_processes ∙ goes.packs.all_processes) was.is_process.1)
