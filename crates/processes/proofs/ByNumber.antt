-- A progress that fits, by whether its number is one with guards, as the code goes.
use Rattle.std.proofs.Common.{ℕ, ◌≡◌, refl, Bool, true, false, ◌&&◌, List, arith}
use Rattle.std.specs.Prelude.{if◌then◌else◌}
use Rattle.std.proofs.lemmas.Bool.Decides.{nat_tests}
use Rattle.std.proofs.Math.Bool.{and-false}
use lib.Dec.{eqb, leb}
use Rattle.rules.specs.Layout.{process_at, process_place, process_progress, process_channel, process_partner, process_guards, process_index, process_first_ready, process_first_guard, guard_places, due_chose}
use Rattle.fitting.specs.Twin.{word, zeros, is_sender, is_receiver, has_partner, has_guards, has_index, has_ready, channel_part, partner_part, guards_stand, index_part, ready_part, progress_fits, meeting_fits, process_fits}
use Rattle.processes.specs.Parts.{choice_fits, exchange_fits, numbered_fits}

-- what a number with guards is besides, and what one without is not
module _ (n : ℕ) where
  listed : has_guards n ≡ true → leb n due_chose ≡ true
  listed e = grind (arith, nat_tests)

  no_sender : has_guards n ≡ true → is_sender n ≡ false
  no_sender e = grind (arith, nat_tests)

  no_receiver : has_guards n ≡ true → is_receiver n ≡ false
  no_receiver e = grind (arith, nat_tests)

  no_partner : has_guards n ≡ true → has_partner n ≡ false
  no_partner e = grind (arith, nat_tests)

  no_index : has_guards n ≡ false → has_index n ≡ false
  no_index e = grind (arith, nat_tests)

  no_ready : has_guards n ≡ false → has_ready n ≡ false
  no_ready e = grind (arith, nat_tests)

-- the last three of four tests together
in_turn : (x a b c : Bool) → (x && (a && b && c)) ≡ (x && a && b && c)
in_turn true a b c = refl
in_turn false a b c = refl

module _ (t : List ℕ) (K N M p : ℕ) where
  -- the words of its progress
  abbrev w : ℕ → ℕ
  w f = word t (process_at K p f)

  -- where its guards stand
  abbrev guards_at : ℕ
  guards_at = process_at K p process_first_guard

  by : (n : ℕ) (b : Bool) → has_guards n ≡ b → (if b then choice_fits t K N M p n else exchange_fits t K N M p n)
      ≡ (leb n due_chose && channel_part t K N M p n (w process_channel) && partner_part N n (w process_partner)
      && (if b then guards_stand t K N M p (w process_guards) guards_at else (eqb (w process_guards) 0 && zeros t guards_at guard_places))
      && index_part n (w process_guards) (w process_index) && ready_part n (w process_guards) (w process_first_ready))
  by n true e = rw (no_sender n e, no_receiver n e, no_partner n e, listed n e)
  by n false e = rw (no_index n e, no_ready n e) (in_turn (leb n due_chose && channel_part t K N M p n (w process_channel) && partner_part N n (w process_partner)) _ _ _)

  pub by_number : numbered_fits t K N M p (w process_progress) ≡ progress_fits t K N M p
  by_number = by (w process_progress) (has_guards (w process_progress)) refl

  -- a meeting that doesn't fit decides, whatever else is tested
  pub unfit_meeting : (m : ℕ) → meeting_fits t K p (w process_place) m ≡ false → process_fits t K N M p m ≡ false
  unfit_meeting m e = rw (e, and-false)
