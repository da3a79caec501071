-- The parts of the state that is read out of a table.
use Prim.Native.Nat.{ℕ, zero, suc, ◌+◌, ◌≤◌, ◌<◌}
use mathlib.Core.Path.{◌≡◌, refl, sym, ap, ◌∙◌}
use mathlib.Core.Bool.{◌&&◌}
use mathlib.Core.List.{List, ◌∷◌}
use native.Mathlib.Omega.{arith}
use native.Mathlib.Nat.{add-zero, zero-add}
use lib.Dec.{eqb}
use lib.ListN.{length, take, length-map, get_or-map}
use Rattle.rules.specs.Layout.{channel_writer, channel_reader}
use Rattle.rules.specs.Lists.{within, nth, tabulate}
use Rattle.rules.specs.State.{Way, sending, receiving, Channel, State, wiring, at_end, end_of}
use Rattle.rules.specs.Items.{no_core, no_process, no_channel, core_of, process_of, channel_of}
use Rattle.rules.specs.Packing.{k_of, n_of, m_of, word_of_channel, view_core, view_process, view_channel, view}
use Rattle.rules.specs.Soundness.{own_end}
use Rattle.rules.proofs.Tabulate.{length_tabulate, tabulate_at}
use Rattle.rules.proofs.Tests.{within_means}
use Rattle.fitting.proofs.Tests.{and_as}
use Rattle.fitting.specs.Twin.{end_fits}

-- Lists built number by number

module _ {A : Type 0} where
  -- the n-th, counted from 1
  tabulate_nth_at : (f : ℕ → A) (n i : ℕ) (d : A) → 1 ≤ i → i ≤ n → nth (tabulate f 1 n) i d ≡ f i
  tabulate_nth_at f n zero d l b = absurd (omega arith)
  tabulate_nth_at f n (suc i) d l b = tabulate_at f 1 n d i b ∙ ap f (omega arith)

  -- the first m
  pub take_tabulate : (f : ℕ → A) (a n m : ℕ) → m ≤ n → take m (tabulate f a n) ≡ tabulate f a m
  take_tabulate f a n zero b = refl
  take_tabulate f a zero (suc m) b = absurd (omega arith)
  take_tabulate f a (suc n) (suc m) b = ap (λ (l : List A). f a ∷ l) (take_tabulate f (suc a) n m (omega arith))

  -- the same members, counted from another number
  pub tabulate_as : (f g : ℕ → A) (a b n : ℕ) → ((i : ℕ) → f (a + i) ≡ g (b + i)) → tabulate f a n ≡ tabulate g b n
  tabulate_as f g a b zero e = refl
  tabulate_as f g a b (suc n) e =
      let here : f a ≡ g b = ap f (sym (add-zero a)) ∙ e 0 ∙ ap g (add-zero b) in
      let behind : tabulate f (suc a) n ≡ tabulate g (suc b) n =
      tabulate_as f g (suc a) (suc b) n (λ i. ap f (omega arith) ∙ e (suc i) ∙ ap g (omega arith)) in
      cc

-- the process at an end of a channel
end_of_channel : (s : State) (way : Way) (c : ℕ) → end_of (wiring s) way c ≡ at_end way (channel_of s c).ends
end_of_channel s way zero = refl
end_of_channel s way (suc c) = ap (at_end way) (get_or-map (λ (x : Channel). x.ends) s.channels c no_channel)

-- The view

module _ (t : List ℕ) where
  -- how many cores, processes and channels there are
  pub cores_of_view : length (view t).cores ≡ k_of t
  unfolding view
  cores_of_view = length_tabulate (view_core t) 0 (k_of t)

  pub processes_of_view : length (view t).processes ≡ n_of t
  unfolding view
  processes_of_view = length_tabulate (view_process t) 1 (n_of t)

  pub channels_of_view : length (view t).channels ≡ m_of t
  unfolding view
  channels_of_view = length_tabulate (view_channel t) 1 (m_of t)

  -- a core, a process, a channel
  pub core_of_view : (k : ℕ) → k < k_of t → core_of (view t) k ≡ view_core t k
  unfolding view
  core_of_view k b = tabulate_at (view_core t) 0 (k_of t) no_core k b ∙ ap (view_core t) (zero-add k)

  pub process_of_view : (p : ℕ) → 1 ≤ p → p ≤ n_of t → process_of (view t) p ≡ view_process t p
  unfolding view
  process_of_view p = tabulate_nth_at (view_process t) (n_of t) p no_process

  pub channel_of_view : (c : ℕ) → 1 ≤ c → c ≤ m_of t → channel_of (view t) c ≡ view_channel t c
  unfolding view
  channel_of_view c = tabulate_nth_at (view_channel t) (m_of t) c no_channel

  -- the word of a channel that has the process at an end
  abbrev pub end_place : Way → ℕ
  end_place sending = channel_writer
  end_place receiving = channel_reader

  -- the process at an end of a channel
  end_at : (way : Way) (c : ℕ) → 1 ≤ c → c ≤ m_of t → end_of (wiring (view t)) way c ≡ word_of_channel t c (end_place way)
  unfolding view_channel
  end_at way c l b = end_of_channel (view t) way c ∙ ap (λ (x : Channel). at_end way x.ends) (channel_of_view c l b) ∙ cases way
    where
      cases : (way : Way) → at_end way (view_channel t c).ends ≡ word_of_channel t c (end_place way)
      cases sending = refl
      cases receiving = refl

  -- A process stands at an end of a channel of the state exactly where the table says so.
  pub own_end_is : (way : Way) (p c : ℕ) → own_end (wiring (view t)) way p c ≡ end_fits t (k_of t) (n_of t) (m_of t) p (end_place way) c
  own_end_is way p c =
      let size : length (wiring (view t)).ends ≡ m_of t = length-map (view t).channels (λ (x : Channel). x.ends) ∙ channels_of_view in
      ap (λ (n : ℕ). within 1 n c && eqb (end_of (wiring (view t)) way c) p) size
      ∙ and_as (within 1 (m_of t) c) _ _
      (λ h. let r = within_means 1 (m_of t) c h in ap (λ (x : ℕ). eqb x p) (end_at way c r.0 r.1))
