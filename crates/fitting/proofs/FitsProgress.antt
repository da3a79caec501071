-- The words of a process's progress fit exactly where they are those of a valid progress.
use Rattle.std.specs.Prelude.{if◌then◌else◌}
use Prim.Native.Nat.{ℕ, zero, suc, ◌+◌, ◌-◌, ◌≤◌}
use mathlib.Core.Path.{◌≡◌, refl, sym, ap, ◌∙◌, subst}
use mathlib.Core.Bool.{Bool, true, false, ◌&&◌, ◌||◌}
use mathlib.Core.List.{List, [], ◌∷◌}
use mathlib.Core.Logic.{◌↔◌}
use mathlib.Core.Option.{none}
use native.Mathlib.Omega.{arith}
use native.Mathlib.Nat.{add-zero, sub-zero, suc-sub-suc}
use lib.Dec.{T, eqb, leb, eqb→eq, leb→le, le→leb, eqb-suc-zero, leb-zero}
use lib.ListN.{length, take}
use borrow.Author.Tests.{leb-true, leb-false, le-leb}
use Rattle.rules.specs.Lists.{within, all, tabulate, member, distinct}
use Rattle.rules.specs.State.{Place, sending, receiving, Progress, Wiring, wiring}
use Rattle.rules.specs.Layout.{process_at, process_progress, process_channel, process_partner, process_guards, process_index, process_first_ready, process_first_guard, progress_size, guard_places, due_chose}
use Rattle.rules.specs.Packing.{place_number, ready_number, padded, progress_words, k_of, n_of, m_of, word_of_process, ready_numbered, progress_numbered, view_process, view}
use Rattle.rules.specs.Soundness.{is_process, own_end, own_guards, in_list, ready_in_list, valid_progress, fits}
use Rattle.rules.proofs.Tabulate.{length_tabulate}
use Rattle.rules.proofs.Tests.{both, three, five, together, within_means}
use Rattle.fitting.proofs.Tests.{equal_holds, all_three, all_five, six, all_six}
use Rattle.fitting.proofs.Views.{take_tabulate, tabulate_as, processes_of_view, own_end_is}
use Rattle.fitting.proofs.Shapes.{Shape, shape_words, shape_valid, shape_of}
use Rattle.fitting.specs.Twin.{
  word,
  zeros,
  is_sender,
  is_receiver,
  has_partner,
  has_guards,
  has_index,
  has_ready,
  stands_among,
  guards_fit,
  channel_part,
  partner_part,
  guards_stand,
  guards_part,
  index_part,
  ready_part,
  progress_fits,
  place_fits,
}

-- Words that mean something only at some numbers

-- a word with a test where it means something, and 0 otherwise
optional : (has x : Bool) (c : ℕ) → T (if has then x else eqb c 0) ↔ (T (if has then x else true) × ((if has then c else 0) ≡ c))
optional true x c = (λ h. (h, refl), λ h. h.0)
optional false x c = (λ h. (tt, sym (eqb→eq c 0 h)), λ h. equal_holds c 0 (sym h.1))

-- a word that may mean something in two ways
optional_either : (a b x y : Bool) (c : ℕ)
    → T (if a then x else if b then y else eqb c 0) ↔ (T (if a then x else if b then y else true) × ((if a || b then c else 0) ≡ c))
optional_either true b x y c = (λ h. (h, refl), λ h. h.0)
optional_either false b x y c = optional b y c

-- a first ready guard lies in the list where its number is no greater than the list's length
ready_in_list_is : (gs : List ℕ) (r : ℕ) → ready_in_list gs (ready_numbered r) ≡ leb r (length gs)
ready_in_list_is gs zero = sym (leb-zero (length gs))
ready_in_list_is gs (suc r) = rw eqb-suc-zero (ap (λ (b : Bool). b && leb (suc r) (length gs)) (le-leb 1 (suc r) (omega arith)))

-- the number of a first ready guard, if it means something
ready_number_is : (has : Bool) (r : ℕ) → ready_number (if has then ready_numbered r else none) ≡ (if has then r else 0)
ready_number_is true zero = refl
ready_number_is true (suc r) = rw eqb-suc-zero
ready_number_is false r = refl

-- Guards

-- a word stands among others where it is a member of their list
stands_among_is : (t : List ℕ) (x a n : ℕ) → stands_among t x a n ≡ member x (tabulate (word t) a n)
stands_among_is t x a zero = refl
stands_among_is t x a (suc n) = ap (λ (b : Bool). eqb (word t a) x || b) (stands_among_is t x (suc a) n)

-- words that are 0
zeros_exact : (t : List ℕ) (a n : ℕ) → T (zeros t a n) ↔ (padded n [] ≡ tabulate (word t) a n)
zeros_exact t a zero = (λ h. refl, λ e. tt)
zeros_exact t a (suc n) = (
  λ h. let r = both (eqb (word t a) 0) (zeros t (suc a) n) h in
      let here : word t a ≡ 0 = eqb→eq (word t a) 0 r.0 in
      let behind : padded n [] ≡ tabulate (word t) (suc a) n = (zeros_exact t (suc a) n).0 r.1 in cc,
  λ e. together (eqb (word t a) 0) (zeros t (suc a) n) (equal_holds (word t a) 0 (cc)) ((zeros_exact t (suc a) n).1 (cc)),
)

-- the words of a list, then zeros
padded_exact : (t : List ℕ) (a n g : ℕ) → g ≤ n → T (zeros t (a + g) (n - g)) ↔ (padded n (tabulate (word t) a g) ≡ tabulate (word t) a n)
padded_exact t a n zero b = rw (add-zero, sub-zero) (zeros_exact t a n)
padded_exact t a zero (suc g) b = absurd (omega arith)
padded_exact t a (suc n) (suc g) b =
    let place : a + suc g ≡ suc a + g = omega arith in
    let r = padded_exact t (suc a) n g (omega arith) in
    rw (place, suc-sub-suc) (λ h. ap (λ (l : List ℕ). word t a ∷ l) (r.0 h), λ e. r.1 (cc))

-- two tests and two facts, taken in another order
regroup : (a b c x y : Bool) → T c ↔ (T x × T y) → T (a && b && c) ↔ (T (a && x) × T (b && y))
regroup a b c x y r = (
  λ h. let u = three a b c h in let v = r.0 u.2 in (together a x u.0 v.0, together b y u.1 v.1),
  λ h. let u = both a x h.0 in let v = both b y h.1 in all_three a b c u.0 v.0 (r.1 (u.1, v.1)),
)

module _ (t : List ℕ) (p : ℕ) where
  -- the wiring of the state that is read out
  abbrev w : Wiring
  w = wiring (view t)

  -- guards fit where each is one's own and none stands twice
  guards_fit_exact : (a n : ℕ) → T (guards_fit t (k_of t) (n_of t) (m_of t) p a n)
      ↔ (T (all (own_end w receiving p) (tabulate (word t) a n)) × T (distinct (tabulate (word t) a n)))
  guards_fit_exact a zero = (λ h. (tt, tt), λ h. tt)
  guards_fit_exact a (suc n) =
      rw (stands_among_is, ← own_end_is t receiving p (word t a))
      (regroup (own_end w receiving p (word t a)) (if member (word t a) behind then false else true)
      (guards_fit t (k_of t) (n_of t) (m_of t) p (suc a) n) (all (own_end w receiving p) behind) (distinct behind) (guards_fit_exact (suc a) n))
    where
      behind : List ℕ
      behind = tabulate (word t) (suc a) n

  -- where the guards stand
  abbrev guards_at : ℕ
  guards_at = process_at (k_of t) p process_first_guard

  -- the words of the guards, by their addresses
  guard_words : tabulate (word_of_process t p) process_first_guard guard_places ≡ tabulate (word t) guards_at guard_places
  guard_words = tabulate_as (word_of_process t p) (word t) process_first_guard guards_at guard_places (λ i. ap (word t) (omega arith))

  -- the guards that are read out: as many as the word g says
  abbrev guards_read : ℕ → List ℕ
  guards_read g = take g (tabulate (word_of_process t p) process_first_guard guard_places)

  module _ (g : ℕ) where
    -- the guards that are read out, by their addresses
    guards_are : g ≤ guard_places → guards_read g ≡ tabulate (word t) guards_at g
    guards_are b = ap (take g) guard_words ∙ take_tabulate (word t) guards_at guard_places g b

    -- the test of a choice's guards, and of a progress without guards
    abbrev guards_tests : Bool → Bool
    guards_tests has =
        if has then guards_stand t (k_of t) (n_of t) (m_of t) p g guards_at else (eqb g 0 && zeros t guards_at guard_places)

    -- the guards are valid, if there are any, and their number and their words are those that are packed
    abbrev GuardsRead : Bool → Type 0
    GuardsRead has =
        T (if has then own_guards w p (guards_read g) else true) × (length (if has then guards_read g else []) ≡ g)
        × (padded guard_places (if has then guards_read g else []) ≡ tabulate (word_of_process t p) process_first_guard guard_places)

    -- what the test of a choice's guards says
    choice_means : T (guards_tests true) → GuardsRead true
    choice_means h =
        let r = three (within 1 8 g) (guards_fit t (k_of t) (n_of t) (m_of t) p guards_at g) (zeros t (guards_at + g) (guard_places - g)) h in
        let b = within_means 1 8 g r.0 in
        let e : guards_read g ≡ tabulate (word t) guards_at g = guards_are b.1 in
        let size : length (guards_read g) ≡ g = ap length e ∙ length_tabulate (word t) guards_at g in
        let f = (guards_fit_exact guards_at g).0 r.1 in (
          all_three (within 1 8 (length (guards_read g))) (all (own_end w receiving p) (guards_read g)) (distinct (guards_read g))
              (rw size r.0) (rw e f.0) (rw e f.1),
          size,
          ap (padded guard_places) e ∙ (padded_exact t guards_at guard_places g b.1).0 r.2 ∙ sym guard_words,
        )

    -- and what says as much
    means_choice : GuardsRead true → T (guards_tests true)
    means_choice h =
        let gs = guards_read g in
        let r = three (within 1 8 (length gs)) (all (own_end w receiving p) gs) (distinct gs) h.0 in
        let inside : T (within 1 8 g) = subst (λ (n : ℕ). T (within 1 8 n)) h.1 r.0 in
        let b = within_means 1 8 g inside in
        let e : gs ≡ tabulate (word t) guards_at g = guards_are b.1 in
        let own = subst (λ (l : List ℕ). T (all (own_end w receiving p) l)) e r.1 in
        let apart = subst (λ (l : List ℕ). T (distinct l)) e r.2 in
        all_three (within 1 8 g) (guards_fit t (k_of t) (n_of t) (m_of t) p guards_at g) (zeros t (guards_at + g) (guard_places - g)) inside
        ((guards_fit_exact guards_at g).1 (own, apart))
        ((padded_exact t guards_at guard_places g b.1).1 (ap (padded guard_places) (sym e) ∙ h.2 ∙ guard_words))

    -- Guards fit exactly where they are those that are packed.
    guards_exact : (has : Bool) → T (guards_tests has) ↔ GuardsRead has
    guards_exact true = (choice_means, means_choice)
    guards_exact false = (
      λ h. let r = both (eqb g 0) (zeros t guards_at guard_places) h in
          (tt, sym (eqb→eq g 0 r.0), (zeros_exact t guards_at guard_places).0 r.1 ∙ sym guard_words),
      λ h. together (eqb g 0) (zeros t guards_at guard_places) (equal_holds g 0 (sym h.1)) ((zeros_exact t guards_at guard_places).1 (h.2 ∙ guard_words)),
    )

    -- there are as many guards as the word says
    guards_length : (has : Bool) → GuardsRead has → length (guards_read g) ≡ g
    guards_length true h = h.1
    guards_length false h = let none : 0 ≡ g = h.1 in subst (λ (m : ℕ). length (guards_read m) ≡ m) none refl

  -- A progress of the number n, with these words: channel, partner, number of guards, index, first ready guard
  module _ (n c q g i r : ℕ) where
    -- its guards
    abbrev gs : List ℕ
    gs = guards_read g

    -- the progress that is read out of these words
    abbrev read : Progress
    read = progress_numbered n c q gs i (ready_numbered r)

    -- the tests of channel, partner, index, first ready guard and guards, and all of them
    abbrev channel_test : Bool
    channel_test = channel_part t (k_of t) (n_of t) (m_of t) p n c

    abbrev partner_test : Bool
    partner_test = partner_part (n_of t) n q

    abbrev index_test : Bool
    index_test = index_part n g i

    abbrev ready_test : Bool
    ready_test = ready_part n g r

    abbrev guards_test : Bool
    guards_test = guards_part t (k_of t) (n_of t) (m_of t) p n g guards_at

    abbrev tests : Bool
    tests = leb n due_chose && channel_test && partner_test && guards_test && index_test && ready_test

    -- what has to be valid of each
    abbrev channel_valid : Bool
    channel_valid = if is_sender n then own_end w sending p c else if is_receiver n then own_end w receiving p c else true

    abbrev partner_valid : Bool
    partner_valid = if has_partner n then is_process w q else true

    abbrev index_valid : Bool
    index_valid = if has_index n then in_list gs i else true

    abbrev ready_valid : Bool
    ready_valid = if has_ready n then ready_in_list gs (ready_numbered r) else true

    abbrev guards_valid : Bool
    guards_valid = if has_guards n then own_guards w p gs else true

    -- The tests say that this is valid, and that the word is the one that is packed: of the channel,
    channel_exact : T channel_test ↔ (T channel_valid × ((if is_sender n || is_receiver n then c else 0) ≡ c))
    channel_exact =
        rw (← own_end_is t sending p c, ← own_end_is t receiving p c)
        (optional_either (is_sender n) (is_receiver n) (own_end w sending p c) (own_end w receiving p c) c)

    -- of the partner,
    partner_exact : T partner_test ↔ (T partner_valid × ((if has_partner n then q else 0) ≡ q))
    partner_exact = rw (← processes_of_view t) (optional (has_partner n) (is_process w q) q)

    -- of the index,
    index_exact : length gs ≡ g → T index_test ↔ (T index_valid × ((if has_index n then i else 0) ≡ i))
    index_exact e = rw e (optional (has_index n) (within 1 g i) i)

    -- and of the first ready guard.
    ready_exact : length gs ≡ g → T ready_test ↔ (T ready_valid × (ready_number (if has_ready n then ready_numbered r else none) ≡ r))
    ready_exact e = rw (ready_in_list_is, ready_number_is, e) (optional (has_ready n) (leb r g) r)

    -- the progress is valid and has these words
    abbrev Good : Type 0
    Good = T (valid_progress w p read) × (progress_words read ≡ n ∷ c ∷ q ∷ g ∷ i ∷ r ∷ tabulate (word_of_process t p) process_first_guard guard_places)

    -- a progress that is read out has the shape of its number
    shape : n ≤ due_chose → Shape w p c q gs i (ready_numbered r) n read
    shape = (shape_of w p c q gs i (ready_numbered r) n).0

    -- what the tests say
    tests_mean : T tests → Good
    tests_mean h =
        let u = six (leb n due_chose) channel_test partner_test guards_test index_test ready_test h in
        let s = shape (leb→le n due_chose u.0) in
        let guards = (guards_exact g (has_guards n)).0 u.3 in
        let size : length gs ≡ g = guards_length g (has_guards n) guards in
        let channel = channel_exact.0 u.1 in
        let partner = partner_exact.0 u.2 in
        let index = (index_exact size).0 u.4 in
        let ready = (ready_exact size).0 u.5 in
        let valid : T (shape_valid w p c q gs i (ready_numbered r) n) =
        all_five channel_valid partner_valid guards_valid index_valid ready_valid channel.0 partner.0 guards.0 index.0 ready.0 in
        let words : shape_words w p c q gs i (ready_numbered r) n ≡ n ∷ c ∷ q ∷ g ∷ i ∷ r ∷ tabulate (word_of_process t p) process_first_guard guard_places =
        cc (channel.1, partner.1, guards.1, guards.2, index.1, ready.1) in
        (rw s.valid valid, s.words ∙ words)

    -- a number of a progress that has these words is one of those that are listed
    bound : Good → n ≤ due_chose
    unfolding progress_words
    bound h = cases (leb n due_chose) refl
      where
        cases : (b : Bool) → leb n due_chose ≡ b → n ≤ due_chose
        cases true e = leb-true n due_chose e
        cases false e =
            let beyond : suc due_chose ≤ n = leb-false n due_chose e in
            let words = sym h.1 ∙ ap progress_words ((shape_of w p c q gs i (ready_numbered r) n).1 beyond) in
            let none : n ≡ 0 = cc in absurd (omega arith)

    -- and what says as much
    means_tests : Good → T tests
    means_tests h =
        let b = bound h in
        let s = shape b in
        let u = five channel_valid partner_valid guards_valid index_valid ready_valid (rw s.valid at h.0) in
        let words = sym s.words ∙ h.1 in
        let guards : GuardsRead g (has_guards n) = (u.2, (cc), (cc)) in
        let size : length gs ≡ g = guards_length g (has_guards n) guards in
        all_six (leb n due_chose) channel_test partner_test guards_test index_test ready_test (le→leb n due_chose b)
        (channel_exact.1 (u.0, (cc))) (partner_exact.1 (u.1, (cc))) ((guards_exact g (has_guards n)).1 guards)
        ((index_exact size).1 (u.3, (cc))) ((ready_exact size).1 (u.4, (cc)))

  -- the progress that is read out
  abbrev progress_read : Progress
  progress_read = (view_process t p).progress

  -- The words of a progress fit exactly where they are those of a valid progress.
  pub progress_exact : T (progress_fits t (k_of t) (n_of t) (m_of t) p)
      ↔ (T (valid_progress w p progress_read) × (progress_words progress_read ≡ tabulate (word_of_process t p) process_progress progress_size))
  unfolding view_process
  progress_exact =
      let f = word_of_process t p in
      (tests_mean (f process_progress) (f process_channel) (f process_partner) (f process_guards) (f process_index) (f process_first_ready), means_tests (f process_progress) (f process_channel) (f process_partner) (f process_guards) (f process_index) (f process_first_ready))

  -- A progress whose words fit goes with the places that its number goes with.
  pub places_are : T (progress_fits t (k_of t) (n_of t) (m_of t) p) → (y : Place)
      → fits y progress_read ≡ place_fits (place_number y) (word_of_process t p process_progress)
  unfolding view_process
  places_are h y =
      let f = word_of_process t p in
      let good = tests_mean (f process_progress) (f process_channel) (f process_partner) (f process_guards) (f process_index) (f process_first_ready) h in
      (shape (f process_progress) (f process_channel) (f process_partner) (f process_guards) (f process_index) (f process_first_ready) (bound (f process_progress) (f process_channel) (f process_partner) (f process_guards) (f process_index) (f process_first_ready) good)).places y
