-- A sound table fits: its parts are those of a valid state, and its words those of the state's packing.
use Prim.Native.Nat.{ℕ, zero, suc, ◌+◌, ◌-◌, ◌≤◌, ◌<◌}
use mathlib.Core.Path.{◌≡◌, refl, sym, ap, ◌∙◌, subst}
use mathlib.Core.Bool.{Bool, true, false, ◌&&◌}
use mathlib.Core.List.{List, [], ◌∷◌, ◌++◌}
use native.Mathlib.Omega.{arith}
use native.Mathlib.Nat.{zero-add}
use lib.Dec.{T, leb, eqb, lit<, eqb→eq}
use lib.ListN.{length, get_or, replicate, get_or-replicate}
use borrow.Author.Tests.{leb-true, leb-false}
use Rattle.rules.specs.Lists.{all, total, tabulate, from, times, first, last, bit}
use Rattle.rules.specs.State.{Place, running, queued, asleep, ended, Work, runs, free, Core, Process, Channel, queues_of, State, Wiring, wiring}
use Rattle.rules.specs.Items.{core_of, process_of, no_core, no_channel}
use Rattle.rules.specs.SetUp.{sizes}
use Rattle.rules.specs.Layout.{header_size, core_stride, process_stride, core_at, process_at, header_spare, core_first, core_last, core_size, core_mark, core_first_head, core_last_head, core_spare, process_place, process_progress, process_next, process_last, process_size, process_next_head, process_spare, progress_size, links_size}
use Rattle.rules.specs.Packing.{heads, place_number, work_words, progress_words, next_link, head_link, batch_link, header_words, process_words, spare, pack, k_of, n_of, m_of, word_of_core, word_of_process, view_core, view_process, view_channel, view}
use Rattle.rules.specs.Soundness.{
  runs_it,
  valid_progress,
  fits,
  on_cores,
  in_queues,
  stands,
  valid_process,
  valid_work,
  valid_core,
  valid_channel,
  valid,
}
use Rattle.rules.proofs.Packing.Blocks.{length_work_words, length_progress_words, second_part, pack_holds}
use Rattle.rules.proofs.Tabulate.{tabulate_back}
use Rattle.rules.proofs.Tests.{both, four, within_means, all_at}
use Rattle.rules.proofs.Packing.Reflect.{Valid, valid_means}
use Rattle.rules.proofs.Sums.{positive_term}
use Rattle.rules.proofs.Packing.Chains.{queue_of, queue_among, next_follows, heads_among, batch_follows, heads_in_core, queued_once, queued_range}
use Rattle.rules.proofs.Packing.Reading.{state_word, progress_word, link_word, state_words, link_words, queue_words, work_word, queue_word}
use Rattle.fitting.proofs.Exact.{Apart}
use Rattle.fitting.proofs.Walks.{Linked, next_of, batch_of, batch_behind, Batch}
use Rattle.fitting.proofs.CoreWalks.{standing, load, CoreFits, chain_first, heads_of, heads_are}
use Rattle.fitting.proofs.Views.{cores_of_view, processes_of_view, channels_of_view, core_of_view, process_of_view, channel_of_view}
use Rattle.fitting.proofs.FitsCore.{FlatCore, means_core_fits}
use Rattle.fitting.proofs.FitsProcess.{FlatProcess, NoLinks, meeting_exact}
use Rattle.fitting.proofs.Fitting.{HeaderFits, processes_limits, Fitting}
use Rattle.fitting.proofs.Links.{
  linked_back,
  last_from_zero,
  head_found,
  heads_in,
  heads_le,
  standing_is,
  load_is,
  no_next,
  no_head_link,
  no_batch_link,
  head_keeps,
}
use Rattle.fitting.proofs.FitsValid.{batch_from, heads_below}
use Rattle.fitting.proofs.Tests.{bit_positive}
use Rattle.fitting.specs.Twin.{word, meeting_fits}

-- words that are those of a list of this length
words_block : (f : ℕ → ℕ) (a n : ℕ) (l : List ℕ) → length l ≡ n → ((i : ℕ) → i < n → f (a + i) ≡ get_or l i 0) → l ≡ tabulate f a n
words_block f a n l size e = sym (tabulate_back f a n 0 l (sym size) (λ i b. e i (omega arith)))

-- a test of two numbers says what they add up to
counted : (cores queues a b : ℕ) → a + b ≤ 1 → T (eqb cores a && eqb queues b) → cores + queues ≤ 1
counted cores queues a b l h = let r = both (eqb cores a) (eqb queues b) h in omega (arith, eqb→eq cores a r.0, eqb→eq queues b r.1)

-- a process that stands in its place does so once
stands_total : (cores queues : ℕ) (y : Place) → T (stands cores queues y) → cores + queues ≤ 1
stands_total cores queues running h = counted cores queues 1 0 (omega arith) h
stands_total cores queues queued h = counted cores queues 0 1 (omega arith) h
stands_total cores queues asleep h = counted cores queues 0 0 (omega arith) h
stands_total cores queues ended h = counted cores queues 0 0 (omega arith) h

-- the process that a valid core runs is one of the processes
runs_range : (w : Wiring) (q : ℕ) (x : Work) → T (valid_work w x) → 1 ≤ runs_it q x → (1 ≤ q) × (q ≤ w.N)
runs_range w q (runs p) h b = subst (λ (n : ℕ). (1 ≤ n) × (n ≤ w.N)) (eqb→eq p q (bit_positive (eqb p q) b)) (within_means 1 w.N p h)
runs_range w q (free x) h b = absurd (omega arith)

module _ (t : List ℕ) (good : T (valid (view t))) (packed : pack (view t) ≡ t) where
  -- the state that is read out, and its wiring
  abbrev s : State
  s = view t

  abbrev w : Wiring
  w = wiring (view t)

  -- the state is valid
  v : Valid s
  v = valid_means s good

  -- the four tests of a valid state
  parts : T (sizes w.K w.N (length s.channels)) × T (all (valid_core w) s.cores) × T (all (valid_process s) (from 1 w.N))
      × T (all (valid_channel w) s.channels)
  unfolding valid
  parts =
      four (sizes w.K w.N (length s.channels)) (all (valid_core w) s.cores) (all (valid_process s) (from 1 w.N))
      (all (valid_channel w) s.channels) good

  -- the header
  header_fits : HeaderFits t
  unfolding header_words
  header_fits =
      record {
        sizes = rw (cores_of_view, processes_of_view, channels_of_view) at parts.0;
        length = rw (cores_of_view, processes_of_view, channels_of_view) at (ap length (sym packed) ∙ (pack_holds s).size);
        unused = λ i b.
            subst (λ (u : List ℕ). word u (header_spare + i) ≡ get_or (header_words s) (header_spare + i) 0) packed
            ((pack_holds s).header (header_spare + i) (omega arith))
            ∙ second_part (w.K ∷ w.N ∷ length s.channels ∷ []) (spare header_size header_spare) header_spare i refl
            ∙ get_or-replicate (header_size - header_spare) i 0 0 b;
      }

  -- there is a process
  some : 1 ≤ n_of t
  some = (processes_limits t header_fits).0

  -- the link words of a process
  links : (p : ℕ) → 1 ≤ p → p ≤ length s.processes → (f : ℕ) → f < links_size → word_of_process t p (process_next + f) ≡ get_or (link_words s p) f 0
  links p l b f c = subst (λ (u : List ℕ). word_of_process u p (process_next + f) ≡ get_or (link_words s p) f 0) packed (link_word s p l b f c)

  module _ (k : ℕ) (b : k < k_of t) where
    -- the core is one of the state
    inside : k < length s.cores
    inside = subst (λ (n : ℕ). k < n) (sym (cores_of_view t)) b

    -- namely this
    core : core_of s k ≡ view_core t k
    core = core_of_view t k b

    -- the words of its work
    work_words_are : (f : ℕ) → f < core_first → word_of_core t k f ≡ get_or (work_words (view_core t k).work) f 0
    work_words_are f d =
        subst (λ (u : List ℕ). word_of_core u k f ≡ get_or (work_words (view_core t k).work) f 0) packed
        (work_word s k inside f d ∙ ap (λ (x : Core). get_or (work_words x.work) f 0) core)

    -- the words behind its work
    queue_words_are : (f : ℕ) → f < core_stride - core_first → word_of_core t k (core_first + f) ≡ get_or (queue_words (view_core t k)) f 0
    queue_words_are f d =
        subst (λ (u : List ℕ). word_of_core u k (core_first + f) ≡ get_or (queue_words (view_core t k)) f 0) packed
        (queue_word s k inside f d ∙ ap (λ (x : Core). get_or (queue_words x) f 0) core)

    -- its words that belong to no queue
    flat : FlatCore w t k
    unfolding view_core
    flat =
        record {
          work = (
            subst (λ (x : Core). T (valid_work w x.work)) core (v.cores k inside).work,
            words_block (word_of_core t k) 0 core_first (work_words (view_core t k).work) (length_work_words (view_core t k).work)
                (λ i d. ap (word_of_core t k) (zero-add i) ∙ work_words_are i d),
          );
          dispatch = subst (λ (x : Core). x.dispatch ≤ 32) core (v.cores k inside).dispatch;
          mark = sym (queue_words_are (core_mark - core_first) (lit< tt));
          unused = λ f d.
              let x = view_core t k in
              let l = first x.active ∷ last x.active ∷ length x.active ∷ x.dispatch ∷ bit x.mark ∷ first (heads x.run_queue)
              ∷ last (heads x.run_queue) ∷ [] in
              let behind = core_spare - core_first in
              let place : core_at k core_spare + f ≡ core_at k (core_first + (behind + f)) = omega arith in
              ap (word t) place ∙ queue_words_are (behind + f) (omega arith) ∙ second_part l (spare core_stride core_spare) behind f refl
              ∙ get_or-replicate (core_stride - core_spare) f 0 0 d;
        }

    -- its queues are linked
    queue_linked : (i : ℕ) → i < length (queues_of (core_of s k)) → Linked (next_of t) (first (queue_of s k i)) (queue_of s k i)
    queue_linked i d =
        let a = queue_among s v k inside i d in
        linked_back (length s.processes) (next_of t) (queue_of s k i) a
        (λ p m. let r = a.range p m in links p r.0 r.1 0 (lit< tt) ∙ next_follows s v k inside i d p m)

    -- a queue that is read out from p on is linked from p on
    read_linked : (p : ℕ) (l : List ℕ) → l ≡ batch_of t p → Linked (next_of t) (first l) l
        → Linked (next_of t) p (batch_of t p)
    read_linked p l e h =
        subst (λ (n : ℕ). Linked (next_of t) n (batch_of t p))
        (chain_first (next_of t) (n_of t) p some)
        (subst (λ (m : List ℕ). Linked (next_of t) (first m) m) e h)

    -- the heads of its batches
    heads_eq : heads (core_of s k).run_queue ≡ heads_of t k
    heads_eq = ap (λ (x : Core). heads x.run_queue) core ∙ heads_are t some k

    -- they are linked, too
    heads_linked : Linked (batch_behind t) (word_of_core t k core_first_head) (heads_of t k)
    heads_linked =
        let a = heads_among s v k inside in
        let l = heads (core_of s k).run_queue in
        let from_first : Linked (batch_behind t) (first l) l =
        linked_back (length s.processes) (batch_behind t) l a
        (λ p m. let r = a.range p m in links p r.0 r.1 (process_next_head - process_next) (lit< tt) ∙ batch_follows s v k inside p m) in
        let at_first : first (heads_of t k) ≡ word_of_core t k core_first_head = chain_first (batch_behind t) (n_of t) (word_of_core t k core_first_head) some in
        subst (λ (n : ℕ). Linked (batch_behind t) n (heads_of t k)) at_first
        (subst (λ (m : List ℕ). Linked (batch_behind t) (first m) m) heads_eq from_first)

    -- a head's batch
    batch_here : (p : ℕ) → 1 ≤ times p (heads_of t k) → Batch t p
    batch_here p m =
        let batches = (core_of s k).run_queue in
        let batch = batch_of t p in
        let m' : 1 ≤ times p (heads batches) = omega (arith, ap (times p) heads_eq) in
        let r = (heads_among s v k inside).range p m' in
        let q = head_found batches p m' in
        let i = q.0 in
        let e : get_or batches i [] ≡ batch = batch_from t some k b i q.1 p q.2 in
        let one : heads_in s p ≤ 1 = omega (arith, heads_le s p (λ j d. heads_in_core s v j d p), queued_once s v p) in
        let keeps : (f : List ℕ → ℕ) → head_link f s p ≡ f batch = λ f. head_keeps s p f one k inside i q.1 q.2 ∙ ap f e in
        record {
          low = r.0;
          high = subst (λ (n : ℕ). p ≤ n) (processes_of_view t) r.1;
          queue = record {
            linked = read_linked p (get_or batches i []) e (queue_linked (suc i) (omega arith));
            last_is = links p r.0 r.1 (process_last - process_next) (lit< tt) ∙ keeps last ∙ sym (last_from_zero batch);
            size_is = ap (word t) (omega arith) ∙ links p r.0 r.1 (process_size - process_next) (lit< tt) ∙ keeps length ∙ sym (zero-add (length batch));
          };
        }

    -- it fits
    core_here : CoreFits t k
    unfolding view_core
    core_here =
        record {
          flat = rw processes_of_view at (means_core_fits w t k flat);
          active = record {
            linked = read_linked (word_of_core t k core_first) (core_of s k).active (ap (λ (x : Core). x.active) core) (queue_linked 0 (omega arith));
            last_is = queue_words_are (core_last - core_first) (lit< tt) ∙ sym (last_from_zero (view_core t k).active);
            size_is = ap (word t) (omega arith) ∙ queue_words_are (core_size - core_first) (lit< tt) ∙ sym (zero-add (length (view_core t k).active));
          };
          batches = record {
            linked = heads_linked;
            last_is = queue_words_are (core_last_head - core_first) (lit< tt) ∙ ap last (heads_are t some k) ∙ sym (last_from_zero (heads_of t k));
            each = batch_here;
          };
        }

  -- who stands somewhere is a process
  standing_range : (q : ℕ) → 1 ≤ on_cores s q + in_queues s q → (1 ≤ q) × (q ≤ length s.processes)
  unfolding on_cores
  standing_range q m = cases (leb 1 (in_queues s q)) refl
    where
      cases : (y : Bool) → leb 1 (in_queues s q) ≡ y → (1 ≤ q) × (q ≤ length s.processes)
      cases true e = queued_range s v q (leb-true 1 (in_queues s q) e)
      cases false e =
          let r = positive_term (λ (x : Core). runs_it q x.work) s.cores no_core (omega (arith, leb-false 1 (in_queues s q) e)) in
          runs_range w q (core_of s r.0).work (v.cores r.0 r.1).work r.2

  -- no process stands in two places
  places_apart : Apart (n_of t) (λ q. 0) (λ q. total (standing q) s.cores)
  places_apart q m =
      let r = standing_range q (omega (arith, standing_is s q)) in (
        r.0,
        subst (λ (n : ℕ). q ≤ n) (processes_of_view t) r.1,
        refl,
        omega (
          arith,
          standing_is s q,
          stands_total (on_cores s q) (in_queues s q) (process_of s q).place (v.processes q r.0 r.1).standing,
        ),
      )

  module _ (p : ℕ) (l : 1 ≤ p) (b : p ≤ n_of t) where
    -- the process is one of the state
    exists : p ≤ length s.processes
    exists = subst (λ (n : ℕ). p ≤ n) (sym (processes_of_view t)) b

    -- namely this
    process : process_of s p ≡ view_process t p
    process = process_of_view t p l b

    -- words of its own that are packed from the a-th word on
    read_is : (f : Process → List ℕ) (a n : ℕ) → length (f (process_of s p)) ≡ n
        → ((i : ℕ) → i < n → word_of_process (pack s) p (a + i) ≡ get_or (f (process_of s p)) i 0)
        → f (view_process t p) ≡ tabulate (word_of_process t p) a n
    read_is f a n size e =
        ap f (sym process) ∙ words_block (word_of_process (pack s) p) a n (f (process_of s p)) size e
        ∙ ap (λ (u : List ℕ). tabulate (word_of_process u p) a n) packed

    -- its unused words are 0
    spare_here : (f : ℕ) → f < process_stride - process_spare → word t (process_at (k_of t) p process_spare + f) ≡ 0
    unfolding process_words
    spare_here f c =
        let unused = spare process_stride process_spare in
        let x = process_of s p in
        let behind : ℕ = process_progress + (progress_size + (links_size + f)) in
        let place : process_at (k_of t) p process_spare + f ≡ process_at (k_of t) p behind = omega arith in
        let packed_here = subst (λ (u : List ℕ). get_or u (process_at w.K p behind) 0 ≡ get_or (process_words s p) behind 0) packed
        ((pack_holds s).process p behind l exists (omega arith)) in
        ap (word t) place ∙ (rw cores_of_view at packed_here)
        ∙ second_part (state_words x) (progress_words x.progress ++ (link_words s p ++ unused)) process_progress (progress_size + (links_size + f)) refl
        ∙ second_part (progress_words x.progress) (link_words s p ++ unused) progress_size (links_size + f) (length_progress_words x.progress)
        ∙ second_part (link_words s p) unused links_size f refl ∙ get_or-replicate (process_stride - process_spare) f 0 0 c

    -- its own words are those of a valid process
    process_here : FlatProcess t p
    process_here =
        let valid_here = v.processes p l exists in
        let x = (process_of s p).progress in
        record {
          count = subst (λ (x : Process). x.alternation.count ≤ 9) process valid_here.count;
          progress = subst (λ (x : Process). T (valid_progress w p x.progress)) process valid_here.in_hand;
          places = subst (λ (x : Process). T (fits x.place x.progress)) process valid_here.fitting;
          state = read_is state_words 0 process_progress refl (λ i c. ap (word_of_process (pack s) p) (zero-add i) ∙ state_word s p l exists i c);
          words = read_is (λ x. progress_words x.progress) process_progress progress_size (length_progress_words x) (progress_word s p l exists);
          unused = spare_here;
        }

    -- it has no links that it should not have
    no_links : NoLinks t (k_of t) p (in_queues s p) (heads_in s p)
    no_links = record { next = λ e. links p l exists 0 (lit< tt) ∙ no_next s p e; batch = no_batch }
      where
        no_batch : heads_in s p ≡ 0 → (f : ℕ) → f < links_size - 1 → word t (process_at (k_of t) p process_last + f) ≡ 0
        no_batch e f c =
            let behind = head_link last s p ∷ head_link length s p ∷ batch_link s p ∷ [] in
            let none : behind ≡ replicate (links_size - 1) 0 = cc (no_head_link s p last e, no_head_link s p length e, no_batch_link s p e) in
            let place : process_at (k_of t) p process_last + f ≡ process_at (k_of t) p (process_next + (1 + f)) = omega arith in
            ap (word t) place ∙ links p l exists (1 + f) (omega arith) ∙ second_part (next_link s p ∷ []) behind 1 f refl
            ∙ ap (λ (m : List ℕ). get_or m f 0) none ∙ get_or-replicate (links_size - 1) f 0 0 c

    -- what was met of it fits
    meeting_here : T (meeting_fits t (k_of t) p (word_of_process t p process_place) (total (load p) s.cores))
    unfolding view_process
    meeting_here =
        let y = (view_process t p).place in
        let state = process_here.state in
        let place : word_of_process t p process_place ≡ place_number y = cc in
        let stands_here : T (stands (on_cores s p) (in_queues s p) y) =
        subst (λ (x : Process). T (stands (on_cores s p) (in_queues s p) x.place)) process (v.processes p l exists).standing in
        rw (place, load_is)
        ((meeting_exact t (k_of t) p (on_cores s p) (in_queues s p) (heads_in s p) y (stands_total (on_cores s p) (in_queues s p) y stands_here)
        (heads_below t some core_here p)).1 (stands_here, no_links))

  -- its channels are valid
  channel_here : (c : ℕ) → 1 ≤ c → c ≤ m_of t → T (valid_channel w (view_channel t c))
  channel_here zero l b = absurd (omega arith)
  channel_here (suc c) l b =
      subst (λ (x : Channel). T (valid_channel w x)) (channel_of_view t (suc c) l b)
      (all_at (valid_channel w) s.channels no_channel parts.3 c (subst (λ (n : ℕ). c < n) (sym (channels_of_view t)) b))

  -- A sound table fits.
  pub sound_fits : Fitting t
  sound_fits =
      record {
        header = header_fits;
        cores = core_here;
        apart = places_apart;
        processes = process_here;
        meetings = meeting_here;
        channels = channel_here;
      }
